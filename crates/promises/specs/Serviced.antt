-- What a taken interrupt keeps, whatever is kept, of two runs that differ only in what raises a fault: what `bounds/specs/Skeleton` is for
-- the definitions of `access`.
use Rattle.std.specs.Prelude.{ℕ, ◌+◌, ◌/◌, ◌%◌, ◌^◌, ◌≡◌, refl, Bool, true, eqb}
use Rattle.std.proofs.Common.{◌∙◌}
use Rattle.std.proofs.Math.Path.{ap}
use Rattle.std.proofs.Math.Bool.{false}
use Rattle.types.specs.Kinds.{is_ec020_plus, is060}
use Rattle.cpu.specs.Fields.{kind_of, pc_of, a7_of, lower_a7}
use Rattle.cpu.specs.Clocks.{internal_cycles}
use Rattle.status.specs.Status.{get_sr, clear_m, m_is_set}
use Rattle.status.specs.Banks.{set_sm_flag}
use Rattle.memory.specs.World.{World, Attempt, reply, put_cpu, flush, cpu_of, with_cpu, step}
use Rattle.frames.specs.declared.Frame.{Frame}
use Rattle.steps.specs.Steps.{enter_level, with_s}
use Rattle.access.specs.Access.{Raise, write_at, push_frame, jump_vector}
use Rattle.formats.specs.Formats.{format_word, offset_word, short_frame}
use Rattle.interrupts.specs.Interrupts.{acknowledge_level, synced_acknowledge, ended}
use Rattle.bounds.specs.Skeleton.{Steps, Raises, pick_if, guard_write_good, stacked_good, jump_good}
use Rattle.bounds.specs.Levels.{Any}
use Rattle.promises.specs.Over.{rest68000_by, from68000_by, push_interrupt68000_by, writes68010_by, rest68010_by, push_interrupt68010_by, rest_other_by, push_interrupt_other_by, first_frame_by, throwaway_by, second_frame_by, dispatched_by, service_interrupt_by}

-- P is kept up to the jump, and Q holds once the interrupt is closed
pub record Serves (P Q : World → Type 0) : Type 0 where
  pub clocked : (w : World) (v : ℕ) → P w → P (with_cpu w (internal_cycles (cpu_of w) v))
  pub acknowledges : (w : World) (level : ℕ) → P w → P (acknowledge_level w level).after
  pub levels : (w : World) (level : ℕ) → P w → P (step (λ c. enter_level c level) w)
  pub switches : (w : World) → P w → P (step (λ c. set_sm_flag c 4) w)
  pub clears : (w : World) → P w → P (step clear_m w)
  pub ends : (w : World) → P w → Q (ended w)

module _ (P Q : World → Type 0) (q : Bool) (t u : Raise) (S : Steps (λ n w. P w) q) (T : Raises (λ n w. P w) Any q t u) (X : Serves P Q) where
  abbrev G : World → World → Type 0
  G x y = (x ≡ y) × P x

  abbrev GA : Attempt → Attempt → Type 0
  GA x y = (x ≡ y) × P x.after

  -- one after the other
  next : {x y : World} (f g : World → World) → G x y → ((z : World) → P z → G (f z) (g z)) → G (f x) (g y)
  next {x} f g p h = let r = h x p.1 in (r.0 ∙ ap g p.0, r.1)

  writes : (w : World) (a : ℕ) (g : Bool) (v : ℕ) → P w → G (write_at t w a g v) (write_at u w a g v)
  writes w a g v p = guard_write_good (λ n w. P w) Any q t u S T 0 w a g v p tt

  stacks : (w : World) (f : Frame) → P w → G (push_frame t w f) (push_frame u w f)
  stacks w f p = stacked_good (λ n w. P w) Any q t u S T 0 w f (λ h m x p. tt) p

  jumps : (w : World) (v : ℕ) → P w → G (jump_vector t w v) (jump_vector u w v)
  jumps w v p = jump_good (λ n w. P w) Any q t u S T 0 w v p

  synced_kept : (w : World) (v level : ℕ) → P w → P (synced_acknowledge w v level).after
  unfolding synced_acknowledge
  synced_kept w v level p =
      X.acknowledges (flush (with_cpu w (internal_cycles (cpu_of w) v))) level (S.flushes 0 (with_cpu w (internal_cycles (cpu_of w) v)) (X.clocked w v p))

  -- a reply whose world is one
  replied : {x y : World} (v : ℕ) → G x y → GA (reply x true v) (reply y true v)
  replied v g = (ap (λ x. reply x true v) g.0, g.1)

  rest68000_same : (sp pc sr : ℕ) (x : Attempt) → P x.after → GA (rest68000_by t sp pc sr x) (rest68000_by u sp pc sr x)
  unfolding rest68000_by
  rest68000_same sp pc sr x p =
      replied x.value
      (next (λ y. write_at t y ((sp + 2) % 2 ^ 32) false (pc / 0x10000)) (λ y. write_at u y ((sp + 2) % 2 ^ 32) false (pc / 0x10000))
      (writes (step (λ c. internal_cycles c 4) x.after) sp false sr (X.clocked x.after 4 p)) (λ z q. writes z ((sp + 2) % 2 ^ 32) false (pc / 0x10000) q))

  from68000_same : (w : World) (sp pc sr level : ℕ) → P w → GA (from68000_by t w sp pc sr level) (from68000_by u w sp pc sr level)
  unfolding from68000_by
  from68000_same w sp pc sr level p =
      let g = writes w ((sp + 4) % 2 ^ 32) false (pc % 0x10000) p in
      let r = rest68000_same sp pc sr (synced_acknowledge (write_at t w ((sp + 4) % 2 ^ 32) false (pc % 0x10000)) 4 level) (synced_kept _ 4 level g.1) in
      (r.0 ∙ ap (λ x. rest68000_by u sp pc sr (synced_acknowledge x 4 level)) g.0, r.1)

  frame68000_same : (w : World) (pc sr level : ℕ) → P w → GA (push_interrupt68000_by t w pc sr level) (push_interrupt68000_by u w pc sr level)
  unfolding push_interrupt68000_by put_cpu
  frame68000_same w pc sr level p =
      let x : World = with_cpu w (internal_cycles (cpu_of w) 6) in
      from68000_same (with_cpu x (lower_a7 (cpu_of x) 6)) (a7_of (lower_a7 (cpu_of x) 6)) pc sr level (S.lowers 0 x 6 (X.clocked w 6 p))

  writes68010_same : (w : World) (sp pc sr format : ℕ) → P w → G (writes68010_by t w sp pc sr format) (writes68010_by u w sp pc sr format)
  unfolding writes68010_by
  writes68010_same w sp pc sr format p =
      next (λ y. write_at t y ((sp + 6) % 2 ^ 32) false format) (λ y. write_at u y ((sp + 6) % 2 ^ 32) false format)
      (next (λ y. write_at t y ((sp + 2) % 2 ^ 32) false (pc / 0x10000)) (λ y. write_at u y ((sp + 2) % 2 ^ 32) false (pc / 0x10000))
      (next (λ y. write_at t y sp false sr) (λ y. write_at u y sp false sr) (writes w ((sp + 4) % 2 ^ 32) false (pc % 0x10000) p) (λ z q. writes z sp false sr q))
      (λ z q. writes z ((sp + 2) % 2 ^ 32) false (pc / 0x10000) q))
      (λ z q. writes z ((sp + 6) % 2 ^ 32) false format q)

  frame68010_same : (w : World) (pc sr level : ℕ) → P w → GA (push_interrupt68010_by t w pc sr level) (push_interrupt68010_by u w pc sr level)
  unfolding push_interrupt68010_by rest68010_by
  frame68010_same w pc sr level p =
      let x : Attempt = synced_acknowledge w 12 level in
      replied x.value (writes68010_same (with_cpu x.after (lower_a7 (cpu_of x.after) 8)) (a7_of (lower_a7 (cpu_of x.after) 8)) pc sr (offset_word x.value) (S.lowers 0 x.after 8 (synced_kept w 12 level p)))

  frame_other_same : (w : World) (pc sr level : ℕ) → P w → GA (push_interrupt_other_by t w pc sr level) (push_interrupt_other_by u w pc sr level)
  unfolding push_interrupt_other_by rest_other_by
  frame_other_same w pc sr level p =
      let x : Attempt = acknowledge_level w level in
      replied x.value (stacks x.after (short_frame sr pc (offset_word x.value)) (X.acknowledges w level p))

  first_frame_same : (w : World) (pc sr level : ℕ) → P w → GA (first_frame_by t w pc sr level) (first_frame_by u w pc sr level)
  unfolding first_frame_by
  first_frame_same w pc sr level p =
      pick_if GA (eqb (kind_of (cpu_of w)) 1) (λ h. frame68000_same w pc sr level p)
      (λ h. pick_if GA (eqb (kind_of (cpu_of w)) 2) (λ h. frame68010_same w pc sr level p) (λ h. frame_other_same w pc sr level p))

  throwaway_same : (w : World) (pc sr v : ℕ) → P w → G (throwaway_by t w pc sr v) (throwaway_by u w pc sr v)
  unfolding throwaway_by
  throwaway_same w pc sr v p = stacks (step (λ c. set_sm_flag c 4) w) (short_frame (with_s sr) pc (format_word 1 v)) (X.switches w p)

  second_frame_same : (w : World) (pc sr v : ℕ) → P w → G (second_frame_by t w pc sr v) (second_frame_by u w pc sr v)
  unfolding second_frame_by
  second_frame_same w pc sr v p =
      pick_if G (m_is_set (cpu_of w))
      (λ h. pick_if G (is_ec020_plus (kind_of (cpu_of w))) (λ h. throwaway_same w pc sr v p)
      (λ h. pick_if G (is060 (kind_of (cpu_of w))) (λ h. (refl, X.clears w p)) (λ h. (refl, p))))
      (λ h. (refl, p))

  dispatched_same : (pc sr : ℕ) (x : Attempt) → P x.after → (dispatched_by t pc sr x ≡ dispatched_by u pc sr x) × Q (dispatched_by t pc sr x)
  unfolding dispatched_by
  dispatched_same pc sr x p =
      let g = next (λ y. jump_vector t y x.value) (λ y. jump_vector u y x.value) (second_frame_same x.after pc sr x.value p) (λ z q. jumps z x.value q) in
      (ap ended g.0, X.ends _ g.1)

  -- an interrupt that is taken
  pub service_interrupt_same : (w : World) (level : ℕ) → P w → (service_interrupt_by t w level ≡ service_interrupt_by u w level) × Q (service_interrupt_by t w level)
  unfolding service_interrupt_by
  service_interrupt_same w level p =
      let g = first_frame_same (step (λ c. enter_level c level) w) (pc_of (cpu_of w)) (get_sr (cpu_of w)) level (X.levels w level p) in
      let r = dispatched_same (pc_of (cpu_of w)) (get_sr (cpu_of w)) _ g.1 in
      (r.0 ∙ ap (dispatched_by u (pc_of (cpu_of w)) (get_sr (cpu_of w))) g.0, r.1)
