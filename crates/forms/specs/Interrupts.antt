-- The interrupt call, taken, leaves what its plan says, where nothing faults: one frame, two, and the two orders of the bus.
use Rattle.std.specs.Prelude.{ℕ, ◌+◌, ◌%◌, ◌^◌, ◌≡◌, Bool, true, false, [], ◌∷◌}
use Rattle.std.proofs.Math.Path.{refl}
use Rattle.std.proofs.Common.{sym, ap, ◌∙◌}
use Rattle.types.specs.Kinds.{pick, is_ec020_plus, is060}
use Rattle.cpu.specs.declared.Cpu.{Cpu}
use Rattle.cpu.specs.Fields.{kind_of, a7_of, set_a7, lower_a7, clear_stopped}
use Rattle.cpu.specs.Clocks.{internal_cycles}
use Rattle.status.specs.Status.{clear_trace, clear_m, m_is_set, set_int_mask}
use Rattle.status.specs.Banks.{sp_index, backup_sp, restore_sp, put_s, set_sflag, set_sm_flag_nosp, set_sm_flag, enter_supervisor}
use Rattle.pending.specs.Interrupts.{clear_level, charge_interrupt, charged}
use Rattle.memory.specs.Log.{counted}
use Rattle.memory.specs.World.{World, Attempt, noted, stored, put_cpu, flush, response_of, acknowledged, cpu_of, with_cpu, step}
use Rattle.frames.specs.declared.Frame.{Frame}
use Rattle.frames.specs.Frames.{field_at}
use Rattle.access.specs.Access.{raised, write_at, push_frame}
use Rattle.formats.specs.Formats.{format_word, offset_word, short_frame}
use Rattle.steps.specs.Steps.{iack_vector, enter_level, with_s}
use Rattle.interrupts.specs.Interrupts.{vector_from, acknowledge_level, synced_acknowledge, rest68000, from68000, rest_other, throwaway, second_frame, push_interrupt68000, push_interrupt_other}
use Rattle.images.specs.Pushes.{calm}
use Rattle.images.specs.Images.{Ready, new_a7, frame_bytes}
use Rattle.forms.specs.Gist.{gist, gist_cpu, flush_gist, at7, framed_by, lower_form, stacked_form}
use Rattle.forms.specs.Jumps.{cycles_gist}
use Rattle.forms.specs.Orders.{words6, words8, q6, first6, three_form, lowered_a7}
use Rattle.forms.specs.Plans.{turned, stack_all, AllReady, same, throwaways, settles}
use Rattle.forms.specs.Entries.{Seen, turn_form, seen_same}

-- ---- the acknowledge

acknowledged_gist : (w : World) (level : ℕ) → gist (acknowledge_level w level).after ≡ gist w
unfolding acknowledge_level vector_from acknowledged noted gist calm counted
acknowledged_gist w level = refl

response_gist : (w : World) (level : ℕ) → (acknowledge_level w level).value ≡ iack_vector (response_of (gist w).core.bus level) level
unfolding acknowledge_level vector_from acknowledged response_of gist calm
response_gist w level = refl

-- the acknowledge leaves the gist, and gives the vector of its response
pub record Answered (a : Attempt) (x : World) (level : ℕ) : Type 0 where
  pub after : gist a.after ≡ x
  pub value : a.value ≡ iack_vector (response_of x.core.bus level) level

acknowledge_form : (w x : World) (level : ℕ) → gist w ≡ x → Answered (acknowledge_level w level) x level
acknowledge_form w x level e =
    record { after = acknowledged_gist w level ∙ e; value = response_gist w level ∙ ap (λ (y : World). iack_vector (response_of y.core.bus level) level) e }

pub synced_form : (w x : World) (clocks level : ℕ) → gist w ≡ x → Answered (synced_acknowledge w clocks level) x level
unfolding synced_acknowledge
synced_form w x clocks level e = acknowledge_form (flush (with_cpu w (internal_cycles (cpu_of w) clocks))) x level (flush_gist (with_cpu w (internal_cycles (cpu_of w) clocks)) ∙ cycles_gist w clocks ∙ e)

-- ---- the first frame

pub record Framed (a : Attempt) (y : World) (f : Frame) (v : ℕ) : Type 0 where
  pub after : gist a.after ≡ framed_by y f
  pub value : a.value ≡ v

abbrev pub vector_at : World → ℕ → ℕ
vector_at y level = iack_vector (response_of y.core.bus level) level

-- A7 lowered once, on kind 1 and on kind 2
lowered_six : (u y : World) (sr pc : ℕ) (h : Ready y (words6 sr pc)) → gist u ≡ y → a7_of (cpu_of (with_cpu u (lower_a7 (cpu_of u) 6))) ≡ q6 raised y sr pc h
unfolding words6 frame_bytes field_at
lowered_six u y sr pc h d = lowered_a7 u y 6 d h.sound.regs16

lower_six : (u y : World) (sr pc : ℕ) (h : Ready y (words6 sr pc)) → gist u ≡ y → gist (with_cpu u (lower_a7 (cpu_of u) 6)) ≡ at7 y (q6 raised y sr pc h)
unfolding words6 frame_bytes field_at
lower_six u y sr pc h d = lower_form u y 6 d

pub first_68000 : (w y : World) (pc sr level : ℕ) → gist w ≡ y → Ready y (words6 sr pc) → Framed (push_interrupt68000 w pc sr level) y (words6 sr pc) (vector_at y level)
unfolding push_interrupt68000 from68000 rest68000 put_cpu stored
first_68000 w y pc sr level e h =
    let u : World = with_cpu w (internal_cycles (cpu_of w) 6) in
    let d : gist u ≡ y = cycles_gist w 6 ∙ e in
    let z : World = with_cpu u (lower_a7 (cpu_of u) 6) in
    let sp : ℕ = a7_of (cpu_of z) in
    let k : sp ≡ q6 raised y sr pc h = lowered_six u y sr pc h d in
    let l : gist z ≡ at7 y (q6 raised y sr pc h) = lower_six u y sr pc h d in
    let g : World = write_at raised z ((sp + 4) % 2 ^ 32) false (pc % 0x10000) in
    let m : gist g ≡ _ = ap (λ (q : ℕ). gist (write_at raised z ((q + 4) % 2 ^ 32) false (pc % 0x10000))) k ∙ first6 raised y sr pc h z l in
    let a = synced_form g _ 4 level m in
    let b : Attempt = synced_acknowledge g 4 level in
    record {
      after = three_form raised y sr pc h z (with_cpu b.after (internal_cycles (cpu_of b.after) 4)) sp k l (cycles_gist b.after 4 ∙ a.after ∙ sym m);
      value = a.value;
    }

pub lowered_eight : (u y : World) (sr pc fw : ℕ) (h : Ready y (words8 sr pc fw)) → gist u ≡ y → a7_of (cpu_of (with_cpu u (lower_a7 (cpu_of u) 8))) ≡ new_a7 y (words8 sr pc fw)
unfolding words8 frame_bytes field_at
lowered_eight u y sr pc fw h d = lowered_a7 u y 8 d h.sound.regs16

pub lower_eight : (u y : World) (sr pc fw : ℕ) → gist u ≡ y → gist (with_cpu u (lower_a7 (cpu_of u) 8)) ≡ at7 y (new_a7 y (words8 sr pc fw))
unfolding words8 frame_bytes field_at
lower_eight u y sr pc fw d = lower_form u y 8 d

pub first_other : (w y : World) (pc sr level : ℕ) → gist w ≡ y → Ready y (short_frame sr pc (offset_word (vector_at y level)))
    → Framed (push_interrupt_other w pc sr level) y (short_frame sr pc (offset_word (vector_at y level))) (vector_at y level)
unfolding push_interrupt_other rest_other
first_other w y pc sr level e h =
    let a = acknowledge_form w y level e in
    let b : Attempt = acknowledge_level w level in
    record {
      after =
          ap (λ (v : ℕ). gist (push_frame raised b.after (short_frame sr pc (offset_word v)))) a.value
          ∙ stacked_form raised b.after y (short_frame sr pc (offset_word (vector_at y level))) a.after h.sound h.allowed;
      value = a.value;
    }

-- ---- the second frame, or M cleared

pub seen_throw : Seen (λ d. set_sm_flag d 4)
unfolding gist_cpu set_sm_flag restore_sp set_sm_flag_nosp backup_sp sp_index
seen_throw c = refl

seen_clear : Seen clear_m
unfolding gist_cpu clear_m
seen_clear c = refl

pub seen_level : (level : ℕ) → Seen (λ d. enter_level d level)
unfolding gist_cpu enter_level set_int_mask enter_supervisor clear_trace set_sflag restore_sp put_s backup_sp sp_index
seen_level level c = refl

pub seen_close : Seen (λ d. clear_level (charge_interrupt (clear_stopped d)))
unfolding gist_cpu clear_level charge_interrupt charged clear_stopped
seen_close c = refl

stays : (y : World) → gist y ≡ gist (with_cpu y (cpu_of y))
unfolding put_cpu
stays y = refl

pub still_form : (w x : World) → gist w ≡ x → gist w ≡ turned x same
still_form w x e = stays w ∙ turn_form w x same seen_same e

throw_form : (w y : World) (pc sr v : ℕ) → gist w ≡ y → AllReady y (record { turn = λ d. set_sm_flag d 4; frame = short_frame (with_s sr) pc (format_word 1 v) } ∷ [])
    → gist (push_frame raised (with_cpu w (set_sm_flag (cpu_of w) 4)) (short_frame (with_s sr) pc (format_word 1 v))) ≡ turned (stack_all y (record { turn = λ d. set_sm_flag d 4; frame = short_frame (with_s sr) pc (format_word 1 v) } ∷ [])) same
unfolding AllReady stack_all
throw_form w y pc sr v e r =
    let turn : Cpu → Cpu = λ d. set_sm_flag d 4 in
    let f : Frame = short_frame (with_s sr) pc (format_word 1 v) in
    still_form (push_frame raised (step turn w) f) (framed_by (turned y turn) f)
    (stacked_form raised (step turn w) (turned y turn) f (turn_form w y turn seen_throw e) r.0.sound r.0.allowed)

pub second_form : (w y : World) (pc sr v : ℕ) (m master six : Bool) → gist w ≡ y → m_is_set (cpu_of w) ≡ m → is_ec020_plus (kind_of (cpu_of w)) ≡ master → is060 (kind_of (cpu_of w)) ≡ six
    → AllReady y (throwaways m master sr pc v) → gist (second_frame w pc sr v) ≡ turned (stack_all y (throwaways m master sr pc v)) (settles m master six)
unfolding second_frame throwaway throwaways settles stack_all
second_form w y pc sr v m master six e a b c h = rw (a, b, c) (go m master six h)
  where
    go : (m master six : Bool) → AllReady y (pick m (pick master (record { turn = λ d. set_sm_flag d 4; frame = short_frame (with_s sr) pc (format_word 1 v) } ∷ []) []) [])
        → gist (pick m (pick master (push_frame raised (with_cpu w (set_sm_flag (cpu_of w) 4)) (short_frame (with_s sr) pc (format_word 1 v))) (pick six (step clear_m w) w)) w)
        ≡ turned (stack_all y (pick m (pick master (record { turn = λ d. set_sm_flag d 4; frame = short_frame (with_s sr) pc (format_word 1 v) } ∷ []) []) [])) (pick m (pick master same (pick six clear_m same)) same)
    go true true six r = throw_form w y pc sr v e r
    go true false true r = turn_form w y clear_m seen_clear e
    go true false false r = still_form w y e
    go false master six r = still_form w y e

-- ---- the whole call

-- what the tests between the frames see is what the record had
module _ (x : World) (level : ℕ) (f : Frame) where
  abbrev begun : World
  begun = turned x (λ d. enter_level d level)

  pub begun_m : m_is_set (cpu_of (framed_by begun f)) ≡ m_is_set (cpu_of x)
  unfolding framed_by set_a7 put_cpu stored turned gist gist_cpu enter_level set_int_mask enter_supervisor clear_trace set_sflag restore_sp put_s backup_sp m_is_set
  begun_m = refl

  pub begun_kind : kind_of (cpu_of (framed_by begun f)) ≡ kind_of (cpu_of x)
  unfolding framed_by set_a7 put_cpu stored turned gist gist_cpu enter_level set_int_mask enter_supervisor clear_trace set_sflag restore_sp put_s backup_sp kind_of
  begun_kind = refl

  pub begun_vector : vector_at begun level ≡ vector_at x level
  unfolding put_cpu turned gist calm response_of
  begun_vector = refl

module _ (w : World) where
  pub gist_m : m_is_set (cpu_of w) ≡ m_is_set (cpu_of (gist w))
  unfolding gist gist_cpu m_is_set
  gist_m = refl

  pub gist_kind : kind_of (cpu_of w) ≡ kind_of (cpu_of (gist w))
  unfolding gist gist_cpu kind_of
  gist_kind = refl

  pub gist_vector : (level : ℕ) → vector_at w level ≡ vector_at (gist w) level
  unfolding gist calm response_of
  gist_vector level = refl

  pub entered_kind : (level : ℕ) → kind_of (cpu_of (with_cpu w (enter_level (cpu_of w) level))) ≡ kind_of (cpu_of w)
  unfolding put_cpu enter_level set_int_mask enter_supervisor clear_trace set_sflag restore_sp put_s backup_sp kind_of
  entered_kind level = refl
