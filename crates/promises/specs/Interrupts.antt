-- THE INTERRUPT CALL: when it is taken, what it leaves, and how many events it makes.
use Prim.Native.Nat.{ℕ, suc, ◌+◌, ◌%◌, ◌^◌, ◌≤◌, ◌<◌}
use Rattle.std.specs.Prelude.{◌≡◌, ◌⊎◌, ◌↔◌, Bool, eqb}
use Rattle.std.proofs.Math.Path.{refl, subst}
use Rattle.std.proofs.Common.{inl, inr, ⊎_elim, arith, eqb-true, eq-eqb}
use Rattle.std.proofs.Math.Bool.{true, false}
use mathlib.Core.List.{List}
use Rattle.types.specs.Kinds.{pick, either, is_pre68020, is_prefetch_kind, is_ec020_plus, is040, is060}
use Rattle.cpu.specs.declared.Cpu.{Cpu}
use Rattle.cpu.specs.Fields.{kind_of, vbr_of, pc_of, a7_of, is_faulted, in_exception, lower_a7}
use Rattle.status.specs.Status.{get_sr, set_int_mask, clear_m, clear_trace, m_is_set}
use Rattle.status.specs.Banks.{enter_supervisor, set_sflag, restore_sp, put_s, backup_sp, set_sm_flag, set_sm_flag_nosp}
use Rattle.cpu.specs.Clocks.{has_clocks, set_clocks, internal_cycles}
use Rattle.pending.specs.Interrupts.{pending_level, mask_level, takes_interrupt, clear_level}
use Rattle.pending.proofs.Laws.{seven_taken, taken_exceeds, exceeding_taken}
use Rattle.memory.specs.World.{World, Attempt, tried, put_cpu, noted, flush, response_of, acknowledged, cpu_of, with_cpu, step}
use Rattle.access.specs.Access.{raised, write_at, jump_vector}
use Rattle.formats.specs.Formats.{format_word, offset_word}
use Rattle.steps.specs.Steps.{enter_level, with_s}
use Rattle.interrupts.specs.Interrupts.{vector_from, acknowledge_level, synced_acknowledge, rest68000, from68000, writes68010, rest68010, rest_other, first_frame, throwaway, second_frame, ended, dispatched, service_interrupt, serviced, check_and_service, push_interrupt68000, push_interrupt68010, push_interrupt_other}
use Rattle.bounds.specs.Skeleton.{Raises, more, pick_one, clocks_ways, guard_write_good}
use Rattle.bounds.specs.ErrorFrames.{bus_writes, address_writes}
use Rattle.bounds.specs.Levels.{Domain, Kept, Any, Either, clash, fetching}
use Rattle.bounds.specs.Ledger.{Books, Written, start, noted_books, clocks_books}
use Rattle.bounds.specs.Events.{Bill, bill_steps, more_bill, rate, guard_cost}
use Rattle.bounds.proofs.Events.{raises_any, none}
use Rattle.promises.specs.Entries.{clocks_start, on_written, jump_events_lem, short_bill, guard_most}

-- ---- events

-- the first frame: three writes and the acknowledge; on kind 1 clocks are added twice on the way, on kind 2 there is a fourth write
abbrev pub first_cost : ℕ → ℕ
first_cost k = pick (eqb k 1) 6 (pick (eqb k 2) 5 4)

-- the second frame
abbrev pub second_cost : ℕ → ℕ
second_cost k = pick (is_ec020_plus k) 3 0

module _ (k : ℕ) (c : ℕ) (l : List ℕ) where
  abbrev P : ℕ → World → Type 0
  P = Bill k Either c l

  -- clocks that begin to wait cost one event
  clocks_bill : (n : ℕ) (w : World) (v : ℕ) → P n w → P (suc n) (with_cpu w (internal_cycles (cpu_of w) v))
  unfolding set_clocks put_cpu kind_of vbr_of in_exception
  clocks_bill n w v p =
      let h : more (is_prefetch_kind k) n ≤ suc n = pick_one (λ x. x ≤ suc n) (is_prefetch_kind k) (omega arith) (omega arith) in
      more_bill k Either c l (with_cpu w (internal_cycles (cpu_of w) v)) h (clocks_ways (Kept k Either 0) w v (λ e. p.0) p.0, clocks_books c l (is_prefetch_kind k) n w v (fetching k Either 0 w p.0) p.1)

  -- the acknowledge is one event
  acknowledge_bill : (n : ℕ) (w : World) (level : ℕ) → P n w → P (suc n) (acknowledge_level w level).after
  unfolding acknowledge_level vector_from acknowledged noted kind_of vbr_of in_exception
  acknowledge_bill n w level p = (p.0, noted_books c l n w 6 level (response_of w.core.bus level) p.1)

  -- clocks, their flush and the acknowledge, where the clocks are paid for
  synced_bill : (n : ℕ) (w : World) (v level : ℕ) → P n (with_cpu w (internal_cycles (cpu_of w) v)) → P (suc n) (synced_acknowledge w v level).after
  unfolding synced_acknowledge
  synced_bill n w v level p = acknowledge_bill n (flush (with_cpu w (internal_cycles (cpu_of w) v))) level ((bill_steps k Either c l).flushes n (with_cpu w (internal_cycles (cpu_of w) v)) p)

  module _ (T : Raises P Any (is_prefetch_kind k) raised raised) where
    -- a guarded write
    write_bill : (n : ℕ) (w : World) (a : ℕ) (g : Bool) (v : ℕ) → P n w → P (suc n) (write_at raised w a g v)
    write_bill n w a g v p = (guard_write_good P Any (is_prefetch_kind k) raised raised (bill_steps k Either c l) T n w a g v p tt).1

    -- the status and PC high of kind 1, after 4 clocks
    rest68000_bill : (n : ℕ) (sp pc sr : ℕ) (x : Attempt) → P n x.after → P (suc (suc (suc n))) (rest68000 sp pc sr x).after
    unfolding rest68000
    rest68000_bill n sp pc sr x p = write_bill _ _ _ false _ (write_bill _ _ sp false sr (clocks_bill n x.after 4 p))

    -- kind 1 from PC low on
    from68000_bill : (n : ℕ) (w : World) (sp pc sr level : ℕ) → P n w → P (suc (suc (suc (suc (suc (suc n)))))) (from68000 w sp pc sr level).after
    unfolding from68000
    from68000_bill n w sp pc sr level p =
        let x : World = write_at raised w ((sp + 4) % 2 ^ 32) false (pc % 0x10000) in
        rest68000_bill _ sp pc sr (synced_acknowledge x 4 level) (synced_bill _ x 4 level (clocks_bill _ x 4 (write_bill n w ((sp + 4) % 2 ^ 32) false (pc % 0x10000) p)))

    -- the four writes of kind 2
    rest68010_bill : (n : ℕ) (pc sr : ℕ) (x : Attempt) → P n x.after → P (suc (suc (suc (suc n)))) (rest68010 pc sr x).after
    unfolding rest68010 writes68010
    rest68010_bill n pc sr x p = write_bill _ _ _ false _ (write_bill _ _ _ false _ (write_bill _ _ _ false sr (write_bill n _ _ false _ ((bill_steps k Either c l).lowers n x.after 8 p))))

    -- the frame of other kinds
    rest_other_bill : (n : ℕ) (pc sr : ℕ) (x : Attempt) → P n x.after → P (suc (suc (suc n))) (rest_other pc sr x).after
    unfolding rest_other
    rest_other_bill n pc sr x p = short_bill k Either c l T n x.after sr pc (offset_word x.value) p

    -- the first frame of each kind, from a world without events
    module _ (w : World) (s : w.core.bus.events ≡ 0) (e : w.log ≡ l) (q : Kept k Either 0 w) where
      begun : (v : ℕ) → P (suc c) (with_cpu w (internal_cycles (cpu_of w) v))
      begun v = subst (λ z. Bill k Either c z (suc c) (with_cpu w (internal_cycles (cpu_of w) v))) e (clocks_start k Either c w v s q)

      frame68000_bill : (pc sr level : ℕ) → P (suc c + 6) (push_interrupt68000 w pc sr level).after
      unfolding push_interrupt68000 put_cpu
      frame68000_bill pc sr level =
          let x : World = with_cpu w (internal_cycles (cpu_of w) 6) in
          more_bill k Either c l (push_interrupt68000 w pc sr level).after (omega arith) (from68000_bill (suc c) (with_cpu x (lower_a7 (cpu_of x) 6)) (a7_of (lower_a7 (cpu_of x) 6)) pc sr level ((bill_steps k Either c l).lowers (suc c) x 6 (begun 6)))

      frame68010_bill : (pc sr level : ℕ) → P (suc c + 5) (push_interrupt68010 w pc sr level).after
      unfolding push_interrupt68010
      frame68010_bill pc sr level = more_bill k Either c l (push_interrupt68010 w pc sr level).after (omega arith) (rest68010_bill _ pc sr (synced_acknowledge w 12 level) (synced_bill (suc c) w 12 level (begun 12)))

      frame_other_bill : (pc sr level : ℕ) → P (suc c + 4) (push_interrupt_other w pc sr level).after
      unfolding push_interrupt_other
      frame_other_bill pc sr level = more_bill k Either c l (push_interrupt_other w pc sr level).after (omega arith) (rest_other_bill _ pc sr (acknowledge_level w level) (acknowledge_bill (suc c) w level (q, subst (λ z. Books c z (suc c) w) e (start c w s))))

      first_frame_bill : (pc sr level : ℕ) → P (suc c + first_cost k) (first_frame w pc sr level).after
      unfolding first_frame
      first_frame_bill pc sr level = subst (λ j. P (suc c + first_cost j) (first_frame w pc sr level).after) q.same (go (eqb (kind_of (cpu_of w)) 1) (eqb (kind_of (cpu_of w)) 2))
        where
          go : (a b : Bool) → P (suc c + pick a 6 (pick b 5 4)) (pick a (push_interrupt68000 w pc sr level) (pick b (push_interrupt68010 w pc sr level) (push_interrupt_other w pc sr level))).after
          go true b = frame68000_bill pc sr level
          go false true = frame68010_bill pc sr level
          go false false = frame_other_bill pc sr level

    -- the second frame, on kinds 3 to 9 with M set
    throwaway_bill : (n : ℕ) (w : World) (pc sr v : ℕ) → P n w → P (suc (suc (suc n))) (throwaway w pc sr v)
    unfolding throwaway set_sm_flag set_sm_flag_nosp restore_sp backup_sp put_cpu kind_of vbr_of in_exception has_clocks is_faulted
    throwaway_bill n w pc sr v p = short_bill k Either c l T n (with_cpu w (set_sm_flag (cpu_of w) 4)) (with_s sr) pc (format_word 1 v) p

    cleared_bill : (n : ℕ) (w : World) → P n w → P n (step clear_m w)
    unfolding clear_m put_cpu kind_of vbr_of in_exception has_clocks is_faulted
    cleared_bill n w p = p

    second_frame_bill : (n : ℕ) (w : World) (pc sr v : ℕ) → P n w → P (n + second_cost k) (second_frame w pc sr v)
    unfolding second_frame
    second_frame_bill n w pc sr v p = pick_one (P (n + second_cost k)) (m_is_set (cpu_of w)) (subst (λ j. P (n + second_cost j) (pick (is_ec020_plus (kind_of (cpu_of w))) (throwaway w pc sr v) (pick (is060 (kind_of (cpu_of w))) (step clear_m w) w))) p.0.same (go (is_ec020_plus (kind_of (cpu_of w))))) same
      where
        same : P (n + second_cost k) w
        same = more_bill k Either c l w (omega arith) p

        other : P (n + 0) (pick (is060 (kind_of (cpu_of w))) (step clear_m w) w)
        other = more_bill k Either c l (pick (is060 (kind_of (cpu_of w))) (step clear_m w) w) (omega arith) (pick_one (P n) (is060 (kind_of (cpu_of w))) (cleared_bill n w p) p)

        go : (b : Bool) → P (n + pick b 3 0) (pick b (throwaway w pc sr v) (pick (is060 (kind_of (cpu_of w))) (step clear_m w) w))
        go true = more_bill k Either c l (throwaway w pc sr v) (omega arith) (throwaway_bill n w pc sr v p)
        go false = other

-- an interrupt's events: the clocks that wait, what a fault costs, the two frames, release and vector, and the queue's refill
abbrev pub interrupt_cost : ℕ → ℕ
interrupt_cost k = 3 + rate k + guard_cost k + (first_cost k + second_cost k)

-- 40 at most: kinds 3 to 6 with M set
pub interrupt_most : (k : ℕ) → interrupt_cost k ≤ 40
unfolding bus_writes address_writes is_pre68020 is_prefetch_kind
interrupt_most k =
    let f : second_cost k ≤ 3 = pick_one (λ y. y ≤ 3) (is_ec020_plus k) (omega arith) (omega arith) in
    let g = go (eqb k 1) (eqb k 2) (eqb k 10) (is060 k) (is040 k) in
    omega arith
  where
    go : (a b c d e : Bool) → pick (either a b) 3 0 + pick (either a (either b c)) (pick a 5 (pick (either a (either b c)) 8 (pick e 4 3)) + 2 + pick (either a b) 3 0 + (pick a 5 (pick (either a (either b c)) 8 (pick d 5 (pick e 18 28))) + 2 + pick (either a b) 3 0)) (pick a 5 (pick (either a (either b c)) 8 (pick d 5 (pick e 18 28))) + 2 + pick (either a b) 3 0) + pick a 6 (pick b 5 4) ≤ 34
    go true b c d e = omega arith
    go false true c d e = omega arith
    go false false true d e = omega arith
    go false false false true e = omega arith
    go false false false false true = omega arith
    go false false false false false = omega arith

module _ (w : World) (s : w.core.bus.events ≡ 0) (d : Domain w) where
  abbrev K : ℕ
  K = kind_of (cpu_of w)

  -- supervisor state and the mask keep the kind and the vector base
  level_kept : (level : ℕ) → Kept K Either 0 (with_cpu w (enter_level (cpu_of w) level))
  unfolding enter_level set_int_mask enter_supervisor clear_trace set_sflag restore_sp put_s backup_sp put_cpu kind_of vbr_of in_exception
  level_kept level = record { same = refl; base = d; state = tt }

  -- an interrupt that is taken
  service_interrupt_events : (level : ℕ) → Written (interrupt_cost K) w.log (service_interrupt w level)
  unfolding service_interrupt dispatched ended put_cpu
  service_interrupt_events level =
      let m = guard_most K in
      let c : ℕ = guard_cost K in
      let l : List ℕ = w.log in
      let T = raises_any K l 0 in
      let e : first_cost K ≤ 6 = pick_one (λ y. y ≤ 6) (eqb K 1) (omega arith) (pick_one (λ y. y ≤ 6) (eqb K 2) (omega arith) (omega arith)) in
      let f : second_cost K ≤ 3 = pick_one (λ y. y ≤ 3) (is_ec020_plus K) (omega arith) (omega arith) in
      let x : Attempt = first_frame (with_cpu w (enter_level (cpu_of w) level)) (pc_of (cpu_of w)) (get_sr (cpu_of w)) level in
      let y : World = second_frame x.after (pc_of (cpu_of w)) (get_sr (cpu_of w)) x.value in
      let p : Bill K Either c l (suc c + first_cost K) x.after = first_frame_bill K c l T (with_cpu w (enter_level (cpu_of w) level)) s refl (level_kept level) (pc_of (cpu_of w)) (get_sr (cpu_of w)) level in
      on_written (interrupt_cost K) l (jump_vector raised y x.value) _
      (jump_events_lem K l Either c (suc c + first_cost K + second_cost K) (interrupt_cost K) y x.value (omega arith) (omega arith) T (second_frame_bill K c l T (suc c + first_cost K) x.after (pc_of (cpu_of w)) (get_sr (cpu_of w)) x.value p))

  -- `check_and_service_interrupts`: nothing where no interrupt is taken
  pub check_and_service_events : Written (pick (takes_interrupt (cpu_of w)) (interrupt_cost K) 0) w.log (check_and_service w).after
  unfolding check_and_service serviced
  check_and_service_events = go (takes_interrupt (cpu_of w))
    where
      go : (b : Bool) → Written (pick b (interrupt_cost K) 0) w.log (pick b (tried (serviced (service_interrupt w (pending_level (cpu_of w)))) true) (tried w false)).after
      go true = on_written (interrupt_cost K) w.log (service_interrupt w (pending_level (cpu_of w))) (clear_level (cpu_of (service_interrupt w (pending_level (cpu_of w))))) (service_interrupt_events (pending_level (cpu_of w)))
      go false = none w s d

-- ---- taken or not

-- the pending level, its low 3 bits, is 7 or exceeds the low 3 bits of the mask
abbrev pub Due : Cpu → Type 0
Due c = (pending_level c ≡ 7) ⊎ (mask_level c < pending_level c)

-- the decision
pub due_exactly : (c : Cpu) → (takes_interrupt c ≡ true) ↔ Due c
due_exactly c = (λ t. go (eqb (pending_level c) 7) refl t, ⊎_elim (λ h. seven_taken c h) (λ h. exceeding_taken c h))
  where
    go : (b : Bool) → eqb (pending_level c) 7 ≡ b → takes_interrupt c ≡ true → Due c
    go true e t = inl (eqb-true _ 7 e)
    go false e t = inr (taken_exceeds c t (λ h. clash (eq-eqb _ _ h) e))
