-- THE EVENTS OF AN ENTRY: how many each entry of `exceptions` makes, by the kind, from a world without events inside the domain.
use Prim.Native.Nat.{ℕ, suc, ◌+◌, ◌^◌, ◌≤◌, ◌<◌}
use Rattle.std.specs.Prelude.{◌≡◌, Bool, eqb}
use Rattle.std.proofs.Math.Path.{refl}
use Rattle.std.proofs.Math.Bool.{true, false}
use mathlib.Core.List.{List}
use native.Mathlib.Omega.{arith}
use Rattle.types.specs.Kinds.{pick, either, is_pre68020, is_prefetch_kind, is040, is060}
use Rattle.cpu.specs.declared.Cpu.{Cpu}
use Rattle.cpu.specs.Fields.{kind_of, vbr_of, pc_of, ppc_of, in_exception, note_fpiar, leave_stop}
use Rattle.status.specs.Status.{get_sr}
use Rattle.cpu.specs.Clocks.{set_clocks, internal_cycles}
use Rattle.memory.specs.World.{World, put_cpu, cpu_of, with_cpu, step}
use Rattle.frames.specs.Frames.{field_at, is_counted}
use Rattle.steps.specs.Steps.{begin_trace}
use Rattle.access.specs.Access.{raised, jump_vector, push_frame}
use Rattle.formats.specs.Formats.{format_word, offset_word, short_frame, long_frame, disabled_frame}
use Rattle.exceptions.specs.Exceptions.{supervised, stack_short, stack_group2, take_group2, exception_trace, stack_unimp, take_fp_unimp060, stack_disabled, take_fp_disabled060}
use Rattle.bounds.specs.Skeleton.{Raises, after_fields, refills, pick_one, clocks_ways, push_short_good, stacked_good, jump_good}
use Rattle.bounds.specs.ErrorFrames.{bus_writes, address_writes}
use Rattle.bounds.specs.Levels.{Domain, Kept, Any, Either, inside, super_kept}
use Rattle.bounds.specs.Ledger.{Written, written, start, super_books}
use Rattle.bounds.specs.Events.{Bill, bill_steps, rate, guard_cost, refills_sum}
use Rattle.bounds.proofs.Events.{raises_any}

-- ---- the steps of an entry, each with its cost

module _ (k : ℕ) (Exc : Bool → Type 0) (c : ℕ) (l : List ℕ) where
  -- supervisor state is free
  pub super_bill : (n : ℕ) (w : World) → Bill k Exc c l n w → Bill k Exc c l n (supervised w)
  super_bill n w p = (super_kept k Exc w p.0, super_books c l n w p.1)

  module _ (T : Raises (Bill k Exc c l) Any (is_prefetch_kind k) raised raised) where
    -- a frame of three fields
    pub short_bill : (n : ℕ) (w : World) (sr pc format : ℕ) → Bill k Exc c l n w → Bill k Exc c l (suc (suc (suc n))) (push_frame raised w (short_frame sr pc format))
    unfolding after_fields short_frame field_at is_counted
    short_bill n w sr pc format p = (stacked_good (Bill k Exc c l) Any (is_prefetch_kind k) raised raised (bill_steps k Exc c l) T n w (short_frame sr pc format) (λ h m x g. tt) p).1

    -- .. of four
    pub long_bill : (n : ℕ) (w : World) (sr pc format extra : ℕ) → Bill k Exc c l n w → Bill k Exc c l (suc (suc (suc (suc n)))) (push_frame raised w (long_frame sr pc format extra))
    unfolding after_fields long_frame field_at is_counted
    long_bill n w sr pc format extra p = (stacked_good (Bill k Exc c l) Any (is_prefetch_kind k) raised raised (bill_steps k Exc c l) T n w (long_frame sr pc format extra) (λ h m x g. tt) p).1

    -- .. of five
    pub disabled_bill : (n : ℕ) (w : World) (sr pc format ea extra : ℕ) → Bill k Exc c l n w → Bill k Exc c l (suc (suc (suc (suc (suc n))))) (push_frame raised w (disabled_frame sr pc format ea extra))
    unfolding after_fields disabled_frame field_at is_counted
    disabled_bill n w sr pc format ea extra p = (stacked_good (Bill k Exc c l) Any (is_prefetch_kind k) raised raised (bill_steps k Exc c l) T n w (disabled_frame sr pc format ea extra) (λ h m x g. tt) p).1

    -- the short frame, with a format word or without: three writes
    pub stack_short_bill : (n : ℕ) (w : World) (pc format : ℕ) → Bill k Exc c l n w → Bill k Exc c l (suc (suc (suc n))) (stack_short w pc format)
    unfolding stack_short
    stack_short_bill n w pc format p =
        pick_one (Bill k Exc c l (suc (suc (suc n)))) (eqb (kind_of (cpu_of w)) 1)
        (push_short_good (Bill k Exc c l) Any (is_prefetch_kind k) raised raised (bill_steps k Exc c l) T (λ a. tt) n (supervised w) pc (get_sr (cpu_of w)) (super_bill n w p)).1
        (short_bill n (supervised w) (get_sr (cpu_of w)) pc format (super_bill n w p))

    -- a group 2 frame: three writes before the 68020, four from it on
    pub stack_group2_bill : (n : ℕ) (w : World) (v : ℕ) → Bill k Exc c l n w → Bill k Exc c l (pick (is_pre68020 k) (suc (suc (suc n))) (suc (suc (suc (suc n))))) (stack_group2 w v)
    unfolding stack_group2
    stack_group2_bill n w v p = go (is_pre68020 k) refl
      where
        short : Bill k Exc c l (suc (suc (suc n))) (stack_short w (pc_of (cpu_of w)) (offset_word v))
        short = stack_short_bill n w (pc_of (cpu_of w)) (offset_word v) p

        more : Bill k Exc c l (suc (suc (suc (suc n)))) (stack_short w (pc_of (cpu_of w)) (offset_word v))
        more = (bill_steps k Exc c l).weaken (suc (suc (suc n))) (stack_short w (pc_of (cpu_of w)) (offset_word v)) short

        go : (b : Bool) → is_pre68020 k ≡ b → Bill k Exc c l (pick b (suc (suc (suc n))) (suc (suc (suc (suc n))))) (stack_group2 w v)
        go true h = rw (p.0.same, h) short
        go false h =
            pick_one (Bill k Exc c l (suc (suc (suc (suc n))))) (is_pre68020 (kind_of (cpu_of w))) more
            (long_bill n (supervised w) (get_sr (cpu_of w)) (pc_of (cpu_of w)) (format_word 2 v) (ppc_of (cpu_of w)) (super_bill n w p))

    -- the jump: release, the vector, and the queue's refill
    pub jump_bill : (n : ℕ) (w : World) (v : ℕ) → Bill k Exc c l n w → Bill k Exc c l (refills (is_prefetch_kind k) (suc (suc n))) (jump_vector raised w v)
    jump_bill n w v p = (jump_good (Bill k Exc c l) Any (is_prefetch_kind k) raised raised (bill_steps k Exc c l) T n w v p).1

-- clocks are added before the first event, so they cost no more than clocks that wait
pub clocks_start : (k : ℕ) (Exc : Bool → Type 0) (c : ℕ) (w : World) (v : ℕ) → w.core.bus.events ≡ 0 → Kept k Exc 0 w → Bill k Exc c w.log (suc c) (with_cpu w (internal_cycles (cpu_of w) v))
unfolding set_clocks put_cpu kind_of vbr_of in_exception
clocks_start k Exc c w v s p = (clocks_ways (Kept k Exc 0) w v (λ h. p) p, start c (with_cpu w (internal_cycles (cpu_of w) v)) s)

-- what is written stays when the record alone changes
pub on_written : (m : ℕ) (l : List ℕ) (w : World) (c : Cpu) → Written m l w → Written m l (with_cpu w c)
unfolding put_cpu
on_written m l w c p = record { es = p.es; few = p.few; count = p.count; spells = record { count = p.spells.count; log = p.spells.log }; log = p.log }

-- ---- the entries

-- an entry's events: the clocks that wait, what a fault costs, the writes of its frame, release and vector, and the queue's refill
abbrev pub entry_cost : ℕ → ℕ → ℕ → ℕ
entry_cost k fault writes = 3 + rate k + fault + writes

abbrev pub group2_writes : ℕ → ℕ
group2_writes k = pick (is_pre68020 k) 3 4

module _ (k : ℕ) (l : List ℕ) where
  -- the jump ends it
  pub jump_events_lem : (Exc : Bool → Type 0) (c n m : ℕ) (w : World) (v : ℕ) → 2 + rate k + n ≤ m → m < 2 ^ 32 → Raises (Bill k Exc c l) Any (is_prefetch_kind k) raised raised → Bill k Exc c l n w → Written m l (jump_vector raised w v)
  jump_events_lem Exc c n m w v h b T p =
      let r = refills_sum (is_prefetch_kind k) (suc (suc n)) in
      written (refills (is_prefetch_kind k) (suc (suc n))) m l (jump_vector raised w v) (omega arith) b (jump_bill k Exc c l T n w v p).1

-- what a guarded access may raise, and the refill: the largest over all kinds
pub guard_most : (k : ℕ) → guard_cost k + rate k ≤ 30
unfolding bus_writes address_writes is_pre68020 is_prefetch_kind
guard_most k = go (eqb k 1) (eqb k 2) (eqb k 10) (is060 k) (is040 k)
  where
    go : (a b c d e : Bool) → pick (either a (either b c)) (pick a 5 (pick (either a (either b c)) 8 (pick e 4 3)) + 2 + pick (either a b) 3 0 + (pick a 5 (pick (either a (either b c)) 8 (pick d 5 (pick e 18 28))) + 2 + pick (either a b) 3 0)) (pick a 5 (pick (either a (either b c)) 8 (pick d 5 (pick e 18 28))) + 2 + pick (either a b) 3 0) + pick (either a b) 3 0 ≤ 30
    go true b c d e = omega arith
    go false true c d e = omega arith
    go false false true d e = omega arith
    go false false false true e = omega arith
    go false false false false true = omega arith
    go false false false false false = omega arith

module _ (w : World) (s : w.core.bus.events ≡ 0) (d : Domain w) where
  abbrev K : ℕ
  K = kind_of (cpu_of w)

  -- a group 2 frame and its jump, where the bill at the start is that of a guarded access
  group2_events : (x : World) (v : ℕ) → Bill K Either (guard_cost K) w.log (suc (guard_cost K)) x → Written (entry_cost K (guard_cost K) (group2_writes K)) w.log (take_group2 x v).after
  unfolding take_group2
  group2_events x v p =
      let m = guard_most K in
      let c : ℕ = guard_cost K in
      let l : List ℕ = w.log in
      let T = raises_any K l 0 in
      let n : ℕ = pick (is_pre68020 K) (suc (suc (suc (suc c)))) (suc (suc (suc (suc (suc c))))) in
      let e : n ≡ suc c + group2_writes K = shift (is_pre68020 K) c in
      let g : group2_writes K ≤ 4 = pick_one (λ y. y ≤ 4) (is_pre68020 K) (omega arith) (omega arith) in
      jump_events_lem K l Either c n (entry_cost K c (group2_writes K)) (stack_group2 x v) v (omega arith) (omega arith) T (stack_group2_bill K Either c l T (suc c) x v p)
    where
      shift : (b : Bool) (c : ℕ) → pick b (suc (suc (suc (suc c)))) (suc (suc (suc (suc (suc c))))) ≡ suc c + pick b 3 4
      shift true c = omega arith
      shift false c = omega arith

  -- `take_group2_exception`
  pub take_group2_events : (v : ℕ) → Written (entry_cost K (guard_cost K) (group2_writes K)) w.log (take_group2 w v).after
  take_group2_events v = group2_events w v (inside w d, start (guard_cost K) w s)

  -- `exception_trace`
  pub exception_trace_events : Written (entry_cost K (guard_cost K) (group2_writes K)) w.log (exception_trace w).after
  unfolding exception_trace begin_trace leave_stop put_cpu kind_of vbr_of in_exception
  exception_trace_events = group2_events (with_cpu w (internal_cycles (leave_stop (cpu_of w)) 4)) 9 (clocks_start K Either (guard_cost K) (step leave_stop w) 4 s (record { same = refl; base = d; state = tt }))

  -- `take_fp_unimp_060`: four writes
  pub take_fp_unimp060_events : (ea : ℕ) → Written (entry_cost K (guard_cost K) 4) w.log (take_fp_unimp060 w ea).after
  unfolding take_fp_unimp060 stack_unimp note_fpiar put_cpu kind_of vbr_of in_exception
  take_fp_unimp060_events ea =
      let m = guard_most K in
      let c : ℕ = guard_cost K in
      let l : List ℕ = w.log in
      let T = raises_any K l 0 in
      let x : World = step note_fpiar w in
      let p : Bill K Either c l (suc c) x = (record { same = refl; base = d; state = tt }, start c x s) in
      jump_events_lem K l Either c (suc (suc (suc (suc (suc c))))) (entry_cost K c 4) (stack_unimp x ea) 11 (omega arith) (omega arith) T (long_bill K Either c l T (suc c) (supervised x) (get_sr (cpu_of x)) (pc_of (cpu_of x)) (format_word 2 11) ea (super_bill K Either c l (suc c) x p))

  -- `take_fp_disabled_060`: five
  pub take_fp_disabled060_events : Written (entry_cost K (guard_cost K) 5) w.log (take_fp_disabled060 w).after
  unfolding take_fp_disabled060 stack_disabled
  take_fp_disabled060_events =
      let m = guard_most K in
      let c : ℕ = guard_cost K in
      let l : List ℕ = w.log in
      let T = raises_any K l 0 in
      jump_events_lem K l Either c (suc (suc (suc (suc (suc (suc c)))))) (entry_cost K c 5) (stack_disabled w) 11 (omega arith) (omega arith) T (disabled_bill K Either c l T (suc c) (supervised w) (get_sr (cpu_of w)) (ppc_of (cpu_of w)) (format_word 4 11) 0 (ppc_of (cpu_of w)) (super_bill K Either c l (suc c) w (inside w d, start c w s)))

-- THE BOUNDS over all kinds: 37 and 38 (kinds 0, 3 to 6)
pub group2_most : (k : ℕ) → entry_cost k (guard_cost k) (group2_writes k) ≤ 37
group2_most k = let m = guard_most k in let g : group2_writes k ≤ 4 = pick_one (λ y. y ≤ 4) (is_pre68020 k) (omega arith) (omega arith) in omega arith

pub unimp_most : (k : ℕ) → entry_cost k (guard_cost k) 4 ≤ 37
unimp_most k = let m = guard_most k in omega arith

pub disabled_most : (k : ℕ) → entry_cost k (guard_cost k) 5 ≤ 38
disabled_most k = let m = guard_most k in omega arith
