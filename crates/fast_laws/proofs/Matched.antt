-- Theorems about what specs/Matched defines, and what rests on them.
use Prim.Native.Nat.{ℕ, ◌+◌, ◌%◌, ◌≤◌}
use Rattle.std.proofs.Math.Path.{◌≡◌, refl, ap}
use Rattle.std.proofs.Common.{sym, ◌∙◌, leb-true, eqb-true}
use Rattle.std.specs.Prelude.{Bool, List, leb, length, Some, None, Option}
use Rattle.std.proofs.Math.Bool.{true, false}
use native.Mathlib.Omega.{arith}
use Rattle.std.proofs.Math.Dec.{eqb, lit≤}
use Rattle.std.proofs.lemmas.Bool.{eqb-false}
use Rattle.types.specs.Kinds.{pick, both, is060}
use Rattle.cpu.specs.Fields.{in_exception}
use Rattle.pending.specs.Trace.{asks_trace, set_change_of_flow, check_trace}
use Rattle.pending.specs.Interrupts.{set_irq, check_interrupts, has_cycles, pending_level, mask_level, takes_interrupt}
use Rattle.memory.specs.declared.Core.{Core}
use Rattle.memory.specs.Log.{with_events}
use Rattle.memory.specs.World.{World, world, put_cpu}
use Rattle.exceptions.specs.Exceptions.{take_exception, take_group2, trap, exception_trace, take_rewound}
use Rattle.interrupts.specs.Interrupts.{check_and_service}
use Rattle.refusals.specs.Refusals.{bad_cycles}
use Rattle.answers.specs.declared.Call.{Call}
use Rattle.answers.specs.declared.Call.TheVariants.{TakeException, Trap, TakeGroup2Exception, ExceptionChk, ExceptionZeroDivide, ExceptionPrivilege, ExceptionTrace, TakeFpUnimp060, TakeAlineException, TakeFlineException, TakeTrapException, TakeBkptException, TakeIllegalException, CheckTrace, SetIrq, CheckInterrupts, CheckAndServiceInterrupts}
use Rattle.answers.specs.Matters.{of_lent, matter_of}
use Rattle.numbers.specs.Numbers.{bit}
use Rattle.answers.specs.Answers.{flag, plain, of_entry, of_service, of_trace, refused_by, value_of, count_of}
use Rattle.calls.specs.Calls.{run, refusal}
use Rattle.numbers.specs.declared.RawCall.{RawCall}
use Rattle.boundary.specs.Calls.{outcome, decode, of_performed, raw_call}
use Rattle.unfaulted.specs.Closed.{closed}
use Rattle.fast_plans.specs.declared.plans.EntryRow.{EntryRow}
use Rattle.fast_plans.specs.declared.plans.Plan.{Plan}
use Rattle.fast_plans.specs.Views.{view_of}
use Rattle.fast_plans.specs.Plans.{row, row_of, halts, takes, interrupt_plan, unimp_plan, unimp_of, plan_of, entry_by}
use Rattle.fast_plans.specs.Quiet.{is_quiet, quiet, calm_patch, still_patch, asks, checks, quiet_of, is_entry, is_calm, is_idle}
use Rattle.fast.specs.Patches.{Ended, enter_of, go_of}
use Rattle.fast_laws.specs.Patched.{patch_of, calm_of, Words, Fetched}
use Rattle.fast_laws.specs.Accepts.{false_true, Accepted, accepted, not_refused, floating_fine}
use Rattle.fast_laws.specs.Ways.{Says, raw_known}
use Rattle.fast_laws.proofs.Taken.{taken_same, rewound_same}
use Rattle.fast_laws.proofs.Grouped.{group2_same, trace_same}
use Rattle.fast_laws.proofs.Interrupted.{interrupt_same}
use Rattle.fast_laws.proofs.Unimplemented.{unimp_same}
use Rattle.fast_laws.specs.Matched.{Went, went, plan_entry, raw_run, split, Rowed, rowed, Given, Quietly, Silent, silent_by, quietly_as, none_calm, none_idle, entry_calm, entry_idle}
use Rattle.fast_plans.specs.declared.plans.Maker.TheVariants.{Exception, Group2, Trace}
use Rattle.std.proofs.lemmas.Option.{same_Some, none-some}
use Rattle.fast_plans.specs.declared.Way.TheVariants.{Idle}

module _ (m : Core) (c : RawCall) (s l : List ℕ) (w : Words m) (bs : Fetched (go_of (view_of m) c s l).patch) (a : Accepted m (length s) (length l)) (g : Went (view_of m) c s l) where
  abbrev whole : World
  whole = closed m.bus m.cpu 0 s l

  given_run : (call : Call) (n : ℕ) → Given c call n → n ≤ 255 → raw_call (world m s l) c ≡ of_performed (run whole call)
  unfolding bad_cycles
  given_run call n y h = raw_run m c s l a call y.known y.floating (y.vector h) (rw y.interrupt)

  idle_row : (v : ℕ) (b : Bool) → halts (view_of m) (row Exception v b) ≡ false → in_exception m.cpu ≡ false
  unfolding halts view_of in_exception
  idle_row v b e = e

  take_number : (v : ℕ) (call : Call) → eqb c.number 22 ≡ false → eqb c.number 10 ≡ false → row_of c ≡ Some (row Exception v false) → Given c call v → run whole call ≡ of_entry (take_exception whole v) → Says m c s l (go_of (view_of m) c s l)
  take_number v call e d f y u =
      let r : Rowed (view_of m) c s l (row Exception v false) = rowed (view_of m) c s l (row Exception v false) g e d f in
      let h : v ≤ 255 = r.vector in
      taken_same m s l w a c v bs (omega arith) (idle_row v false r.running) r.same r.made (given_run call v y h ∙ ap of_performed u)

  rewound_number : (v : ℕ) (call : Call) → eqb c.number 22 ≡ false → eqb c.number 10 ≡ false → row_of c ≡ Some (row Exception v true) → Given c call v → run whole call ≡ of_entry (take_rewound whole v) → Says m c s l (go_of (view_of m) c s l)
  rewound_number v call e d f y u =
      let r : Rowed (view_of m) c s l (row Exception v true) = rowed (view_of m) c s l (row Exception v true) g e d f in
      let h : v ≤ 255 = r.vector in
      rewound_same m s l w a c v bs (omega arith) (idle_row v true r.running) r.same r.made (given_run call v y h ∙ ap of_performed u)

  group2_number : (v : ℕ) (call : Call) → eqb c.number 22 ≡ false → eqb c.number 10 ≡ false → row_of c ≡ Some (row Group2 v false) → Given c call v → run whole call ≡ of_entry (take_group2 whole v) → Says m c s l (go_of (view_of m) c s l)
  group2_number v call e d f y u =
      let r : Rowed (view_of m) c s l (row Group2 v false) = rowed (view_of m) c s l (row Group2 v false) g e d f in
      let h : v ≤ 255 = r.vector in
      group2_same m s l w a c bs v (omega arith) r.same r.made (given_run call v y h ∙ ap of_performed u)

  trace_number : (call : Call) → eqb c.number 22 ≡ false → eqb c.number 10 ≡ false → row_of c ≡ Some (row Trace 9 false) → Given c call 9 → run whole call ≡ of_entry (exception_trace whole) → Says m c s l (go_of (view_of m) c s l)
  trace_number call e d f y u =
      let r : Rowed (view_of m) c s l (row Trace 9 false) = rowed (view_of m) c s l (row Trace 9 false) g e d f in
      trace_same m s l w a c bs r.same r.made (given_run call 9 y r.vector ∙ ap of_performed u)

  number1 : c.number ≡ 1 → Says m c s l (go_of (view_of m) c s l)
  unfolding row_of decode run matter_of
  number1 h = take_number c.a (TakeException c.a) (rw h) (rw h) (rw h) (record { known = rw h; floating = refl; vector = λ i. i; interrupt = refl }) refl

  trap_vector : 32 + c.a % 256 % 16 ≡ 32 + c.a % 16
  trap_vector = omega arith

  number2 : c.number ≡ 2 → Says m c s l (go_of (view_of m) c s l)
  unfolding row_of decode run matter_of trap
  number2 h =
      take_number (32 + c.a % 16) (Trap (c.a % 256)) (rw h) (rw h) (rw h) (record { known = rw h; floating = refl; vector = λ i. lit≤ tt; interrupt = refl })
      (ap (λ (v : ℕ). of_entry (take_exception whole v)) trap_vector)

  number3 : c.number ≡ 3 → Says m c s l (go_of (view_of m) c s l)
  unfolding row_of decode run matter_of
  number3 h = group2_number c.a (TakeGroup2Exception c.a) (rw h) (rw h) (rw h) (record { known = rw h; floating = refl; vector = λ i. i; interrupt = refl }) refl

  number4 : c.number ≡ 4 → Says m c s l (go_of (view_of m) c s l)
  unfolding row_of decode run matter_of
  number4 h = group2_number 6 ExceptionChk (rw h) (rw h) (rw h) (record { known = rw h; floating = refl; vector = λ i. lit≤ tt; interrupt = refl }) refl

  number5 : c.number ≡ 5 → Says m c s l (go_of (view_of m) c s l)
  unfolding row_of decode run matter_of
  number5 h = group2_number 5 ExceptionZeroDivide (rw h) (rw h) (rw h) (record { known = rw h; floating = refl; vector = λ i. lit≤ tt; interrupt = refl }) refl

  number6 : c.number ≡ 6 → Says m c s l (go_of (view_of m) c s l)
  unfolding row_of decode run matter_of
  number6 h = take_number 8 ExceptionPrivilege (rw h) (rw h) (rw h) (record { known = rw h; floating = refl; vector = λ i. lit≤ tt; interrupt = refl }) refl

  number7 : c.number ≡ 7 → Says m c s l (go_of (view_of m) c s l)
  unfolding row_of decode run matter_of
  number7 h = trace_number ExceptionTrace (rw h) (rw h) (rw h) (record { known = rw h; floating = refl; vector = λ i. lit≤ tt; interrupt = refl }) refl

  -- the 68060's floating-point entry is refused on another kind, and there it has no plan
  unimp10 : c.number ≡ 10 → (is060 m.cpu.flow.cpu_type ≡ true) × (g.plan ≡ unimp_plan (view_of m) c.a)
  unfolding plan_of unimp_of view_of
  unimp10 h = go (is060 m.cpu.flow.cpu_type) refl (sym z ∙ g.planned)
    where
      z : plan_of (view_of m) c ≡ pick (is060 m.cpu.flow.cpu_type) (Some (unimp_plan (view_of m) c.a)) None
      z = rw h

      go : (b : Bool) → is060 m.cpu.flow.cpu_type ≡ b → pick b (Some (unimp_plan (view_of m) c.a)) None ≡ Some g.plan → (is060 m.cpu.flow.cpu_type ≡ true) × (g.plan ≡ unimp_plan (view_of m) c.a)
      go true e f = (e, sym (same_Some _ _ f))
      go false e f = absurd (none-some _ f)

  number10 : c.number ≡ 10 → Says m c s l (go_of (view_of m) c s l)
  unfolding decode run matter_of refusal bad_cycles
  number10 h =
      let r = unimp10 h in
      unimp_same m s l w a c bs c.a (g.same ∙ ap (λ (p : Plan). enter_of (view_of m) p s l) r.1) (ap (λ (p : Plan). is_entry (enter_of (view_of m) p s l).patch.way) (sym r.1) ∙ g.made)
      (raw_known m s l c (TakeFpUnimp060 c.a) (rw h) (floating_fine m (length s) (length l) r.0 ∙ not_refused m (length s) (length l) a of_lent refl (lit≤ tt) refl))

  number12 : c.number ≡ 12 → Says m c s l (go_of (view_of m) c s l)
  unfolding row_of decode run matter_of
  number12 h = rewound_number 10 TakeAlineException (rw h) (rw h) (rw h) (record { known = rw h; floating = refl; vector = λ i. lit≤ tt; interrupt = refl }) refl

  number13 : c.number ≡ 13 → Says m c s l (go_of (view_of m) c s l)
  unfolding row_of decode run matter_of
  number13 h = rewound_number 11 TakeFlineException (rw h) (rw h) (rw h) (record { known = rw h; floating = refl; vector = λ i. lit≤ tt; interrupt = refl }) refl

  number14 : c.number ≡ 14 → Says m c s l (go_of (view_of m) c s l)
  unfolding row_of decode run matter_of trap
  number14 h =
      take_number (32 + c.a % 16) (TakeTrapException (c.a % 256)) (rw h) (rw h) (rw h) (record { known = rw h; floating = refl; vector = λ i. lit≤ tt; interrupt = refl })
      (ap (λ (v : ℕ). of_entry (take_exception whole v)) trap_vector)

  number15 : c.number ≡ 15 → Says m c s l (go_of (view_of m) c s l)
  unfolding row_of decode run matter_of
  number15 h = rewound_number 4 TakeBkptException (rw h) (rw h) (rw h) (record { known = rw h; floating = refl; vector = λ i. lit≤ tt; interrupt = refl }) refl

  number16 : c.number ≡ 16 → Says m c s l (go_of (view_of m) c s l)
  unfolding row_of decode run matter_of
  number16 h = rewound_number 4 TakeIllegalException (rw h) (rw h) (rw h) (record { known = rw h; floating = refl; vector = λ i. lit≤ tt; interrupt = refl }) refl

  -- the interrupt call: its cycles have room, and it is taken
  room22 : c.number ≡ 22 → (has_cycles m.cpu ≡ true) × (g.plan ≡ interrupt_plan (view_of m))
  unfolding plan_of view_of
  room22 h = go (has_cycles m.cpu) refl (sym z ∙ g.planned)
    where
      z : plan_of (view_of m) c ≡ pick (has_cycles m.cpu) (Some (interrupt_plan (view_of m))) None
      z = rw h

      go : (b : Bool) → has_cycles m.cpu ≡ b → pick b (Some (interrupt_plan (view_of m))) None ≡ Some g.plan → (has_cycles m.cpu ≡ true) × (g.plan ≡ interrupt_plan (view_of m))
      go true e f = (e, sym (same_Some _ _ f))
      go false e f = absurd (none-some _ f)

  takes22 : c.number ≡ 22 → has_cycles m.cpu ≡ true → takes_interrupt m.cpu ≡ true
  unfolding takes_interrupt pending_level mask_level is_quiet takes view_of
  takes22 h e = go (takes_interrupt m.cpu) refl (sym z ∙ g.loud)
    where
      z : is_quiet (view_of m) c ≡ pick (takes_interrupt m.cpu) false true
      z = rw (h, e)

      go : (b : Bool) → takes_interrupt m.cpu ≡ b → pick (takes_interrupt m.cpu) false true ≡ false → takes_interrupt m.cpu ≡ true
      go true f k = f
      go false f k = false_true _ (sym (rw f at k))

  number22 : c.number ≡ 22 → Says m c s l (go_of (view_of m) c s l)
  unfolding decode run matter_of bad_cycles
  number22 h =
      let r = room22 h in
      interrupt_same m s l w a c bs (takes22 h r.0) (g.same ∙ ap (λ (p : Plan). enter_of (view_of m) p s l) r.1)
      (ap (λ (p : Plan). is_entry (enter_of (view_of m) p s l).patch.way) (sym r.1) ∙ g.made)
      (raw_run m c s l a CheckAndServiceInterrupts (rw h) refl (lit≤ tt) (rw r.0))

  -- any other number has no plan
  other_number : eqb c.number 22 ≡ false → eqb c.number 10 ≡ false → row_of c ≡ None → Says m c s l (go_of (view_of m) c s l)
  other_number e d f = absurd (none-some _ (sym (plan_entry (view_of m) c e d ∙ ap (λ (r : Option EntryRow). entry_by (view_of m) r) f) ∙ g.planned))

  no_row : eqb c.number 1 ≡ false → eqb c.number 2 ≡ false → eqb c.number 3 ≡ false → eqb c.number 4 ≡ false → eqb c.number 5 ≡ false → eqb c.number 6 ≡ false
      → eqb c.number 7 ≡ false → eqb c.number 12 ≡ false → eqb c.number 13 ≡ false → eqb c.number 14 ≡ false → eqb c.number 15 ≡ false → eqb c.number 16 ≡ false → row_of c ≡ None
  unfolding row_of
  no_row h1 h2 h3 h4 h5 h6 h7 h12 h13 h14 h15 h16 = rw (h1, h2, h3, h4, h5, h6, h7, h12, h13, h14, h15, h16)

  by_number_lem : Says m c s l (go_of (view_of m) c s l)
  by_number_lem =
      split c.number 22 R number22 λ n22. split c.number 1 R number1 λ n1. split c.number 2 R number2 λ n2. split c.number 3 R number3 λ n3. split c.number 4 R number4 λ n4.
      split c.number 5 R number5 λ n5. split c.number 6 R number6 λ n6. split c.number 7 R number7 λ n7. split c.number 10 R number10 λ n10. split c.number 12 R number12 λ n12. split c.number 13 R number13 λ n13.
      split c.number 14 R number14 λ n14. split c.number 15 R number15 λ n15. split c.number 16 R number16 λ n16. other_number n22 n10 (no_row n1 n2 n3 n4 n5 n6 n7 n12 n13 n14 n15 n16)
    where
      R : Type 0
      R = Says m c s l (go_of (view_of m) c s l)

-- AN ENTRY: where the fast way makes one, the patched record and bus, store, log, answer and events are those of the plain call
pub entry_same : (m : Core) (c : RawCall) (s l : List ℕ) → Words m → Fetched (go_of (view_of m) c s l).patch → is_entry (go_of (view_of m) c s l).patch.way ≡ true
    → outcome (world (patch_of m (go_of (view_of m) c s l).patch) (go_of (view_of m) c s l).store (go_of (view_of m) c s l).log) 0 (go_of (view_of m) c s l).patch.answer (go_of (view_of m) c s l).patch.events
    ≡ raw_call (world m s l) c
entry_same m c s l w bs e =
    let g : Went (view_of m) c s l = went (view_of m) c s l e in
    by_number_lem m c s l w bs (accepted m (length s) (length l) g.accepts) g

module _ (m : Core) (c : RawCall) (s l : List ℕ) where
  -- a patch that changes level and change of flow alone
  calmly : (n i : ℕ) (f : Bool) → outcome (world (calm_of m (calm_patch n i f)) s l) 0 n 0 ≡ raw_call (world m s l) c → Quietly m c s l (calm_patch n i f)
  unfolding calm_patch
  calmly n i f h = record { calm = λ e. h; idle = λ e. false_true _ e }

  -- nothing changes but the number of events
  same_calm : (n : ℕ) → calm_of m (calm_patch n m.cpu.flags.int_level m.cpu.flow.change_of_flow) ≡ (closed m.bus m.cpu 0 s l).core
  unfolding calm_of calm_patch closed
  same_calm n = refl

  same_idle : m.bus.events ≡ 0 → m ≡ (closed m.bus m.cpu 0 s l).core
  unfolding closed
  same_idle e = go m.bus.events e
    where
      go : (n : ℕ) → n ≡ 0 → ◌≡◌ {A = Core} (record { cpu = m.cpu; bus = with_events m.bus n }) (record { cpu = m.cpu; bus = with_events m.bus 0 })
      go n h = rw h

  stilly : (n : ℕ) → outcome (closed m.bus m.cpu 0 s l) 0 n 0 ≡ raw_call (world m s l) c → Quietly m c s l (still_patch (view_of m) n)
  unfolding still_patch view_of closed
  stilly n h = go (eqb m.bus.events 0) refl
    where
      go : (b : Bool) → eqb m.bus.events 0 ≡ b → Quietly m c s l (pick b (quiet Idle n 0 false) (calm_patch n m.cpu.flags.int_level m.cpu.flow.change_of_flow))
      go true e = record { calm = λ f. false_true _ f; idle = λ f. ap (λ (k : Core). outcome (world k s l) 0 n 0) (same_idle (eqb-true m.bus.events 0 e)) ∙ h }
      go false e = calmly n m.cpu.flags.int_level m.cpu.flow.change_of_flow (ap (λ (k : Core). outcome (world k s l) 0 n 0) (same_calm n) ∙ h)

module _ (m : Core) (c : RawCall) (s l : List ℕ) (a : Accepted m (length s) (length l)) where
  -- number 19
  trace_said : of_performed (run (closed m.bus m.cpu 0 s l) CheckTrace) ≡ outcome (world (calm_of m (calm_patch (bit (asks (view_of m))) m.cpu.flags.int_level false)) s l) 0 (bit (asks (view_of m))) 0
  unfolding run of_performed of_trace flag check_trace set_change_of_flow asks_trace closed refused_by value_of count_of put_cpu calm_of calm_patch asks view_of
  trace_said = refl

  quiet19 : c.number ≡ 19 → Quietly m c s l (quiet_of (view_of m) c)
  unfolding quiet_of decode matter_of bad_cycles view_of
  quiet19 h =
      let n : ℕ = bit (asks (view_of m)) in
      quietly_as m c s l (quiet_of (view_of m) c) (calm_patch n m.cpu.flags.int_level false) (rw h)
      (calmly m c s l n m.cpu.flags.int_level false (sym (raw_run m c s l a CheckTrace (rw h) refl (lit≤ tt) refl ∙ trace_said)))

  -- number 20
  level_said : of_performed (run (closed m.bus m.cpu 0 s l) (SetIrq (c.a % 256))) ≡ outcome (world (calm_of m (calm_patch 0 (c.a % 8) m.cpu.flow.change_of_flow)) s l) 0 0 0
  unfolding run of_performed plain set_irq closed refused_by value_of count_of put_cpu calm_of calm_patch
  level_said = let e : c.a % 256 % 8 ≡ c.a % 8 = omega arith in rw e

  quiet20 : c.number ≡ 20 → Quietly m c s l (quiet_of (view_of m) c)
  unfolding quiet_of decode matter_of bad_cycles view_of
  quiet20 h =
      quietly_as m c s l (quiet_of (view_of m) c) (calm_patch 0 (c.a % 8) m.cpu.flow.change_of_flow) (rw h)
      (calmly m c s l 0 (c.a % 8) m.cpu.flow.change_of_flow (sym (raw_run m c s l a (SetIrq (c.a % 256)) (rw h) refl (lit≤ tt) refl ∙ level_said)))

  -- number 21
  check_said : of_performed (run (closed m.bus m.cpu 0 s l) CheckInterrupts) ≡ outcome (closed m.bus m.cpu 0 s l) 0 (bit (checks (view_of m))) 0
  unfolding run of_performed flag check_interrupts closed refused_by value_of count_of checks view_of
  check_said = refl

  quiet21 : c.number ≡ 21 → Quietly m c s l (quiet_of (view_of m) c)
  unfolding quiet_of decode matter_of bad_cycles
  quiet21 h =
      quietly_as m c s l (quiet_of (view_of m) c) (still_patch (view_of m) (bit (checks (view_of m)))) (rw h)
      (stilly m c s l (bit (checks (view_of m))) (sym (raw_run m c s l a CheckInterrupts (rw h) refl (lit≤ tt) refl ∙ check_said)))

  -- number 22, not taken
  none_said : takes_interrupt m.cpu ≡ false → of_performed (run (closed m.bus m.cpu 0 s l) CheckAndServiceInterrupts) ≡ outcome (closed m.bus m.cpu 0 s l) 0 0 0
  unfolding run of_performed of_service flag check_and_service closed refused_by value_of count_of
  none_said e = rw e

  quiet22 : c.number ≡ 22 → takes_interrupt m.cpu ≡ false → has_cycles m.cpu ≡ true → Quietly m c s l (quiet_of (view_of m) c)
  unfolding quiet_of decode matter_of bad_cycles
  quiet22 h e f =
      quietly_as m c s l (quiet_of (view_of m) c) (still_patch (view_of m) 0) (rw h)
      (stilly m c s l 0 (sym (raw_run m c s l a CheckAndServiceInterrupts (rw h) refl (lit≤ tt) (rw f) ∙ none_said e)))

  silent22 : c.number ≡ 22 → is_quiet (view_of m) c ≡ true → (takes_interrupt m.cpu ≡ false) × (has_cycles m.cpu ≡ true)
  unfolding takes_interrupt pending_level mask_level is_quiet takes view_of
  silent22 h e = go (takes_interrupt m.cpu) refl (sym z ∙ e)
    where
      z : is_quiet (view_of m) c ≡ pick (takes_interrupt m.cpu) false (has_cycles m.cpu)
      z = rw h

      go : (b : Bool) → takes_interrupt m.cpu ≡ b → pick (takes_interrupt m.cpu) false (has_cycles m.cpu) ≡ true → (takes_interrupt m.cpu ≡ false) × (has_cycles m.cpu ≡ true)
      go true f k = false_true _ (rw f at k)
      go false f k = (f, rw f at k)

  between : eqb c.number 22 ≡ false → is_quiet (view_of m) c ≡ true → (19 ≤ c.number) × (c.number ≤ 21)
  unfolding is_quiet
  between h e = go (leb 19 c.number) (leb c.number 21) refl refl (sym z ∙ e)
    where
      z : is_quiet (view_of m) c ≡ both (leb 19 c.number) (leb c.number 21)
      z = rw h

      go : (i j : Bool) → leb 19 c.number ≡ i → leb c.number 21 ≡ j → both (leb 19 c.number) (leb c.number 21) ≡ true → (19 ≤ c.number) × (c.number ≤ 21)
      go true true f g k = (leb-true 19 c.number f, leb-true c.number 21 g)
      go true false f g k = false_true _ (rw (f, g) at k)
      go false j f g k = false_true _ (rw f at k)

  quietly : is_quiet (view_of m) c ≡ true → Quietly m c s l (quiet_of (view_of m) c)
  quietly e =
      split c.number 22 R (λ h. let r = silent22 h e in quiet22 h r.0 r.1) λ n22. split c.number 21 R quiet21 λ n21. split c.number 20 R quiet20 λ n20.
      quiet19 (last n22 n21 n20)
    where
      R : Type 0
      R = Quietly m c s l (quiet_of (view_of m) c)

      last : eqb c.number 22 ≡ false → eqb c.number 21 ≡ false → eqb c.number 20 ≡ false → c.number ≡ 19
      last n22 n21 n20 =
          let b = between n22 e in
          let lo : 19 ≤ c.number = b.0 in
          let hi : c.number ≤ 21 = b.1 in
          let p : c.number ≡ 21 → ⊥ = eqb-false c.number 21 n21 in
          let q : c.number ≡ 20 → ⊥ = eqb-false c.number 20 n20 in
          omega (arith, p, q)

-- NO ACCESS, AND AT MOST LEVEL, CHANGE OF FLOW AND THE NUMBER OF EVENTS CHANGE
pub calm_same : (m : Core) (c : RawCall) (s l : List ℕ) → is_calm (go_of (view_of m) c s l).patch.way ≡ true
    → outcome (world (calm_of m (go_of (view_of m) c s l).patch) (go_of (view_of m) c s l).store (go_of (view_of m) c s l).log) 0 (go_of (view_of m) c s l).patch.answer (go_of (view_of m) c s l).patch.events
    ≡ raw_call (world m s l) c
calm_same m c s l e =
    let g : Silent (view_of m) c s l = silent_by (λ q. is_calm q.way) none_calm entry_calm (view_of m) c s l e in
    let q : Quietly m c s l (quiet_of (view_of m) c) = quietly m c s l (accepted m (length s) (length l) g.accepts) g.silent in
    rw g.same (q.calm (ap (λ (i : Ended). is_calm i.patch.way) (sym g.same) ∙ e))

-- NO ACCESS, AND NOTHING CHANGES
pub idle_same : (m : Core) (c : RawCall) (s l : List ℕ) → is_idle (go_of (view_of m) c s l).patch.way ≡ true
    → outcome (world m (go_of (view_of m) c s l).store (go_of (view_of m) c s l).log) 0 (go_of (view_of m) c s l).patch.answer (go_of (view_of m) c s l).patch.events ≡ raw_call (world m s l) c
idle_same m c s l e =
    let g : Silent (view_of m) c s l = silent_by (λ q. is_idle q.way) none_idle entry_idle (view_of m) c s l e in
    let q : Quietly m c s l (quiet_of (view_of m) c) = quietly m c s l (accepted m (length s) (length l) g.accepts) g.silent in
    rw g.same (q.idle (ap (λ (i : Ended). is_idle i.patch.way) (sym g.same) ∙ e))
