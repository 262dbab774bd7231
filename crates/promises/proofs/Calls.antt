-- Theorems about what specs/Calls defines, and what rests on them.
use Rattle.std.specs.Prelude.{ℕ, ◌+◌, ◌≤◌, ◌<◌, ◌≡◌, Bool, not, List, ◌↔◌, ltb}
use Rattle.std.proofs.Math.Path.{refl, sym, subst, ap}
use Rattle.std.proofs.Common.{◌∙◌, arith}
use Rattle.std.proofs.Math.Bool.{true, false}
use borrow.Author.Tests.{eqb-true, ltb-false}
use Rattle.std.proofs.Math.Dec.{eqb}
use Rattle.std.proofs.Math.ListN.{length}
use Rattle.types.specs.Causes.{cause_number}
use Rattle.types.specs.Kinds.{pick, both}
use Rattle.cpu.specs.Fields.{kind_of, in_exception}
use Rattle.pending.specs.Trace.{check_trace}
use Rattle.pending.specs.Interrupts.{set_irq, takes_interrupt}
use Rattle.memory.specs.World.{World, cpu_of}
use Rattle.frames.specs.Frames.{word, long}
use Rattle.interrupts.specs.Interrupts.{check_and_service}
use Rattle.bounds.specs.Skeleton.{pick_one}
use Rattle.bounds.specs.Levels.{Domain, clash}
use Rattle.bounds.specs.Ledger.{Written}
use Rattle.bounds.specs.Events.{guard_cost, guard_cost_most, address_cost_most, bus_most, queue_most, few_more}
use Rattle.bounds.proofs.Events.{none, guard_read_events, guard_write_events, pushed_events, prefetch_first_events, prefetch_second_events, entry_bus_events, entry_address_events, bus_events, address_events}
use Rattle.refusals.specs.Refusals.{short_log, bad_kind, tests_of}
use Rattle.refusals.specs.Laws.{outcomes}
use Rattle.answers.specs.declared.Call.{Call}
use Rattle.answers.specs.declared.Call.TheVariants.{TakeException, Trap, TakeGroup2Exception, ExceptionChk, ExceptionZeroDivide, ExceptionPrivilege, ExceptionTrace, ExceptionAddressError, ExceptionBusError, TakeFpUnimp060, TakeFpDisabled060, TakeAlineException, TakeFlineException, TakeTrapException, TakeBkptException, TakeIllegalException, TriggerAddressError, TriggerBusError, CheckTrace, SetIrq, CheckInterrupts, CheckAndServiceInterrupts, Read16, Read32, Write16, Write32, Push16, Push32, PrefetchFirst, PrefetchSecond}
use Rattle.answers.specs.Answer.{Cycles, Flag, Refused}
use Rattle.answers.specs.Matters.{matter_of}
use Rattle.numbers.specs.Numbers.{bit}
use Rattle.answers.specs.Answers.{refused_by, value_of, count_of, Performed, answered, events_of, cycles, flag, plain, of_entry, of_read, of_service, of_trace}
use Rattle.calls.specs.Calls.{restarted, run, begun, refusal, perform}
use Rattle.promises.specs.Entries.{entry_cost, group2_writes, on_written, group2_most, take_group2_events, exception_trace_events, take_fp_unimp060_events, take_fp_disabled060_events}
use Rattle.promises.specs.Taken.{take_exception_16, trap_16, take_rewound_16}
use Rattle.promises.specs.Interrupts.{interrupt_most, check_and_service_events, Due, due_exactly}
use Rattle.promises.proofs.Interrupts.{answer_decides, untaken_unchanged, taken_after}
use Rattle.promises.specs.Refusals.{holds, refusal_exact, refusal_none}
use Rattle.promises.proofs.Refusals.{accepted_runs, accepted_domain}
use Rattle.promises.specs.Calls.{most_events, most_61, room, unimp_060, disabled_060, run_count, run_accepts, Told, is_entry, cycles_of, run_cycles}

-- the bounds by kind, as numbers
module _ (w : World) (s : w.core.bus.events ≡ 0) (d : Domain w) {l : List ℕ} {x : World} where
  group2_bound : Written (entry_cost (kind_of (cpu_of w)) (guard_cost (kind_of (cpu_of w))) (group2_writes (kind_of (cpu_of w)))) l x → Written 37 l x
  group2_bound = few_more (group2_most (kind_of (cpu_of w)))

  guard_bound : Written (2 + guard_cost (kind_of (cpu_of w))) l x → Written 32 l x
  guard_bound = few_more (let e = guard_cost_most (kind_of (cpu_of w)) in omega arith)

-- a call that runs, from a world without events inside the domain; a floating-point entry on kind 11
run_events : (c : Call) (w : World) → w.core.bus.events ≡ 0 → Domain w → ((matter_of c).floating ≡ true → kind_of (cpu_of w) ≡ 11) → Written (most_events c) w.log (run w c).after
unfolding most_events run matter_of of_entry of_read of_service of_trace cycles flag plain
run_events (TakeException v) w s d k = take_exception_16 w s d v
run_events (Trap n) w s d k = trap_16 w s d n
run_events (TakeGroup2Exception v) w s d k = group2_bound w s d (take_group2_events w s d v)
run_events ExceptionChk w s d k = group2_bound w s d (take_group2_events w s d 6)
run_events ExceptionZeroDivide w s d k = group2_bound w s d (take_group2_events w s d 5)
run_events ExceptionPrivilege w s d k = take_exception_16 w s d 8
run_events ExceptionTrace w s d k = group2_bound w s d (exception_trace_events w s d)
run_events (ExceptionAddressError a wr i) w s d k = few_more (let e = address_cost_most (kind_of (cpu_of w)) in omega arith) (entry_address_events w s d a wr i)
run_events (ExceptionBusError a wr i z cause) w s d k = few_more (let e = bus_most (kind_of (cpu_of w)) in omega arith) (entry_bus_events w s d a wr i z (cause_number cause))
run_events (TakeFpUnimp060 ea) w s d k = few_more (unimp_060 _ (k refl)) (take_fp_unimp060_events w s d ea)
run_events TakeFpDisabled060 w s d k = few_more (disabled_060 _ (k refl)) (take_fp_disabled060_events w s d)
run_events TakeAlineException w s d k = take_rewound_16 w s d 10
run_events TakeFlineException w s d k = take_rewound_16 w s d 11
run_events (TakeTrapException n) w s d k = trap_16 w s d n
run_events TakeBkptException w s d k = take_rewound_16 w s d 4
run_events TakeIllegalException w s d k = take_rewound_16 w s d 4
run_events (TriggerAddressError a wr i) w s d k = few_more (let e = address_cost_most (kind_of (cpu_of w)) in omega arith) (address_events w s d a wr i)
run_events (TriggerBusError a wr i z) w s d k = few_more (let e = bus_most (kind_of (cpu_of w)) in omega arith) (bus_events w s d a wr i z)
run_events CheckTrace w s d k = on_written 0 w.log w (check_trace (cpu_of w)).cpu (none w s d)
run_events (SetIrq n) w s d k = on_written 0 w.log w (set_irq (cpu_of w) n) (none w s d)
run_events CheckInterrupts w s d k = none w s d
run_events CheckAndServiceInterrupts w s d k = few_more (pick_one (λ x. x ≤ 40) (takes_interrupt (cpu_of w)) (interrupt_most (kind_of (cpu_of w))) (omega arith)) (check_and_service_events w s d)
run_events (Read16 a) w s d k = guard_bound w s d (guard_read_events w s d a false)
run_events (Read32 a) w s d k = guard_bound w s d (guard_read_events w s d a true)
run_events (Write16 a v) w s d k = guard_bound w s d (guard_write_events w s d a false v)
run_events (Write32 a v) w s d k = guard_bound w s d (guard_write_events w s d a true v)
run_events (Push16 v) w s d k = guard_bound w s d (pushed_events w s d (word v))
run_events (Push32 v) w s d k = guard_bound w s d (pushed_events w s d (long v))
run_events PrefetchFirst w s d k = few_more (queue_most (kind_of (cpu_of w))) (prefetch_first_events w s d)
run_events PrefetchSecond w s d k = few_more (queue_most (kind_of (cpu_of w))) (prefetch_second_events w s d)

-- what a number that does not apply leaves
module _ (w : World) (c : Call) (h : refusal w c ≡ 0) where
  -- 7: a log that is lent has 192 words
  accepted_room : (matter_of c).log ≡ true → 192 ≤ length w.log
  unfolding outcomes tests_of short_log
  accepted_room e = go (matter_of c).log e ((refusal_none w c).0 h 7)
    where
      go : (b : Bool) → b ≡ true → both b (ltb (length w.log) 192) ≡ false → 192 ≤ length w.log
      go true e f = ltb-false (length w.log) 192 f
      go false e f = clash {b = false} e refl

  -- 9: a floating-point entry is one of kind 11
  accepted_060 : (matter_of c).floating ≡ true → kind_of (cpu_of w) ≡ 11
  unfolding outcomes tests_of bad_kind
  accepted_060 e = go (ltb 11 (kind_of (cpu_of w))) (matter_of c).floating (eqb (kind_of (cpu_of w)) 11) refl e ((refusal_none w c).0 h 9)
    where
      go : (a b t : Bool) → eqb (kind_of (cpu_of w)) 11 ≡ t → b ≡ true → pick a true (both b (not t)) ≡ false → kind_of (cpu_of w) ≡ 11
      go true b t q e f = clash {b = true} refl f
      go false true true q e f = eqb-true (kind_of (cpu_of w)) 11 q
      go false true false q e f = clash {b = true} refl f
      go false false t q e f = clash {b = false} e refl

  -- THE EVENTS: an accepted call makes no more than its most
  pub events : Told (most_events c) w.log (perform w c)
  unfolding begun restarted
  events =
      let p : Written (most_events c) w.log (run (begun w) c).after = run_events c (begun w) refl (accepted_domain w c h) accepted_060 in
      subst (Told (most_events c) w.log) (sym (accepted_runs w c h))
      (record { es = p.es; few = p.few; answers = run_count c (begun w) ∙ p.count; count = p.count; log = p.log (room c (length w.log) accepted_room) })

  -- as its answer counts them
  pub events_most : count_of (perform w c).answer ≤ most_events c
  events_most = let p = events in subst (λ n. n ≤ most_events c) (sym p.answers) p.few

  -- so it makes no more than 64
  pub events_64 : Told 64 w.log (perform w c)
  events_64 =
      let p = events in
      let m = most_61 c in
      record { es = p.es; few = let e : length p.es ≤ most_events c = p.few in omega arith; answers = p.answers; count = p.count; log = p.log }

-- ---- refusals

module _ (w : World) (c : Call) where
  -- the answer has the number of the refusal, and 0 where there is none
  pub answer_refusal : refused_by (perform w c).answer ≡ refusal w c
  unfolding perform refused_by
  answer_refusal = go (eqb (refusal w c) 0) refl
    where
      go : (b : Bool) → eqb (refusal w c) 0 ≡ b → refused_by (pick b (run (begun w) c) (answered w (Refused (refusal w c)))).answer ≡ refusal w c
      go true e = run_accepts c (begun w) ∙ sym (eqb-true (refusal w c) 0 e)
      go false e = refl

  -- THE NUMBER ANSWERED is n exactly if condition n holds and none below it does
  pub answer_exact : (n : ℕ) → 0 < n → (refused_by (perform w c).answer ≡ n) ↔ ((holds w c n ≡ true) × ((m : ℕ) → m < n → holds w c m ≡ false))
  answer_exact n p = subst (λ r. (r ≡ n) ↔ ((holds w c n ≡ true) × ((m : ℕ) → m < n → holds w c m ≡ false))) (sym answer_refusal) (refusal_exact w c n p)

  -- and 0 exactly if none holds
  pub answer_none : (refused_by (perform w c).answer ≡ 0) ↔ ((m : ℕ) → holds w c m ≡ false)
  answer_none = subst (λ r. (r ≡ 0) ↔ ((m : ℕ) → holds w c m ≡ false)) (sym answer_refusal) (refusal_none w c)

-- THE CYCLES: an accepted entry answers those of the table
pub cycles_of_the_table : (w : World) (c : Call) → refusal w c ≡ 0 → is_entry c ≡ true → (perform w c).answer ≡ Cycles (cycles_of (in_exception (cpu_of w)) c) (events_of (perform w c).after.core)
unfolding begun restarted
cycles_of_the_table w c h e = subst (λ x. x.answer ≡ Cycles (cycles_of (in_exception (cpu_of w)) c) (events_of x.after.core)) (sym (accepted_runs w c h)) (run_cycles c (begun w) e)

-- ---- the interrupt call

module _ (w : World) (h : refusal w CheckAndServiceInterrupts ≡ 0) where
  abbrev X : Performed
  X = perform w CheckAndServiceInterrupts

  pub performed : X ≡ of_service (check_and_service (begun w))
  unfolding run
  performed = accepted_runs w CheckAndServiceInterrupts h

  -- the answer is a flag: whether the interrupt was taken
  pub service_answers : X.answer ≡ Flag (takes_interrupt (cpu_of w)) (events_of X.after.core)
  unfolding of_service flag begun restarted
  service_answers =
      subst (λ x. x.answer ≡ Flag (takes_interrupt (cpu_of w)) (events_of x.after.core)) (sym performed)
      (ap (λ b. Flag b (events_of (check_and_service (begun w)).after.core)) (answer_decides (begun w)))

  -- TAKEN EXACTLY if the level is 7 or exceeds the mask
  pub service_exactly : (value_of X.answer ≡ 1) ↔ Due (cpu_of w)
  unfolding value_of
  service_exactly = subst (λ a. (value_of a ≡ 1) ↔ Due (cpu_of w)) (sym service_answers) (λ e. (due_exactly (cpu_of w)).0 (one (takes_interrupt (cpu_of w)) e), λ e. ap bit ((due_exactly (cpu_of w)).1 e))
    where
      one : (b : Bool) → bit b ≡ 1 → b ≡ true
      one true e = refl
      one false e = absurd (omega arith)

  pub decided : (b : Bool) → value_of X.answer ≡ bit b → (check_and_service (begun w)).ok ≡ b
  unfolding value_of begun restarted
  decided b e = answer_decides (begun w) ∙ same (takes_interrupt (cpu_of w)) b (sym (ap value_of service_answers) ∙ e)
    where
      same : (x y : Bool) → bit x ≡ bit y → x ≡ y
      same true true e = refl
      same true false e = absurd (omega arith)
      same false true e = absurd (omega arith)
      same false false e = refl

  -- where it is not taken the world stays, with no event
  pub service_untaken : value_of X.answer ≡ 0 → X.after ≡ begun w
  unfolding of_service flag
  service_untaken e = subst (λ x. x.after ≡ begun w) (sym performed) (untaken_unchanged (begun w) (decided false e))

  -- where it is taken no level is pending after it, and `stopped` is 0
  pub service_taken : value_of X.answer ≡ 1 → ((cpu_of X.after).flags.int_level ≡ 0) × ((cpu_of X.after).flow.stopped ≡ 0)
  unfolding of_service flag
  service_taken e = subst (λ x. ((cpu_of x.after).flags.int_level ≡ 0) × ((cpu_of x.after).flow.stopped ≡ 0)) (sym performed) (taken_after (begun w) (decided true e))
