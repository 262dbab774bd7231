-- Theorems about what specs/Forms defines, and what rests on them.
use Rattle.std.specs.Prelude.{◌+◌, ◌%◌, ◌≡◌, refl, true, []}
use Rattle.std.proofs.Common.{sym, ap, ◌∙◌, subst}
use Rattle.std.proofs.Math.Option.{some}
use Rattle.types.specs.Causes.{cause_number}
use Rattle.cpu.specs.Fields.{in_exception}
use Rattle.pending.specs.Interrupts.{takes_interrupt}
use Rattle.memory.specs.World.{World, cpu_of}
use Rattle.exceptions.specs.Exceptions.{trap}
use Rattle.answers.specs.declared.Call.{Call}
use Rattle.answers.specs.declared.Call.TheVariants.{TakeException, Trap, TakeGroup2Exception, ExceptionChk, ExceptionZeroDivide, ExceptionPrivilege, ExceptionTrace, ExceptionAddressError, ExceptionBusError, TakeFpUnimp060, TakeFpDisabled060, TakeAlineException, TakeFlineException, TakeTrapException, TakeBkptException, TakeIllegalException, TriggerAddressError, TriggerBusError, CheckTrace, SetIrq, CheckInterrupts, CheckAndServiceInterrupts, Read16, Read32, Write16, Write32, Push16, Push32, PrefetchFirst, PrefetchSecond}
use Rattle.answers.specs.Answers.{cycles, flag, of_entry, of_service}
use Rattle.calls.specs.Calls.{run, begun, refusal, perform}
use Rattle.forms.specs.Gist.{gist}
use Rattle.forms.specs.Kept.{Good, planned_good}
use Rattle.forms.specs.Tests.{Whole, clean_test}
use Rattle.forms.proofs.Tests.{clean_tested}
use Rattle.forms.specs.Accepted.{accepted_store}
use Rattle.forms.specs.Plans.{Plan, planned, Clean, exc_plan, rewound_plan, group2_plan, trace_plan, fp_unimp_plan, fp_disabled_plan, address_plan, bus_plan, interrupt_plan}
use Rattle.forms.specs.Entries.{exc_form, rewound_form, group2_form, trace_form, fp_unimp_form, fp_disabled_form, address_form, bus_form}
use Rattle.forms.proofs.Interrupts.{interrupt_form}
use Rattle.forms.specs.Forms.{plan_of, is_some, no_plan_lem, unless, only_if, by_name, begun_gist, SafePlan, exc_safe, rewound_safe, group_safe, trace_safe, unimp_safe, disabled_safe, address_safe, bus_safe, interrupt_safe, named_safe, plan_lent, gist_whole, gist_length, SteadyPlan, exc_steady, rewound_steady, group_steady, trace_steady, unimp_steady, disabled_steady, address_steady, bus_steady, interrupt_steady, named_steady, good_gist, gist_good, SameRoom, room_trans, planned_room, gist_room}

run_form : (w : World) (c : Call) (p : Plan) → plan_of w c ≡ some p → Clean (gist w) p → gist (run w c).after ≡ planned (gist w) p
unfolding plan_of run of_entry of_service cycles flag trap
run_form w (TakeException v) p e = let u = unless _ p _ e in by_name w _ p _ u.1 (exc_form w (gist w) v refl u.0)
run_form w (Trap n) p e = let u = unless _ p _ e in by_name w _ p _ u.1 (exc_form w (gist w) (32 + n % 16) refl u.0)
run_form w (TakeGroup2Exception v) p e = by_name w _ p _ (is_some _ p e) (group2_form w (gist w) v refl)
run_form w ExceptionChk p e = by_name w _ p _ (is_some _ p e) (group2_form w (gist w) 6 refl)
run_form w ExceptionZeroDivide p e = by_name w _ p _ (is_some _ p e) (group2_form w (gist w) 5 refl)
run_form w ExceptionPrivilege p e = let u = unless _ p _ e in by_name w _ p _ u.1 (exc_form w (gist w) 8 refl u.0)
run_form w ExceptionTrace p e = by_name w _ p _ (is_some _ p e) (trace_form w (gist w) refl)
run_form w (ExceptionAddressError a write instruction) p e = by_name w _ p _ (is_some _ p e) (address_form w (gist w) a write instruction refl)
run_form w (ExceptionBusError a write instruction z cause) p e = by_name w _ p _ (is_some _ p e) (bus_form w (gist w) a write instruction z (cause_number cause) refl)
run_form w (TakeFpUnimp060 ea) p e = by_name w _ p _ (is_some _ p e) (fp_unimp_form w (gist w) ea refl)
run_form w TakeFpDisabled060 p e = by_name w _ p _ (is_some _ p e) (fp_disabled_form w (gist w) refl)
run_form w TakeAlineException p e = let u = unless _ p _ e in by_name w _ p _ u.1 (rewound_form w (gist w) 10 refl u.0)
run_form w TakeFlineException p e = let u = unless _ p _ e in by_name w _ p _ u.1 (rewound_form w (gist w) 11 refl u.0)
run_form w (TakeTrapException n) p e = let u = unless _ p _ e in by_name w _ p _ u.1 (exc_form w (gist w) (32 + n % 16) refl u.0)
run_form w TakeBkptException p e = let u = unless _ p _ e in by_name w _ p _ u.1 (rewound_form w (gist w) 4 refl u.0)
run_form w TakeIllegalException p e = let u = unless _ p _ e in by_name w _ p _ u.1 (rewound_form w (gist w) 4 refl u.0)
run_form w CheckAndServiceInterrupts p e = let u = only_if _ p _ e in by_name w _ p _ u.1 (interrupt_form w (gist w) refl u.0)
run_form w (TriggerAddressError a write instruction) p e = no_plan_lem p e
run_form w (TriggerBusError a write instruction z) p e = no_plan_lem p e
run_form w CheckTrace p e = no_plan_lem p e
run_form w (SetIrq n) p e = no_plan_lem p e
run_form w CheckInterrupts p e = no_plan_lem p e
run_form w (Read16 a) p e = no_plan_lem p e
run_form w (Read32 a) p e = no_plan_lem p e
run_form w (Write16 a v) p e = no_plan_lem p e
run_form w (Write32 a v) p e = no_plan_lem p e
run_form w (Push16 v) p e = no_plan_lem p e
run_form w (Push32 v) p e = no_plan_lem p e
run_form w PrefetchFirst p e = no_plan_lem p e
run_form w PrefetchSecond p e = no_plan_lem p e

-- THE FORM: a direct entry that is accepted and taken, and whose accesses are all served and raise no address error, leaves what its
-- plan says
pub entry_form : (w : World) (c : Call) (p : Plan) → refusal w c ≡ 0 → plan_of (begun w) c ≡ some p → Clean (gist w) p → gist (perform w c).after ≡ planned (gist w) p
unfolding perform
entry_form w c p r e h = rw r (run_form (begun w) c p e (rw (begun_gist w) h) ∙ ap (λ (x : World). planned x p) (begun_gist w))

plan_safe : (w : World) (c : Call) (p : Plan) → plan_of w c ≡ some p → SafePlan p
unfolding plan_of interrupt_plan
plan_safe w (TakeException v) p e = named_safe p _ (unless (in_exception (cpu_of w)) p (exc_plan (cpu_of w) v) e).1 (exc_safe (cpu_of w) v)
plan_safe w (Trap n) p e = named_safe p _ (unless (in_exception (cpu_of w)) p (exc_plan (cpu_of w) (32 + n % 16)) e).1 (exc_safe (cpu_of w) (32 + n % 16))
plan_safe w ExceptionPrivilege p e = named_safe p _ (unless (in_exception (cpu_of w)) p (exc_plan (cpu_of w) 8) e).1 (exc_safe (cpu_of w) 8)
plan_safe w (TakeTrapException n) p e = named_safe p _ (unless (in_exception (cpu_of w)) p (exc_plan (cpu_of w) (32 + n % 16)) e).1 (exc_safe (cpu_of w) (32 + n % 16))
plan_safe w TakeAlineException p e = named_safe p _ (unless (in_exception (cpu_of w)) p (rewound_plan (cpu_of w) 10) e).1 (rewound_safe (cpu_of w) 10)
plan_safe w TakeFlineException p e = named_safe p _ (unless (in_exception (cpu_of w)) p (rewound_plan (cpu_of w) 11) e).1 (rewound_safe (cpu_of w) 11)
plan_safe w TakeBkptException p e = named_safe p _ (unless (in_exception (cpu_of w)) p (rewound_plan (cpu_of w) 4) e).1 (rewound_safe (cpu_of w) 4)
plan_safe w TakeIllegalException p e = named_safe p _ (unless (in_exception (cpu_of w)) p (rewound_plan (cpu_of w) 4) e).1 (rewound_safe (cpu_of w) 4)
plan_safe w (TakeGroup2Exception v) p e = named_safe p _ (is_some (group2_plan (cpu_of w) v) p e) (group_safe (cpu_of w) v)
plan_safe w ExceptionChk p e = named_safe p _ (is_some (group2_plan (cpu_of w) 6) p e) (group_safe (cpu_of w) 6)
plan_safe w ExceptionZeroDivide p e = named_safe p _ (is_some (group2_plan (cpu_of w) 5) p e) (group_safe (cpu_of w) 5)
plan_safe w ExceptionTrace p e = named_safe p _ (is_some (trace_plan (cpu_of w)) p e) (trace_safe (cpu_of w))
plan_safe w (ExceptionAddressError a write instruction) p e = named_safe p _ (is_some (address_plan (cpu_of w) a write instruction) p e) (address_safe (cpu_of w) a write instruction)
plan_safe w (ExceptionBusError a write instruction z cause) p e = named_safe p _ (is_some (bus_plan (cpu_of w) a write instruction z (cause_number cause)) p e) (bus_safe (cpu_of w) a write instruction z (cause_number cause))
plan_safe w (TakeFpUnimp060 ea) p e = named_safe p _ (is_some (fp_unimp_plan (cpu_of w) ea) p e) (unimp_safe (cpu_of w) ea)
plan_safe w TakeFpDisabled060 p e = named_safe p _ (is_some (fp_disabled_plan (cpu_of w)) p e) (disabled_safe (cpu_of w))
plan_safe w CheckAndServiceInterrupts p e = named_safe p _ (only_if (takes_interrupt (cpu_of w)) p (interrupt_plan (cpu_of w) w.core.bus) e).1 (interrupt_safe _ _ _ _ _ _)
plan_safe w (TriggerAddressError a write instruction) p e = no_plan_lem p e
plan_safe w (TriggerBusError a write instruction z) p e = no_plan_lem p e
plan_safe w CheckTrace p e = no_plan_lem p e
plan_safe w (SetIrq n) p e = no_plan_lem p e
plan_safe w CheckInterrupts p e = no_plan_lem p e
plan_safe w (Read16 a) p e = no_plan_lem p e
plan_safe w (Read32 a) p e = no_plan_lem p e
plan_safe w (Write16 a v) p e = no_plan_lem p e
plan_safe w (Write32 a v) p e = no_plan_lem p e
plan_safe w (Push16 v) p e = no_plan_lem p e
plan_safe w (Push32 v) p e = no_plan_lem p e
plan_safe w PrefetchFirst p e = no_plan_lem p e
plan_safe w PrefetchSecond p e = no_plan_lem p e

-- an accepted entry taken, from a record of the domain: the closed test gives the premise
pub entry_clean : (w : World) (c : Call) (p : Plan) → refusal w c ≡ 0 → plan_of (begun w) c ≡ some p → Whole (cpu_of w) → clean_test (gist w) p ≡ true → Clean (gist w) p
entry_clean w c p r e h t =
    let s = plan_safe (begun w) c p e in
    clean_tested (gist w) p (gist_whole w h) (rw (gist_length w) (accepted_store w c r (plan_lent (begun w) c p e))) s.0 s.1 t

-- THE FORM, by the closed test
pub entry_tested : (w : World) (c : Call) (p : Plan) → refusal w c ≡ 0 → plan_of (begun w) c ≡ some p → Whole (cpu_of w) → clean_test (gist w) p ≡ true → gist (perform w c).after ≡ planned (gist w) p
entry_tested w c p r e h t = entry_form w c p r e (entry_clean w c p r e h t)

plan_steady : (w : World) (c : Call) (p : Plan) → plan_of w c ≡ some p → SteadyPlan p
unfolding plan_of interrupt_plan
plan_steady w (TakeException v) p e = named_steady p _ (unless (in_exception (cpu_of w)) p (exc_plan (cpu_of w) v) e).1 (exc_steady (cpu_of w) v)
plan_steady w (Trap n) p e = named_steady p _ (unless (in_exception (cpu_of w)) p (exc_plan (cpu_of w) (32 + n % 16)) e).1 (exc_steady (cpu_of w) (32 + n % 16))
plan_steady w ExceptionPrivilege p e = named_steady p _ (unless (in_exception (cpu_of w)) p (exc_plan (cpu_of w) 8) e).1 (exc_steady (cpu_of w) 8)
plan_steady w (TakeTrapException n) p e = named_steady p _ (unless (in_exception (cpu_of w)) p (exc_plan (cpu_of w) (32 + n % 16)) e).1 (exc_steady (cpu_of w) (32 + n % 16))
plan_steady w TakeAlineException p e = named_steady p _ (unless (in_exception (cpu_of w)) p (rewound_plan (cpu_of w) 10) e).1 (rewound_steady (cpu_of w) 10)
plan_steady w TakeFlineException p e = named_steady p _ (unless (in_exception (cpu_of w)) p (rewound_plan (cpu_of w) 11) e).1 (rewound_steady (cpu_of w) 11)
plan_steady w TakeBkptException p e = named_steady p _ (unless (in_exception (cpu_of w)) p (rewound_plan (cpu_of w) 4) e).1 (rewound_steady (cpu_of w) 4)
plan_steady w TakeIllegalException p e = named_steady p _ (unless (in_exception (cpu_of w)) p (rewound_plan (cpu_of w) 4) e).1 (rewound_steady (cpu_of w) 4)
plan_steady w (TakeGroup2Exception v) p e = named_steady p _ (is_some (group2_plan (cpu_of w) v) p e) (group_steady (cpu_of w) v)
plan_steady w ExceptionChk p e = named_steady p _ (is_some (group2_plan (cpu_of w) 6) p e) (group_steady (cpu_of w) 6)
plan_steady w ExceptionZeroDivide p e = named_steady p _ (is_some (group2_plan (cpu_of w) 5) p e) (group_steady (cpu_of w) 5)
plan_steady w ExceptionTrace p e = named_steady p _ (is_some (trace_plan (cpu_of w)) p e) (trace_steady (cpu_of w))
plan_steady w (ExceptionAddressError a write instruction) p e = named_steady p _ (is_some (address_plan (cpu_of w) a write instruction) p e) (address_steady (cpu_of w) a write instruction)
plan_steady w (ExceptionBusError a write instruction z cause) p e = named_steady p _ (is_some (bus_plan (cpu_of w) a write instruction z (cause_number cause)) p e) (bus_steady (cpu_of w) a write instruction z (cause_number cause))
plan_steady w (TakeFpUnimp060 ea) p e = named_steady p _ (is_some (fp_unimp_plan (cpu_of w) ea) p e) (unimp_steady (cpu_of w) ea)
plan_steady w TakeFpDisabled060 p e = named_steady p _ (is_some (fp_disabled_plan (cpu_of w)) p e) (disabled_steady (cpu_of w))
plan_steady w CheckAndServiceInterrupts p e = named_steady p _ (only_if (takes_interrupt (cpu_of w)) p (interrupt_plan (cpu_of w) w.core.bus) e).1 (interrupt_steady _ _ _ _ _ _)
plan_steady w (TriggerAddressError a write instruction) p e = no_plan_lem p e
plan_steady w (TriggerBusError a write instruction z) p e = no_plan_lem p e
plan_steady w CheckTrace p e = no_plan_lem p e
plan_steady w (SetIrq n) p e = no_plan_lem p e
plan_steady w CheckInterrupts p e = no_plan_lem p e
plan_steady w (Read16 a) p e = no_plan_lem p e
plan_steady w (Read32 a) p e = no_plan_lem p e
plan_steady w (Write16 a v) p e = no_plan_lem p e
plan_steady w (Write32 a v) p e = no_plan_lem p e
plan_steady w (Push16 v) p e = no_plan_lem p e
plan_steady w (Push32 v) p e = no_plan_lem p e
plan_steady w PrefetchFirst p e = no_plan_lem p e
plan_steady w PrefetchSecond p e = no_plan_lem p e

-- numbers 1, 2, 4 and 9 accept the record that an entry leaves, and its lengths and ranges are those of the domain
pub entry_good : (w : World) (c : Call) (p : Plan) → refusal w c ≡ 0 → plan_of (begun w) c ≡ some p → Clean (gist w) p → Good (cpu_of w) → Good (cpu_of (perform w c).after)
entry_good w c p r e cl h =
    let s = plan_steady (begun w) c p e in
    gist_good (perform w c).after (subst (λ (z : World). Good (cpu_of z)) (sym (entry_form w c p r e cl)) (planned_good (gist w) p s.pushes s.settle s.close (good_gist w h)))

pub entry_room : (w : World) (c : Call) (p : Plan) → refusal w c ≡ 0 → plan_of (begun w) c ≡ some p → Clean (gist w) p → SameRoom w (perform w c).after
entry_room w c p r e cl =
    let q = room_trans (gist_room w) (subst (λ (z : World). SameRoom (gist w) z) (sym (entry_form w c p r e cl)) (planned_room (gist w) p)) in
    let g = gist_room (perform w c).after in
    record { bus = sym g.bus ∙ q.bus; size = sym g.size ∙ q.size }
