-- Theorems about what specs/Adequate defines, and what rests on them.
use Rattle.std.specs.Prelude.{◌+◌, ◌*◌, ◌%◌, ◌≤◌, ◌≡◌, refl, ◌↔◌, true, false, length}
use Rattle.std.proofs.Common.{sym, ◌∙◌, subst, arith}
use Rattle.std.proofs.Math.Option.{some}
use Rattle.types.specs.Causes.{cause_number}
use Rattle.cpu.specs.Fields.{is_faulted}
use Rattle.memory.specs.World.{World, cpu_of}
use Rattle.exceptions.specs.Exceptions.{trap}
use Rattle.answers.specs.declared.Call.{Call}
use Rattle.answers.specs.declared.Call.TheVariants.{TakeException, Trap, TakeGroup2Exception, ExceptionChk, ExceptionZeroDivide, ExceptionPrivilege, ExceptionTrace, ExceptionAddressError, ExceptionBusError, TakeFpUnimp060, TakeFpDisabled060, TakeAlineException, TakeFlineException, TakeTrapException, TakeBkptException, TakeIllegalException, TriggerAddressError, TriggerBusError, CheckTrace, SetIrq, CheckInterrupts, CheckAndServiceInterrupts, Read16, Read32, Write16, Write32, Push16, Push32, PrefetchFirst, PrefetchSecond}
use Rattle.answers.specs.Matters.{matter_of}
use Rattle.answers.specs.Answers.{Performed, cycles, flag, of_entry, of_service}
use Rattle.calls.specs.Calls.{run, begun, refusal, perform}
use Rattle.forms.specs.Gist.{gist}
use Rattle.forms.specs.Plans.{Plan}
use Rattle.forms.specs.Tests.{Whole, clean_test}
use Rattle.forms.specs.Accepted.{accepted_store, accepted_log}
use Rattle.forms.specs.Forms.{plan_of, is_some, no_plan_lem, unless, only_if, begun_gist, plan_lent}
use Rattle.forms.specs.Quiet.{Booked, Quiet}
use Rattle.forms.specs.QuietEntries.{Placed}
use Rattle.forms.proofs.QuietEntries.{exc_book, rewound_book, group2_book, trace_book, fp_unimp_book, fp_disabled_book, address_book, bus_error_book}
use Rattle.forms.proofs.QuietInterrupts.{interrupt_book}
use Rattle.forms.specs.Adequate.{named, log_lent, start_book, placed_of, accepted_runs, verdict}

run_book : (w : World) (c : Call) (q : Plan) → plan_of w c ≡ some q → Placed (gist w) → Booked 60 true w → Booked 0 (clean_test (gist w) q) (run w c).after
unfolding plan_of run of_entry of_service cycles flag trap
run_book w (TakeException v) q e h p = let u = unless _ q _ e in named w (run w (TakeException v)).after q _ u.1 (exc_book w (gist w) refl h p v u.0)
run_book w (Trap n) q e h p = let u = unless _ q _ e in named w (run w (Trap n)).after q _ u.1 (exc_book w (gist w) refl h p (32 + n % 16) u.0)
run_book w (TakeGroup2Exception v) q e h p = named w (run w (TakeGroup2Exception v)).after q _ (is_some _ q e) (group2_book w (gist w) refl h p v)
run_book w ExceptionChk q e h p = named w (run w ExceptionChk).after q _ (is_some _ q e) (group2_book w (gist w) refl h p 6)
run_book w ExceptionZeroDivide q e h p = named w (run w ExceptionZeroDivide).after q _ (is_some _ q e) (group2_book w (gist w) refl h p 5)
run_book w ExceptionPrivilege q e h p = let u = unless _ q _ e in named w (run w ExceptionPrivilege).after q _ u.1 (exc_book w (gist w) refl h p 8 u.0)
run_book w ExceptionTrace q e h p = named w (run w ExceptionTrace).after q _ (is_some _ q e) (trace_book w (gist w) refl h p)
run_book w (ExceptionAddressError a write instruction) q e h p = named w (run w (ExceptionAddressError a write instruction)).after q _ (is_some _ q e) (address_book w (gist w) refl h p a write instruction)
run_book w (ExceptionBusError a write instruction z cause) q e h p = named w (run w (ExceptionBusError a write instruction z cause)).after q _ (is_some _ q e) (bus_error_book w (gist w) refl h p a write instruction z (cause_number cause))
run_book w (TakeFpUnimp060 ea) q e h p = named w (run w (TakeFpUnimp060 ea)).after q _ (is_some _ q e) (fp_unimp_book w (gist w) refl h p ea)
run_book w TakeFpDisabled060 q e h p = named w (run w TakeFpDisabled060).after q _ (is_some _ q e) (fp_disabled_book w (gist w) refl h p)
run_book w TakeAlineException q e h p = let u = unless _ q _ e in named w (run w TakeAlineException).after q _ u.1 (rewound_book w (gist w) refl h p 10 u.0)
run_book w TakeFlineException q e h p = let u = unless _ q _ e in named w (run w TakeFlineException).after q _ u.1 (rewound_book w (gist w) refl h p 11 u.0)
run_book w (TakeTrapException n) q e h p = let u = unless _ q _ e in named w (run w (TakeTrapException n)).after q _ u.1 (exc_book w (gist w) refl h p (32 + n % 16) u.0)
run_book w TakeBkptException q e h p = let u = unless _ q _ e in named w (run w TakeBkptException).after q _ u.1 (rewound_book w (gist w) refl h p 4 u.0)
run_book w TakeIllegalException q e h p = let u = unless _ q _ e in named w (run w TakeIllegalException).after q _ u.1 (rewound_book w (gist w) refl h p 4 u.0)
run_book w CheckAndServiceInterrupts q e h p = let u = only_if _ q _ e in named w (run w CheckAndServiceInterrupts).after q _ u.1 (interrupt_book w (gist w) refl u.0 h p)
run_book w (TriggerAddressError a write instruction) q e h p = no_plan_lem q e
run_book w (TriggerBusError a write instruction z) q e h p = no_plan_lem q e
run_book w CheckTrace q e h p = no_plan_lem q e
run_book w (SetIrq n) q e h p = no_plan_lem q e
run_book w CheckInterrupts q e h p = no_plan_lem q e
run_book w (Read16 a) q e h p = no_plan_lem q e
run_book w (Read32 a) q e h p = no_plan_lem q e
run_book w (Write16 a v) q e h p = no_plan_lem q e
run_book w (Write32 a v) q e h p = no_plan_lem q e
run_book w (Push16 v) q e h p = no_plan_lem q e
run_book w (Push32 v) q e h p = no_plan_lem q e
run_book w PrefetchFirst q e h p = no_plan_lem q e
run_book w PrefetchSecond q e h p = no_plan_lem q e

booked : (w : World) (c : Call) (p : Plan) → refusal w c ≡ 0 → plan_of (begun w) c ≡ some p → Whole (cpu_of w) → Booked 0 (clean_test (gist w) p) (perform w c).after
booked w c p r e h =
    let s : (matter_of c).store ≡ true = plan_lent (begun w) c p e in
    let l : 192 ≤ length w.log = accepted_log w c r (log_lent c ∙ s) in
    let g : Placed (gist (begun w)) = subst Placed (sym (begun_gist w)) (placed_of w h (accepted_store w c r s)) in
    subst (λ (x : Performed). Booked 0 (clean_test (gist w) p) x.after) (sym (accepted_runs w c r))
    (subst (λ (x : World). Booked 0 (clean_test x p) (run (begun w) c).after) (begun_gist w) (run_book (begun w) c p e g (start_book w h.running l)))

-- the test holds exactly if no event of the call has a code of 16 or more and the record comes out not faulted
pub adequate : (w : World) (c : Call) (p : Plan) → refusal w c ≡ 0 → plan_of (begun w) c ≡ some p → Whole (cpu_of w)
    → (clean_test (gist w) p ≡ true) ↔ (Quiet (perform w c).after × (is_faulted (cpu_of (perform w c).after) ≡ false))
adequate w c p r e h = verdict (clean_test (gist w) p) (perform w c).after (booked w c p r e h)

-- and where the record is not faulted, the log holds every event whole
pub adequate_room : (w : World) (c : Call) (p : Plan) → refusal w c ≡ 0 → plan_of (begun w) c ≡ some p → Whole (cpu_of w) → is_faulted (cpu_of (perform w c).after) ≡ false
    → (perform w c).after.core.bus.events * 3 ≤ length (perform w c).after.log
adequate_room w c p r e h f = let b = booked w c p r e h in let m = b.room f in let l = b.long f in omega arith
