-- THE CLOSED TEST IS EXACT: for every direct entry that is accepted and taken, `clean_test` holds exactly if no event of the call has a
-- code of 16 or more and the record comes out not faulted.
use Rattle.std.specs.Prelude.{◌+◌, ◌≤◌, ◌≡◌, refl, ◌↔◌, Bool, true, false, length}
use Rattle.std.proofs.Common.{subst, arith}
use Rattle.cpu.specs.Fields.{is_faulted}
use Rattle.cpu.specs.Clocks.{has_clocks}
use Rattle.memory.specs.World.{World, cpu_of}
use Rattle.answers.specs.declared.Call.{Call}
use Rattle.answers.specs.declared.Call.TheVariants.{TakeException, Trap, TakeGroup2Exception, ExceptionChk, ExceptionZeroDivide, ExceptionPrivilege, ExceptionTrace, ExceptionAddressError, ExceptionBusError, TakeFpUnimp060, TakeFpDisabled060, TakeAlineException, TakeFlineException, TakeTrapException, TakeBkptException, TakeIllegalException, TriggerAddressError, TriggerBusError, CheckTrace, SetIrq, CheckInterrupts, CheckAndServiceInterrupts, Read16, Read32, Write16, Write32, Push16, Push32, PrefetchFirst, PrefetchSecond}
use Rattle.answers.specs.Matters.{matter_of}
use Rattle.calls.specs.Calls.{restarted, run, begun, refusal, perform}
use Rattle.bounds.specs.Ledger.{one}
use Rattle.bounds.specs.Levels.{clash}
use Rattle.images.specs.Images.{most_store}
use Rattle.forms.specs.Gist.{gist}
use Rattle.forms.specs.Plans.{Plan}
use Rattle.forms.specs.Tests.{Whole, clean_test}
use Rattle.forms.specs.Forms.{gist_whole, gist_length}
use Rattle.forms.specs.Quiet.{Booked, Loud, Quiet}
use Rattle.forms.specs.QuietEntries.{Placed}

-- ---- every call

-- what a plan says, by another name of it
pub named : (w z : World) (p q : Plan) → q ≡ p → Booked 0 (clean_test (gist w) q) z → Booked 0 (clean_test (gist w) p) z
named w z p q e b = subst (λ (r : Plan). Booked 0 (clean_test (gist w) r) z) e b

-- ---- the start of a call

-- who is lent a store is lent a log
pub log_lent : (c : Call) → (matter_of c).log ≡ (matter_of c).store
unfolding matter_of
log_lent (TakeException v) = refl
log_lent (Trap n) = refl
log_lent (TakeGroup2Exception v) = refl
log_lent ExceptionChk = refl
log_lent ExceptionZeroDivide = refl
log_lent ExceptionPrivilege = refl
log_lent ExceptionTrace = refl
log_lent (ExceptionAddressError a write instruction) = refl
log_lent (ExceptionBusError a write instruction z cause) = refl
log_lent (TakeFpUnimp060 ea) = refl
log_lent TakeFpDisabled060 = refl
log_lent TakeAlineException = refl
log_lent TakeFlineException = refl
log_lent (TakeTrapException n) = refl
log_lent TakeBkptException = refl
log_lent TakeIllegalException = refl
log_lent CheckAndServiceInterrupts = refl
log_lent (TriggerAddressError a write instruction) = refl
log_lent (TriggerBusError a write instruction z) = refl
log_lent CheckTrace = refl
log_lent (SetIrq n) = refl
log_lent CheckInterrupts = refl
log_lent (Read16 a) = refl
log_lent (Read32 a) = refl
log_lent (Write16 a v) = refl
log_lent (Write32 a v) = refl
log_lent (Push16 v) = refl
log_lent (Push32 v) = refl
log_lent PrefetchFirst = refl
log_lent PrefetchSecond = refl

-- no event, at most one sync waits, and 60 more have room
pub start_book : (w : World) → is_faulted (cpu_of w) ≡ false → 192 ≤ length w.log → Booked 60 true (begun w)
unfolding begun restarted
start_book w h l =
    record { runs = λ e. h; good = λ e i n. absurd (omega arith); bad = λ e. clash {b = true} refl e; room = λ f. most (has_clocks (cpu_of w)); long = λ f. l }
  where
    most : (b : Bool) → 0 + one b + 60 ≤ 64
    most true = omega arith
    most false = omega arith

pub placed_of : (w : World) → Whole (cpu_of w) → length w.store ≤ most_store → Placed (gist w)
placed_of w h l = record { whole = gist_whole w h; small = rw (gist_length w) l }

pub accepted_runs : (w : World) (c : Call) → refusal w c ≡ 0 → perform w c ≡ run (begun w) c
unfolding perform
accepted_runs w c r = rw r

-- ---- adequacy

pub verdict : (d : Bool) (z : World) → Booked 0 d z → (d ≡ true) ↔ (Quiet z × (is_faulted (cpu_of z) ≡ false))
verdict true z b = (λ t. (b.good refl, b.runs refl), λ q. refl)
verdict false z b = (λ t. clash {b = false} t refl, λ q. absurd (never (b.bad refl q.1) q.0))
  where
    never : Loud z.core.bus.events z.log → Quiet z → ⊥
    never l q = let a = q l.at l.below in let c = l.code in omega arith
