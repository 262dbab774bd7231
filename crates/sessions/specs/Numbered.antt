-- The acting calls by number, as a session makes them: what one prints by its answer in numbers, and that this is what `entered` says.
use Rattle.std.specs.Prelude.{ℕ, ◌%◌, ◌<◌, ◌≡◌, refl, Bool, true, false, List, eqb}
use Rattle.std.proofs.Common.{ap, arith}
use Rattle.types.specs.Kinds.{pick}
use Rattle.memory.specs.declared.Core.{Core}
use Rattle.memory.specs.World.{World}
use Rattle.answers.specs.declared.Call.{Call}
use Rattle.answers.specs.declared.Call.TheVariants.{TakeException, Trap, SetIrq, CheckAndServiceInterrupts}
use Rattle.answers.specs.Answer.{Refused}
use Rattle.numbers.specs.Numbers.{bit, flag}
use Rattle.answers.specs.Answers.{Performed, answered, refused_by, value_of, cycles, flag as flagged, of_entry, of_service}
use Rattle.calls.specs.Calls.{run, begun, refusal, perform}
use Rattle.numbers.specs.declared.RawCall.{RawCall}
use Rattle.boundary.specs.Calls.{decode, of_performed, raw_of, raw_call}
use Rattle.prints.specs.Prints.{refused_line}
use Rattle.sessions.specs.Sessions.{Session, say, state_of, charge_of, answer_told, entered}

-- a call by number with one argument
abbrev pub numbered : ℕ → ℕ → RawCall
numbered n a = record { number = n; a = a; b = 0; c = 0; d = 0; e = 0 }

-- the cycles that are printed: those that are answered, and for the interrupt call, which answers 1 or 0, those that it takes
unfoldable pub cycles_of : Core → ℕ → ℕ → ℕ
cycles_of m number answer = pick (eqb number 22) (charge_of m (flag answer)) answer

-- the line of an acting command, or of the number that refuses it
unfoldable pub told : Core → ℕ → ℕ → List ℕ
told m refused n = pick (eqb refused 0) (state_of m n) (refused_line refused)

unfoldable pub entered_by : Session → RawCall → Session
entered_by s c =
    say s (raw_call s.after c).after
    (told (raw_call s.after c).after.core (raw_call s.after c).refused
    (cycles_of (raw_call s.after c).after.core c.number (raw_call s.after c).answer))

-- the numbers of the calls
pub raw_exc : (w : World) (v : ℕ) → raw_call w (numbered 1 v) ≡ of_performed (perform w (TakeException v))
unfolding raw_call raw_of decode
raw_exc w v = refl

pub raw_trap : (w : World) (n : ℕ) → n < 256 → raw_call w (numbered 2 n) ≡ of_performed (perform w (Trap n))
unfolding raw_call raw_of decode
raw_trap w n h = let e : n % 256 ≡ n = omega arith in ap (λ (k : ℕ). of_performed (perform w (Trap k))) e

pub raw_level : (w : World) (n : ℕ) → n < 256 → raw_call w (numbered 20 n) ≡ of_performed (perform w (SetIrq n))
unfolding raw_call raw_of decode
raw_level w n h = let e : n % 256 ≡ n = omega arith in ap (λ (k : ℕ). of_performed (perform w (SetIrq k))) e

pub raw_service : (w : World) → raw_call w (numbered 22 0) ≡ of_performed (perform w CheckAndServiceInterrupts)
unfolding raw_call raw_of decode
raw_service w = refl

-- a call whose numbers print what its answer prints
unfoldable pub Tells : ℕ → Performed → Type 0
Tells n x = told x.after.core (refused_by x.answer) (cycles_of x.after.core n (value_of x.answer)) ≡ answer_told x.after.core x.answer

tells_refused : (n k : ℕ) (w : World) → eqb k 0 ≡ false → Tells n (answered w (Refused k))
unfolding Tells told refused_by answer_told
tells_refused n k w e = rw e

pub performed_tells : (n : ℕ) (w : World) (c : Call) → Tells n (run (begun w) c) → Tells n (perform w c)
unfolding perform
performed_tells n w c h = go (eqb (refusal w c) 0) refl
  where
    go : (b : Bool) → eqb (refusal w c) 0 ≡ b → Tells n (pick (eqb (refusal w c) 0) (run (begun w) c) (answered w (Refused (refusal w c))))
    go true e = rw e h
    go false e = rw e (tells_refused n (refusal w c) w e)

pub exc_tells : (w : World) (v : ℕ) → Tells 1 (run w (TakeException v))
unfolding Tells run of_entry cycles told cycles_of refused_by value_of answer_told state_of
exc_tells w v = refl

pub trap_tells : (w : World) (n : ℕ) → Tells 2 (run w (Trap n))
unfolding Tells run of_entry cycles told cycles_of refused_by value_of answer_told state_of
trap_tells w n = refl

flag_bit : (b : Bool) → flag (bit b) ≡ b
unfolding flag
flag_bit true = refl
flag_bit false = refl

pub service_tells : (w : World) → Tells 22 (run w CheckAndServiceInterrupts)
unfolding Tells run of_service flagged told cycles_of refused_by value_of answer_told state_of
service_tells w = rw flag_bit

pub by_number_lem : (s : Session) (r : RawCall) (c : Call) → raw_call s.after r ≡ of_performed (perform s.after c) → Tells r.number (perform s.after c) → entered_by s r ≡ entered s c
unfolding entered_by entered of_performed Tells
by_number_lem s r c e h = rw e (ap (λ (bs : List ℕ). say s (perform s.after c).after bs) h)
