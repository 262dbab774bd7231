-- The calls by number, for the C boundary: which call of `calls` each number is, and its answer in numbers. Numbers and arguments
-- are those of the case format.
use Rattle.std.specs.Prelude.{ℕ, ◌%◌, eqb, List, [], ◌∷◌, Option, Some, None}
use Rattle.answers.specs.declared.Call.{Call}
use Rattle.types.specs.Kinds.{pick}
use Rattle.types.specs.Causes.{cause_of}
use Rattle.memory.specs.World.{World}
use Rattle.answers.specs.declared.Call.TheVariants.{TakeException, Trap, TakeGroup2Exception, ExceptionChk, ExceptionZeroDivide, ExceptionPrivilege, ExceptionTrace, ExceptionAddressError, ExceptionBusError, TakeFpUnimp060, TakeFpDisabled060, TakeAlineException, TakeFlineException, TakeTrapException, TakeBkptException, TakeIllegalException, TriggerAddressError, TriggerBusError, CheckTrace, SetIrq, CheckInterrupts, CheckAndServiceInterrupts, Read16, Read32, Write16, Write32, Push16, Push32, PrefetchFirst, PrefetchSecond}
use Rattle.answers.specs.Answers.{Performed, refused_by, value_of, count_of}
use Rattle.calls.specs.Calls.{perform}
use Rattle.numbers.specs.declared.RawCall.{RawCall}
use Rattle.numbers.specs.Numbers.{flag}

-- a world after a call; the number of a refusal or 0; the answer; the events
pub record Outcome : Type 0 where
  pub after : World
  pub refused : ℕ
  pub answer : ℕ
  pub events : ℕ

abbrev pub outcome : World → ℕ → ℕ → ℕ → Outcome
outcome w n a e = record { after = w; refused = n; answer = a; events = e }

-- a row of the table: a number and its call
pub record Row : Type 0 where
  pub number : ℕ
  pub call : Call

abbrev pub is : ℕ → Call → Row
is n x = record { number = n; call = x }

-- the call of a number, or none
abbrev pub find : ℕ → List Row → Option Call
find n [] = None
find n (x ∷ xs) = pick (eqb n x.number) (Some x.call) (find n xs)

-- the numbers of the case format
abbrev pub calls_of : RawCall → List Row
calls_of c =
    is 1 (TakeException c.a)
    ∷ is 2 (Trap (c.a % 256))
    ∷ is 3 (TakeGroup2Exception c.a)
    ∷ is 4 ExceptionChk
    ∷ is 5 ExceptionZeroDivide
    ∷ is 6 ExceptionPrivilege
    ∷ is 7 ExceptionTrace
    ∷ is 8 (ExceptionAddressError c.a (flag c.b) (flag c.c))
    ∷ is 9 (ExceptionBusError c.a (flag c.b) (flag c.c) c.d (cause_of (c.e % 256)))
    ∷ is 10 (TakeFpUnimp060 c.a)
    ∷ is 11 TakeFpDisabled060
    ∷ is 12 TakeAlineException
    ∷ is 13 TakeFlineException
    ∷ is 14 (TakeTrapException (c.a % 256))
    ∷ is 15 TakeBkptException
    ∷ is 16 TakeIllegalException
    ∷ is 17 (TriggerAddressError c.a (flag c.b) (flag c.c))
    ∷ is 18 (TriggerBusError c.a (flag c.b) (flag c.c) c.d)
    ∷ is 19 CheckTrace
    ∷ is 20 (SetIrq (c.a % 256))
    ∷ is 21 CheckInterrupts
    ∷ is 22 CheckAndServiceInterrupts
    ∷ is 23 (Read16 c.a)
    ∷ is 24 (Read32 c.a)
    ∷ is 25 (Write16 c.a (c.b % 0x10000))
    ∷ is 26 (Write32 c.a c.b)
    ∷ is 27 (Push16 (c.a % 0x10000))
    ∷ is 28 (Push32 c.a)
    ∷ is 29 PrefetchFirst
    ∷ is 30 PrefetchSecond
    ∷ []

unfoldable pub decode : RawCall → Option Call
decode c = find c.number (calls_of c)

-- the public call, its answer in numbers; 99 where the number names no call
unfoldable pub of_performed : Performed → Outcome
of_performed x = outcome x.after (refused_by x.answer) (value_of x.answer) (count_of x.answer)

unfoldable pub raw_of : World → Option Call → Outcome
raw_of w (Some c) = of_performed (perform w c)
raw_of w None = outcome w 99 0 0

unfoldable pub raw_call : World → RawCall → Outcome
raw_call w c = raw_of w (decode c)
