-- What a call answers: the cases with the numbers that paper 01 gives each, and record, store and log after a call beside it.
use Rattle.std.specs.Prelude.{ℕ, Bool}
use Rattle.numbers.specs.Numbers.{bit}
use Rattle.pending.specs.declared.trace.Traced.{Traced}
use Rattle.memory.specs.declared.Core.{Core}
use Rattle.memory.specs.World.{World, Attempt, with_cpu}
use Rattle.exceptions.specs.Exceptions.{Entry}
use Rattle.answers.specs.Answer.{Answer, Cycles, Flag, Value, Done, Refused}

-- the numbers that paper 01 gives an answer: of its refusal, 0 for none; its value; its events
unfoldable pub refused_by : Answer → ℕ
refused_by (Refused n) = n
refused_by (Cycles n e) = 0
refused_by (Flag b e) = 0
refused_by (Value n e) = 0
refused_by (Done e) = 0

unfoldable pub value_of : Answer → ℕ
value_of (Cycles n e) = n
value_of (Flag b e) = bit b
value_of (Value n e) = n
value_of (Done e) = 0
value_of (Refused n) = 0

unfoldable pub count_of : Answer → ℕ
count_of (Cycles n e) = e
count_of (Flag b e) = e
count_of (Value n e) = e
count_of (Done e) = e
count_of (Refused n) = 0

-- a world after a call, and the answer
pub record Performed : Type 0 where
  pub after : World
  pub answer : Answer

abbrev pub answered : World → Answer → Performed
answered w a = record { after = w; answer = a }

abbrev pub events_of : Core → ℕ
events_of m = m.bus.events

unfoldable pub cycles : World → ℕ → Performed
cycles w n = answered w (Cycles n (events_of w.core))

unfoldable pub flag : World → Bool → Performed
flag w b = answered w (Flag b (events_of w.core))

unfoldable pub plain : World → Performed
plain w = answered w (Done (events_of w.core))

unfoldable pub of_entry : Entry → Performed
of_entry x = cycles x.after x.cycles

unfoldable pub of_read : Attempt → Performed
of_read x = answered x.after (Value x.value (events_of x.after.core))

unfoldable pub of_service : Attempt → Performed
of_service x = flag x.after x.ok

unfoldable pub of_trace : World → Traced → Performed
of_trace w x = flag (with_cpu w x.cpu) x.trace
