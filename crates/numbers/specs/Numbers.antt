-- Flags as numbers and back, and the calls by number that have an export of their own.
use Rattle.std.specs.Prelude.{ℕ, Bool, not, eqb}
use Rattle.types.specs.Kinds.{pick}
use Rattle.numbers.specs.declared.RawCall.{RawCall}

-- a flag is any number but 0
unfoldable pub flag : ℕ → Bool
flag n = not (eqb n 0)

-- and is told as 1 or 0
abbrev pub bit : Bool → ℕ
bit b = pick b 1 0

-- the calls that have an export of their own: `take_exception` by vector v, and the interrupt call
abbrev pub exception_call : ℕ → RawCall
exception_call v = record { number = 1; a = v; b = 0; c = 0; d = 0; e = 0 }

abbrev pub interrupt_call : RawCall
interrupt_call = record { number = 22; a = 0; b = 0; c = 0; d = 0; e = 0 }
