-- What decides which numbers a call checks, what each call that is given something checks by it, and the numbers of the refusals.
use Rattle.std.specs.Prelude.{ℕ, Bool, true, false, Result, Ok, Err}
use Rattle.refusals.specs.declared.Given.{Given}
use Rattle.refusals.specs.declared.Given.TheVariants.{Record, Store, StoreAndLog, Vector, Interrupt, FloatingPoint}
use Rattle.refusals.specs.declared.Refusal.{Refusal}
use Rattle.refusals.specs.declared.Refusal.TheVariants as the

-- a store, a log; a vector, 0 where there is none; whether it is the interrupt call or a floating-point entry
pub record Matter : Type 0 where
  pub store : Bool
  pub log : Bool
  pub vector : ℕ
  pub interrupt : Bool
  pub floating : Bool

abbrev pub matter : Given → Matter
matter Record = record { store = false; log = false; vector = 0; interrupt = false; floating = false }
matter Store = record { store = true; log = false; vector = 0; interrupt = false; floating = false }
matter StoreAndLog = record { store = true; log = true; vector = 0; interrupt = false; floating = false }
matter (Vector v) = record { store = true; log = true; vector = v; interrupt = false; floating = false }
matter Interrupt = record { store = true; log = true; vector = 0; interrupt = true; floating = false }
matter FloatingPoint = record { store = true; log = true; vector = 0; interrupt = false; floating = true }

-- the number of a refusal, and of what may be one: 0 for none
abbrev pub number_of : Refusal → ℕ
number_of the.Flags = 1
number_of the.OddBase = 2
number_of the.Cycles = 3
number_of the.Code = 4
number_of the.Store = 5
number_of the.Windows = 6
number_of the.Log = 7
number_of the.Vector = 8
number_of the.Kind = 9
number_of the.Rows = 10
number_of the.User = 11
number_of the.Frame = 12
number_of the.Format = 13

abbrev pub refusal_number : {A : Type 0} → Result A Refusal → ℕ
refusal_number (Ok x) = 0
refusal_number (Err e) = number_of e
