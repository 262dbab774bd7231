-- An answer as the definitions speak of it: one of the cases with the number of its events, or the number of a refusal; and what the
-- code answers, so read.
use Rattle.std.specs.Prelude.{ℕ, Bool, Result, Ok, Err}
use Rattle.refusals.specs.declared.Refusal.{Refusal}
use Rattle.refusals.specs.Matters.{number_of}
use Rattle.answers.specs.declared.Answer.{Answer as Code}
use Rattle.answers.specs.declared.Answer.TheVariants as code

pub data Answer : Type 0 where
  Cycles : (n e : ℕ) → Answer
  Flag : (b : Bool) (e : ℕ) → Answer
  Value : (n e : ℕ) → Answer
  Done : (e : ℕ) → Answer
  Refused : (n : ℕ) → Answer

abbrev pub said : Result Code Refusal → Answer
said (Ok (code.Cycles n e)) = Cycles n e
said (Ok (code.Flag b e)) = Flag b e
said (Ok (code.Value n e)) = Value n e
said (Ok (code.Done e)) = Done e
said (Err r) = Refused (number_of r)
