-- The number of a refusal is not 0.
use Rattle.std.proofs.Common.{◌≡◌, ℕ, ◌==◌, true, false, refl, arith}
use Rattle.refusals.specs.declared.Refusal.{Refusal}
use Rattle.refusals.specs.declared.Refusal.TheVariants as the
use Rattle.refusals.specs.Matters.{number_of}

pub is_refused : (e : Refusal) → (number_of e == 0) ≡ false
is_refused the.Flags = refl
is_refused the.OddBase = refl
is_refused the.Cycles = refl
is_refused the.Code = refl
is_refused the.Store = refl
is_refused the.Windows = refl
is_refused the.Log = refl
is_refused the.Vector = refl
is_refused the.Kind = refl
is_refused the.Rows = refl
is_refused the.User = refl
is_refused the.Frame = refl
is_refused the.Format = refl

pub not_zero : (e : Refusal) → number_of e ≡ 0 → ⊥
not_zero e z = let q : true ≡ false = rw z at (is_refused e) in let y : ◌≡◌ {A = ℕ} 0 1 = cc in absurd (omega arith)
