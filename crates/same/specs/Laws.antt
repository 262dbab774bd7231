-- What an answer `false` takes, where the answer is true exactly if something holds: that it does not hold.
use Rattle.std.specs.Prelude.{Bool, true, false, ◌↔◌, ◌≡◌, refl, ℕ}
use Rattle.std.proofs.Common.{arith}

pub clash : {A : Type 0} (b : Bool) → b ≡ false → b ≡ true → A
clash b p q = let z : ◌≡◌ {A = ℕ} 0 1 = cc in absurd (omega arith)

pub differ : {P : Type 0} → (P → ⊥) → (false ≡ true) ↔ P
differ f = (λ e. clash false refl e, λ p. absurd (f p))
