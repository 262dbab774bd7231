-- The sizes of the status words, as so many units each.
use Rattle.std.specs.Prelude.{◌≡◌, refl, ℕ, zero, suc, ◌*◌, nat_le}
use Rattle.std.proofs.Common.{arith, ne_eqb}
use Rattle.std.proofs.lemmas.Bool.{lt-leb}
use Rattle.types.specs.Kinds.{pick}
use Rattle.frames.specs.Codes.{size020, size040, size060}

pub sizes_020 : (z : ℕ) → pick (nat_le z 3) (z * 16) 0 ≡ size020 z
unfolding size020
sizes_020 zero = refl
sizes_020 (suc zero) = refl
sizes_020 (suc (suc zero)) = refl
sizes_020 (suc (suc (suc zero))) = refl
sizes_020 (suc (suc (suc (suc z)))) = simp (lt-leb (suc (suc (suc (suc z)))) 3 (omega arith), ne_eqb (suc (suc (suc (suc z)))) 1 (λ e. omega arith), ne_eqb (suc (suc (suc (suc z)))) 2 (λ e. omega arith), ne_eqb (suc (suc (suc (suc z)))) 3 (λ e. omega arith))

pub sizes_040 : (z : ℕ) → pick (nat_le z 2) (z * 32) 0 ≡ size040 z
unfolding size040
sizes_040 zero = refl
sizes_040 (suc zero) = refl
sizes_040 (suc (suc zero)) = refl
sizes_040 (suc (suc (suc z))) = simp (lt-leb (suc (suc (suc z))) 2 (omega arith), ne_eqb (suc (suc (suc z))) 1 (λ e. omega arith), ne_eqb (suc (suc (suc z))) 2 (λ e. omega arith))

pub sizes_060 : (z : ℕ) → pick (nat_le z 2) (z * 0x200000) 0 ≡ size060 z
unfolding size060
sizes_060 zero = refl
sizes_060 (suc zero) = refl
sizes_060 (suc (suc zero)) = refl
sizes_060 (suc (suc (suc z))) = simp (lt-leb (suc (suc (suc z))) 2 (omega arith), ne_eqb (suc (suc (suc z))) 1 (λ e. omega arith), ne_eqb (suc (suc (suc z))) 2 (λ e. omega arith))
