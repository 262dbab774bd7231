-- Theorems about what specs/Worked defines, and what rests on them.
use Rattle.std.specs.Prelude.{ℕ, ◌<◌, ◌≤◌, ◌≡◌, [], ◌∷◌}
use Rattle.std.proofs.Common.{sym, subst, arith}
use Rattle.std.proofs.Math.Option.{none, some}
use Rattle.nest.specs.Nest.{rows, restored, Premises, Told}
use Rattle.rule3.specs.Rule3.{Real, walk}
use Rattle.rule3.proofs.Rule3.{rule3}
use Rattle.rule3.specs.Checked.{real, premises_tested}
use Rattle.rule3.specs.Worked.{r₀, s₀, steps, final, final_rows, test, depth_is, walked_by, returned_by_lem, final_values}

pub premises : Premises Real steps r₀ s₀
premises = premises_tested real steps r₀ s₀ test

pub told : Told Real final
told = rule3.tells steps r₀ s₀ premises (subst (λ (n : ℕ). 0 < n) (sym depth_is) (omega arith))

-- the engine's walk of two into any buffer of 8 words or more, and its two returns, by rule 3
pub final_walk : (w : ℕ) → 8 ≤ w → walk 2 w final.rec final.sto
    ≡ record { rows = record { format = 0; status = 0x2200; address = 0x124; offset = 0x70 } ∷ record { format = 0; status = 0x2000; address = 0x100; offset = 0x68 } ∷ []; number = none }
final_walk w l = walked_by final 2 depth_is told w l _ final_rows

pub final_returns : restored Real 2 final.rec final.sto ≡ some (record { status = 0x2200; pc = 0x124; a7 = 0x178 } ∷ record { status = 0x2000; pc = 0x100; a7 = 0x180 } ∷ [])
final_returns = returned_by_lem final 2 depth_is told _ final_values
