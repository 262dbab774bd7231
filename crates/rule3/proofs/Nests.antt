-- Theorems about what specs/Nests defines, and what rests on them.
use Rattle.std.specs.Prelude.{◌≡◌, refl, true, List, [], ltb}
use Rattle.std.proofs.Common.{ltb-true}
use Rattle.cpu.specs.declared.Cpu.{Cpu}
use Rattle.nest.specs.Nest.{Step, end, depth, Told, SameTale}
use Rattle.entered.specs.Machines.{Room}
use Rattle.rule3.specs.Rule3.{Real}
use Rattle.rule3.proofs.Rule3.{rule3}
use Rattle.rule3.specs.Checked.{real, premises_test, premises_tested}
use Rattle.rule3.specs.Computed.{nested}
use Rattle.rule3.specs.Nests.{room, three, r₄, r₀, zero_list, r₁, one_list, r₂, two_list, r₈, eight_list, r₁₀, ten_list, r₁₁, eleven_list, r₄', later}

-- rule 3 of a list that passes the test
pub tells : (xs : List (Step Real)) (r : Cpu) (s : Room) → premises_test real xs r s ≡ true → ltb 0 (depth Real (end Real xs r s)) ≡ true → Told Real (end Real xs r s)
tells xs r s e d = rule3.tells xs r s (premises_tested real xs r s e) (ltb-true 0 (depth Real (end Real xs r s)) d)

pub three_told : Told Real (end Real three r₄ room)
unfolding nested
three_told = tells three r₄ room refl refl

pub zero_told : Told Real (end Real zero_list r₀ room)
unfolding nested
zero_told = tells zero_list r₀ room refl refl

pub one_told : Told Real (end Real one_list r₁ room)
unfolding nested
one_told = tells one_list r₁ room refl refl

pub two_told : Told Real (end Real two_list r₂ room)
unfolding nested
two_told = tells two_list r₂ room refl refl

pub eight_told : Told Real (end Real eight_list r₈ room)
unfolding nested
eight_told = tells eight_list r₈ room refl refl

pub ten_told : Told Real (end Real ten_list r₁₀ room)
unfolding nested
ten_told = tells ten_list r₁₀ room refl refl

pub eleven_told : Told Real (end Real eleven_list r₁₁ room)
unfolding nested
eleven_told = tells eleven_list r₁₁ room refl refl

pub pair_tells : SameTale Real (end Real three r₄ room) (end Real later r₄' room)
unfolding nested
pair_tells =
    rule3.settles three later r₄ r₄' room room (premises_tested real three r₄ room refl) (premises_tested real later r₄' room refl)
    (record { stacks = refl; depths = refl; bytes = λ a x. (λ h. h, λ h. h) })
