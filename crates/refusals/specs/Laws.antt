-- The numbers of the tests are 1 to 9 in order, so the number that refuses is the place of the first test that holds.
use Rattle.std.specs.Prelude.{ℕ, zero, suc, ◌≡◌, refl, Bool, true, false, List, [], ◌∷◌, get_or}
use Rattle.std.proofs.Common.{arith}
use Rattle.types.specs.Kinds.{pick}
use Rattle.memory.specs.declared.Core.{Core}
use Rattle.refusals.specs.Matters.{Matter}
use Rattle.refusals.specs.Refusals.{Test, tests_of, first_number, refusal_of}

-- what each test says
unfoldable pub outcomes : List Test → List Bool
outcomes [] = []
outcomes (t ∷ ts) = t.holds ∷ outcomes ts

-- the place of the first that is true, counted from n, or 0
unfoldable pub place_from : ℕ → List Bool → ℕ
place_from n [] = 0
place_from n (b ∷ bs) = pick b n (place_from (suc n) bs)

-- THE NUMBER is the place of the first test that holds
pub refusal_place : (m : Core) (stored logged : ℕ) (x : Matter) → refusal_of m stored logged x ≡ place_from 1 (outcomes (tests_of m stored logged x))
unfolding refusal_of tests_of first_number outcomes place_from
refusal_place m stored logged x = refl

-- where there is no such place, no test holds
pub place_none : (n : ℕ) (bs : List Bool) (i : ℕ) → place_from (suc n) bs ≡ 0 → get_or bs i false ≡ false
unfolding place_from
place_none n [] i e = refl
place_none n (true ∷ bs) i e = absurd (omega arith)
place_none n (false ∷ bs) zero e = refl
place_none n (false ∷ bs) (suc i) e = place_none (suc n) bs i e
