-- The numbers of a session's lines. Paper 01: "n is decimal, 1 to 4 digits; others bare hexadecimal, 1 to 8 digits, either case".
use Rattle.std.specs.Prelude.{ℕ, ◌+◌, ◌-◌, ◌*◌, List, [], ◌∷◌, Option, Some, None, eqb, ltb, leb, length}
use Rattle.types.specs.Kinds.{pick}

-- the value of a digit: `0` to `9`, `A` to `F`, `a` to `f`; 16 for any other byte
unfoldable pub digit_of : ℕ → ℕ
digit_of b =
    pick (ltb b 48) 16
    (pick (ltb b 58) (b - 48)
    (pick (ltb b 65) 16
    (pick (ltb b 71) (b - 55)
    (pick (ltb b 97) 16
    (pick (ltb b 103) (b - 87) 16)))))

-- the digits that are left, after some of value v
unfoldable pub reading : ℕ → ℕ → List ℕ → Option ℕ
reading base v [] = Some v
reading base v (b ∷ bs) = pick (leb base (digit_of b)) None (reading base (v * base + digit_of b) bs)

-- all bytes of a field: 1 to `limit` digits
unfoldable pub number_of : ℕ → ℕ → List ℕ → Option ℕ
number_of base limit l = pick (eqb (length l) 0) None (pick (ltb limit (length l)) None (reading base 0 l))
