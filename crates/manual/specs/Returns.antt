-- RTE as the manuals have it: which formats a part takes, how many bytes, and what is restored. M68000PRM, RTE; M68000UM 6.3.9, MC68020UM 6.3,
-- MC68030UM 8.4, M68040UM 8.4, MC68060UM 8.4 (recalled). Any other format makes a format error, vector 14; in the user state RTE is a privilege violation.
use Rattle.std.specs.Prelude.{ℕ, ◌+◌, ◌*◌, ◌/◌, ◌%◌, Bool, false, cond, ◌&&◌, ◌||◌, List, [], ◌∷◌, eqb, get_or}
use Rattle.manual.specs.Parts.{Family, mc68000, mc68010, mc68020, mc68030, mc68040, mc68060, number}

-- bytes by format, from 0 on; 0: not taken. The 68000 has no format word and takes 6
abbrev pub formats : Family → List ℕ
formats mc68000 = []
formats mc68010 = 8 ∷ 0 ∷ 0 ∷ 0 ∷ 0 ∷ 0 ∷ 0 ∷ 0 ∷ 58 ∷ []
formats mc68020 = 8 ∷ 8 ∷ 12 ∷ 0 ∷ 0 ∷ 0 ∷ 0 ∷ 0 ∷ 0 ∷ 20 ∷ 32 ∷ 92 ∷ []
formats mc68030 = 8 ∷ 8 ∷ 12 ∷ 0 ∷ 0 ∷ 0 ∷ 0 ∷ 0 ∷ 0 ∷ 20 ∷ 32 ∷ 92 ∷ []
formats mc68040 = 8 ∷ 8 ∷ 12 ∷ 12 ∷ 0 ∷ 0 ∷ 0 ∷ 60 ∷ []
formats mc68060 = 8 ∷ 0 ∷ 12 ∷ 12 ∷ 16 ∷ []

unfoldable pub rte_bytes : Family → ℕ → ℕ
rte_bytes f format = get_or (formats f) format 0

-- THE ROWS of the return: formats that a part takes and this code refuses by 13
pub record Untaken : Type 0 where
  pub family : Family
  pub format : ℕ

abbrev untaken : Family → ℕ → Untaken
untaken f n = record { family = f; format = n }

unfoldable pub return_differences : List Untaken
return_differences =
    untaken mc68020 9 ∷ untaken mc68020 10 ∷ untaken mc68030 9 ∷ untaken mc68030 10 ∷ untaken mc68040 3 ∷ untaken mc68060 3 ∷ []

abbrev pub in_rows : List Untaken → Family → ℕ → Bool
in_rows [] f n = false
in_rows (r ∷ rs) f n = (eqb (number r.family) (number f) && eqb r.format n) || in_rows rs f n

-- the bits of the status that a part has: T1, S, the mask, XNZVC; T0 from the 68020 to the 68040, M from the 68020 on. M68000PRM 1.3.2 (recalled)
abbrev has_t0 : Family → Bool
has_t0 f = eqb (number f) 2 || (eqb (number f) 3 || eqb (number f) 4)

abbrev has_m : Family → Bool
has_m f = has_t0 f || eqb (number f) 6

unfoldable pub implemented : Family → ℕ → ℕ
implemented f w =
    w / 0x8000 % 2 * 0x8000 + cond (has_t0 f) (w / 0x4000 % 2 * 0x4000) 0 + w / 0x2000 % 2 * 0x2000 + cond (has_m f) (w / 0x1000 % 2 * 0x1000) 0
    + w / 0x100 % 8 * 0x100 + w % 0x20
