-- The parts that Motorola's manuals cover, by the numbers of `CpuType`. Kind 0 is no part. Kind 10, the SCC68070, is Philips': no manual of
-- Motorola covers it.
use Rattle.std.specs.Prelude.{ℕ, Bool, cond, ◌||◌, [], ◌∷◌, eqb, get_or}
use Rattle.std.proofs.Math.Option.{Option, none, some}

-- by manual: M68000UM covers the 68000 and 68010, MC68020UM the 68020 and 68EC020, MC68030UM the 68030, MC68EC030UM the 68EC030, M68040UM the 68040,
-- 68LC040 and 68EC040, MC68060UM the 68060; M68000PRM, the Programmer's Reference Manual, all of them
pub data Family : Type 0 where
  mc68000 mc68010 mc68020 mc68030 mc68040 mc68060 : Family

unfoldable pub family_of : ℕ → Option Family
family_of k =
    get_or
    (none ∷ some mc68000 ∷ some mc68010 ∷ some mc68020 ∷ some mc68020 ∷ some mc68030 ∷ some mc68030 ∷ some mc68040 ∷ some mc68040 ∷ some mc68040
    ∷ none ∷ some mc68060 ∷ [])
    k none

-- the pins of the address bus: 24 on the 68000, 68010 and 68EC020. M68000UM section 3, MC68020UM section 1 (recalled)
abbrev pub lines_of : ℕ → ℕ
lines_of k = cond (eqb k 1 || (eqb k 2 || eqb k 3)) 24 32

abbrev pub number : Family → ℕ
number mc68000 = 0
number mc68010 = 1
number mc68020 = 2
number mc68030 = 3
number mc68040 = 4
number mc68060 = 6

-- the parts with a master and an interrupt stack: MC68020UM 6.1, MC68030UM 8.1, M68040UM 8.1 (recalled); the 68060 has M and one supervisor
-- stack, MC68060UM 8.1 (recalled)
abbrev pub has_master : Family → Bool
has_master f = eqb (number f) 2 || (eqb (number f) 3 || eqb (number f) 4)
