-- Exception vectors: which number is which exception, and where its vector lies. M68000UM table 6-2, MC68020UM table 6-1, MC68030UM table 8-1,
-- M68040UM table 8-1, MC68060UM table 8-1 (recalled). What an exception is named after here is how it is processed.
use Rattle.std.specs.Prelude.{ℕ, ◌+◌, ◌*◌, ◌%◌, Bool, cond, not, ◌&&◌, ◌||◌, eqb, ltb, leb}
use Rattle.std.proofs.Math.Option.{Option, none, some}
use Rattle.manual.specs.Parts.{Family, number}
use Rattle.manual.specs.State.{State, mask}

pub data Class : Type 0 where
  instruction : Class  -- an instruction that is not executed: illegal, privileged, line A, line F, format error; 68060: unimplemented
  trap : Class  -- TRAP
  group2 : Class  -- CHK, CHK2, TRAPV, TRAPcc, division by zero; trace
  interrupt : Class
  bus_error : Class  -- bus error, access fault
  address_error : Class
  protocol : Class  -- coprocessor protocol violation
  configuration : Class  -- MMU configuration error
  fp_unimplemented : Class  -- 68060: floating-point instruction not implemented, vector 11
  fp_disabled : Class  -- 68060: floating-point unit disabled, vector 11

abbrev pub place : Class → ℕ
place instruction = 0
place trap = 1
place group2 = 2
place interrupt = 3
place bus_error = 4
place address_error = 5
place protocol = 6
place configuration = 7
place fp_unimplemented = 8
place fp_disabled = 9

-- 4 illegal, 8 privilege, 10 line A, 11 line F; 14 format error, from the 68010 on; 60 and 61 of the 68060
abbrev pub not_executed : Family → ℕ → Bool
not_executed f v =
    eqb v 4 || (eqb v 8 || (eqb v 10 || (eqb v 11 || ((eqb v 14 && not (eqb (number f) 0)) || ((eqb v 60 || eqb v 61) && eqb (number f) 6)))))

-- 15 uninitialised, 24 spurious, 25 to 31 autovectors, 64 to 255 user
abbrev pub by_interrupt : ℕ → Bool
by_interrupt v = eqb v 15 || ((leb 24 v && leb v 31) || (leb 64 v && leb v 255))

-- the exception of a vector number. Silent: 0 and 1, the reset, which stacks nothing and which no call makes; 12, 16 to 23 and what else a part
-- reserves; 48 to 55, floating-point exceptions, whose frame goes by when they are seen; 57 and 58, the 68851's
unfoldable pub class_of : Family → ℕ → Option Class
class_of f v =
    cond (eqb v 2) (some bus_error) (cond (eqb v 3) (some address_error)
    (cond (not_executed f v) (some instruction)
    (cond (eqb v 5 || (eqb v 6 || (eqb v 7 || eqb v 9))) (some group2)
    (cond (leb 32 v && leb v 47) (some trap)
    (cond (by_interrupt v) (some interrupt)
    (cond (eqb v 13 && (eqb (number f) 2 || eqb (number f) 3)) (some protocol)
    (cond (eqb v 56 && eqb (number f) 3) (some configuration) none)))))))

-- the vector lies at 4 times its number from the base; the 68000 has base 0. M68000UM 6.2.1, MC68020UM 6.1 (recalled)
unfoldable pub vector_at : State → ℕ → ℕ
vector_at s v = (cond (eqb (number s.family) 0) 0 s.vbr + 4 * v) % 0x100000000

-- the vector number of an interrupt: autovectors 25 to 31 by the level, else what the device brings (15 where it is not initialised). A spurious
-- interrupt, 24, is an acknowledge that ends in a bus error. M68000UM 6.3.2, MC68020UM 6.1.9 (recalled)
abbrev pub acknowledged : Option ℕ → ℕ → ℕ
acknowledged none level = 24 + level
acknowledged (some n) level = n

-- taken at an instruction boundary
unfoldable pub takes_level : State → Bool
takes_level s = eqb s.level 7 || ltb (mask s.status) s.level
