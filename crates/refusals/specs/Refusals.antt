-- The refusals by number, as paper 01 lists them, and the lowest that applies to a call.
use Rattle.std.specs.Prelude.{ℕ, zero, suc, ◌+◌, ◌%◌, ◌^◌, Bool, false, not, List, [], ◌∷◌, eqb, ltb, get_or}
use Rattle.types.specs.Kinds.{pick, either, both}
use Rattle.cpu.specs.declared.Cpu.{Cpu}
use Rattle.cpu.specs.Fields.{kind_of, vbr_of, checks_alignment, has_fc_override, fc_override_of}
use Rattle.pending.specs.Interrupts.{has_cycles}
use Rattle.memory.specs.declared.Bus.{Bus}
use Rattle.memory.specs.declared.Core.{Core}
use Rattle.refusals.specs.Matters.{Matter}

-- a flag is 0 or its one other value
abbrev pub is_flag : ℕ → ℕ → Bool
is_flag n k = either (eqb n 0) (eqb n k)

-- 1: `s_flag` not 0 or 4, or `m_flag` not 0 or 2
unfoldable pub bad_flags : Cpu → Bool
bad_flags c = not (both (is_flag c.flags.s_flag 4) (is_flag c.flags.m_flag 2))

-- 2: odd `vbr` on kinds 1, 2, 10
unfoldable pub odd_base : Cpu → Bool
odd_base c = both (checks_alignment c) (eqb (vbr_of c % 2) 1)

-- 3: interrupt call with `cycles_remaining` below -2,147,483,602
unfoldable pub bad_cycles : Bool → Cpu → Bool
bad_cycles interrupt c = both interrupt (not (has_cycles c))

-- 4: `mmu_fc_override` above 7
unfoldable pub bad_code : Cpu → Bool
bad_code c = both (has_fc_override c) (ltb 7 (fc_override_of c))

-- 5: store over 65,536 bytes, or base + length over 2^32
unfoldable pub bad_store : Bool → Bus → ℕ → Bool
bad_store lent b len = both lent (either (ltb 65536 len) (ltb (2 ^ 32) (b.base + len)))

-- 6: more than 8 windows, or one ending past 2^32
unfoldable pub past_top : Bus → ℕ → Bool
past_top b k = ltb (2 ^ 32) (get_or b.starts k 0 + get_or b.lengths k 0)

-- one of the first k windows does
unfoldable pub any_past : Bus → ℕ → Bool
any_past b zero = false
any_past b (suc k) = either (past_top b k) (any_past b k)

unfoldable pub bad_windows : Bool → Bus → Bool
bad_windows lent b = both lent (either (ltb 8 b.windows) (any_past b b.windows))

-- 7: log under 192 words
unfoldable pub short_log : Bool → ℕ → Bool
short_log lent len = both lent (ltb len 192)

-- 8: vector above 255
unfoldable pub bad_vector : ℕ → Bool
bad_vector v = ltb 255 v

-- 9: kind above 11, or a floating-point entry on a kind other than 11
unfoldable pub bad_kind : Bool → Cpu → Bool
bad_kind floating c = either (ltb 11 (kind_of c)) (both floating (not (eqb (kind_of c) 11)))

-- a test with its number
pub record Test : Type 0 where
  pub number : ℕ
  pub holds : Bool

abbrev pub is : ℕ → Bool → Test
is n b = record { number = n; holds = b }

-- the tests of a call, in the order in which they are made
unfoldable pub tests_of : Core → ℕ → ℕ → Matter → List Test
tests_of m stored logged x =
    is 1 (bad_flags m.cpu)
    ∷ is 2 (odd_base m.cpu)
    ∷ is 3 (bad_cycles x.interrupt m.cpu)
    ∷ is 4 (bad_code m.cpu)
    ∷ is 5 (bad_store x.store m.bus stored)
    ∷ is 6 (bad_windows x.store m.bus)
    ∷ is 7 (short_log x.log logged)
    ∷ is 8 (bad_vector x.vector)
    ∷ is 9 (bad_kind x.floating m.cpu)
    ∷ []

-- the number of the first test that holds, or 0
unfoldable pub first_number : List Test → ℕ
first_number [] = 0
first_number (t ∷ ts) = pick t.holds t.number (first_number ts)

-- the number that refuses a call of this matter, or 0
unfoldable pub refusal_of : Core → ℕ → ℕ → Matter → ℕ
refusal_of m stored logged x = first_number (tests_of m stored logged x)
