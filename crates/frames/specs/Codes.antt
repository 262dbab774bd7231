-- The status words of error frames: what a handler reads to tell what was tried, and where. Each is a sum of its fields.
use Rattle.std.specs.Prelude.{ℕ, ◌+◌, ◌*◌, ◌/◌, ◌%◌, Bool, eqb, leb}
use Rattle.types.specs.Kinds.{pick, both}
use Rattle.cpu.specs.declared.Cpu.{Cpu}
use Rattle.cpu.specs.Fields.{has_fc_override, fc_override_of}

-- a function code: supervisor program 6, supervisor data 5, user program 2, user data 1
unfoldable pub function_code : Bool → Bool → ℕ
function_code supervisor instruction = pick supervisor (pick instruction 6 5) (pick instruction 2 1)

-- whether the record is in supervisor state, as `get_sr` tests it
unfoldable pub is_supervisor : Cpu → Bool
is_supervisor c = eqb (c.flags.s_flag / 4 % 2) 1

-- the function code of an address error: that of the state
unfoldable pub state_code : Cpu → Bool → ℕ
state_code c instruction = function_code (is_supervisor c) instruction

-- the function code of a bus error: one that stands in, or that of the state. Number 4 keeps it below 8
unfoldable pub fault_code : Cpu → Bool → ℕ
fault_code c instruction = pick (has_fc_override c) (fc_override_of c % 8) (state_code c instruction)

-- 68000: R/W in bit 4, I/N in bit 3, function code
unfoldable pub fault_word : ℕ → Bool → Bool → ℕ
fault_word fc write instruction = fc + pick write 0 16 + pick instruction 0 8

-- 68020, 68030: a data fault has DF, RW, SIZ and the function code, an instruction fault FB and RB
unfoldable pub size020 : ℕ → ℕ
size020 z = pick (eqb z 1) 16 (pick (eqb z 2) 32 (pick (eqb z 3) 48 0))

unfoldable pub ssw020 : ℕ → Bool → Bool → ℕ → ℕ
ssw020 fc write instruction z = pick instruction (fc + 0x5000) (fc + 256 + pick write 0 64 + size020 z)

-- a cause is none, or one of the eight by its number
unfoldable pub is_cause : ℕ → Bool
is_cause n = both (leb 1 n) (leb n 8)

-- 68040: RW, ATC where a cause is known, SZ, TM
unfoldable pub size040 : ℕ → ℕ
size040 z = pick (eqb z 1) 32 (pick (eqb z 2) 64 0)

unfoldable pub ssw040 : ℕ → Bool → ℕ → ℕ → ℕ
ssw040 fc write z cause = pick write 0 256 + pick (is_cause cause) 1024 0 + size040 z + fc

-- 68040: the status of the third write-back, valid where a write faulted
unfoldable pub wb3s : ℕ → Bool → ℕ → ℕ
wb3s fc write z = pick write (128 + size040 z + fc) 0

-- 68060: `fslw_060`. The bit of the cause; none and a bus error of the access itself are told by the direction
unfoldable pub cause_bit : ℕ → Bool → ℕ
cause_bit cause write =
    pick (eqb cause 1) 0x1000 (pick (eqb cause 2) 2048 (pick (eqb cause 3) 1024 (pick (eqb cause 4) 512
    (pick (eqb cause 5) 128 (pick (eqb cause 6) 256 (pick (eqb cause 7) 64 (pick write 16 32)))))))

unfoldable pub size060 : ℕ → ℕ
size060 z = pick (eqb z 1) 0x200000 (pick (eqb z 2) 0x400000 0)

unfoldable pub fslw060 : Bool → Bool → ℕ → ℕ → ℕ → ℕ
fslw060 write instruction z fc cause =
    pick write 0x800000 0x1000000 + size060 z + fc % 8 * 0x10000 + pick instruction 0x8000 0 + cause_bit cause write
