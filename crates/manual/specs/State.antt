-- The programming model as the manuals have it, M68000PRM section 1, and what the outside gives an exception: numbers only.
use Rattle.std.specs.Prelude.{ℕ, ◌+◌, ◌-◌, ◌*◌, ◌/◌, ◌%◌, ◌^◌, Bool, cond, ◌&&◌, eqb}
use Rattle.std.proofs.Math.Option.{Option}
use Rattle.manual.specs.Parts.{Family, has_master}

-- an access that failed
pub record Fault : Type 0 where
  pub address : ℕ
  pub write : Bool
  pub instruction : Bool
  pub size : ℕ  -- in bytes; another number than 1, 2, 3, 4: not said
  pub code : ℕ  -- its function code
  pub datum : ℕ  -- what was to be written
  pub cause : ℕ  -- 0 not said, 1 pointer A, 2 pointer B, 3 indirect level, 4 page, 5 write protection, 6 supervisor protection, 7 table search, 8 bus

pub record State : Type 0 where
  pub family : Family
  pub lines : ℕ  -- pins of the address bus
  pub status : ℕ
  pub next : ℕ  -- address of the next instruction
  pub this : ℕ  -- address of the instruction in execution
  pub opcode : ℕ  -- its first word
  pub vbr : ℕ
  pub usp : ℕ
  pub isp : ℕ  -- the supervisor stack pointer of the parts that have one
  pub msp : ℕ
  pub level : ℕ  -- interrupt level asked for
  pub response : Option ℕ  -- what the acknowledge brings: none for AVEC (VPA), else the vector number
  pub operand : Option ℕ  -- effective address of a floating-point operand, where it is said
  pub fault : Fault

-- ---- the status register: T1 15, T0 14, S 13, M 12, I2 to I0 10 to 8, XNZVC 4 to 0. M68000PRM 1.3.2 (recalled)

abbrev pub bit : ℕ → ℕ → ℕ
bit n st = st / 2 ^ n % 2

abbrev pub is_set : ℕ → ℕ → Bool
is_set n st = eqb (bit n st) 1

-- exception processing, first step: S set, T1 and T0 cleared. M68000UM 6.2.3, MC68020UM 6.1, MC68030UM 8.1, M68040UM 8.1, MC68060UM 8.1 (recalled)
unfoldable pub entered : ℕ → ℕ
entered st = 0x2000 + bit 12 st * 0x1000 + st / 0x100 % 8 * 0x100 + st % 0x20

-- an interrupt besides: the mask is its level, and M is cleared on the parts that have it (after the first frame). MC68020UM 6.1.9, MC68030UM
-- 8.1.9, M68040UM 8.2.9, MC68060UM 8.2.9 (recalled)
unfoldable pub interrupted : ℕ → ℕ → ℕ
interrupted level st = 0x2000 + level * 0x100 + st % 0x20

-- ---- the stacks

-- the pointer of the stack in use once S is set: MC68020UM 6.1, M68000PRM 1.3.2 (recalled)
unfoldable pub supervisor_pointer : State → ℕ
supervisor_pointer s = cond (has_master s.family && is_set 12 s.status) s.msp s.isp

-- lowered by n, modulo 2^32
abbrev pub down : ℕ → ℕ → ℕ
down p n = (p + (0x100000000 - n)) % 0x100000000

-- an address as the pins carry it
abbrev pub on_pins : ℕ → ℕ → ℕ
on_pins lines a = cond (eqb lines 24) (a % 0x1000000) a

-- ---- interrupts

-- level 7 is not masked, another is taken if it is above the mask. M68000UM 6.3.2, MC68020UM 6.1.9 (recalled)
abbrev pub mask : ℕ → ℕ
mask st = st / 0x100 % 8

-- the function code of an access: 1 user data, 2 user program, 5 supervisor data, 6 supervisor program. M68000UM 3.7, MC68020UM 2.1 (recalled)
abbrev pub function_code : Bool → Bool → ℕ
function_code supervisor instruction = cond supervisor (cond instruction 6 5) (cond instruction 2 1)
