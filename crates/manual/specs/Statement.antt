-- WHAT IS CLAIMED of an entry: the frame at A7, the frame under it, A7, status and PC are the manual's, wherever it defines them and no row of the table of
-- differences stands. Bytes are those of the store; its addresses are those that the kind masks, and `pins` says when these are the part's.
use Rattle.std.specs.Prelude.{ℕ, ◌+◌, ◌%◌, ◌≤◌, ◌≡◌, Bool, true, false, cond, ◌&&◌, ◌⊎◌, List, [], ◌∷◌}
use Rattle.std.proofs.Math.Option.{some}
use Rattle.types.specs.Kinds.{mask_address}
use Rattle.cpu.specs.Fields.{kind_of, pc_of, a7_of}
use Rattle.status.specs.Status.{get_sr}
use Rattle.memory.specs.World.{World, cpu_of}
use Rattle.nest.specs.View.{Bytes, View, peek, view}
use Rattle.nest.specs.Written.{long_at}
use Rattle.entered.specs.Bytes.{mem}
use Rattle.entered.specs.Pointers.{regs_of}
use Rattle.manual.specs.Parts.{has_master}
use Rattle.manual.specs.State.{State, is_set, on_pins}
use Rattle.manual.specs.Vectors.{Class, vector_at}
use Rattle.manual.specs.Formats.{Field}
use Rattle.manual.specs.Exceptions.{fields_of, top_fields, throws_away, first_frame, pointer_after, isp_after, msp_after, status_after}
use Rattle.manual.specs.Differences.{Row, field_differs, under_differs, length_differs, status_differs, pc_differs, pins_differ}
use Rattle.manual.specs.Calls.{Event}
use Rattle.manual.specs.Cells.{part_of, read_at}

-- the bytes hold x in field t of the frame at p
abbrev pub Reads : Bytes → ℕ → ℕ → Field → ℕ → Type 0
Reads b k p t x = part_of t.span (read_at b t.long (mask_address k ((p + t.offset) % 0x100000000))) ≡ some x

-- a field that has a value and no row lies where the manual has it
abbrev pub Found : (Field → Bool) → Bytes → ℕ → ℕ → Field → Type 0
Found differs b k p t = (x : ℕ) → t.value ≡ some x → differs t ≡ false → Reads b k p t x

abbrev pub Each : (Field → Type 0) → List Field → Type 0
Each P [] = Unit {0}
Each P (t ∷ ts) = P t × Each P ts

-- two frames of 8 bytes that share none
abbrev pub Apart : ℕ → ℕ → ℕ → Type 0
Apart k p q = (mask_address k p + 8 ≤ mask_address k q) ⊎ (mask_address k q + 8 ≤ mask_address k p)

-- one frame, whatever its length: A7 is the pointer of the supervisor stack that M selects, and the other's stays
pub record Selected (s : State) (a7 : ℕ) (v : View) : Type 0 where
  pub isp : v.isp ≡ cond (has_master s.family && is_set 12 s.status) s.isp a7
  pub msp : v.msp ≡ cond (has_master s.family && is_set 12 s.status) a7 s.msp

-- the pointers of both supervisor stacks, the one in use being A7
pub record Stacks (s : State) (c : Class) (v : View) : Type 0 where
  pub isp : v.isp ≡ isp_after s c
  pub msp : v.msp ≡ msp_after s c

-- an entry from w that is the exception e in state s, and leaves z: the frame at A7; the frame under one of format 1, where the manual has the two apart; the user's
-- stack pointer, which stays; which stack is used; A7 and the pointers of the supervisor stacks; the status; PC; the pins
pub record Agrees (rows : List Row) (s : State) (e : Event) (w z : World) : Type 0 where
  pub frame : Each (Found (field_differs rows s e.via e.class e.vector) (peek (mem z)) (kind_of (cpu_of w)) (a7_of (cpu_of z))) (top_fields s e.class e.vector)
  pub under : throws_away s e.class ≡ true → Apart (kind_of (cpu_of w)) (pointer_after s e.class) (first_frame s e.class)
      → Each (Found (under_differs rows s e.via e.class e.vector) (peek (mem z)) (kind_of (cpu_of w)) (first_frame s e.class)) (fields_of s e.class e.vector)
  pub usp : (view (regs_of (cpu_of z))).usp ≡ s.usp
  pub selected : throws_away s e.class ≡ false → Selected s (a7_of (cpu_of z)) (view (regs_of (cpu_of z)))
  pub pointer : length_differs rows s e.via e.class e.vector ≡ false → a7_of (cpu_of z) ≡ pointer_after s e.class
  pub stacks : length_differs rows s e.via e.class e.vector ≡ false → Stacks s e.class (view (regs_of (cpu_of z)))
  pub status : status_differs rows s e.via e.class e.vector ≡ false → get_sr (cpu_of z) ≡ status_after s e.class
  pub pc : pc_differs rows s e.via e.class e.vector ≡ false → long_at (peek (mem z)) (mask_address (kind_of (cpu_of w)) (vector_at s e.vector)) ≡ some (pc_of (cpu_of z))
  pub pins : (a : ℕ) → pins_differ rows s e.via e.class e.vector a ≡ false → on_pins s.lines a ≡ mask_address (kind_of (cpu_of w)) a
