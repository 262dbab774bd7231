-- Interrupt levels: set, pending, and taken or not.
use Rattle.std.specs.Prelude.{ℕ, ◌/◌, ◌%◌, Bool, eqb, ltb, ℤ, pos, negsuc, ◌-ℤ◌}
use Rattle.std.specs.Int.Signed.{le_z}
use Rattle.types.specs.Kinds.{pick, either}
use Rattle.cpu.specs.declared.Flow.{Flow}
use Rattle.cpu.specs.declared.Cpu.{Cpu}
use Rattle.cpu.specs.Groups.{with_flow}
use Rattle.cpu.specs.Setters.{flow_with_cycles_remaining, with_int_level}

-- `set_irq`: the pending level, its low 3 bits
unfoldable pub set_irq : Cpu → ℕ → Cpu
set_irq c level = with_int_level c (level % 8)

-- no level is pending
unfoldable pub clear_level : Cpu → Cpu
clear_level c = with_int_level c 0

-- `check_interrupts`: by the raw fields
unfoldable pub check_interrupts : Cpu → Bool
check_interrupts c = either (eqb c.flags.int_level 7) (ltb (c.flags.int_mask / 256) c.flags.int_level)

-- the level of the interrupt call: the low 3 bits, so that 8 reads as none
unfoldable pub pending_level : Cpu → ℕ
pending_level c = c.flags.int_level % 8

-- the mask of the interrupt call: 3 bits
unfoldable pub mask_level : Cpu → ℕ
mask_level c = c.flags.int_mask / 256 % 8

-- the decision of `check_and_service_interrupts`: level 7 always, any other exactly if it exceeds the mask
unfoldable pub takes_interrupt : Cpu → Bool
takes_interrupt c = either (eqb (pending_level c) 7) (ltb (mask_level c) (pending_level c))

-- whether 46 cycles can be charged and the sum stays a 32-bit number: what number 3 tests
abbrev pub has_room : ℤ → Bool
has_room n = le_z (negsuc 2147483601) n

unfoldable pub has_cycles : Cpu → Bool
has_cycles c = has_room c.flow.cycles_remaining

-- the cycles of an interrupt are taken off, where the difference fits
unfoldable pub less_cycles : ℤ → Bool → ℤ
less_cycles n more = pick (has_room n) (pick more (n -ℤ pos 46) (n -ℤ pos 44)) n

-- `cycles_remaining` falls by the cycles of an interrupt: 46 on kind 2, else 44
unfoldable pub charged : Flow → Flow
charged f = flow_with_cycles_remaining f (less_cycles f.cycles_remaining (eqb f.cpu_type 2))

unfoldable pub charge_interrupt : Cpu → Cpu
charge_interrupt c = with_flow c (charged c.flow)
