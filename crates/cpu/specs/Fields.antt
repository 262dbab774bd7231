-- Registers, flow and faults, one field at a time.
use Rattle.std.specs.Prelude.{ℕ, ◌+◌, ◌-◌, ◌%◌, ◌^◌, Bool, true, false, ◌==◌, slice_index, slice_set}
use Rattle.types.specs.Kinds.{is_pre68020, mask_address}
use Rattle.cpu.specs.declared.Cpu.{Cpu}
use Rattle.cpu.specs.Setters.{with_dar, with_exception_processing, with_fpiar, with_instruction_exception_vector, with_last_exception_vector, with_loop_mode, with_mmu_fc_override, with_pc, with_pending_fault_cause, with_pending_fault_wdata, with_ppc, with_run_mode, with_stopped}

-- the kind of processor
unfoldable pub kind_of : Cpu → ℕ
kind_of c = c.flow.cpu_type

-- the program counter
unfoldable pub pc_of : Cpu → ℕ
pc_of c = c.flow.pc

-- the address of the instruction that runs
unfoldable pub ppc_of : Cpu → ℕ
ppc_of c = c.flow.ppc

-- the vector base
unfoldable pub vbr_of : Cpu → ℕ
vbr_of c = c.flow.vbr

-- the instruction register
unfoldable pub ir_of : Cpu → ℕ
ir_of c = c.flow.ir

-- A7, the stack pointer in use
unfoldable pub a7_of : Cpu → ℕ
a7_of c = slice_index c.regs.dar 15

-- `address`: under the address mask of the kind
unfoldable pub address_of : Cpu → ℕ → ℕ
address_of c a = mask_address c.flow.cpu_type a

-- `faulted`: an access or an entry of this instruction has raised a fault
unfoldable pub is_faulted : Cpu → Bool
is_faulted c = c.flow.run_mode == 1

-- whether an entry that halts on a second fault is under way
unfoldable pub in_exception : Cpu → Bool
in_exception c = c.flow.exception_processing

-- whether odd guarded accesses raise an address error: kinds 1, 2, 10
unfoldable pub checks_alignment : Cpu → Bool
checks_alignment c = is_pre68020 c.flow.cpu_type

-- the data of the write last tried
unfoldable pub wdata_of : Cpu → ℕ
wdata_of c = c.fault.pending_fault_wdata

-- the number of the cause that waits for the next bus error
unfoldable pub cause_number_of : Cpu → ℕ
cause_number_of c = c.fault.pending_fault_cause

-- whether a function code stands in for that of the state
unfoldable pub has_fc_override : Cpu → Bool
has_fc_override c = c.fault.mmu_fc_override.some

-- that function code
unfoldable pub fc_override_of : Cpu → ℕ
fc_override_of c = c.fault.mmu_fc_override.value

-- A7 is v
unfoldable pub set_a7 : Cpu → ℕ → Cpu
set_a7 c v = with_dar c (slice_set c.regs.dar 15 v)

-- PC is v
unfoldable pub set_pc : Cpu → ℕ → Cpu
set_pc c v = with_pc c v

-- PPC is v
unfoldable pub set_ppc : Cpu → ℕ → Cpu
set_ppc c v = with_ppc c v

-- PC is back at the instruction that runs
unfoldable pub rewind_pc : Cpu → Cpu
rewind_pc c = with_pc c c.flow.ppc

-- FPIAR is the instruction that runs
unfoldable pub note_fpiar : Cpu → Cpu
note_fpiar c = with_fpiar c c.flow.ppc

-- a second fault halts: `stopped` and `run_mode` are 1
unfoldable pub halted : Cpu → Cpu
halted c = with_stopped (with_run_mode c 1) 1

-- an entry that halts on a second fault begins or ends
unfoldable pub set_exception : Cpu → Bool → Cpu
set_exception c b = with_exception_processing c b

-- an interrupt ends the stopped state
unfoldable pub clear_stopped : Cpu → Cpu
clear_stopped c = with_stopped c 0

-- a trace ends a STOP: the lowest bit of `stopped` is cleared
unfoldable pub leave_stop : Cpu → Cpu
leave_stop c = with_stopped c (c.flow.stopped - c.flow.stopped % 2)

-- the registers are those saved before the instruction; the saved stack pointers stay
unfoldable pub restore_registers : Cpu → Cpu
restore_registers c = with_dar c c.regs.dar_save

-- the data of the write that is tried
unfoldable pub set_wdata : Cpu → ℕ → Cpu
set_wdata c v = with_pending_fault_wdata c v

-- the cause is taken
unfoldable pub clear_cause : Cpu → Cpu
clear_cause c = with_pending_fault_cause c 0

-- the function code that stands in is consumed
unfoldable pub clear_fc_override : Cpu → Cpu
clear_fc_override c = with_mmu_fc_override c (record { some = false; value = 0 })

-- a vectored dispatch ends loop mode and leaves its vector in both vector fields
unfoldable pub start_vector : Cpu → ℕ → Cpu
start_vector c v =
    with_last_exception_vector
    (with_instruction_exception_vector (with_loop_mode c false) (record { some = true; value = v })) (record { some = true; value = v })

-- a minus n modulo 2^32
unfoldable pub minus32 : ℕ → ℕ → ℕ
minus32 a n = (a + (2 ^ 32 - n % 2 ^ 32)) % 2 ^ 32

-- A7 lowered by n, past zero too
unfoldable pub lower_a7 : Cpu → ℕ → Cpu
lower_a7 c n = set_a7 c (minus32 (a7_of c) n)

unfoldable pub odd_pc : Cpu → Bool
odd_pc c = pc_of c % 2 == 1
