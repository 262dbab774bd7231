-- Steps of an entry on the record: what is tested, and what begins and ends. And the numbers that an entry computes.
use Rattle.std.specs.Prelude.{ℕ, ◌+◌, ◌-◌, ◌*◌, ◌/◌, ◌%◌, ◌^◌, Bool, true, false, ◌==◌, nat_le}
use Rattle.types.specs.Kinds.{pick, either, both}
use Rattle.types.specs.Vectors.{zero_divide, trapv, trace, spurious_interrupt}
use Rattle.cpu.specs.declared.Cpu.{Cpu}
use Rattle.cpu.specs.Fields.{pc_of, ppc_of, checks_alignment, vbr_of, restore_registers, set_exception, clear_cause, clear_fc_override, leave_stop, clear_stopped}
use Rattle.cpu.specs.Clocks.{internal_cycles}
use Rattle.status.specs.Status.{restore_sr, keep_resume, set_int_mask}
use Rattle.status.specs.Banks.{enter_supervisor}
use Rattle.pending.specs.Interrupts.{charge_interrupt}

-- an odd guarded access is refused on kinds 1, 2, 10
unfoldable pub refuses_odd : Cpu → ℕ → Bool
refuses_odd c a = pick (checks_alignment c) (a % 2 == 1) false

-- the address of a vector: vector × 4 + vbr, modulo 2^32
unfoldable pub vector_address : Cpu → ℕ → ℕ
vector_address c v = (v % 0x40000000 * 4 + vbr_of c) % 2 ^ 32

-- `trigger_bus_error` before its entry: status and registers as saved, exception processing, the cause taken
unfoldable pub begin_bus : Cpu → Cpu
begin_bus c = clear_cause (set_exception (restore_registers (restore_sr c)) true)

-- `trigger_address_error` before its entry: status and registers as saved
unfoldable pub begin_address : Cpu → Cpu
begin_address c = restore_registers (restore_sr c)

-- a bus error entry: supervisor state, trace off, and the function code that stood in is consumed
unfoldable pub enter_bus_error : Cpu → Cpu
enter_bus_error c = clear_fc_override (enter_supervisor c)

-- `trigger_bus_error` after its entry: exception processing ends, and what the end of the instruction needs is kept
abbrev pub close_bus : Cpu → Cpu
close_bus c = keep_resume (set_exception c false)

-- the stacked address of `take_exception`: `pc` for vectors 5, 7, 9, 24 to 31, 32 to 47, else `ppc`
unfoldable pub stacks_next : ℕ → Bool
stacks_next v = either (v == zero_divide) (either (v == trapv) (either (v == trace) (both (nat_le 24 v) (nat_le v 47))))

unfoldable pub stacked_address : Cpu → ℕ → ℕ
stacked_address c v = pick (stacks_next v) (pc_of c) (ppc_of c)

-- `take_exception` before its frame: exception processing, 4 clocks
unfoldable pub begin_entry : Cpu → Cpu
begin_entry c = internal_cycles (set_exception c true) 4

-- `exception_trace` before its frame: a STOP ends, 4 clocks
unfoldable pub begin_trace : Cpu → Cpu
begin_trace c = internal_cycles (leave_stop c) 4

-- the start of every interrupt: supervisor state, trace off, the mask at the level
unfoldable pub enter_level : Cpu → ℕ → Cpu
enter_level c level = set_int_mask (enter_supervisor c) level

-- the end of every interrupt: `stopped` is 0 and the cycles are charged
unfoldable pub close_interrupt : Cpu → Cpu
close_interrupt c = charge_interrupt (clear_stopped c)

-- `iack_vector`: 0xFFFFFFFF is the autovector of the level, any other response its low 8 bits
unfoldable pub iack_vector : ℕ → ℕ → ℕ
iack_vector response level = pick (response == 0xFFFFFFFF) (spurious_interrupt + level % 8) (response % 256)

-- a status with S set
unfoldable pub with_s : ℕ → ℕ
with_s sr = sr - sr / 0x2000 % 2 * 0x2000 + 0x2000
