-- Whether an instruction asks for a trace exception.
use Rattle.std.specs.Prelude.{◌/◌, ◌%◌, Bool, true, false, eqb}
use Rattle.types.specs.Kinds.{pick, is_pre68020, is040}
use Rattle.cpu.specs.declared.Cpu.{Cpu}
use Rattle.cpu.specs.Setters.{with_change_of_flow}
use Rattle.pending.specs.declared.trace.Traced.{Traced}

-- T1 of the status before the instruction, or T0 with a change of flow
unfoldable pub asks_trace : Cpu → Bool
asks_trace c =
    pick (eqb (c.flags.sr_save / 0x8000 % 2) 1) true
    (pick (eqb (c.flags.sr_save / 0x4000 % 2) 1) c.flow.change_of_flow false)

-- whether the instruction changed the flow
unfoldable pub set_change_of_flow : Cpu → Bool → Cpu
set_change_of_flow c b = with_change_of_flow c b

-- `check_trace`: whether a trace exception is asked for; the change of flow is forgotten
unfoldable pub check_trace : Cpu → Traced
check_trace c = record { cpu = set_change_of_flow c false; trace = asks_trace c }

-- `trace_t0_sr_write`: a write to the status register counts as a change of flow from the 68020 on
unfoldable pub trace_t0_sr_write : Cpu → Cpu
trace_t0_sr_write c = pick (is_pre68020 c.flow.cpu_type) c (set_change_of_flow c true)

-- `trace_t0_68040_sync`: so do the instructions that synchronize the 68040's pipeline
unfoldable pub trace_t068040_sync : Cpu → Cpu
trace_t068040_sync c = pick (is040 c.flow.cpu_type) (set_change_of_flow c true) c
