-- The record with one of its six groups replaced. Setters has one field replaced.
use Rattle.cpu.specs.declared.Regs.{Regs}
use Rattle.cpu.specs.declared.Flow.{Flow}
use Rattle.cpu.specs.declared.Flags.{Flags}
use Rattle.cpu.specs.declared.Queue.{Queue}
use Rattle.cpu.specs.declared.Fault.{Fault}
use Rattle.cpu.specs.declared.Resume.{Resume}
use Rattle.cpu.specs.declared.Cpu.{Cpu}

abbrev pub with_regs : Cpu → Regs → Cpu
with_regs c x = record { regs = x; flow = c.flow; flags = c.flags; queue = c.queue; fault = c.fault; fault_resume = c.fault_resume }

abbrev pub with_flow : Cpu → Flow → Cpu
with_flow c x = record { regs = c.regs; flow = x; flags = c.flags; queue = c.queue; fault = c.fault; fault_resume = c.fault_resume }

abbrev pub with_flags : Cpu → Flags → Cpu
with_flags c x = record { regs = c.regs; flow = c.flow; flags = x; queue = c.queue; fault = c.fault; fault_resume = c.fault_resume }

abbrev pub with_queue : Cpu → Queue → Cpu
with_queue c x = record { regs = c.regs; flow = c.flow; flags = c.flags; queue = x; fault = c.fault; fault_resume = c.fault_resume }

abbrev pub with_fault : Cpu → Fault → Cpu
with_fault c x = record { regs = c.regs; flow = c.flow; flags = c.flags; queue = c.queue; fault = x; fault_resume = c.fault_resume }

abbrev pub with_fault_resume : Cpu → Resume → Cpu
with_fault_resume c x = record { regs = c.regs; flow = c.flow; flags = c.flags; queue = c.queue; fault = c.fault; fault_resume = x }
