-- A lent record as the core has it, and back: where the core has a bool the lent record has a byte, set if it is not 0.
use Rattle.numbers.specs.Numbers.{flag, bit}
use Rattle.cpu.specs.declared.OptionalVector.{OptionalVector}
use Rattle.cpu.specs.declared.OptionalCode.{OptionalCode}
use Rattle.cpu.specs.declared.Flow.{Flow}
use Rattle.cpu.specs.declared.Queue.{Queue}
use Rattle.cpu.specs.declared.Fault.{Fault}
use Rattle.cpu.specs.declared.Resume.{Resume}
use Rattle.cpu.specs.declared.Cpu.{Cpu}
use Rattle.memory.specs.declared.Core.{Core}
use Rattle.records.specs.declared.LentVector.{LentVector}
use Rattle.records.specs.declared.LentCode.{LentCode}
use Rattle.records.specs.declared.LentFlow.{LentFlow}
use Rattle.records.specs.declared.LentQueue.{LentQueue}
use Rattle.records.specs.declared.LentFault.{LentFault}
use Rattle.records.specs.declared.LentResume.{LentResume}
use Rattle.records.specs.declared.LentCpu.{LentCpu}
use Rattle.records.specs.declared.LentCore.{LentCore}

-- a lent record as the core has it: a byte other than 0 is true
unfoldable pub raised_vector : LentVector → OptionalVector
raised_vector v = record { some = flag v.some; value = v.value }

unfoldable pub raised_code : LentCode → OptionalCode
raised_code v = record { some = flag v.some; value = v.value }

unfoldable pub raised_flow : LentFlow → Flow
raised_flow f =
    record {
      ppc = f.ppc;
      pc = f.pc;
      vbr = f.vbr;
      ir = f.ir;
      fpiar = f.fpiar;
      cpu_type = f.cpu_type;
      run_mode = f.run_mode;
      stopped = f.stopped;
      exception_processing = flag f.exception_processing;
      change_of_flow = flag f.change_of_flow;
      loop_mode = flag f.loop_mode;
      cycles_remaining = f.cycles_remaining;
    }

unfoldable pub raised_queue : LentQueue → Queue
raised_queue q =
    record {
      prefetch_queue = q.prefetch_queue;
      prefetch_count = q.prefetch_count;
      pending_sync_clocks = q.pending_sync_clocks;
      precise_bus = flag q.precise_bus;
    }

unfoldable pub raised_fault : LentFault → Fault
raised_fault f =
    record {
      instruction_exception_vector = raised_vector f.instruction_exception_vector;
      last_exception_vector = raised_vector f.last_exception_vector;
      pending_fault_cause = f.pending_fault_cause;
      mmu_fc_override = raised_code f.mmu_fc_override;
      pending_fault_wdata = f.pending_fault_wdata;
    }

unfoldable pub raised_resume : LentResume → Resume
raised_resume r = record { some = flag r.some; pc = r.pc; sr = r.sr; dar = r.dar }

unfoldable pub raised_cpu : LentCpu → Cpu
raised_cpu c =
    record {
      regs = c.regs;
      flow = raised_flow c.flow;
      flags = c.flags;
      queue = raised_queue c.queue;
      fault = raised_fault c.fault;
      fault_resume = raised_resume c.fault_resume;
    }

unfoldable pub raised : LentCore → Core
raised c = record { cpu = raised_cpu c.cpu; bus = c.bus }

-- a record of the core as it is lent: true is 1, false is 0
unfoldable pub lowered_vector : OptionalVector → LentVector
lowered_vector v = record { some = bit v.some; value = v.value }

unfoldable pub lowered_code : OptionalCode → LentCode
lowered_code v = record { some = bit v.some; value = v.value }

unfoldable pub lowered_flow : Flow → LentFlow
lowered_flow f =
    record {
      ppc = f.ppc;
      pc = f.pc;
      vbr = f.vbr;
      ir = f.ir;
      fpiar = f.fpiar;
      cpu_type = f.cpu_type;
      run_mode = f.run_mode;
      stopped = f.stopped;
      exception_processing = bit f.exception_processing;
      change_of_flow = bit f.change_of_flow;
      loop_mode = bit f.loop_mode;
      cycles_remaining = f.cycles_remaining;
    }

unfoldable pub lowered_queue : Queue → LentQueue
lowered_queue q =
    record {
      prefetch_queue = q.prefetch_queue;
      prefetch_count = q.prefetch_count;
      pending_sync_clocks = q.pending_sync_clocks;
      precise_bus = bit q.precise_bus;
    }

unfoldable pub lowered_fault : Fault → LentFault
lowered_fault f =
    record {
      instruction_exception_vector = lowered_vector f.instruction_exception_vector;
      last_exception_vector = lowered_vector f.last_exception_vector;
      pending_fault_cause = f.pending_fault_cause;
      mmu_fc_override = lowered_code f.mmu_fc_override;
      pending_fault_wdata = f.pending_fault_wdata;
    }

unfoldable pub lowered_resume : Resume → LentResume
lowered_resume r = record { some = bit r.some; pc = r.pc; sr = r.sr; dar = r.dar }

unfoldable pub lowered_cpu : Cpu → LentCpu
lowered_cpu c =
    record {
      regs = c.regs;
      flow = lowered_flow c.flow;
      flags = c.flags;
      queue = lowered_queue c.queue;
      fault = lowered_fault c.fault;
      fault_resume = lowered_resume c.fault_resume;
    }

unfoldable pub lowered : Core → LentCore
lowered m = record { cpu = lowered_cpu m.cpu; bus = m.bus }
