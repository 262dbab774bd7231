-- A fresh record.
use Rattle.std.specs.Prelude.{ℕ, true, false, replicate, pos}
use Rattle.cpu.specs.declared.Regs.{Regs}
use Rattle.cpu.specs.declared.Flow.{Flow}
use Rattle.cpu.specs.declared.Flags.{Flags}
use Rattle.cpu.specs.declared.Queue.{Queue}
use Rattle.cpu.specs.declared.Fault.{Fault}
use Rattle.cpu.specs.declared.Resume.{Resume}
use Rattle.cpu.specs.declared.Cpu.{Cpu}

unfoldable pub fresh_regs : Regs
fresh_regs = record { dar = replicate 16 0; dar_save = replicate 16 0; sp = replicate 8 0 }

unfoldable pub fresh_flow : ℕ → Flow
fresh_flow kind =
    record {
      ppc = 0;
      pc = 0;
      vbr = 0;
      ir = 0;
      fpiar = 0;
      cpu_type = kind;
      run_mode = 0;
      stopped = 0;
      exception_processing = false;
      change_of_flow = false;
      loop_mode = false;
      cycles_remaining = pos 0;
    }

-- supervisor state, all interrupts masked, Z clear
unfoldable pub fresh_flags : Flags
fresh_flags =
    record {
      t1_flag = 0;
      t0_flag = 0;
      s_flag = 4;
      m_flag = 0;
      x_flag = 0;
      n_flag = 0;
      not_z_flag = 1;
      v_flag = 0;
      c_flag = 0;
      int_mask = 0x700;
      int_level = 0;
      sr_save = 0;
    }

unfoldable pub fresh_queue : Queue
fresh_queue = record { prefetch_queue = replicate 2 0; prefetch_count = 0; pending_sync_clocks = 0; precise_bus = true }

unfoldable pub fresh_fault : Fault
fresh_fault =
    record {
      instruction_exception_vector = record { some = false; value = 0 };
      last_exception_vector = record { some = false; value = 0 };
      pending_fault_cause = 0;
      mmu_fc_override = record { some = false; value = 0 };
      pending_fault_wdata = 0;
    }

unfoldable pub fresh_resume : Resume
fresh_resume = record { some = false; pc = 0; sr = 0; dar = replicate 16 0 }

-- a record as `new()` and then `set_cpu_type` leave it
unfoldable pub fresh_cpu : ℕ → Cpu
fresh_cpu kind = record { regs = fresh_regs; flow = fresh_flow kind; flags = fresh_flags; queue = fresh_queue; fault = fresh_fault; fault_resume = fresh_resume }
