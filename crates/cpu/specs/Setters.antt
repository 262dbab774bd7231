-- Written by tools/generate.py from tools/manifest.txt: not edited by hand.
-- The record with one field replaced, by tools/setters.py from the structs: a setter for each field that a definition replaces. No other
-- file of specs/ lists the fields of a group to change one.
use Rattle.std.specs.Prelude.{ℕ, Bool, List, ℤ}
use Rattle.cpu.specs.declared.Cpu.{Cpu}
use Rattle.cpu.specs.declared.Flow.{Flow}
use Rattle.cpu.specs.declared.OptionalCode.{OptionalCode}
use Rattle.cpu.specs.declared.OptionalVector.{OptionalVector}
use Rattle.cpu.specs.Groups.{with_fault, with_flags, with_flow, with_queue, with_regs}

abbrev pub with_dar : Cpu → List ℕ → Cpu
with_dar c x =
    with_regs c
    (record {
      dar = x;
      dar_save = c.regs.dar_save;
      sp = c.regs.sp;
    })

abbrev pub with_sp : Cpu → List ℕ → Cpu
with_sp c x =
    with_regs c
    (record {
      dar = c.regs.dar;
      dar_save = c.regs.dar_save;
      sp = x;
    })

abbrev pub with_ppc : Cpu → ℕ → Cpu
with_ppc c x =
    with_flow c
    (record {
      ppc = x;
      pc = c.flow.pc;
      vbr = c.flow.vbr;
      ir = c.flow.ir;
      fpiar = c.flow.fpiar;
      cpu_type = c.flow.cpu_type;
      run_mode = c.flow.run_mode;
      stopped = c.flow.stopped;
      exception_processing = c.flow.exception_processing;
      change_of_flow = c.flow.change_of_flow;
      loop_mode = c.flow.loop_mode;
      cycles_remaining = c.flow.cycles_remaining;
    })

abbrev pub with_pc : Cpu → ℕ → Cpu
with_pc c x =
    with_flow c
    (record {
      ppc = c.flow.ppc;
      pc = x;
      vbr = c.flow.vbr;
      ir = c.flow.ir;
      fpiar = c.flow.fpiar;
      cpu_type = c.flow.cpu_type;
      run_mode = c.flow.run_mode;
      stopped = c.flow.stopped;
      exception_processing = c.flow.exception_processing;
      change_of_flow = c.flow.change_of_flow;
      loop_mode = c.flow.loop_mode;
      cycles_remaining = c.flow.cycles_remaining;
    })

abbrev pub with_fpiar : Cpu → ℕ → Cpu
with_fpiar c x =
    with_flow c
    (record {
      ppc = c.flow.ppc;
      pc = c.flow.pc;
      vbr = c.flow.vbr;
      ir = c.flow.ir;
      fpiar = x;
      cpu_type = c.flow.cpu_type;
      run_mode = c.flow.run_mode;
      stopped = c.flow.stopped;
      exception_processing = c.flow.exception_processing;
      change_of_flow = c.flow.change_of_flow;
      loop_mode = c.flow.loop_mode;
      cycles_remaining = c.flow.cycles_remaining;
    })

abbrev pub with_run_mode : Cpu → ℕ → Cpu
with_run_mode c x =
    with_flow c
    (record {
      ppc = c.flow.ppc;
      pc = c.flow.pc;
      vbr = c.flow.vbr;
      ir = c.flow.ir;
      fpiar = c.flow.fpiar;
      cpu_type = c.flow.cpu_type;
      run_mode = x;
      stopped = c.flow.stopped;
      exception_processing = c.flow.exception_processing;
      change_of_flow = c.flow.change_of_flow;
      loop_mode = c.flow.loop_mode;
      cycles_remaining = c.flow.cycles_remaining;
    })

abbrev pub with_stopped : Cpu → ℕ → Cpu
with_stopped c x =
    with_flow c
    (record {
      ppc = c.flow.ppc;
      pc = c.flow.pc;
      vbr = c.flow.vbr;
      ir = c.flow.ir;
      fpiar = c.flow.fpiar;
      cpu_type = c.flow.cpu_type;
      run_mode = c.flow.run_mode;
      stopped = x;
      exception_processing = c.flow.exception_processing;
      change_of_flow = c.flow.change_of_flow;
      loop_mode = c.flow.loop_mode;
      cycles_remaining = c.flow.cycles_remaining;
    })

abbrev pub with_exception_processing : Cpu → Bool → Cpu
with_exception_processing c x =
    with_flow c
    (record {
      ppc = c.flow.ppc;
      pc = c.flow.pc;
      vbr = c.flow.vbr;
      ir = c.flow.ir;
      fpiar = c.flow.fpiar;
      cpu_type = c.flow.cpu_type;
      run_mode = c.flow.run_mode;
      stopped = c.flow.stopped;
      exception_processing = x;
      change_of_flow = c.flow.change_of_flow;
      loop_mode = c.flow.loop_mode;
      cycles_remaining = c.flow.cycles_remaining;
    })

abbrev pub with_change_of_flow : Cpu → Bool → Cpu
with_change_of_flow c x =
    with_flow c
    (record {
      ppc = c.flow.ppc;
      pc = c.flow.pc;
      vbr = c.flow.vbr;
      ir = c.flow.ir;
      fpiar = c.flow.fpiar;
      cpu_type = c.flow.cpu_type;
      run_mode = c.flow.run_mode;
      stopped = c.flow.stopped;
      exception_processing = c.flow.exception_processing;
      change_of_flow = x;
      loop_mode = c.flow.loop_mode;
      cycles_remaining = c.flow.cycles_remaining;
    })

abbrev pub with_loop_mode : Cpu → Bool → Cpu
with_loop_mode c x =
    with_flow c
    (record {
      ppc = c.flow.ppc;
      pc = c.flow.pc;
      vbr = c.flow.vbr;
      ir = c.flow.ir;
      fpiar = c.flow.fpiar;
      cpu_type = c.flow.cpu_type;
      run_mode = c.flow.run_mode;
      stopped = c.flow.stopped;
      exception_processing = c.flow.exception_processing;
      change_of_flow = c.flow.change_of_flow;
      loop_mode = x;
      cycles_remaining = c.flow.cycles_remaining;
    })

abbrev pub flow_with_cycles_remaining : Flow → ℤ → Flow
flow_with_cycles_remaining c x =
    record {
      ppc = c.ppc;
      pc = c.pc;
      vbr = c.vbr;
      ir = c.ir;
      fpiar = c.fpiar;
      cpu_type = c.cpu_type;
      run_mode = c.run_mode;
      stopped = c.stopped;
      exception_processing = c.exception_processing;
      change_of_flow = c.change_of_flow;
      loop_mode = c.loop_mode;
      cycles_remaining = x;
    }

abbrev pub with_t1_flag : Cpu → ℕ → Cpu
with_t1_flag c x =
    with_flags c
    (record {
      t1_flag = x;
      t0_flag = c.flags.t0_flag;
      s_flag = c.flags.s_flag;
      m_flag = c.flags.m_flag;
      x_flag = c.flags.x_flag;
      n_flag = c.flags.n_flag;
      not_z_flag = c.flags.not_z_flag;
      v_flag = c.flags.v_flag;
      c_flag = c.flags.c_flag;
      int_mask = c.flags.int_mask;
      int_level = c.flags.int_level;
      sr_save = c.flags.sr_save;
    })

abbrev pub with_t0_flag : Cpu → ℕ → Cpu
with_t0_flag c x =
    with_flags c
    (record {
      t1_flag = c.flags.t1_flag;
      t0_flag = x;
      s_flag = c.flags.s_flag;
      m_flag = c.flags.m_flag;
      x_flag = c.flags.x_flag;
      n_flag = c.flags.n_flag;
      not_z_flag = c.flags.not_z_flag;
      v_flag = c.flags.v_flag;
      c_flag = c.flags.c_flag;
      int_mask = c.flags.int_mask;
      int_level = c.flags.int_level;
      sr_save = c.flags.sr_save;
    })

abbrev pub with_sflag : Cpu → ℕ → Cpu
with_sflag c x =
    with_flags c
    (record {
      t1_flag = c.flags.t1_flag;
      t0_flag = c.flags.t0_flag;
      s_flag = x;
      m_flag = c.flags.m_flag;
      x_flag = c.flags.x_flag;
      n_flag = c.flags.n_flag;
      not_z_flag = c.flags.not_z_flag;
      v_flag = c.flags.v_flag;
      c_flag = c.flags.c_flag;
      int_mask = c.flags.int_mask;
      int_level = c.flags.int_level;
      sr_save = c.flags.sr_save;
    })

abbrev pub with_mflag : Cpu → ℕ → Cpu
with_mflag c x =
    with_flags c
    (record {
      t1_flag = c.flags.t1_flag;
      t0_flag = c.flags.t0_flag;
      s_flag = c.flags.s_flag;
      m_flag = x;
      x_flag = c.flags.x_flag;
      n_flag = c.flags.n_flag;
      not_z_flag = c.flags.not_z_flag;
      v_flag = c.flags.v_flag;
      c_flag = c.flags.c_flag;
      int_mask = c.flags.int_mask;
      int_level = c.flags.int_level;
      sr_save = c.flags.sr_save;
    })

abbrev pub with_xflag : Cpu → ℕ → Cpu
with_xflag c x =
    with_flags c
    (record {
      t1_flag = c.flags.t1_flag;
      t0_flag = c.flags.t0_flag;
      s_flag = c.flags.s_flag;
      m_flag = c.flags.m_flag;
      x_flag = x;
      n_flag = c.flags.n_flag;
      not_z_flag = c.flags.not_z_flag;
      v_flag = c.flags.v_flag;
      c_flag = c.flags.c_flag;
      int_mask = c.flags.int_mask;
      int_level = c.flags.int_level;
      sr_save = c.flags.sr_save;
    })

abbrev pub with_nflag : Cpu → ℕ → Cpu
with_nflag c x =
    with_flags c
    (record {
      t1_flag = c.flags.t1_flag;
      t0_flag = c.flags.t0_flag;
      s_flag = c.flags.s_flag;
      m_flag = c.flags.m_flag;
      x_flag = c.flags.x_flag;
      n_flag = x;
      not_z_flag = c.flags.not_z_flag;
      v_flag = c.flags.v_flag;
      c_flag = c.flags.c_flag;
      int_mask = c.flags.int_mask;
      int_level = c.flags.int_level;
      sr_save = c.flags.sr_save;
    })

abbrev pub with_not_zflag : Cpu → ℕ → Cpu
with_not_zflag c x =
    with_flags c
    (record {
      t1_flag = c.flags.t1_flag;
      t0_flag = c.flags.t0_flag;
      s_flag = c.flags.s_flag;
      m_flag = c.flags.m_flag;
      x_flag = c.flags.x_flag;
      n_flag = c.flags.n_flag;
      not_z_flag = x;
      v_flag = c.flags.v_flag;
      c_flag = c.flags.c_flag;
      int_mask = c.flags.int_mask;
      int_level = c.flags.int_level;
      sr_save = c.flags.sr_save;
    })

abbrev pub with_vflag : Cpu → ℕ → Cpu
with_vflag c x =
    with_flags c
    (record {
      t1_flag = c.flags.t1_flag;
      t0_flag = c.flags.t0_flag;
      s_flag = c.flags.s_flag;
      m_flag = c.flags.m_flag;
      x_flag = c.flags.x_flag;
      n_flag = c.flags.n_flag;
      not_z_flag = c.flags.not_z_flag;
      v_flag = x;
      c_flag = c.flags.c_flag;
      int_mask = c.flags.int_mask;
      int_level = c.flags.int_level;
      sr_save = c.flags.sr_save;
    })

abbrev pub with_cflag : Cpu → ℕ → Cpu
with_cflag c x =
    with_flags c
    (record {
      t1_flag = c.flags.t1_flag;
      t0_flag = c.flags.t0_flag;
      s_flag = c.flags.s_flag;
      m_flag = c.flags.m_flag;
      x_flag = c.flags.x_flag;
      n_flag = c.flags.n_flag;
      not_z_flag = c.flags.not_z_flag;
      v_flag = c.flags.v_flag;
      c_flag = x;
      int_mask = c.flags.int_mask;
      int_level = c.flags.int_level;
      sr_save = c.flags.sr_save;
    })

abbrev pub with_int_mask : Cpu → ℕ → Cpu
with_int_mask c x =
    with_flags c
    (record {
      t1_flag = c.flags.t1_flag;
      t0_flag = c.flags.t0_flag;
      s_flag = c.flags.s_flag;
      m_flag = c.flags.m_flag;
      x_flag = c.flags.x_flag;
      n_flag = c.flags.n_flag;
      not_z_flag = c.flags.not_z_flag;
      v_flag = c.flags.v_flag;
      c_flag = c.flags.c_flag;
      int_mask = x;
      int_level = c.flags.int_level;
      sr_save = c.flags.sr_save;
    })

abbrev pub with_int_level : Cpu → ℕ → Cpu
with_int_level c x =
    with_flags c
    (record {
      t1_flag = c.flags.t1_flag;
      t0_flag = c.flags.t0_flag;
      s_flag = c.flags.s_flag;
      m_flag = c.flags.m_flag;
      x_flag = c.flags.x_flag;
      n_flag = c.flags.n_flag;
      not_z_flag = c.flags.not_z_flag;
      v_flag = c.flags.v_flag;
      c_flag = c.flags.c_flag;
      int_mask = c.flags.int_mask;
      int_level = x;
      sr_save = c.flags.sr_save;
    })

abbrev pub with_prefetch_queue : Cpu → List ℕ → Cpu
with_prefetch_queue c x =
    with_queue c
    (record {
      prefetch_queue = x;
      prefetch_count = c.queue.prefetch_count;
      pending_sync_clocks = c.queue.pending_sync_clocks;
      precise_bus = c.queue.precise_bus;
    })

abbrev pub with_prefetch_count : Cpu → ℕ → Cpu
with_prefetch_count c x =
    with_queue c
    (record {
      prefetch_queue = c.queue.prefetch_queue;
      prefetch_count = x;
      pending_sync_clocks = c.queue.pending_sync_clocks;
      precise_bus = c.queue.precise_bus;
    })

abbrev pub with_pending_sync_clocks : Cpu → ℕ → Cpu
with_pending_sync_clocks c x =
    with_queue c
    (record {
      prefetch_queue = c.queue.prefetch_queue;
      prefetch_count = c.queue.prefetch_count;
      pending_sync_clocks = x;
      precise_bus = c.queue.precise_bus;
    })

abbrev pub with_instruction_exception_vector : Cpu → OptionalVector → Cpu
with_instruction_exception_vector c x =
    with_fault c
    (record {
      instruction_exception_vector = x;
      last_exception_vector = c.fault.last_exception_vector;
      pending_fault_cause = c.fault.pending_fault_cause;
      mmu_fc_override = c.fault.mmu_fc_override;
      pending_fault_wdata = c.fault.pending_fault_wdata;
    })

abbrev pub with_last_exception_vector : Cpu → OptionalVector → Cpu
with_last_exception_vector c x =
    with_fault c
    (record {
      instruction_exception_vector = c.fault.instruction_exception_vector;
      last_exception_vector = x;
      pending_fault_cause = c.fault.pending_fault_cause;
      mmu_fc_override = c.fault.mmu_fc_override;
      pending_fault_wdata = c.fault.pending_fault_wdata;
    })

abbrev pub with_pending_fault_cause : Cpu → ℕ → Cpu
with_pending_fault_cause c x =
    with_fault c
    (record {
      instruction_exception_vector = c.fault.instruction_exception_vector;
      last_exception_vector = c.fault.last_exception_vector;
      pending_fault_cause = x;
      mmu_fc_override = c.fault.mmu_fc_override;
      pending_fault_wdata = c.fault.pending_fault_wdata;
    })

abbrev pub with_mmu_fc_override : Cpu → OptionalCode → Cpu
with_mmu_fc_override c x =
    with_fault c
    (record {
      instruction_exception_vector = c.fault.instruction_exception_vector;
      last_exception_vector = c.fault.last_exception_vector;
      pending_fault_cause = c.fault.pending_fault_cause;
      mmu_fc_override = x;
      pending_fault_wdata = c.fault.pending_fault_wdata;
    })

abbrev pub with_pending_fault_wdata : Cpu → ℕ → Cpu
with_pending_fault_wdata c x =
    with_fault c
    (record {
      instruction_exception_vector = c.fault.instruction_exception_vector;
      last_exception_vector = c.fault.last_exception_vector;
      pending_fault_cause = c.fault.pending_fault_cause;
      mmu_fc_override = c.fault.mmu_fc_override;
      pending_fault_wdata = x;
    })
