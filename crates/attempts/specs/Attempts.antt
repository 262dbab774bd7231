-- The call by a fast way: what an attempt may leave of what was lent, and the lent record with its patch.
use Rattle.std.specs.Prelude.{ℕ, ◌≡◌, Bool, false, List, ltb}
use Rattle.types.specs.Kinds.{pick}
use Rattle.memory.specs.Log.{with_events}
use Rattle.numbers.specs.Numbers.{bit}
use Rattle.numbers.specs.declared.RawCall.{RawCall}
use Rattle.fast_plans.specs.declared.Patch.{Patch}
use Rattle.fast_plans.specs.declared.Way.TheVariants.{Plain, Idle, Calm, Entry}
use Rattle.fast_plans.specs.Patched.{patched_regs, patched_flags, calmed_flags, patched_cycles, patched_fpiar, patched_words, patched_count}
use Rattle.records.specs.declared.LentCpu.{LentCpu}
use Rattle.records.specs.declared.LentCore.{LentCore}
use Rattle.records.specs.declared.LentFlow.{LentFlow}
use Rattle.records.specs.declared.LentQueue.{LentQueue}
use Rattle.records.specs.declared.LentFault.{LentFault}
use Rattle.records.specs.declared.LentVector.{LentVector}
use Rattle.attempts.specs.declared.Attempted.{Attempted}
use Rattle.attempts.specs.Lent.{left, says, lent_call}

-- every flag byte is 0 or 1
unfoldable pub is_tidy : LentCore → Bool
is_tidy c =
    pick (ltb 1 c.cpu.flow.exception_processing) false
    (pick (ltb 1 c.cpu.flow.change_of_flow) false
    (pick (ltb 1 c.cpu.flow.loop_mode) false
    (pick (ltb 1 c.cpu.queue.precise_bus) false
    (pick (ltb 1 c.cpu.fault.instruction_exception_vector.some) false
    (pick (ltb 1 c.cpu.fault.last_exception_vector.some) false
    (pick (ltb 1 c.cpu.fault.mmu_fc_override.some) false
    (ltb c.cpu.fault_resume.some 2)))))))

-- what an attempt says by its patch
unfoldable pub attempted_by : Patch → Attempted
attempted_by q = record { said = says 0 q.answer q.events; patch = q }

-- the groups of the lent record with a patch of an entry
unfoldable pub patched_flow : LentFlow → Patch → LentFlow
patched_flow f q =
    record {
      ppc = f.ppc;
      pc = q.pc;
      vbr = f.vbr;
      ir = f.ir;
      fpiar = patched_fpiar f.ppc f.fpiar q;
      cpu_type = f.cpu_type;
      run_mode = f.run_mode;
      stopped = q.stopped;
      exception_processing = f.exception_processing;
      change_of_flow = f.change_of_flow;
      loop_mode = 0;
      cycles_remaining = patched_cycles f.cycles_remaining f.cpu_type q;
    }

unfoldable pub patched_queue : LentQueue → Patch → LentQueue
patched_queue f q =
    record {
      prefetch_queue = patched_words f.prefetch_queue q;
      prefetch_count = patched_count f.prefetch_count q;
      pending_sync_clocks = 0;
      precise_bus = f.precise_bus;
    }

abbrev pub entered : Patch → LentVector
entered q = record { some = 1; value = q.vector }

unfoldable pub patched_fault : LentFault → Patch → LentFault
patched_fault f q =
    record {
      instruction_exception_vector = entered q;
      last_exception_vector = entered q;
      pending_fault_cause = f.pending_fault_cause;
      mmu_fc_override = f.mmu_fc_override;
      pending_fault_wdata = q.last;
    }

unfoldable pub patched_cpu : LentCpu → Patch → LentCpu
patched_cpu c q =
    record {
      regs = patched_regs c.regs q;
      flow = patched_flow c.flow q;
      flags = patched_flags c.flags q;
      queue = patched_queue c.queue q;
      fault = patched_fault c.fault q;
      fault_resume = c.fault_resume;
    }

unfoldable pub patched_by : LentCore → Attempted → LentCore
patched_by c x = record { cpu = patched_cpu c.cpu x.patch; bus = with_events c.bus x.patch.events }

-- the lent record after a call that makes no access
unfoldable pub calmed_flow : LentFlow → Patch → LentFlow
calmed_flow f q =
    record {
      ppc = f.ppc;
      pc = f.pc;
      vbr = f.vbr;
      ir = f.ir;
      fpiar = f.fpiar;
      cpu_type = f.cpu_type;
      run_mode = f.run_mode;
      stopped = f.stopped;
      exception_processing = f.exception_processing;
      change_of_flow = bit q.flow;
      loop_mode = f.loop_mode;
      cycles_remaining = f.cycles_remaining;
    }

unfoldable pub calmed_cpu : LentCpu → Patch → LentCpu
calmed_cpu c q =
    record {
      regs = c.regs;
      flow = calmed_flow c.flow q;
      flags = calmed_flags c.flags q;
      queue = c.queue;
      fault = c.fault;
      fault_resume = c.fault_resume;
    }

unfoldable pub calmed_by : LentCore → Attempted → LentCore
calmed_by c x = record { cpu = calmed_cpu c.cpu x.patch; bus = with_events c.bus 0 }

-- an attempt x did the call, in one of three ways: all of it, or all but the patch; or it left store and log alone
pub record Tried (c : LentCore) (call : RawCall) (s l : List ℕ) (x : Attempted) (s' l' : List ℕ) : Type 0 where
  pub idle : x.patch.way ≡ Idle → left c s' l' x.said ≡ lent_call c s l call
  pub calm : x.patch.way ≡ Calm → left (calmed_by c x) s' l' x.said ≡ lent_call c s l call
  pub fast : x.patch.way ≡ Entry → left (patched_by c x) s' l' x.said ≡ lent_call c s l call
  pub store : x.patch.way ≡ Plain → s' ≡ s
  pub log : x.patch.way ≡ Plain → l' ≡ l
