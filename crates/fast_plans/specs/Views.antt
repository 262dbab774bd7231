-- What the fast way reads of a record and its bus, and which of them it takes.
use Rattle.std.specs.Prelude.{ℕ, ◌+◌, ◌%◌, Bool, false, not, eqb, ltb, get_or}
use Rattle.types.specs.Kinds.{pick}
use Rattle.pending.specs.Interrupts.{has_cycles}
use Rattle.memory.specs.declared.Core.{Core}
use Rattle.fast_plans.specs.declared.View.{View}

unfoldable pub view_of : Core → View
view_of m =
    record {
      kind = m.cpu.flow.cpu_type;
      flags = m.cpu.flags;
      a7 = get_or m.cpu.regs.dar 15 0;
      user = get_or m.cpu.regs.sp 0 0;
      interrupt = get_or m.cpu.regs.sp 4 0;
      pc = m.cpu.flow.pc;
      ppc = m.cpu.flow.ppc;
      vbr = m.cpu.flow.vbr;
      run_mode = m.cpu.flow.run_mode;
      stopped = m.cpu.flow.stopped;
      exception = m.cpu.flow.exception_processing;
      change_of_flow = m.cpu.flow.change_of_flow;
      room = has_cycles m.cpu;
      clocks = m.cpu.queue.pending_sync_clocks;
      precise = m.cpu.queue.precise_bus;
      overridden = m.cpu.fault.mmu_fc_override.some;
      base = m.bus.base;
      windows = m.bus.windows;
      responses = m.bus.responses;
      events = m.bus.events;
    }

-- the addresses of a kind
unfoldable pub span_of : ℕ → ℕ
span_of kind = pick (ltb kind 3) 0x1000000 0x100000000

-- an S flag that is neither 0 nor 4
unfoldable pub is_other : ℕ → Bool
is_other s = pick (eqb s 0) false (not (eqb s 4))

-- the records, stores and logs that the fast way takes: M clear, the vector base even, no function code that stands in, no window, a store within the
-- addresses of the kind, a log with room, a record that is not faulted
unfoldable pub accepts_of : View → ℕ → ℕ → Bool
accepts_of x stored logged =
    pick (is_other x.flags.s_flag) false
    (pick (not (eqb x.flags.m_flag 0)) false
    (pick (eqb (x.vbr % 2) 1) false
    (pick x.overridden false
    (pick (not (eqb x.windows 0)) false
    (pick (ltb 65536 stored) false
    (pick (ltb (span_of x.kind) (x.base + stored)) false
    (pick (ltb logged 192) false
    (pick (ltb 11 x.kind) false
    (not (eqb x.run_mode 1))))))))))
