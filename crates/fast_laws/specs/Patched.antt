-- Record and bus after a call by the fast way, from the numbers of its patch.
use Rattle.std.specs.Prelude.{ℕ, ◌<◌, ◌^◌, true, false, eqb, ℤ, length, set}
use Rattle.types.specs.Kinds.{pick}
use Rattle.cpu.specs.declared.Cpu.{Cpu}
use Rattle.cpu.specs.declared.OptionalVector.{OptionalVector}
use Rattle.cpu.specs.Groups.{with_flow}
use Rattle.cpu.specs.Setters.{with_dar, with_sp, with_pc, with_fpiar, with_stopped, with_loop_mode, with_change_of_flow, flow_with_cycles_remaining, with_t1_flag, with_t0_flag, with_sflag, with_int_mask, with_int_level, with_prefetch_queue, with_prefetch_count, with_pending_sync_clocks, with_instruction_exception_vector, with_last_exception_vector, with_pending_fault_wdata}
use Rattle.pending.specs.Interrupts.{less_cycles}
use Rattle.memory.specs.declared.Core.{Core}
use Rattle.memory.specs.Log.{with_events}
use Rattle.fast_plans.specs.declared.Patch.{Patch}

-- the supervisor's stack: both saved pointers, and A7 at the frame
abbrev pub patch_regs : Cpu → Patch → Cpu
patch_regs c q = with_dar (with_sp c (set (set c.regs.sp 0 q.user) 4 q.top)) (set c.regs.dar 15 q.a7)

-- supervisor state, trace off, the mask and the level that waits
abbrev pub patch_flags : Cpu → Patch → Cpu
patch_flags c q = with_int_level (with_int_mask (with_sflag (with_t0_flag (with_t1_flag c 0) 0) 4) q.mask) q.level

-- PC at the handler, no loop mode, and where an interrupt was serviced its cycles taken off
abbrev pub cycles_after : Cpu → Patch → ℤ
cycles_after c q = pick q.serviced (less_cycles c.flow.cycles_remaining (eqb c.flow.cpu_type 2)) c.flow.cycles_remaining

-- FPIAR is the instruction's address where the entry notes it
abbrev pub fpiar_after : Cpu → Patch → ℕ
fpiar_after c q = pick q.noted c.flow.ppc c.flow.fpiar

abbrev pub patch_flow : Cpu → Patch → Cpu
patch_flow c q = with_flow c (flow_with_cycles_remaining (with_fpiar (with_stopped (with_loop_mode (with_pc c q.pc) false) q.stopped) (fpiar_after c q)).flow (cycles_after c q))

-- no clock waits, and where words are fetched both are in the queue
abbrev pub patch_queue : Cpu → Patch → Cpu
patch_queue c q =
    with_pending_sync_clocks
    (with_prefetch_count (with_prefetch_queue c (pick q.fetches (set (set c.queue.prefetch_queue 0 q.first) 1 q.second) c.queue.prefetch_queue))
    (pick q.fetches 2 c.queue.prefetch_count)) 0

-- the vector in both its fields, and the data of the last write
abbrev pub entered : Patch → OptionalVector
entered q = record { some = true; value = q.vector }

abbrev pub patch_fault : Cpu → Patch → Cpu
patch_fault c q = with_pending_fault_wdata (with_last_exception_vector (with_instruction_exception_vector c (entered q)) (entered q)) q.last

unfoldable pub patch_cpu : Cpu → Patch → Cpu
patch_cpu c q = patch_fault (patch_queue (patch_flow (patch_flags (patch_regs c q) q) q) q) q

-- after an entry
unfoldable pub patch_of : Core → Patch → Core
patch_of m q = record { cpu = patch_cpu m.cpu q; bus = with_events m.bus q.events }

-- after a call that makes no access
unfoldable pub calm_of : Core → Patch → Core
calm_of m q = record { cpu = with_int_level (with_change_of_flow m.cpu q.flow) q.level; bus = with_events m.bus 0 }

-- what is true of a record by its types
pub record Words (m : Core) : Type 0 where
  pub registers : 15 < length m.cpu.regs.dar
  pub pointers : 7 < length m.cpu.regs.sp
  pub pc : m.cpu.flow.pc < 2 ^ 32
  pub ppc : m.cpu.flow.ppc < 2 ^ 32
  pub clocks : m.cpu.queue.pending_sync_clocks < 2 ^ 32

-- the two words of the queue are words
abbrev pub Fetched : Patch → Type 0
Fetched q = (q.first < 0x10000) × (q.second < 0x10000)
