-- `check_and_service_interrupts` and `service_interrupt`, for every kind: what each makes of a world.
use Rattle.std.specs.Prelude.{ℕ, ◌+◌, ◌/◌, ◌%◌, ◌^◌, true, false, eqb}
use Rattle.types.specs.Kinds.{pick, is_ec020_plus, is060}
use Rattle.cpu.specs.Fields.{kind_of, pc_of, a7_of, lower_a7}
use Rattle.status.specs.Status.{get_sr, clear_m, m_is_set}
use Rattle.status.specs.Banks.{set_sm_flag}
use Rattle.cpu.specs.Clocks.{internal_cycles}
use Rattle.pending.specs.Interrupts.{pending_level, takes_interrupt, clear_level}
use Rattle.memory.specs.World.{World, Attempt, reply, tried, cpu_of, step, flush, acknowledged}
use Rattle.steps.specs.Steps.{iack_vector, enter_level, close_interrupt, with_s}
use Rattle.access.specs.Access.{raised, write_at, push_frame, jump_vector}
use Rattle.formats.specs.Formats.{format_word, offset_word, short_frame}

-- the acknowledge cycle: the world after it, and the vector as its value
unfoldable pub vector_from : ℕ → Attempt → Attempt
vector_from level x = reply x.after true (iack_vector x.value level)

unfoldable pub acknowledge_level : World → ℕ → Attempt
acknowledge_level w level = vector_from level (acknowledged w level)

-- what the sync of waiting clocks and the acknowledge leave: on kinds 1 and 2 the clocks are sent first
unfoldable pub synced_acknowledge : World → ℕ → ℕ → Attempt
synced_acknowledge w clocks level = acknowledge_level (flush (step (λ c. internal_cycles c clocks) w)) level

-- kind 1: 6 clocks, PC low, 4 clocks and the acknowledge, 4 clocks, the status, PC high; A7 is lowered once
unfoldable pub rest68000 : ℕ → ℕ → ℕ → Attempt → Attempt
rest68000 sp pc sr x =
    reply
    (write_at raised (write_at raised (step (λ c. internal_cycles c 4) x.after) sp false sr) ((sp + 2) % 2 ^ 32) false (pc / 0x10000))
    true x.value

unfoldable pub from68000 : World → ℕ → ℕ → ℕ → ℕ → Attempt
from68000 w sp pc sr level = rest68000 sp pc sr (synced_acknowledge (write_at raised w ((sp + 4) % 2 ^ 32) false (pc % 0x10000)) 4 level)

unfoldable pub push_interrupt68000 : World → ℕ → ℕ → ℕ → Attempt
push_interrupt68000 w pc sr level =
    from68000 (step (λ c. lower_a7 (internal_cycles c 6) 6) w) (a7_of (lower_a7 (internal_cycles (cpu_of w) 6) 6)) pc sr level

-- kind 2: 12 clocks and the acknowledge, then PC low, the status, PC high and the format word; A7 is lowered once
unfoldable pub writes68010 : World → ℕ → ℕ → ℕ → ℕ → World
writes68010 w sp pc sr format =
    write_at raised
    (write_at raised (write_at raised (write_at raised w ((sp + 4) % 2 ^ 32) false (pc % 0x10000)) sp false sr) ((sp + 2) % 2 ^ 32) false (pc / 0x10000))
    ((sp + 6) % 2 ^ 32) false format

unfoldable pub rest68010 : ℕ → ℕ → Attempt → Attempt
rest68010 pc sr x =
    reply
    (writes68010 (step (λ c. lower_a7 c 8) x.after) (a7_of (lower_a7 (cpu_of x.after) 8)) pc sr (offset_word x.value))
    true x.value

unfoldable pub push_interrupt68010 : World → ℕ → ℕ → ℕ → Attempt
push_interrupt68010 w pc sr level = rest68010 pc sr (synced_acknowledge w 12 level)

-- other kinds: the acknowledge, then format 0
unfoldable pub rest_other : ℕ → ℕ → Attempt → Attempt
rest_other pc sr x = reply (push_frame raised x.after (short_frame sr pc (offset_word x.value))) true x.value

unfoldable pub push_interrupt_other : World → ℕ → ℕ → ℕ → Attempt
push_interrupt_other w pc sr level = rest_other pc sr (acknowledge_level w level)

unfoldable pub first_frame : World → ℕ → ℕ → ℕ → Attempt
first_frame w pc sr level =
    pick (eqb (kind_of (cpu_of w)) 1) (push_interrupt68000 w pc sr level)
    (pick (eqb (kind_of (cpu_of w)) 2) (push_interrupt68010 w pc sr level) (push_interrupt_other w pc sr level))

-- after the first frame, where M is set: on kinds 3 to 9 M is cleared with the stack and a format 1 frame follows on the
-- interrupt stack, its status with S set; on kind 11 M is cleared and the stack stays
unfoldable pub throwaway : World → ℕ → ℕ → ℕ → World
throwaway w pc sr v = push_frame raised (step (λ c. set_sm_flag c 4) w) (short_frame (with_s sr) pc (format_word 1 v))

unfoldable pub second_frame : World → ℕ → ℕ → ℕ → World
second_frame w pc sr v =
    pick (m_is_set (cpu_of w))
    (pick (is_ec020_plus (kind_of (cpu_of w))) (throwaway w pc sr v)
    (pick (is060 (kind_of (cpu_of w))) (step clear_m w) w)) w

-- after the jump the interrupt is closed
unfoldable pub ended : World → World
ended w = step close_interrupt w

unfoldable pub dispatched : ℕ → ℕ → Attempt → World
dispatched pc sr x = ended (jump_vector raised (second_frame x.after pc sr x.value) x.value)

unfoldable pub service_interrupt : World → ℕ → World
service_interrupt w level =
    dispatched (pc_of (cpu_of w)) (get_sr (cpu_of w)) (first_frame (step (λ c. enter_level c level) w) (pc_of (cpu_of w)) (get_sr (cpu_of w)) level)

-- `check_and_service_interrupts`: taken exactly if the level is 7 or above the mask; then no level is pending
unfoldable pub serviced : World → World
serviced w = step clear_level w

unfoldable pub check_and_service : World → Attempt
check_and_service w =
    pick (takes_interrupt (cpu_of w)) (tried (serviced (service_interrupt w (pending_level (cpu_of w)))) true) (tried w false)
