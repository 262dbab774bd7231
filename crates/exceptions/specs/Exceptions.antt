-- The entries of exceptions.rs that are no errors: what each makes of a world, and the cycles that it answers.
use Rattle.std.specs.Prelude.{ℕ, ◌+◌, ◌%◌, false, eqb}
use Rattle.types.specs.Kinds.{pick, is_pre68020}
use Rattle.types.specs.Vectors.{trace, line1111, trap_base}
use Rattle.types.specs.Tables.{exception_cycles}
use Rattle.cpu.specs.Fields.{kind_of, pc_of, ppc_of, in_exception, halted, set_exception, rewind_pc, note_fpiar}
use Rattle.status.specs.Status.{get_sr}
use Rattle.status.specs.Banks.{enter_supervisor}
use Rattle.memory.specs.World.{World, cpu_of, step}
use Rattle.steps.specs.Steps.{stacked_address, begin_entry, begin_trace}
use Rattle.access.specs.Access.{raised, push_frame, push_exception_frame68000, jump_vector}
use Rattle.formats.specs.Formats.{format_word, offset_word, short_frame, long_frame, disabled_frame}

-- an entry's world and the cycles that it answers
pub record Entry : Type 0 where
  pub after : World
  pub cycles : ℕ

abbrev pub entry : World → ℕ → Entry
entry w n = record { after = w; cycles = n }

-- supervisor state, trace off
abbrev pub supervised : World → World
supervised w = step enter_supervisor w

-- the status as it was, an address and, on kinds with a format, a format word: on the supervisor stack
unfoldable pub stack_short : World → ℕ → ℕ → World
stack_short w pc format =
    pick (eqb (kind_of (cpu_of w)) 1) (push_exception_frame68000 raised (supervised w) pc (get_sr (cpu_of w)))
    (push_frame raised (supervised w) (short_frame (get_sr (cpu_of w)) pc format))

-- `take_exception`: a halt while an entry is under way, with no frame and 0 cycles; else the frame, the jump, and the end of
-- exception processing
unfoldable pub finished : World → World
finished w = step (λ c. set_exception c false) w

unfoldable pub taken : World → ℕ → World
taken w v = finished (jump_vector raised (stack_short w (stacked_address (cpu_of w) v) (offset_word v)) v)

unfoldable pub take_exception : World → ℕ → Entry
take_exception w v =
    pick (in_exception (cpu_of w)) (entry (step halted w) 0)
    (entry (taken (step begin_entry w) v) (exception_cycles v))

-- `take_group2_exception`: the next instruction's address; from the 68020 on format 2 with the instruction's own address
unfoldable pub stack_group2 : World → ℕ → World
stack_group2 w v =
    pick (is_pre68020 (kind_of (cpu_of w))) (stack_short w (pc_of (cpu_of w)) (offset_word v))
    (push_frame raised (supervised w) (long_frame (get_sr (cpu_of w)) (pc_of (cpu_of w)) (format_word 2 v) (ppc_of (cpu_of w))))

unfoldable pub take_group2 : World → ℕ → Entry
take_group2 w v = entry (jump_vector raised (stack_group2 w v) v) (exception_cycles v)

-- `trap`: vectors 32 to 47
unfoldable pub trap : World → ℕ → Entry
trap w n = take_exception w (trap_base + n % 16)

-- `exception_trace`: a STOP ends, and 4 clocks come before the frame
unfoldable pub exception_trace : World → Entry
exception_trace w = take_group2 (step begin_trace w) trace

-- the wrappers that take PC back to the instruction: line A, line F, breakpoint, illegal
unfoldable pub take_rewound : World → ℕ → Entry
take_rewound w v = take_exception (step rewind_pc w) v

-- `take_fp_unimp_060`: FPIAR is the instruction, format 2 with the operand's address
unfoldable pub stack_unimp : World → ℕ → World
stack_unimp w ea = push_frame raised (supervised w) (long_frame (get_sr (cpu_of w)) (pc_of (cpu_of w)) (format_word 2 line1111) ea)

unfoldable pub take_fp_unimp060 : World → ℕ → Entry
take_fp_unimp060 w ea = entry (jump_vector raised (stack_unimp (step note_fpiar w) ea) line1111) (exception_cycles line1111)

-- `take_fp_disabled_060`: format 4, the instruction's address twice and 0 for the operand's
unfoldable pub stack_disabled : World → World
stack_disabled w = push_frame raised (supervised w) (disabled_frame (get_sr (cpu_of w)) (ppc_of (cpu_of w)) (format_word 4 line1111) 0 (ppc_of (cpu_of w)))

unfoldable pub take_fp_disabled060 : World → Entry
take_fp_disabled060 w = entry (jump_vector raised (stack_disabled w) line1111) (exception_cycles line1111)
