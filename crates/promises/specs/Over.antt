-- The public call over what raises a fault inside: `t` stands where the definitions of `exceptions`, `interrupts` and `calls` have
-- `raised`, which is two levels of the recursion. Over `raised` it is `perform`.
use Rattle.std.specs.Prelude.{ℕ, ◌+◌, ◌/◌, ◌%◌, ◌^◌, ◌≡◌, refl, true, false, eqb}
use Rattle.std.proofs.Common.{ap}
use Rattle.types.specs.Kinds.{pick, is_pre68020, is_ec020_plus, is060}
use Rattle.types.specs.Vectors.{illegal_instruction, zero_divide, chk, privilege_violation, trace, line1010, line1111, trap_base}
use Rattle.types.specs.Tables.{exception_cycles}
use Rattle.types.specs.Causes.{cause_number}
use Rattle.cpu.specs.Fields.{kind_of, pc_of, ppc_of, a7_of, in_exception, halted, lower_a7, rewind_pc, note_fpiar}
use Rattle.cpu.specs.Clocks.{internal_cycles}
use Rattle.status.specs.Status.{get_sr, clear_m, m_is_set}
use Rattle.status.specs.Banks.{set_sm_flag}
use Rattle.pending.specs.Trace.{check_trace}
use Rattle.pending.specs.Interrupts.{set_irq, check_interrupts, pending_level, takes_interrupt}
use Rattle.memory.specs.World.{World, Attempt, reply, tried, cpu_of, step}
use Rattle.frames.specs.Frames.{word, long}
use Rattle.steps.specs.Steps.{stacked_address, begin_entry, begin_trace, with_s, enter_level}
use Rattle.access.specs.Access.{Raise, raised, bus_error, address_error, read_at, write_at, push_field, push_frame, push_exception_frame68000, jump_vector, prefetch_first, prefetch_second, exception_bus_error, exception_address_error}
use Rattle.formats.specs.Formats.{format_word, offset_word, short_frame, long_frame, disabled_frame}
use Rattle.exceptions.specs.Exceptions.{Entry, entry, supervised, finished, stack_short, taken, take_exception, stack_group2, take_group2, trap, exception_trace, take_rewound, stack_unimp, take_fp_unimp060, stack_disabled, take_fp_disabled060}
use Rattle.interrupts.specs.Interrupts.{acknowledge_level, synced_acknowledge, ended, serviced, rest68000, from68000, writes68010, rest68010, rest_other, throwaway, push_interrupt68000, push_interrupt68010, push_interrupt_other, first_frame, second_frame, dispatched, service_interrupt, check_and_service}
use Rattle.answers.specs.declared.Call.{Call}
use Rattle.answers.specs.declared.Call.TheVariants.{TakeException, Trap, TakeGroup2Exception, ExceptionChk, ExceptionZeroDivide, ExceptionPrivilege, ExceptionTrace, ExceptionAddressError, ExceptionBusError, TakeFpUnimp060, TakeFpDisabled060, TakeAlineException, TakeFlineException, TakeTrapException, TakeBkptException, TakeIllegalException, TriggerAddressError, TriggerBusError, CheckTrace, SetIrq, CheckInterrupts, CheckAndServiceInterrupts, Read16, Read32, Write16, Write32, Push16, Push32, PrefetchFirst, PrefetchSecond}
use Rattle.answers.specs.Answer.{Refused}
use Rattle.answers.specs.Answers.{Performed, answered, cycles, flag, plain, of_entry, of_read, of_service, of_trace}
use Rattle.calls.specs.Calls.{run, begun, refusal, perform}

module _ (t : Raise) where
  -- exceptions
  unfoldable pub stack_short_by : World → ℕ → ℕ → World
  stack_short_by w pc format =
      pick (eqb (kind_of (cpu_of w)) 1) (push_exception_frame68000 t (supervised w) pc (get_sr (cpu_of w)))
      (push_frame t (supervised w) (short_frame (get_sr (cpu_of w)) pc format))

  unfoldable pub taken_by : World → ℕ → World
  taken_by w v = finished (jump_vector t (stack_short_by w (stacked_address (cpu_of w) v) (offset_word v)) v)

  unfoldable pub take_exception_by : World → ℕ → Entry
  take_exception_by w v = pick (in_exception (cpu_of w)) (entry (step halted w) 0) (entry (taken_by (step begin_entry w) v) (exception_cycles v))

  unfoldable pub stack_group2_by : World → ℕ → World
  stack_group2_by w v =
      pick (is_pre68020 (kind_of (cpu_of w))) (stack_short_by w (pc_of (cpu_of w)) (offset_word v))
      (push_frame t (supervised w) (long_frame (get_sr (cpu_of w)) (pc_of (cpu_of w)) (format_word 2 v) (ppc_of (cpu_of w))))

  unfoldable pub take_group2_by : World → ℕ → Entry
  take_group2_by w v = entry (jump_vector t (stack_group2_by w v) v) (exception_cycles v)

  unfoldable pub trap_by : World → ℕ → Entry
  trap_by w n = take_exception_by w (trap_base + n % 16)

  unfoldable pub exception_trace_by : World → Entry
  exception_trace_by w = take_group2_by (step begin_trace w) trace

  unfoldable pub take_rewound_by : World → ℕ → Entry
  take_rewound_by w v = take_exception_by (step rewind_pc w) v

  unfoldable pub stack_unimp_by : World → ℕ → World
  stack_unimp_by w ea = push_frame t (supervised w) (long_frame (get_sr (cpu_of w)) (pc_of (cpu_of w)) (format_word 2 line1111) ea)

  unfoldable pub take_fp_unimp060_by : World → ℕ → Entry
  take_fp_unimp060_by w ea = entry (jump_vector t (stack_unimp_by (step note_fpiar w) ea) line1111) (exception_cycles line1111)

  unfoldable pub stack_disabled_by : World → World
  stack_disabled_by w = push_frame t (supervised w) (disabled_frame (get_sr (cpu_of w)) (ppc_of (cpu_of w)) (format_word 4 line1111) 0 (ppc_of (cpu_of w)))

  unfoldable pub take_fp_disabled060_by : World → Entry
  take_fp_disabled060_by w = entry (jump_vector t (stack_disabled_by w) line1111) (exception_cycles line1111)

  -- interrupts
  unfoldable pub rest68000_by : ℕ → ℕ → ℕ → Attempt → Attempt
  rest68000_by sp pc sr x =
      reply (write_at t (write_at t (step (λ c. internal_cycles c 4) x.after) sp false sr) ((sp + 2) % 2 ^ 32) false (pc / 0x10000)) true x.value

  unfoldable pub from68000_by : World → ℕ → ℕ → ℕ → ℕ → Attempt
  from68000_by w sp pc sr level = rest68000_by sp pc sr (synced_acknowledge (write_at t w ((sp + 4) % 2 ^ 32) false (pc % 0x10000)) 4 level)

  unfoldable pub push_interrupt68000_by : World → ℕ → ℕ → ℕ → Attempt
  push_interrupt68000_by w pc sr level =
      from68000_by (step (λ c. lower_a7 (internal_cycles c 6) 6) w) (a7_of (lower_a7 (internal_cycles (cpu_of w) 6) 6)) pc sr level

  unfoldable pub writes68010_by : World → ℕ → ℕ → ℕ → ℕ → World
  writes68010_by w sp pc sr format =
      write_at t
      (write_at t (write_at t (write_at t w ((sp + 4) % 2 ^ 32) false (pc % 0x10000)) sp false sr) ((sp + 2) % 2 ^ 32) false (pc / 0x10000))
      ((sp + 6) % 2 ^ 32) false format

  unfoldable pub rest68010_by : ℕ → ℕ → Attempt → Attempt
  rest68010_by pc sr x =
      reply
      (writes68010_by (step (λ c. lower_a7 c 8) x.after) (a7_of (lower_a7 (cpu_of x.after) 8)) pc sr (offset_word x.value))
      true x.value

  unfoldable pub push_interrupt68010_by : World → ℕ → ℕ → ℕ → Attempt
  push_interrupt68010_by w pc sr level = rest68010_by pc sr (synced_acknowledge w 12 level)

  unfoldable pub rest_other_by : ℕ → ℕ → Attempt → Attempt
  rest_other_by pc sr x = reply (push_frame t x.after (short_frame sr pc (offset_word x.value))) true x.value

  unfoldable pub push_interrupt_other_by : World → ℕ → ℕ → ℕ → Attempt
  push_interrupt_other_by w pc sr level = rest_other_by pc sr (acknowledge_level w level)

  unfoldable pub first_frame_by : World → ℕ → ℕ → ℕ → Attempt
  first_frame_by w pc sr level =
      pick (eqb (kind_of (cpu_of w)) 1) (push_interrupt68000_by w pc sr level)
      (pick (eqb (kind_of (cpu_of w)) 2) (push_interrupt68010_by w pc sr level) (push_interrupt_other_by w pc sr level))

  unfoldable pub throwaway_by : World → ℕ → ℕ → ℕ → World
  throwaway_by w pc sr v = push_frame t (step (λ c. set_sm_flag c 4) w) (short_frame (with_s sr) pc (format_word 1 v))

  unfoldable pub second_frame_by : World → ℕ → ℕ → ℕ → World
  second_frame_by w pc sr v =
      pick (m_is_set (cpu_of w))
      (pick (is_ec020_plus (kind_of (cpu_of w))) (throwaway_by w pc sr v)
      (pick (is060 (kind_of (cpu_of w))) (step clear_m w) w)) w

  unfoldable pub dispatched_by : ℕ → ℕ → Attempt → World
  dispatched_by pc sr x = ended (jump_vector t (second_frame_by x.after pc sr x.value) x.value)

  unfoldable pub service_interrupt_by : World → ℕ → World
  service_interrupt_by w level =
      dispatched_by (pc_of (cpu_of w)) (get_sr (cpu_of w)) (first_frame_by (step (λ c. enter_level c level) w) (pc_of (cpu_of w)) (get_sr (cpu_of w)) level)

  unfoldable pub check_and_service_by : World → Attempt
  check_and_service_by w =
      pick (takes_interrupt (cpu_of w)) (tried (serviced (service_interrupt_by w (pending_level (cpu_of w)))) true) (tried w false)

  -- calls
  unfoldable pub run_by : World → Call → Performed
  run_by w (TakeException v) = of_entry (take_exception_by w v)
  run_by w (Trap n) = of_entry (trap_by w n)
  run_by w (TakeGroup2Exception v) = of_entry (take_group2_by w v)
  run_by w ExceptionChk = of_entry (take_group2_by w chk)
  run_by w ExceptionZeroDivide = of_entry (take_group2_by w zero_divide)
  run_by w ExceptionPrivilege = of_entry (take_exception_by w privilege_violation)
  run_by w ExceptionTrace = of_entry (exception_trace_by w)
  run_by w (ExceptionAddressError a write instruction) = cycles (exception_address_error t w a write instruction) 50
  run_by w (ExceptionBusError a write instruction z cause) = cycles (exception_bus_error t w a write instruction z (cause_number cause)) 50
  run_by w (TakeFpUnimp060 ea) = of_entry (take_fp_unimp060_by w ea)
  run_by w TakeFpDisabled060 = of_entry (take_fp_disabled060_by w)
  run_by w TakeAlineException = of_entry (take_rewound_by w line1010)
  run_by w TakeFlineException = of_entry (take_rewound_by w line1111)
  run_by w (TakeTrapException n) = of_entry (trap_by w n)
  run_by w TakeBkptException = of_entry (take_rewound_by w illegal_instruction)
  run_by w TakeIllegalException = of_entry (take_rewound_by w illegal_instruction)
  run_by w (TriggerAddressError a write instruction) = plain (t w (address_error a write instruction))
  run_by w (TriggerBusError a write instruction z) = plain (t w (bus_error a write instruction z))
  run_by w CheckTrace = of_trace w (check_trace (cpu_of w))
  run_by w (SetIrq n) = plain (step (λ c. set_irq c n) w)
  run_by w CheckInterrupts = flag w (check_interrupts (cpu_of w))
  run_by w CheckAndServiceInterrupts = of_service (check_and_service_by w)
  run_by w (Read16 a) = of_read (read_at t w a false)
  run_by w (Read32 a) = of_read (read_at t w a true)
  run_by w (Write16 a v) = plain (write_at t w a false v)
  run_by w (Write32 a v) = plain (write_at t w a true v)
  run_by w (Push16 v) = plain (push_field t w (word v))
  run_by w (Push32 v) = plain (push_field t w (long v))
  run_by w PrefetchFirst = plain (prefetch_first t w)
  run_by w PrefetchSecond = plain (prefetch_second t w)

  unfoldable pub perform_by : World → Call → Performed
  perform_by w c = pick (eqb (refusal w c) 0) (run_by (begun w) c) (answered w (Refused (refusal w c)))

-- over `raised` these are the definitions that the public contract cites
run_by_raised : (w : World) (c : Call) → run_by raised w c ≡ run w c
unfolding stack_short_by taken_by take_exception_by stack_group2_by take_group2_by trap_by exception_trace_by take_rewound_by stack_unimp_by take_fp_unimp060_by stack_disabled_by take_fp_disabled060_by rest68000_by from68000_by push_interrupt68000_by writes68010_by rest68010_by push_interrupt68010_by rest_other_by push_interrupt_other_by first_frame_by throwaway_by second_frame_by dispatched_by service_interrupt_by check_and_service_by run_by stack_short taken take_exception stack_group2 take_group2 trap exception_trace take_rewound stack_unimp take_fp_unimp060 stack_disabled take_fp_disabled060 rest68000 from68000 push_interrupt68000 writes68010 rest68010 push_interrupt68010 rest_other push_interrupt_other first_frame throwaway second_frame dispatched service_interrupt check_and_service run
run_by_raised w (TakeException v) = refl
run_by_raised w (Trap n) = refl
run_by_raised w (TakeGroup2Exception v) = refl
run_by_raised w ExceptionChk = refl
run_by_raised w ExceptionZeroDivide = refl
run_by_raised w ExceptionPrivilege = refl
run_by_raised w ExceptionTrace = refl
run_by_raised w (ExceptionAddressError a wr i) = refl
run_by_raised w (ExceptionBusError a wr i z cause) = refl
run_by_raised w (TakeFpUnimp060 ea) = refl
run_by_raised w TakeFpDisabled060 = refl
run_by_raised w TakeAlineException = refl
run_by_raised w TakeFlineException = refl
run_by_raised w (TakeTrapException n) = refl
run_by_raised w TakeBkptException = refl
run_by_raised w TakeIllegalException = refl
run_by_raised w (TriggerAddressError a wr i) = refl
run_by_raised w (TriggerBusError a wr i z) = refl
run_by_raised w CheckTrace = refl
run_by_raised w (SetIrq n) = refl
run_by_raised w CheckInterrupts = refl
run_by_raised w CheckAndServiceInterrupts = refl
run_by_raised w (Read16 a) = refl
run_by_raised w (Read32 a) = refl
run_by_raised w (Write16 a v) = refl
run_by_raised w (Write32 a v) = refl
run_by_raised w (Push16 v) = refl
run_by_raised w (Push32 v) = refl
run_by_raised w PrefetchFirst = refl
run_by_raised w PrefetchSecond = refl

pub check_and_service_by_raised : (w : World) → check_and_service_by raised w ≡ check_and_service w
unfolding stack_short_by taken_by take_exception_by stack_group2_by take_group2_by trap_by exception_trace_by take_rewound_by stack_unimp_by take_fp_unimp060_by stack_disabled_by take_fp_disabled060_by rest68000_by from68000_by push_interrupt68000_by writes68010_by rest68010_by push_interrupt68010_by rest_other_by push_interrupt_other_by first_frame_by throwaway_by second_frame_by dispatched_by service_interrupt_by check_and_service_by stack_short taken take_exception stack_group2 take_group2 trap exception_trace take_rewound stack_unimp take_fp_unimp060 stack_disabled take_fp_disabled060 rest68000 from68000 push_interrupt68000 writes68010 rest68010 push_interrupt68010 rest_other push_interrupt_other first_frame throwaway second_frame dispatched service_interrupt check_and_service
check_and_service_by_raised w = refl

pub perform_by_raised : (w : World) (c : Call) → perform_by raised w c ≡ perform w c
unfolding perform_by perform
perform_by_raised w c = ap (λ x. pick (eqb (refusal w c) 0) x (answered w (Refused (refusal w c)))) (run_by_raised (begun w) c)
