-- Worlds at which the bounds of `most_events` are met: an accepted call makes just so many events there; and one where one level of faults
-- is not enough.
use Rattle.std.specs.Prelude.{None}
use Rattle.std.specs.Prelude.{ℕ, ◌≡◌, refl, true, false, pos, set, replicate}
use Rattle.cpu.specs.declared.Cpu.{Cpu}
use Rattle.types.specs.Kinds.{is040, is060, is_pre68020, is_ec020_plus, is_prefetch_kind, mask_address, has_t0, has_m, mask_status}
use Rattle.status.specs.Banks.{sp_index, backup_sp, restore_sp, put_s, set_sm_flag_nosp, set_sflag, set_sm_flag, enter_supervisor}
use Rattle.cpu.specs.Clocks.{has_clocks, clocks_of, one_fetched, prefetch_enabled, set_clocks, internal_cycles, clear_prefetch, first_word, second_word}
use Rattle.cpu.specs.Fields.{rewind_pc, leave_stop, kind_of, pc_of, vbr_of, a7_of, address_of, is_faulted, in_exception, checks_alignment, cause_number_of, has_fc_override, fc_override_of, set_a7, set_pc, note_fpiar, halted, set_exception, clear_stopped, restore_registers, set_wdata, clear_cause, clear_fc_override, start_vector, minus32, lower_a7, odd_pc}
use Rattle.cpu.specs.Fresh.{fresh_fault, fresh_resume}
use Rattle.pending.specs.Trace.{check_trace}
use Rattle.pending.specs.Interrupts.{set_irq, clear_level, pending_level, mask_level, takes_interrupt, has_cycles, charged, charge_interrupt}
use Rattle.status.specs.Status.{decompose, m_under_s, set_sr_noint_nosp, restore_sr, clear_trace, set_int_mask, m_is_set, keep_resume}
use Rattle.memory.specs.Bytes.{put_word, put_long, get_word, get_long}
use Rattle.memory.specs.Log.{note_log, counted}
use Rattle.memory.specs.Served.{meets, clear_of, windows_in_use, in_store, served_of, place_of}
use Rattle.memory.specs.World.{World, world, put_cpu, stored, noted, served, written, fetched, raw_write, try_write, read_value, raw_read, try_read, flush, release, response_of, acknowledged}
use Rattle.access.specs.Access.{read_or, prefetch_read, kept_first, first_from, prefetch_first, kept_second, second_from, prefetch_second, checked_read, read_at, wrote, checked_write, write_at, stack_field, push_field, push_fields, vector_read, refill, jump_to, jump_vector, push_frame, exception_address_error, exception_bus_error, raise_bus, raise_address, trigger}
use Rattle.frames.specs.Frames.{field_at, frame68000, frame8, frame2, frame0, frame4, frame7, frame11, address_frame, bus_frame, is_counted, is_raw}
use Rattle.steps.specs.Steps.{begin_trace, refuses_odd, vector_address, begin_bus, begin_address, enter_bus_error, begin_entry, iack_vector, enter_level, close_interrupt}
use Rattle.exceptions.specs.Exceptions.{stack_short, finished, taken, take_exception, stack_group2, take_group2, stack_unimp, take_fp_unimp060, stack_disabled, take_fp_disabled060, trap, take_rewound, exception_trace}
use Rattle.formats.specs.Formats.{short_frame, long_frame, disabled_frame}
use Rattle.interrupts.specs.Interrupts.{vector_from, acknowledge_level, rest_other, first_frame, throwaway, second_frame, ended, dispatched, service_interrupt, serviced, check_and_service, push_interrupt_other}
use Rattle.refusals.specs.Refusals.{bad_flags, odd_base, bad_cycles, bad_code, bad_store, past_top, any_past, bad_windows, short_log, bad_vector, bad_kind, tests_of, first_number, refusal_of}
use Rattle.answers.specs.Answers.{count_of, cycles, flag, plain, of_entry, of_read, of_service, of_trace}
use Rattle.calls.specs.Calls.{restarted, run, begun, refusal, perform}
use Rattle.answers.specs.Matters.{matter_of}
use Rattle.answers.specs.declared.Call.{Call}
use Rattle.answers.specs.declared.Call.TheVariants.{TakeException, Trap, TakeTrapException, ExceptionPrivilege, TakeAlineException, TakeFlineException, TakeBkptException, TakeIllegalException, ExceptionChk, ExceptionZeroDivide, ExceptionTrace, Read16, Write16, Push16, CheckTrace, SetIrq, CheckInterrupts, TakeGroup2Exception, ExceptionAddressError, ExceptionBusError, TakeFpUnimp060, TakeFpDisabled060, TriggerAddressError, TriggerBusError, CheckAndServiceInterrupts, Read32, Write32, Push32, PrefetchFirst, PrefetchSecond}
use Rattle.promises.specs.Calls.{most_events}
use Rattle.promises.specs.Over.{run_by, perform_by}

-- a record of the kind k in supervisor state: M, the level that is pending, A7, PC, the words in the queue; the saved stack
-- pointers are 200, all levels but 7 are masked, and a clock waits
abbrev cpu : ℕ → ℕ → ℕ → ℕ → ℕ → ℕ → Cpu
cpu k m level a7 pc count = record { regs = record { dar = set (replicate 16 0) 15 a7; dar_save = set (replicate 16 0) 15 200; sp = replicate 8 200 }; flow = record { ppc = 0; pc = pc; vbr = 0; ir = 0; fpiar = 0; cpu_type = k; run_mode = 0; stopped = 0; exception_processing = false; change_of_flow = false; loop_mode = false; cycles_remaining = pos 0 }; flags = record { t1_flag = 0; t0_flag = 0; s_flag = 4; m_flag = m; x_flag = 0; n_flag = 0; not_z_flag = 1; v_flag = 0; c_flag = 0; int_mask = 0x700; int_level = level; sr_save = 0x2000 }; queue = record { prefetch_queue = replicate 2 0; prefetch_count = count; pending_sync_clocks = 1; precise_bus = true }; fault = fresh_fault; fault_resume = fresh_resume }

-- 200 bytes from address 0, a window of n bytes at b that no access may touch, and a log of 192 words
abbrev at : Cpu → ℕ → ℕ → World
at c b n = world (record { cpu = c; bus = record { base = 0; windows = 1; starts = set (replicate 8 0) 0 b; lengths = set (replicate 8 0) 0 n; responses = replicate 8 0; events = 0 } }) (replicate 200 0) (replicate 192 0)

abbrev Met : World → Call → Type 0
Met w c = count_of (perform w c).answer ≡ most_events c

-- MET: a window over the vector, the stack or the word to fetch; the interrupt is of level 7 with M set;
-- `take_exception` is at an odd A7 on kind 2
pub met : Met (at (cpu 0 0 0 200 0 0) 16 4) (TakeGroup2Exception 4) × Met (at (cpu 0 0 0 200 0 0) 12 4) (ExceptionAddressError 1 false false) × Met (at (cpu 0 0 0 200 0 0) 8 4) (ExceptionBusError 0 false false 4 None) × Met (at (cpu 11 0 0 200 0 0) 44 4) (TakeFpUnimp060 0) × Met (at (cpu 11 0 0 200 0 0) 44 4) TakeFpDisabled060 × Met (at (cpu 0 0 0 200 0 0) 12 4) (TriggerAddressError 1 false false) × Met (at (cpu 0 0 0 200 0 0) 8 4) (TriggerBusError 0 false false 4) × Met (at (cpu 3 2 7 200 0 0) 0 4) CheckAndServiceInterrupts × Met (at (cpu 0 0 0 200 0 0) 4 8) (Read32 4) × Met (at (cpu 0 0 0 200 0 0) 4 8) (Write32 4 0) × Met (at (cpu 0 0 0 100 0 0) 96 2) (Push32 0) × Met (at (cpu 2 0 0 200 100 0) 100 2) PrefetchFirst × Met (at (cpu 2 0 0 200 100 1) 102 2) PrefetchSecond × Met (at (cpu 2 0 0 199 0 0) 0 0) (TakeException 4)
unfolding is040 is060 is_pre68020 is_ec020_plus is_prefetch_kind mask_address has_t0 has_m mask_status sp_index backup_sp restore_sp put_s set_sm_flag_nosp set_sflag set_sm_flag enter_supervisor has_clocks clocks_of one_fetched prefetch_enabled set_clocks internal_cycles clear_prefetch first_word second_word kind_of pc_of vbr_of a7_of address_of is_faulted in_exception checks_alignment cause_number_of has_fc_override fc_override_of set_a7 set_pc note_fpiar halted set_exception clear_stopped restore_registers set_wdata clear_cause clear_fc_override start_vector minus32 lower_a7 odd_pc fresh_fault fresh_resume clear_level pending_level mask_level takes_interrupt has_cycles charged charge_interrupt decompose m_under_s set_sr_noint_nosp restore_sr clear_trace set_int_mask m_is_set keep_resume put_word put_long get_word get_long note_log counted meets clear_of windows_in_use in_store served_of place_of put_cpu stored noted served written fetched raw_write try_write read_value raw_read try_read flush release response_of acknowledged read_or prefetch_read kept_first first_from prefetch_first kept_second second_from prefetch_second checked_read read_at wrote checked_write write_at stack_field push_field push_fields vector_read refill jump_to jump_vector push_frame exception_address_error exception_bus_error raise_bus raise_address trigger field_at frame68000 frame8 frame2 frame0 frame4 frame7 frame11 address_frame bus_frame refuses_odd vector_address begin_bus begin_address enter_bus_error is_counted is_raw stack_short begin_entry finished taken take_exception stack_group2 take_group2 stack_unimp take_fp_unimp060 stack_disabled take_fp_disabled060 short_frame long_frame disabled_frame iack_vector vector_from acknowledge_level enter_level rest_other push_interrupt_other first_frame throwaway second_frame close_interrupt ended dispatched service_interrupt serviced check_and_service bad_flags odd_base bad_cycles bad_code bad_store past_top any_past bad_windows short_log bad_vector bad_kind tests_of first_number refusal_of count_of cycles flag plain of_entry of_read of_service run restarted begun refusal perform matter_of most_events
met = (refl, refl, refl, refl, refl, refl, refl, refl, refl, refl, refl, refl, refl, refl)

-- and for the other calls: those of `take_exception` and group 2 by their own vectors, words for longs, and the three that make none
pub met_too : Met (at (cpu 2 0 0 199 0 0) 0 0) (Trap 0) × Met (at (cpu 2 0 0 199 0 0) 0 0) (TakeTrapException 0) × Met (at (cpu 2 0 0 199 0 0) 0 0) ExceptionPrivilege × Met (at (cpu 2 0 0 199 0 0) 0 0) TakeAlineException × Met (at (cpu 2 0 0 199 0 0) 0 0) TakeFlineException × Met (at (cpu 2 0 0 199 0 0) 0 0) TakeBkptException × Met (at (cpu 2 0 0 199 0 0) 0 0) TakeIllegalException × Met (at (cpu 0 0 0 200 0 0) 24 4) ExceptionChk × Met (at (cpu 0 0 0 200 0 0) 20 4) ExceptionZeroDivide × Met (at (cpu 0 0 0 200 0 0) 36 4) ExceptionTrace × Met (at (cpu 0 0 0 200 0 0) 4 8) (Read16 4) × Met (at (cpu 0 0 0 200 0 0) 4 8) (Write16 4 0) × Met (at (cpu 0 0 0 100 0 0) 98 2) (Push16 0) × Met (at (cpu 0 0 0 200 0 0) 0 0) CheckTrace × Met (at (cpu 0 0 0 200 0 0) 0 0) (SetIrq 7) × Met (at (cpu 0 0 0 200 0 0) 0 0) CheckInterrupts
unfolding is040 is060 is_pre68020 is_ec020_plus is_prefetch_kind mask_address has_t0 has_m mask_status sp_index backup_sp restore_sp put_s set_sm_flag_nosp set_sflag set_sm_flag enter_supervisor has_clocks clocks_of one_fetched prefetch_enabled set_clocks internal_cycles clear_prefetch first_word second_word kind_of pc_of vbr_of a7_of address_of is_faulted in_exception checks_alignment cause_number_of has_fc_override fc_override_of set_a7 set_pc note_fpiar halted set_exception clear_stopped restore_registers set_wdata clear_cause clear_fc_override start_vector minus32 lower_a7 odd_pc fresh_fault fresh_resume clear_level pending_level mask_level takes_interrupt has_cycles charged charge_interrupt decompose m_under_s set_sr_noint_nosp restore_sr clear_trace set_int_mask m_is_set keep_resume put_word put_long get_word get_long note_log counted meets clear_of windows_in_use in_store served_of place_of put_cpu stored noted served written fetched raw_write try_write read_value raw_read try_read flush release response_of acknowledged read_or prefetch_read kept_first first_from prefetch_first kept_second second_from prefetch_second checked_read read_at wrote checked_write write_at stack_field push_field push_fields vector_read refill jump_to jump_vector push_frame exception_address_error exception_bus_error raise_bus raise_address trigger field_at frame68000 frame8 frame2 frame0 frame4 frame7 frame11 address_frame bus_frame refuses_odd vector_address begin_bus begin_address enter_bus_error is_counted is_raw stack_short begin_entry finished taken take_exception stack_group2 take_group2 stack_unimp take_fp_unimp060 stack_disabled take_fp_disabled060 short_frame long_frame disabled_frame iack_vector vector_from acknowledge_level enter_level rest_other push_interrupt_other first_frame throwaway second_frame close_interrupt ended dispatched service_interrupt serviced check_and_service bad_flags odd_base bad_cycles bad_code bad_store past_top any_past bad_windows short_log bad_vector bad_kind tests_of first_number refusal_of count_of cycles flag plain of_entry of_read of_service run restarted begun refusal perform matter_of most_events trap take_rewound rewind_pc exception_trace begin_trace leave_stop check_trace set_irq of_trace
met_too = (refl, refl, refl, refl, refl, refl, refl, refl, refl, refl, refl, refl, refl, refl, refl, refl)

-- ONE LEVEL IS NOT ENOUGH for the public call: an address error whose vector is not served makes 6 events over one level, and 36 over two
pub one_level : (count_of (perform_by (trigger 1) (at (cpu 0 0 0 200 0 0) 12 4) (TriggerAddressError 1 false false)).answer ≡ 6) × (count_of (perform (at (cpu 0 0 0 200 0 0) 12 4) (TriggerAddressError 1 false false)).answer ≡ 36)
unfolding is040 is060 is_pre68020 is_ec020_plus is_prefetch_kind mask_address has_t0 has_m mask_status sp_index backup_sp restore_sp put_s set_sm_flag_nosp set_sflag set_sm_flag enter_supervisor has_clocks clocks_of one_fetched prefetch_enabled set_clocks internal_cycles clear_prefetch first_word second_word kind_of pc_of vbr_of a7_of address_of is_faulted in_exception checks_alignment cause_number_of has_fc_override fc_override_of set_a7 set_pc note_fpiar halted set_exception clear_stopped restore_registers set_wdata clear_cause clear_fc_override start_vector minus32 lower_a7 odd_pc fresh_fault fresh_resume clear_level pending_level mask_level takes_interrupt has_cycles charged charge_interrupt decompose m_under_s set_sr_noint_nosp restore_sr clear_trace set_int_mask m_is_set keep_resume put_word put_long get_word get_long note_log counted meets clear_of windows_in_use in_store served_of place_of put_cpu stored noted served written fetched raw_write try_write read_value raw_read try_read flush release response_of acknowledged read_or prefetch_read kept_first first_from prefetch_first kept_second second_from prefetch_second checked_read read_at wrote checked_write write_at stack_field push_field push_fields vector_read refill jump_to jump_vector push_frame exception_address_error exception_bus_error raise_bus raise_address trigger field_at frame68000 frame8 frame2 frame0 frame4 frame7 frame11 address_frame bus_frame refuses_odd vector_address begin_bus begin_address enter_bus_error is_counted is_raw stack_short begin_entry finished taken take_exception stack_group2 take_group2 stack_unimp take_fp_unimp060 stack_disabled take_fp_disabled060 short_frame long_frame disabled_frame iack_vector vector_from acknowledge_level enter_level rest_other push_interrupt_other first_frame throwaway second_frame close_interrupt ended dispatched service_interrupt serviced check_and_service bad_flags odd_base bad_cycles bad_code bad_store past_top any_past bad_windows short_log bad_vector bad_kind tests_of first_number refusal_of count_of cycles flag plain of_entry of_read of_service run restarted begun refusal perform matter_of most_events run_by perform_by
one_level = (refl, refl)
