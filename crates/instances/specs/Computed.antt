-- One name for all that a row computes through: to unfold it is to unfold what its line names.
use Rattle.types.specs.Kinds.{is040, is060, is_pre68020, is_ec020_plus, is_prefetch_kind, address_bits, mask_address, has_t0, has_m, mask_status}
use Rattle.types.specs.Tables.{exception_cycles}
use Rattle.status.specs.Banks.{sp_index, backup_sp, restore_sp, put_s, set_sm_flag_nosp, set_sflag, set_sm_flag, enter_supervisor}
use Rattle.cpu.specs.Clocks.{has_clocks, clocks_of, one_fetched, prefetch_enabled, set_clocks, internal_cycles, clear_prefetch, first_word, second_word}
use Rattle.cpu.specs.Fields.{kind_of, pc_of, ppc_of, vbr_of, ir_of, a7_of, address_of, is_faulted, in_exception, checks_alignment, wdata_of, cause_number_of, has_fc_override, fc_override_of, set_a7, set_pc, halted, set_exception, clear_stopped, restore_registers, set_wdata, clear_cause, clear_fc_override, start_vector, minus32, lower_a7, odd_pc}
use Rattle.cpu.specs.Fresh.{fresh_regs, fresh_flow, fresh_flags, fresh_queue, fresh_fault, fresh_resume, fresh_cpu}
use Rattle.pending.specs.Interrupts.{set_irq, clear_level, pending_level, mask_level, takes_interrupt, has_cycles, less_cycles, charged, charge_interrupt}
use Rattle.status.specs.Status.{compose, get_sr, decompose, m_under_s, set_sr_noint_nosp, restore_sr, clear_trace, set_int_mask, clear_m, m_is_set, keep_resume}
use Rattle.memory.specs.Bytes.{put_word, put_long, get_word, get_long}
use Rattle.memory.specs.Log.{note_log, counted}
use Rattle.memory.specs.Served.{meets, clear_of, windows_in_use, in_store, served_of, place_of}
use Rattle.memory.specs.World.{World, put_cpu, stored, noted, served, written, fetched, raw_write, try_write, read_value, raw_read, try_read, flush, release, response_of, acknowledged}
use Rattle.frames.specs.Codes.{function_code, is_supervisor, state_code, fault_code, size020, ssw020, is_cause, size040, ssw040, wb3s, cause_bit, size060, fslw060}
use Rattle.access.specs.Access.{read_or, prefetch_read, kept_first, first_from, prefetch_first, kept_second, second_from, prefetch_second, checked_read, read_at, wrote, checked_write, write_at, stack_field, push_field, push_fields, short_writes, push_exception_frame68000, vector_read, refill, jump_to, jump_vector, push_frame, exception_bus_error, raise_bus, trigger}
use Rattle.frames.specs.Frames.{field_at, frame4, frame7, frame11, write_data, bus_frame, is_counted, is_raw}
use Rattle.steps.specs.Steps.{refuses_odd, vector_address, begin_bus, enter_bus_error, stacks_next, stacked_address, begin_entry, iack_vector, enter_level, with_s, close_interrupt}
use Rattle.images.specs.Images.{frame_bytes}
use Rattle.exceptions.specs.Exceptions.{stack_short, finished, taken, take_exception, stack_group2, take_group2, trap}
use Rattle.formats.specs.Formats.{format_word, offset_word, short_frame, long_frame}
use Rattle.interrupts.specs.Interrupts.{vector_from, acknowledge_level, synced_acknowledge, rest68000, from68000, writes68010, rest68010, rest_other, first_frame, throwaway, second_frame, ended, dispatched, service_interrupt, serviced, check_and_service, push_interrupt68000, push_interrupt68010, push_interrupt_other}
use Rattle.refusals.specs.Refusals.{bad_flags, odd_base, bad_cycles, bad_code, bad_store, past_top, any_past, bad_windows, short_log, bad_vector, bad_kind, tests_of, first_number, refusal_of}
use Rattle.answers.specs.Answers.{Performed, value_of, cycles, flag, of_entry, of_service}
use Rattle.calls.specs.Calls.{restarted, run, begun, refusal, perform}
use Rattle.answers.specs.Matters.{matter_of}
use Rattle.answers.specs.declared.Call.{Call}
use Rattle.instances.specs.Start.{set_ppc, set_vbr, set_saved, start, start_at, pending, holding, lent, fresh, laid}
use Rattle.instances.specs.Rows.{seen, logged}

unfoldable pub computed : World → Call → Performed
unfolding is040 is060 is_pre68020 is_ec020_plus is_prefetch_kind address_bits mask_address has_t0 has_m mask_status exception_cycles sp_index backup_sp restore_sp put_s set_sm_flag_nosp set_sflag set_sm_flag enter_supervisor has_clocks clocks_of one_fetched prefetch_enabled set_clocks internal_cycles clear_prefetch first_word second_word kind_of pc_of ppc_of vbr_of ir_of a7_of address_of is_faulted in_exception checks_alignment wdata_of cause_number_of has_fc_override fc_override_of set_a7 set_pc halted set_exception clear_stopped restore_registers set_wdata clear_cause clear_fc_override start_vector minus32 lower_a7 odd_pc fresh_regs fresh_flow fresh_flags fresh_queue fresh_fault fresh_resume fresh_cpu set_irq clear_level pending_level mask_level takes_interrupt has_cycles less_cycles charged charge_interrupt compose get_sr decompose m_under_s set_sr_noint_nosp restore_sr clear_trace set_int_mask clear_m m_is_set keep_resume put_word put_long get_word get_long note_log counted meets clear_of windows_in_use in_store served_of place_of put_cpu stored noted served written fetched raw_write try_write read_value raw_read try_read flush release response_of acknowledged function_code is_supervisor state_code fault_code size020 ssw020 is_cause size040 ssw040 wb3s cause_bit size060 fslw060 read_or prefetch_read kept_first first_from prefetch_first kept_second second_from prefetch_second checked_read read_at wrote checked_write write_at stack_field push_field push_fields short_writes push_exception_frame68000 vector_read refill jump_to jump_vector push_frame exception_bus_error raise_bus trigger field_at frame4 frame7 frame11 write_data bus_frame refuses_odd vector_address begin_bus enter_bus_error is_counted is_raw frame_bytes stacks_next stacked_address stack_short begin_entry finished taken take_exception stack_group2 take_group2 trap format_word offset_word short_frame long_frame iack_vector vector_from acknowledge_level synced_acknowledge enter_level rest68000 from68000 push_interrupt68000 writes68010 rest68010 push_interrupt68010 rest_other push_interrupt_other first_frame with_s throwaway second_frame close_interrupt ended dispatched service_interrupt serviced check_and_service bad_flags odd_base bad_cycles bad_code bad_store past_top any_past bad_windows short_log bad_vector bad_kind tests_of first_number refusal_of value_of cycles flag of_entry of_service run restarted begun refusal perform matter_of set_ppc set_vbr set_saved start start_at pending holding lent fresh laid seen logged
computed w c = perform w c
