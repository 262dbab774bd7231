-- Worlds at which the bounds are met, one level is not enough, and an odd vector base needs more than two.
use Rattle.std.specs.Prelude.{ℕ, ◌≡◌, refl, true, false, [], pos, set, replicate}
use Rattle.types.specs.Kinds.{is040, is060, is_pre68020, is_prefetch_kind, mask_address, has_t0, has_m, mask_status}
use Rattle.cpu.specs.Fields.{kind_of, pc_of, vbr_of, a7_of, address_of, is_faulted, in_exception, checks_alignment, cause_number_of, set_a7, set_pc, halted, set_exception, restore_registers, set_wdata, clear_cause, clear_fc_override, start_vector, minus32, lower_a7, odd_pc}
use Rattle.status.specs.Status.{decompose, m_under_s, set_sr_noint_nosp, restore_sr, clear_trace, keep_resume}
use Rattle.status.specs.Banks.{sp_index, backup_sp, restore_sp, put_s, set_sflag, enter_supervisor}
use Rattle.cpu.specs.Clocks.{has_clocks, clocks_of, one_fetched, prefetch_enabled, set_clocks, internal_cycles, clear_prefetch, first_word, second_word}
use Rattle.cpu.specs.Fresh.{fresh_regs, fresh_flow, fresh_flags, fresh_queue, fresh_fault, fresh_resume}
use Rattle.memory.specs.Bytes.{put_word, put_long, get_word, get_long}
use Rattle.memory.specs.Log.{note_log, counted}
use Rattle.memory.specs.Served.{meets, clear_of, windows_in_use, in_store, served_of, place_of}
use Rattle.memory.specs.World.{World, world, put_cpu, stored, noted, served, written, fetched, raw_write, try_write, read_value, raw_read, try_read, flush, release}
use Rattle.frames.specs.Frames.{long, field_at, frame68000, frame8, frame2, frame0, frame4, frame7, frame11, address_frame, bus_frame, is_counted, is_raw}
use Rattle.steps.specs.Steps.{refuses_odd, vector_address, begin_bus, begin_address, enter_bus_error}
use Rattle.access.specs.Access.{bus_error, address_error, raised, read_or, prefetch_read, kept_first, first_from, prefetch_first, kept_second, second_from, prefetch_second, checked_read, read_at, wrote, checked_write, write_at, stack_field, push_field, push_fields, short_writes, push_exception_frame68000, vector_read, refill, jump_to, jump_vector, push_frame, exception_address_error, exception_bus_error, raise_bus, raise_address, trigger}
use Rattle.cpu.specs.declared.Cpu.{Cpu}
use Rattle.bounds.specs.Events.{Call, reads, writes, pushes, pushes_short, first, second, jumps, bus_entry, address_entry, raises, run, most_events}

-- a record of the kind k in supervisor state: A7, the saved stack pointers at 200, the vector base, PC, the words in the queue,
-- and a clock that waits
abbrev cpu : ℕ → ℕ → ℕ → ℕ → ℕ → Cpu
cpu k a7 vbr pc count = record { regs = record { dar = set (replicate 16 0) 15 a7; dar_save = set (replicate 16 0) 15 200; sp = replicate 8 200 }; flow = record { ppc = 0; pc = pc; vbr = vbr; ir = 0; fpiar = 0; cpu_type = k; run_mode = 0; stopped = 0; exception_processing = false; change_of_flow = false; loop_mode = false; cycles_remaining = pos 0 }; flags = fresh_flags; queue = record { prefetch_queue = replicate 2 0; prefetch_count = count; pending_sync_clocks = 1; precise_bus = true }; fault = fresh_fault; fault_resume = record { some = false; pc = 0; sr = 0; dar = replicate 16 0 } }

-- 200 bytes from address 0, a window that no access may touch, and no event
abbrev at : Cpu → ℕ → ℕ → World
at c b n = world (record { cpu = c; bus = record { base = 0; windows = 1; starts = replicate 8 b; lengths = replicate 8 n; responses = replicate 8 0; events = 0 } }) (replicate 200 0) []

abbrev made : World → ℕ
made w = w.core.bus.events

abbrev Met : Call → World → Type 0
Met c w = made (run c w) ≡ most_events c

-- EVERY BOUND IS MET, the calls in the order of `most_events`
pub met : Met (reads 4 true) (at (cpu 0 200 0 0 0) 4 8) × Met (writes 4 true 0) (at (cpu 0 200 0 0 0) 4 8) × Met (pushes (long 0)) (at (cpu 0 100 0 0 0) 96 2) × Met (pushes_short 0 0) (at (cpu 0 100 0 0 0) 96 2) × Met first (at (cpu 2 200 0 100 0) 100 2) × Met second (at (cpu 2 200 0 100 1) 102 2) × Met (jumps 4) (at (cpu 0 200 0 0 0) 16 4) × Met (bus_entry 0 false false 4 0) (at (cpu 0 200 0 0 0) 8 4) × Met (address_entry 1 false false) (at (cpu 0 200 0 0 0) 12 4) × Met (raises (bus_error 0 false false 4)) (at (cpu 0 200 0 0 0) 8 4) × Met (raises (address_error 1 false false)) (at (cpu 0 200 0 0 0) 12 4)
unfolding is040 is060 is_pre68020 is_prefetch_kind mask_address has_t0 has_m mask_status kind_of pc_of vbr_of a7_of address_of is_faulted in_exception checks_alignment cause_number_of set_a7 set_pc halted set_exception restore_registers set_wdata clear_cause clear_fc_override start_vector minus32 lower_a7 odd_pc decompose m_under_s set_sr_noint_nosp restore_sr clear_trace keep_resume sp_index backup_sp restore_sp put_s set_sflag enter_supervisor has_clocks clocks_of one_fetched prefetch_enabled set_clocks internal_cycles clear_prefetch first_word second_word fresh_regs fresh_flow fresh_flags fresh_queue fresh_fault fresh_resume put_word put_long get_word get_long note_log counted meets clear_of windows_in_use in_store served_of place_of put_cpu stored noted served written fetched raw_write try_write read_value raw_read try_read flush release field_at frame68000 frame8 frame2 frame0 frame4 frame7 frame11 address_frame bus_frame refuses_odd vector_address begin_bus begin_address enter_bus_error is_counted is_raw read_or prefetch_read kept_first first_from prefetch_first kept_second second_from prefetch_second checked_read read_at wrote checked_write write_at stack_field push_field push_fields short_writes push_exception_frame68000 vector_read refill jump_to jump_vector push_frame exception_address_error exception_bus_error raise_bus raise_address trigger run most_events
met = (refl, refl, refl, refl, refl, refl, refl, refl, refl, refl, refl)

-- a bus error entry that is called, on kinds 0, 1, 2, 7, 10, 11: the bounds of `entry_bus_events` are met
pub bus_by_kind : (made (exception_bus_error raised (at (cpu 0 200 0 0 0) 8 4) 0 false false 4 0) ≡ 61) × (made (exception_bus_error raised (at (cpu 1 200 0 0 0) 2 2) 0 false false 4 0) ≡ 21) × (made (exception_bus_error raised (at (cpu 2 200 0 0 0) 2 2) 0 false false 4 0) ≡ 27) × (made (exception_bus_error raised (at (cpu 7 200 0 0 0) 8 4) 0 false false 4 0) ≡ 41) × (made (exception_bus_error raised (at (cpu 10 200 0 0 0) 8 4) 0 false false 4 0) ≡ 21) × (made (exception_bus_error raised (at (cpu 11 200 0 0 0) 8 4) 0 false false 4 0) ≡ 15)
unfolding is040 is060 is_pre68020 is_prefetch_kind mask_address has_t0 has_m mask_status kind_of pc_of vbr_of a7_of address_of is_faulted in_exception checks_alignment cause_number_of set_a7 set_pc halted set_exception restore_registers set_wdata clear_cause clear_fc_override start_vector minus32 lower_a7 odd_pc decompose m_under_s set_sr_noint_nosp restore_sr clear_trace keep_resume sp_index backup_sp restore_sp put_s set_sflag enter_supervisor has_clocks clocks_of one_fetched prefetch_enabled set_clocks internal_cycles clear_prefetch first_word second_word fresh_regs fresh_flow fresh_flags fresh_queue fresh_fault fresh_resume put_word put_long get_word get_long note_log counted meets clear_of windows_in_use in_store served_of place_of put_cpu stored noted served written fetched raw_write try_write read_value raw_read try_read flush release field_at frame68000 frame8 frame2 frame0 frame4 frame7 frame11 address_frame bus_frame refuses_odd vector_address begin_bus begin_address enter_bus_error is_counted is_raw read_or prefetch_read kept_first first_from prefetch_first kept_second second_from prefetch_second checked_read read_at wrote checked_write write_at stack_field push_field push_fields short_writes push_exception_frame68000 vector_read refill jump_to jump_vector push_frame exception_address_error exception_bus_error raise_bus raise_address trigger run most_events
bus_by_kind = (refl, refl, refl, refl, refl, refl)

-- an address fault that is raised, on the same kinds: those of `address_events`
pub address_by_kind : (made (raised (at (cpu 0 200 0 0 0) 12 4) (address_error 1 false false)) ≡ 36) × (made (raised (at (cpu 1 200 0 0 0) 2 2) (address_error 1 false false)) ≡ 21) × (made (raised (at (cpu 2 200 0 0 0) 2 2) (address_error 1 false false)) ≡ 27) × (made (raised (at (cpu 7 200 0 0 0) 12 4) (address_error 1 false false)) ≡ 27) × (made (raised (at (cpu 10 200 0 0 0) 12 4) (address_error 1 false false)) ≡ 21) × (made (raised (at (cpu 11 200 0 0 0) 12 4) (address_error 1 false false)) ≡ 13)
unfolding is040 is060 is_pre68020 is_prefetch_kind mask_address has_t0 has_m mask_status kind_of pc_of vbr_of a7_of address_of is_faulted in_exception checks_alignment cause_number_of set_a7 set_pc halted set_exception restore_registers set_wdata clear_cause clear_fc_override start_vector minus32 lower_a7 odd_pc decompose m_under_s set_sr_noint_nosp restore_sr clear_trace keep_resume sp_index backup_sp restore_sp put_s set_sflag enter_supervisor has_clocks clocks_of one_fetched prefetch_enabled set_clocks internal_cycles clear_prefetch first_word second_word fresh_regs fresh_flow fresh_flags fresh_queue fresh_fault fresh_resume put_word put_long get_word get_long note_log counted meets clear_of windows_in_use in_store served_of place_of put_cpu stored noted served written fetched raw_write try_write read_value raw_read try_read flush release field_at frame68000 frame8 frame2 frame0 frame4 frame7 frame11 address_frame bus_frame refuses_odd vector_address begin_bus begin_address enter_bus_error is_counted is_raw read_or prefetch_read kept_first first_from prefetch_first kept_second second_from prefetch_second checked_read read_at wrote checked_write write_at stack_field push_field push_fields short_writes push_exception_frame68000 vector_read refill jump_to jump_vector push_frame exception_address_error exception_bus_error raise_bus raise_address trigger run most_events
address_by_kind = (refl, refl, refl, refl, refl, refl)

-- ONE LEVEL IS NOT ENOUGH: an address error whose vector is not served, with one level and with two
pub one_level : (made (trigger 1 (at (cpu 0 200 0 0 0) 12 4) (address_error 1 false false)) ≡ 6) × (made (trigger 2 (at (cpu 0 200 0 0 0) 12 4) (address_error 1 false false)) ≡ 36)
unfolding is040 is060 is_pre68020 is_prefetch_kind mask_address has_t0 has_m mask_status kind_of pc_of vbr_of a7_of address_of is_faulted in_exception checks_alignment cause_number_of set_a7 set_pc halted set_exception restore_registers set_wdata clear_cause clear_fc_override start_vector minus32 lower_a7 odd_pc decompose m_under_s set_sr_noint_nosp restore_sr clear_trace keep_resume sp_index backup_sp restore_sp put_s set_sflag enter_supervisor has_clocks clocks_of one_fetched prefetch_enabled set_clocks internal_cycles clear_prefetch first_word second_word fresh_regs fresh_flow fresh_flags fresh_queue fresh_fault fresh_resume put_word put_long get_word get_long note_log counted meets clear_of windows_in_use in_store served_of place_of put_cpu stored noted served written fetched raw_write try_write read_value raw_read try_read flush release field_at frame68000 frame8 frame2 frame0 frame4 frame7 frame11 address_frame bus_frame refuses_odd vector_address begin_bus begin_address enter_bus_error is_counted is_raw read_or prefetch_read kept_first first_from prefetch_first kept_second second_from prefetch_second checked_read read_at wrote checked_write write_at stack_field push_field push_fields short_writes push_exception_frame68000 vector_read refill jump_to jump_vector push_frame exception_address_error exception_bus_error raise_bus raise_address trigger run most_events
one_level = (refl, refl)

-- THE EVEN VECTOR BASE IS NEEDED: with an odd one each address error raises the next, and three levels are not two
pub odd_base_lem : (made (trigger 2 (at (cpu 1 200 1 0 0) 12 4) (address_error 1 false false)) ≡ 16) × (made (trigger 3 (at (cpu 1 200 1 0 0) 12 4) (address_error 1 false false)) ≡ 24)
unfolding is040 is060 is_pre68020 is_prefetch_kind mask_address has_t0 has_m mask_status kind_of pc_of vbr_of a7_of address_of is_faulted in_exception checks_alignment cause_number_of set_a7 set_pc halted set_exception restore_registers set_wdata clear_cause clear_fc_override start_vector minus32 lower_a7 odd_pc decompose m_under_s set_sr_noint_nosp restore_sr clear_trace keep_resume sp_index backup_sp restore_sp put_s set_sflag enter_supervisor has_clocks clocks_of one_fetched prefetch_enabled set_clocks internal_cycles clear_prefetch first_word second_word fresh_regs fresh_flow fresh_flags fresh_queue fresh_fault fresh_resume put_word put_long get_word get_long note_log counted meets clear_of windows_in_use in_store served_of place_of put_cpu stored noted served written fetched raw_write try_write read_value raw_read try_read flush release field_at frame68000 frame8 frame2 frame0 frame4 frame7 frame11 address_frame bus_frame refuses_odd vector_address begin_bus begin_address enter_bus_error is_counted is_raw read_or prefetch_read kept_first first_from prefetch_first kept_second second_from prefetch_second checked_read read_at wrote checked_write write_at stack_field push_field push_fields short_writes push_exception_frame68000 vector_read refill jump_to jump_vector push_frame exception_address_error exception_bus_error raise_bus raise_address trigger run most_events
odd_base_lem = (refl, refl)
