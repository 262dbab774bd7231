-- One name for all that a worked nest computes through: to unfold it is to unfold what its line names.
use Rattle.types.specs.Kinds.{status_mask}
use Rattle.types.specs.Tables.{format_length, takes_format, frame_length}
use Rattle.cpu.specs.declared.Cpu.{Cpu}
use Rattle.cpu.specs.Fields.{rewind_pc, leave_stop, note_fpiar}
use Rattle.status.specs.Status.{put_back_sr}
use Rattle.frames.specs.Frames.{frame8, frame68000, address_frame}
use Rattle.access.specs.Access.{exception_address_error}
use Rattle.steps.specs.Steps.{begin_trace}
use Rattle.formats.specs.Formats.{disabled_frame}
use Rattle.exceptions.specs.Exceptions.{take_rewound, exception_trace, stack_unimp, take_fp_unimp060, stack_disabled, take_fp_disabled060}
use Rattle.images.specs.Pushes.{calm, laid_field}
use Rattle.images.specs.Images.{field_address}
use Rattle.images.specs.Images.{laid as laid_frame}
use Rattle.forms.specs.Gist.{gist, gist_cpu, framed_by}
use Rattle.forms.specs.Orders.{words6, words8}
use Rattle.forms.specs.Plans.{turned, stack_all, short_of, exc_plan, rewound_plan, group2_frame, group2_plan, trace_plan, fp_unimp_plan, fp_disabled_plan, address_plan, bus_plan, interrupt_vector, interrupt_frame, throwaways, settles, interrupt_by, interrupt_plan}
use Rattle.forms.specs.Tests.{field_test, fields_test, stacks_test, reach_test, clean_test}
use Rattle.forms.specs.Forms.{plan_of}
use Rattle.unwind.specs.Frames.{byte_address, byte_served, byte_of, all_served, word_of, long_of, head_of, refused_frame, taken_frame, sized_frame, format_frame, odd_pointer, frame_of}
use Rattle.unwind.specs.Returns.{in_user, raise_a7, swap_sr, take_frame, row_of, refused_back, done_back, second_back, first_back, back, trail_of, put_row, put_rows, laid, walk_of}
use Rattle.unwind.specs.Unwind.{refusal, returned, return_from, short_rows, walk_from}
use Rattle.nest.specs.View.{in_windows, in_store, peek, addr, sr_mask, under, s_bit, m_bit, view, served}
use Rattle.nest.specs.Nest.{Returned, restored, Along, Always, AtTaken, HandlersKeep, HandlersLeave}
use Rattle.entered.specs.Pointers.{regs_of}
use Rattle.entered.specs.Bytes.{windows_of, mem_of}
use Rattle.entered.specs.Paper.{paper, paper_takes}
use Rattle.entered.specs.Entered.{error_call}
use Rattle.entered.specs.Machines.{Room, enter_by, takes_by, CleanCall}
use Rattle.instances.specs.Computed.{computed}
use Rattle.unwind.specs.Rows.{rows_from}
use Rattle.rule3.specs.Rows.{told}
use Rattle.rule3.specs.Rule3.{give_back, walk}

unfoldable pub nested : Cpu → Room → Returned Cpu
unfolding computed rewind_pc leave_stop note_fpiar frame8 frame68000 address_frame exception_address_error disabled_frame take_rewound begin_trace exception_trace stack_unimp take_fp_unimp060 stack_disabled take_fp_disabled060 status_mask format_length takes_format frame_length put_back_sr calm laid_field field_address laid_frame gist gist_cpu framed_by words6 words8 turned stack_all short_of exc_plan rewound_plan group2_frame group2_plan trace_plan fp_unimp_plan fp_disabled_plan address_plan bus_plan interrupt_vector interrupt_frame throwaways settles interrupt_by interrupt_plan field_test fields_test stacks_test reach_test clean_test plan_of byte_address byte_served byte_of all_served word_of long_of head_of refused_frame taken_frame sized_frame format_frame odd_pointer frame_of in_user raise_a7 swap_sr take_frame row_of refused_back done_back second_back first_back back trail_of put_row put_rows laid walk_of refusal returned return_from short_rows walk_from in_windows in_store peek addr sr_mask under s_bit m_bit view served restored Along Always AtTaken HandlersKeep HandlersLeave regs_of windows_of mem_of paper paper_takes error_call enter_by takes_by CleanCall rows_from told give_back walk
nested c s = give_back c s
