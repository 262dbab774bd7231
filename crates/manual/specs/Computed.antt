-- One name for all that an input of `Shown` computes through: to unfold it is to unfold what its line names.
use Rattle.types.specs.Tables.{format_length}
use Rattle.cpu.specs.Fields.{rewind_pc, leave_stop, note_fpiar}
use Rattle.status.specs.Status.{put_back_sr}
use Rattle.frames.specs.Codes.{fault_word}
use Rattle.frames.specs.Frames.{frame0, frame2, frame8, frame68000, address_frame}
use Rattle.access.specs.Access.{exception_address_error}
use Rattle.steps.specs.Steps.{begin_trace}
use Rattle.formats.specs.Formats.{disabled_frame}
use Rattle.exceptions.specs.Exceptions.{take_rewound, exception_trace, stack_unimp, take_fp_unimp060, stack_disabled, take_fp_disabled060}
use Rattle.images.specs.Pushes.{calm, laid_field}
use Rattle.images.specs.Images.{field_address}
use Rattle.images.specs.Images.{laid as laid_frame}
use Rattle.memory.specs.World.{World}
use Rattle.answers.specs.declared.Call.{Call}
use Rattle.answers.specs.Answers.{Performed}
use Rattle.calls.specs.Calls.{perform}
use Rattle.forms.specs.Gist.{gist, gist_cpu, framed_by}
use Rattle.forms.specs.Orders.{words6, words8}
use Rattle.forms.specs.Plans.{turned, stack_all, short_of, exc_plan, rewound_plan, group2_frame, group2_plan, trace_plan, fp_unimp_plan, fp_disabled_plan, address_plan, bus_plan, interrupt_vector, interrupt_frame, throwaways, settles, interrupt_by, interrupt_plan}
use Rattle.forms.specs.Tests.{field_test, fields_test, stacks_test, reach_test, clean_test}
use Rattle.forms.specs.Forms.{plan_of}
use Rattle.nest.specs.View.{in_windows, in_store, peek, sr_mask, under, s_bit, m_bit, view}
use Rattle.entered.specs.Pointers.{regs_of}
use Rattle.entered.specs.Bytes.{windows_of, mem_of}
use Rattle.instances.specs.Computed.{computed}
use Rattle.manual.specs.Parts.{family_of}
use Rattle.manual.specs.State.{entered, interrupted, supervisor_pointer}
use Rattle.manual.specs.Vectors.{class_of, vector_at}
use Rattle.manual.specs.Exceptions.{fields_of, length_of, throwaway, top_fields, status_after, first_frame, pointer_after}
use Rattle.manual.specs.Differences.{differences}
use Rattle.manual.specs.Calls.{state_by, event_of}

unfoldable pub shown : World → Call → Performed
unfolding computed format_length rewind_pc leave_stop note_fpiar put_back_sr fault_word frame0 frame2 frame8 frame68000 address_frame exception_address_error begin_trace disabled_frame take_rewound exception_trace stack_unimp take_fp_unimp060 stack_disabled take_fp_disabled060 calm laid_field field_address laid_frame gist gist_cpu framed_by words6 words8 turned stack_all short_of exc_plan rewound_plan group2_frame group2_plan trace_plan fp_unimp_plan fp_disabled_plan address_plan bus_plan interrupt_vector interrupt_frame throwaways settles interrupt_by interrupt_plan field_test fields_test stacks_test reach_test clean_test plan_of in_windows in_store peek sr_mask under s_bit m_bit view regs_of windows_of mem_of family_of entered interrupted supervisor_pointer class_of vector_at fields_of length_of throwaway top_fields status_after first_frame pointer_after differences state_by event_of
shown w c = perform w c
