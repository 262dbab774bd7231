-- What a call makes of a world: refused by number with nothing touched, or performed from an empty log. This is the definition
-- that the public contract cites.
use Rattle.std.specs.Prelude.{ℕ, true, false, eqb, length}
use Rattle.types.specs.Kinds.{pick}
use Rattle.types.specs.Vectors.{illegal_instruction, zero_divide, chk, privilege_violation, line1010, line1111}
use Rattle.types.specs.Causes.{cause_number}
use Rattle.pending.specs.Trace.{check_trace}
use Rattle.pending.specs.Interrupts.{set_irq, check_interrupts}
use Rattle.memory.specs.declared.Core.{Core}
use Rattle.memory.specs.Log.{with_events}
use Rattle.memory.specs.World.{World, world, cpu_of, step}
use Rattle.frames.specs.Frames.{word, long}
use Rattle.access.specs.Access.{raised, bus_error, address_error, read_at, write_at, push_field, prefetch_first, prefetch_second, exception_bus_error, exception_address_error}
use Rattle.exceptions.specs.Exceptions.{take_exception, take_group2, trap, exception_trace, take_rewound, take_fp_unimp060, take_fp_disabled060}
use Rattle.interrupts.specs.Interrupts.{check_and_service}
use Rattle.answers.specs.declared.Call.{Call}
use Rattle.answers.specs.declared.Call.TheVariants.{TakeException, Trap, TakeGroup2Exception, ExceptionChk, ExceptionZeroDivide, ExceptionPrivilege, ExceptionTrace, ExceptionAddressError, ExceptionBusError, TakeFpUnimp060, TakeFpDisabled060, TakeAlineException, TakeFlineException, TakeTrapException, TakeBkptException, TakeIllegalException, TriggerAddressError, TriggerBusError, CheckTrace, SetIrq, CheckInterrupts, CheckAndServiceInterrupts, Read16, Read32, Write16, Write32, Push16, Push32, PrefetchFirst, PrefetchSecond}
use Rattle.answers.specs.Answer.{Refused}
use Rattle.refusals.specs.Refusals.{refusal_of}
use Rattle.answers.specs.Matters.{matter_of}
use Rattle.answers.specs.Answers.{Performed, answered, cycles, flag, plain, of_entry, of_read, of_service, of_trace}

-- a call that is not refused; error entries answer 50 cycles
unfoldable pub run : World → Call → Performed
run w (TakeException v) = of_entry (take_exception w v)
run w (Trap n) = of_entry (trap w n)
run w (TakeGroup2Exception v) = of_entry (take_group2 w v)
run w ExceptionChk = of_entry (take_group2 w chk)
run w ExceptionZeroDivide = of_entry (take_group2 w zero_divide)
run w ExceptionPrivilege = of_entry (take_exception w privilege_violation)
run w ExceptionTrace = of_entry (exception_trace w)
run w (ExceptionAddressError a write instruction) = cycles (exception_address_error raised w a write instruction) 50
run w (ExceptionBusError a write instruction z cause) = cycles (exception_bus_error raised w a write instruction z (cause_number cause)) 50
run w (TakeFpUnimp060 ea) = of_entry (take_fp_unimp060 w ea)
run w TakeFpDisabled060 = of_entry (take_fp_disabled060 w)
run w TakeAlineException = of_entry (take_rewound w line1010)
run w TakeFlineException = of_entry (take_rewound w line1111)
run w (TakeTrapException n) = of_entry (trap w n)
run w TakeBkptException = of_entry (take_rewound w illegal_instruction)
run w TakeIllegalException = of_entry (take_rewound w illegal_instruction)
run w (TriggerAddressError a write instruction) = plain (raised w (address_error a write instruction))
run w (TriggerBusError a write instruction z) = plain (raised w (bus_error a write instruction z))
run w CheckTrace = of_trace w (check_trace (cpu_of w))
run w (SetIrq n) = plain (step (λ c. set_irq c n) w)
run w CheckInterrupts = flag w (check_interrupts (cpu_of w))
run w CheckAndServiceInterrupts = of_service (check_and_service w)
run w (Read16 a) = of_read (read_at raised w a false)
run w (Read32 a) = of_read (read_at raised w a true)
run w (Write16 a v) = plain (write_at raised w a false v)
run w (Write32 a v) = plain (write_at raised w a true v)
run w (Push16 v) = plain (push_field raised w (word v))
run w (Push32 v) = plain (push_field raised w (long v))
run w PrefetchFirst = plain (prefetch_first raised w)
run w PrefetchSecond = plain (prefetch_second raised w)

-- the log starts at its first word
unfoldable pub restarted : Core → Core
restarted m = record { cpu = m.cpu; bus = with_events m.bus 0 }

unfoldable pub begun : World → World
begun w = world (restarted w.core) w.store w.log

-- the lowest number that refuses a call, or 0
unfoldable pub refusal : World → Call → ℕ
refusal w c = refusal_of w.core (length w.store) (length w.log) (matter_of c)

-- the public call
unfoldable pub perform : World → Call → Performed
perform w c = pick (eqb (refusal w c) 0) (run (begun w) c) (answered w (Refused (refusal w c)))
