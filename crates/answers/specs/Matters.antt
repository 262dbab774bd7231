-- Which of the numbers 1 to 9 each call checks: those whose matter it is given. Every call is given a record: 1, 2, 4 and the kind
-- of 9. The rest is in this table.
use Rattle.std.specs.Prelude.{ℕ, true, false}
use Rattle.answers.specs.declared.Call.{Call}
use Rattle.answers.specs.declared.Call.TheVariants.{TakeException, Trap, TakeGroup2Exception, ExceptionChk, ExceptionZeroDivide, ExceptionPrivilege, ExceptionTrace, ExceptionAddressError, ExceptionBusError, TakeFpUnimp060, TakeFpDisabled060, TakeAlineException, TakeFlineException, TakeTrapException, TakeBkptException, TakeIllegalException, TriggerAddressError, TriggerBusError, CheckTrace, SetIrq, CheckInterrupts, CheckAndServiceInterrupts, Read16, Read32, Write16, Write32, Push16, Push32, PrefetchFirst, PrefetchSecond}
use Rattle.refusals.specs.Matters.{Matter}

-- a record alone
abbrev pub of_record : Matter
of_record = record { store = false; log = false; vector = 0; interrupt = false; floating = false }

-- a store and a log too: 5, 6, 7
abbrev pub of_lent : Matter
of_lent = record { store = true; log = true; vector = 0; interrupt = false; floating = false }

-- a vector too: 8
abbrev pub of_vector : ℕ → Matter
of_vector v = record { store = true; log = true; vector = v; interrupt = false; floating = false }

-- the interrupt call: 3
abbrev pub of_interrupt : Matter
of_interrupt = record { store = true; log = true; vector = 0; interrupt = true; floating = false }

-- a floating-point entry: 9 on kinds other than 11
abbrev pub of_floating : Matter
of_floating = record { store = true; log = true; vector = 0; interrupt = false; floating = true }

unfoldable pub matter_of : Call → Matter
matter_of (TakeException v) = of_vector v
matter_of (Trap n) = of_lent
matter_of (TakeGroup2Exception v) = of_vector v
matter_of ExceptionChk = of_lent
matter_of ExceptionZeroDivide = of_lent
matter_of ExceptionPrivilege = of_lent
matter_of ExceptionTrace = of_lent
matter_of (ExceptionAddressError a w i) = of_lent
matter_of (ExceptionBusError a w i z cause) = of_lent
matter_of (TakeFpUnimp060 ea) = of_floating
matter_of TakeFpDisabled060 = of_floating
matter_of TakeAlineException = of_lent
matter_of TakeFlineException = of_lent
matter_of (TakeTrapException n) = of_lent
matter_of TakeBkptException = of_lent
matter_of TakeIllegalException = of_lent
matter_of (TriggerAddressError a w i) = of_lent
matter_of (TriggerBusError a w i z) = of_lent
matter_of CheckTrace = of_record
matter_of (SetIrq n) = of_record
matter_of CheckInterrupts = of_record
matter_of CheckAndServiceInterrupts = of_interrupt
matter_of (Read16 a) = of_lent
matter_of (Read32 a) = of_lent
matter_of (Write16 a v) = of_lent
matter_of (Write32 a v) = of_lent
matter_of (Push16 v) = of_lent
matter_of (Push32 v) = of_lent
matter_of PrefetchFirst = of_lent
matter_of PrefetchSecond = of_lent
