-- The record as the manuals' programming model, and the exception that a call is.
use Rattle.std.specs.Prelude.{ℕ, ◌+◌, ◌%◌, Bool, false, cond, ◌||◌, eqb, get_or}
use Rattle.std.proofs.Math.Option.{Option, none, some}
use Rattle.types.specs.Causes.{cause_number}
use Rattle.cpu.specs.declared.Cpu.{Cpu}
use Rattle.memory.specs.declared.Bus.{Bus}
use Rattle.memory.specs.World.{World}
use Rattle.answers.specs.declared.Call.{Call}
use Rattle.answers.specs.declared.Call.TheVariants.{TakeException, Trap, TakeGroup2Exception, ExceptionChk, ExceptionZeroDivide, ExceptionPrivilege, ExceptionTrace, ExceptionAddressError, ExceptionBusError, TakeFpUnimp060, TakeFpDisabled060, TakeAlineException, TakeFlineException, TakeTrapException, TakeBkptException, TakeIllegalException, TriggerAddressError, TriggerBusError, CheckTrace, SetIrq, CheckInterrupts, CheckAndServiceInterrupts, Read16, Read32, Write16, Write32, Push16, Push32, PrefetchFirst, PrefetchSecond}
use Rattle.status.specs.Status.{get_sr}
use Rattle.nest.specs.View.{view}
use Rattle.entered.specs.Pointers.{regs_of}
use Rattle.manual.specs.Parts.{Family, lines_of}
use Rattle.manual.specs.State.{State, Fault, is_set, function_code}
use Rattle.manual.specs.Vectors.{Class, instruction, trap, group2, interrupt, bus_error, address_error, fp_unimplemented, fp_disabled, class_of, acknowledged}
use Rattle.manual.specs.Differences.{Via, by_vector, own}

-- ---- the record

-- the function code that stands in for an access, else that of the state
abbrev pub code_of : Cpu → Bool → ℕ
code_of c i = cond c.fault.mmu_fc_override.some (c.fault.mmu_fc_override.value % 8) (function_code (is_set 13 (get_sr c)) i)

abbrev pub fault_by : Cpu → ℕ → Bool → Bool → ℕ → ℕ → ℕ → Fault
fault_by c a write i z code cause = record { address = a; write = write; instruction = i; size = z; code = code; datum = c.fault.pending_fault_wdata; cause = cause }

abbrev pub no_fault : Cpu → Fault
no_fault c = fault_by c 0 false false 0 0 0

-- a call of an address error says no size
abbrev pub fault_of : Cpu → Call → Fault
fault_of c (ExceptionBusError a write i z cause) = fault_by c a write i z (code_of c i) (cause_number cause)
fault_of c (ExceptionAddressError a write i) = fault_by c a write i 0 (code_of c i) 0
fault_of c (TakeException v) = no_fault c
fault_of c (Trap n) = no_fault c
fault_of c (TakeGroup2Exception v) = no_fault c
fault_of c ExceptionChk = no_fault c
fault_of c ExceptionZeroDivide = no_fault c
fault_of c ExceptionPrivilege = no_fault c
fault_of c ExceptionTrace = no_fault c
fault_of c (TakeFpUnimp060 ea) = no_fault c
fault_of c TakeFpDisabled060 = no_fault c
fault_of c TakeAlineException = no_fault c
fault_of c TakeFlineException = no_fault c
fault_of c (TakeTrapException n) = no_fault c
fault_of c TakeBkptException = no_fault c
fault_of c TakeIllegalException = no_fault c
fault_of c (TriggerAddressError a write i) = no_fault c
fault_of c (TriggerBusError a write i z) = no_fault c
fault_of c CheckTrace = no_fault c
fault_of c (SetIrq n) = no_fault c
fault_of c CheckInterrupts = no_fault c
fault_of c CheckAndServiceInterrupts = no_fault c
fault_of c (Read16 a) = no_fault c
fault_of c (Read32 a) = no_fault c
fault_of c (Write16 a v) = no_fault c
fault_of c (Write32 a v) = no_fault c
fault_of c (Push16 v) = no_fault c
fault_of c (Push32 v) = no_fault c
fault_of c PrefetchFirst = no_fault c
fault_of c PrefetchSecond = no_fault c

abbrev pub operand_of : Call → Option ℕ
operand_of (TakeFpUnimp060 ea) = some ea
operand_of (ExceptionBusError a write i z cause) = none
operand_of (ExceptionAddressError a write i) = none
operand_of (TakeException v) = none
operand_of (Trap n) = none
operand_of (TakeGroup2Exception v) = none
operand_of ExceptionChk = none
operand_of ExceptionZeroDivide = none
operand_of ExceptionPrivilege = none
operand_of ExceptionTrace = none
operand_of TakeFpDisabled060 = none
operand_of TakeAlineException = none
operand_of TakeFlineException = none
operand_of (TakeTrapException n) = none
operand_of TakeBkptException = none
operand_of TakeIllegalException = none
operand_of (TriggerAddressError a write i) = none
operand_of (TriggerBusError a write i z) = none
operand_of CheckTrace = none
operand_of (SetIrq n) = none
operand_of CheckInterrupts = none
operand_of CheckAndServiceInterrupts = none
operand_of (Read16 a) = none
operand_of (Read32 a) = none
operand_of (Write16 a v) = none
operand_of (Write32 a v) = none
operand_of (Push16 v) = none
operand_of (Push32 v) = none
operand_of PrefetchFirst = none
operand_of PrefetchSecond = none

-- a response of the bus: 0xFFFFFFFF is AVEC, any other a vector number in its low 8 bits
abbrev pub response_for : Bus → ℕ → Option ℕ
response_for b level = cond (eqb (get_or b.responses level 0) 0xFFFFFFFF) none (some (get_or b.responses level 0 % 256))

-- `pc` is the next instruction's address, `ppc` that of the one in execution; the stack pointer in use is A7, the others are the saved ones (`view`)
unfoldable pub state_by : World → Family → Fault → Option ℕ → State
state_by w f fault operand =
    record {
      family = f;
      lines = lines_of w.core.cpu.flow.cpu_type;
      status = get_sr w.core.cpu;
      next = w.core.cpu.flow.pc;
      this = w.core.cpu.flow.ppc;
      opcode = w.core.cpu.flow.ir % 0x10000;
      vbr = w.core.cpu.flow.vbr;
      usp = (view (regs_of w.core.cpu)).usp;
      isp = (view (regs_of w.core.cpu)).isp;
      msp = (view (regs_of w.core.cpu)).msp;
      level = w.core.cpu.flags.int_level % 8;
      response = response_for w.core.bus (w.core.cpu.flags.int_level % 8);
      operand = operand;
      fault = fault;
    }

abbrev pub state_of : World → Family → Call → State
state_of w f c = state_by w f (fault_of w.core.cpu c) (operand_of c)

-- ---- the calls

-- an exception: its class, its vector, and how it is called for
pub record Event : Type 0 where
  pub class : Class
  pub vector : ℕ
  pub via : Via

abbrev pub event : Class → ℕ → Via → Event
event c v w = record { class = c; vector = v; via = w }

abbrev pub by_number : Option Class → ℕ → Option Event
by_number none v = none
by_number (some c) v = some (event c v by_vector)

-- CHK, TRAPV, division by zero, trace
abbrev pub is_group2 : ℕ → Bool
is_group2 v = eqb v 5 || (eqb v 6 || (eqb v 7 || eqb v 9))

-- the exception that a direct entry is; none where the manual has none, and for what is no direct entry
unfoldable pub event_of : State → Call → Option Event
event_of s (TakeException v) = by_number (class_of s.family v) v
event_of s (Trap n) = some (event trap (32 + n % 16) own)
event_of s (TakeTrapException n) = some (event trap (32 + n % 16) own)
event_of s (TakeGroup2Exception v) = cond (is_group2 v) (some (event group2 v own)) none
event_of s ExceptionChk = some (event group2 6 own)
event_of s ExceptionZeroDivide = some (event group2 5 own)
event_of s ExceptionTrace = some (event group2 9 own)
event_of s ExceptionPrivilege = some (event instruction 8 own)
event_of s TakeAlineException = some (event instruction 10 own)
event_of s TakeFlineException = some (event instruction 11 own)
event_of s TakeBkptException = some (event instruction 4 own)
event_of s TakeIllegalException = some (event instruction 4 own)
event_of s (ExceptionAddressError a write i) = some (event address_error 3 own)
event_of s (ExceptionBusError a write i z cause) = some (event bus_error 2 own)
event_of s (TakeFpUnimp060 ea) = some (event fp_unimplemented 11 own)
event_of s TakeFpDisabled060 = some (event fp_disabled 11 own)
event_of s CheckAndServiceInterrupts = some (event interrupt (acknowledged s.response s.level) own)
event_of s (TriggerAddressError a write i) = none
event_of s (TriggerBusError a write i z) = none
event_of s CheckTrace = none
event_of s (SetIrq n) = none
event_of s CheckInterrupts = none
event_of s (Read16 a) = none
event_of s (Read32 a) = none
event_of s (Write16 a v) = none
event_of s (Write32 a v) = none
event_of s (Push16 v) = none
event_of s (Push32 v) = none
event_of s PrefetchFirst = none
event_of s PrefetchSecond = none
