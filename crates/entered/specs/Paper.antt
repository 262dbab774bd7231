-- THE FRAMES that a direct entry makes, written out from paper 01 ("One interrupt", "Frames"): what the book of rule 3 is fed. Nothing here
-- is read from what the engine left, and no definition of the engine is used but the fields of record and bus and the status (`get_sr`).
use Rattle.std.specs.Prelude.{ℕ, ◌+◌, ◌*◌, ◌/◌, ◌%◌, Bool, true, false, cond, not, ◌&&◌, ◌||◌, eqb, ltb, leb, get_or}
use Rattle.cpu.specs.declared.Cpu.{Cpu}
use Rattle.memory.specs.declared.Bus.{Bus}
use Rattle.memory.specs.World.{World}
use Rattle.answers.specs.declared.Call.{Call}
use Rattle.answers.specs.declared.Call.TheVariants.{TakeException, Trap, TakeGroup2Exception, ExceptionChk, ExceptionZeroDivide, ExceptionPrivilege, ExceptionTrace, ExceptionAddressError, ExceptionBusError, TakeFpUnimp060, TakeFpDisabled060, TakeAlineException, TakeFlineException, TakeTrapException, TakeBkptException, TakeIllegalException, TriggerAddressError, TriggerBusError, CheckTrace, SetIrq, CheckInterrupts, CheckAndServiceInterrupts, Read16, Read32, Write16, Write32, Push16, Push32, PrefetchFirst, PrefetchSecond}
use Rattle.nest.specs.View.{Frame, Stacked, one, two, nonzero, top, with_sm, view}
use Rattle.nest.specs.Laws.{lower}
use Rattle.entered.specs.Pointers.{regs_of}

abbrev record_of : World → Cpu
record_of w = w.core.cpu

abbrev kind : Cpu → ℕ
kind c = c.flow.cpu_type

-- a frame of n bytes on the supervisor stack, under its pointer; the status is that of before the entry
abbrev pub made : Cpu → ℕ → ℕ → ℕ → Frame
made c n address word =
    record { at = lower (top (with_sm (view (regs_of c)) true (view (regs_of c)).m)) n; len = n; status = (regs_of c).status; address = address; word = word }

-- "a word of format × 4096 + vector × 4"
abbrev pub word_for : ℕ → ℕ → ℕ
word_for format vector = format * 0x1000 + vector * 4

-- "Lengths by format: 0 and 1: 8; 2: 12; 4: 16; 7: 60; 8: 58; 11: 92"
abbrev pub length_for : ℕ → ℕ
length_for f = cond (eqb f 2) 12 (cond (eqb f 4) 16 (cond (eqb f 7) 60 (cond (eqb f 8) 58 (cond (eqb f 11) 92 8))))

-- "Kind 1: status 2, address 4", and no such word
abbrev pub frame_for : Cpu → ℕ → ℕ → ℕ → Frame
frame_for c format vector address = cond (eqb (kind c) 1) (made c 6 address 0) (made c (length_for format) address (word_for format vector))

-- "Its bus and address error": 14 bytes
abbrev pub error_for : Cpu → ℕ → ℕ → Frame
error_for c format vector = cond (eqb (kind c) 1) (made c 14 c.flow.ppc 0) (made c (length_for format) c.flow.ppc (word_for format vector))

-- kinds 2 and 10; 7 to 9
abbrev pub early : ℕ → Bool
early k = eqb k 2 || eqb k 10

abbrev pub forty : ℕ → Bool
forty k = leb 7 k && leb k 9

-- the format of a group 2 exception, an address error, a bus error, by kind
abbrev pub group_format : ℕ → ℕ
group_format k = cond (early k) 0 2

abbrev pub address_format : ℕ → ℕ
address_format k = cond (early k) 8 (cond (forty k) 2 0)

abbrev pub bus_format : ℕ → ℕ
bus_format k = cond (early k) 8 (cond (eqb k 11) 4 (cond (forty k) 7 11))

-- "Its stacked address is `pc` for vectors 5, 7, 9, 24 to 31, 32 to 47, else `ppc`"
abbrev pub next : ℕ → Bool
next v = eqb v 5 || (eqb v 7 || (eqb v 9 || ((leb 24 v && leb v 31) || (leb 32 v && leb v 47))))

abbrev pub exception_for : Cpu → ℕ → Frame
exception_for c v = frame_for c 0 v (cond (next v) c.flow.pc c.flow.ppc)

abbrev pub group_for : Cpu → ℕ → Frame
group_for c v = frame_for c (group_format (kind c)) v c.flow.pc

-- "L = `int_level` & 7"
abbrev pub level : Cpu → ℕ
level c = c.flags.int_level % 8

-- "Acknowledge 0xFFFFFFFF gives vector 24 + L, any other response its low 8 bits"
abbrev pub acknowledge : ℕ → ℕ → ℕ
acknowledge response l = cond (eqb response 0xFFFFFFFF) (24 + l) (response % 256)

abbrev pub vector_for : Cpu → Bus → ℕ
vector_for c b = acknowledge (get_or b.responses (level c) 0) (level c)

-- "its status with S set"
abbrev pub with_set : ℕ → ℕ
with_set st = cond (eqb (st / 0x2000 % 2) 1) st (st + 0x2000)

-- "On kinds 3 to 9 with M set a second, format 1 frame follows on the interrupt stack"
abbrev pub second_for : Cpu → ℕ → Frame
second_for c v = record { at = lower (view (regs_of c)).isp 8; len = 8; status = with_set (regs_of c).status; address = c.flow.pc; word = word_for 1 v }

abbrev pub interrupt_for : Cpu → ℕ → Stacked
interrupt_for c v =
    cond (nonzero c.flags.m_flag && (leb 3 (kind c) && leb (kind c) 9))
    (two (second_for c v) (frame_for c 0 v c.flow.pc))
    (one (frame_for c 0 v c.flow.pc))

-- the frames of a call; what is no direct entry makes none, and its line is never read
unfoldable pub paper : World → Call → Stacked
paper w (TakeException v) = one (exception_for (record_of w) v)
paper w (Trap n) = one (exception_for (record_of w) (32 + n % 16))
paper w (TakeTrapException n) = one (exception_for (record_of w) (32 + n % 16))
paper w ExceptionPrivilege = one (exception_for (record_of w) 8)
paper w TakeAlineException = one (exception_for (record_of w) 10)
paper w TakeFlineException = one (exception_for (record_of w) 11)
paper w TakeBkptException = one (exception_for (record_of w) 4)
paper w TakeIllegalException = one (exception_for (record_of w) 4)
paper w (TakeGroup2Exception v) = one (group_for (record_of w) v)
paper w ExceptionChk = one (group_for (record_of w) 6)
paper w ExceptionZeroDivide = one (group_for (record_of w) 5)
paper w ExceptionTrace = one (group_for (record_of w) 9)
paper w (ExceptionAddressError a write instruction) = one (error_for (record_of w) (address_format (kind (record_of w))) 3)
paper w (ExceptionBusError a write instruction z cause) = one (error_for (record_of w) (bus_format (kind (record_of w))) 2)
paper w (TakeFpUnimp060 ea) = one (made (record_of w) (length_for 2) (record_of w).flow.pc (word_for 2 11))
paper w TakeFpDisabled060 = one (made (record_of w) (length_for 4) (record_of w).flow.ppc (word_for 4 11))
paper w CheckAndServiceInterrupts = interrupt_for (record_of w) (vector_for (record_of w) w.core.bus)
paper w (TriggerAddressError a write instruction) = one (made (record_of w) 0 0 0)
paper w (TriggerBusError a write instruction z) = one (made (record_of w) 0 0 0)
paper w CheckTrace = one (made (record_of w) 0 0 0)
paper w (SetIrq n) = one (made (record_of w) 0 0 0)
paper w CheckInterrupts = one (made (record_of w) 0 0 0)
paper w (Read16 a) = one (made (record_of w) 0 0 0)
paper w (Read32 a) = one (made (record_of w) 0 0 0)
paper w (Write16 a v) = one (made (record_of w) 0 0 0)
paper w (Write32 a v) = one (made (record_of w) 0 0 0)
paper w (Push16 v) = one (made (record_of w) 0 0 0)
paper w (Push32 v) = one (made (record_of w) 0 0 0)
paper w PrefetchFirst = one (made (record_of w) 0 0 0)
paper w PrefetchSecond = one (made (record_of w) 0 0 0)

-- ---- which calls are taken, where no number refuses them

-- "Taken exactly if L = 7 or L > (`int_mask` >> 8) & 7"
abbrev pub interrupts : Cpu → Bool
interrupts c = eqb (level c) 7 || ltb (c.flags.int_mask / 0x100 % 8) (level c)

-- "`take_exception` met while `exception_processing` stands: .. no frame"
abbrev pub outside : Cpu → Bool
outside c = not c.flow.exception_processing

unfoldable pub paper_takes : World → Call → Bool
paper_takes w (TakeException v) = outside (record_of w)
paper_takes w (Trap n) = outside (record_of w)
paper_takes w (TakeTrapException n) = outside (record_of w)
paper_takes w ExceptionPrivilege = outside (record_of w)
paper_takes w TakeAlineException = outside (record_of w)
paper_takes w TakeFlineException = outside (record_of w)
paper_takes w TakeBkptException = outside (record_of w)
paper_takes w TakeIllegalException = outside (record_of w)
paper_takes w CheckAndServiceInterrupts = interrupts (record_of w)
paper_takes w (TakeGroup2Exception v) = true
paper_takes w ExceptionChk = true
paper_takes w ExceptionZeroDivide = true
paper_takes w ExceptionTrace = true
paper_takes w (ExceptionAddressError a write instruction) = true
paper_takes w (ExceptionBusError a write instruction z cause) = true
paper_takes w (TakeFpUnimp060 ea) = true
paper_takes w TakeFpDisabled060 = true
paper_takes w (TriggerAddressError a write instruction) = false
paper_takes w (TriggerBusError a write instruction z) = false
paper_takes w CheckTrace = false
paper_takes w (SetIrq n) = false
paper_takes w CheckInterrupts = false
paper_takes w (Read16 a) = false
paper_takes w (Read32 a) = false
paper_takes w (Write16 a v) = false
paper_takes w (Write32 a v) = false
paper_takes w (Push16 v) = false
paper_takes w (Push32 v) = false
paper_takes w PrefetchFirst = false
paper_takes w PrefetchSecond = false
