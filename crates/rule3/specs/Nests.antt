-- WORKED NESTS: lists of steps on kinds 0, 1, 2, 4, 8, 10 and 11 that meet the premises of rule 3, each shown by one test that computes;
-- what the book then holds, computed; and that rule 3 speaks of each. Every format is among them, a two-frame interrupt, a user state with
-- M set, a return, a refused call, a call that is not taken, and a pair of lists for part (b).
use Rattle.std.specs.Prelude.{None}
use Rattle.std.specs.Prelude.{ℕ, ◌≡◌, refl, true, false, List, [], ◌∷◌, set, replicate}
use Rattle.cpu.specs.declared.Cpu.{Cpu}
use Rattle.cpu.specs.Setters.{with_sp}
use Rattle.cpu.specs.Fields.{set_a7, set_pc}
use Rattle.cpu.specs.Fresh.{fresh_cpu}
use Rattle.status.specs.Status.{put_back_sr}
use Rattle.pending.specs.Interrupts.{set_irq}
use Rattle.memory.specs.declared.Bus.{Bus}
use Rattle.answers.specs.declared.Call.{Call}
use Rattle.answers.specs.declared.Call.TheVariants.{TakeException, Trap, ExceptionChk, ExceptionZeroDivide, ExceptionTrace, ExceptionAddressError, ExceptionBusError, TakeFpUnimp060, TakeFpDisabled060, TakeIllegalException, CheckAndServiceInterrupts}
use Rattle.nest.specs.View.{Row}
use Rattle.nest.specs.Nest.{Step, entry, return, handlers, end, rows, restored_by, Values}
use Rattle.entered.specs.Machines.{direct, Room}
use Rattle.rule3.specs.Rule3.{Real}
use Rattle.rule3.specs.Computed.{nested}

-- ---- how they are written

abbrev pub bus : Bus
bus = record { base = 0; windows = 0; starts = replicate 8 0; lengths = replicate 8 0; responses = replicate 8 0xFFFFFFFF; events = 0 }

-- 512 bytes from 0: every handler's address is 0
abbrev pub room : Room
room = record { bus = bus; bytes = replicate 512 0; log = replicate 192 0 }

-- kind k at PC 0x100, with a status and its A7, the saved pointers of user, interrupt and master stack, and a level pending
abbrev pub start : ℕ → ℕ → ℕ → ℕ → ℕ → ℕ → ℕ → Cpu
start k status a7 usp isp msp level =
    set_irq (put_back_sr (set_a7 (set_pc (with_sp (fresh_cpu k) (set (set (set (replicate 8 0) 0 usp) 4 isp) 6 msp)) 0x100) a7) status) level

abbrev pub call : (c : Call) → direct c ≡ true → Step Real
call c e = entry (record { call = c; is = e })

abbrev pub bus_error : Step Real
bus_error = call (ExceptionBusError 0x1234 false false 2 None) refl

abbrev pub tick : Step Real
tick = call CheckAndServiceInterrupts refl

abbrev pub row : ℕ → ℕ → ℕ → ℕ → Row
row format status address offset = record { format = format; status = status; address = address; offset = offset }

abbrev values : ℕ → ℕ → ℕ → Values
values status pc a7 = record { status = status; pc = pc; a7 = a7 }

-- ---- kind 4: a trap from the user state with M set, an interrupt from the master state with its two frames, a bus error of format 11

abbrev pub three : List (Step Real)
three = call (Trap 0) refl ∷ tick ∷ bus_error ∷ []

abbrev pub r₄ : Cpu
r₄ = start 4 0x1000 0x100 0x100 0x200 0x190 7

pub three_rows : rows (end Real three r₄ room).book ≡ row 11 0x2700 0 0x008 ∷ row 1 0x3000 0 0x07C ∷ row 0 0x1000 0x100 0x080 ∷ []
unfolding nested
three_rows = refl

pub three_values : restored_by (end Real three r₄ room).book ≡ values 0x2700 0 0x1F8 ∷ values 0x3000 0 0x188 ∷ values 0x1000 0x100 0x100 ∷ []
unfolding nested
three_values = refl

-- ---- kind 0: divide by zero (format 2), a bus error (format 11), an interrupt; and a return

abbrev pub r₀ : Cpu
r₀ = start 0 0x2000 0x200 0x100 0 0 4

abbrev pub zero_list : List (Step Real)
zero_list = call ExceptionZeroDivide refl ∷ bus_error ∷ tick ∷ return ∷ []

pub zero_rows : rows (end Real zero_list r₀ room).book ≡ row 11 0x2000 0 0x008 ∷ row 2 0x2000 0x100 0x014 ∷ []
unfolding nested
zero_rows = refl

-- ---- kind 1: a trap from the user state, an interrupt, an illegal instruction: frames of 6 bytes, no format

abbrev pub r₁ : Cpu
r₁ = start 1 0x0004 0x100 0x100 0x200 0 2

abbrev pub one_list : List (Step Real)
one_list = call (Trap 15) refl ∷ tick ∷ call TakeIllegalException refl ∷ []

pub one_rows : rows (end Real one_list r₁ room).book ≡ row 0 0x2204 0 0 ∷ row 0 0x2004 0 0 ∷ row 0 0x0004 0x100 0 ∷ []
unfolding nested
one_rows = refl

-- ---- kind 2: a bus error (format 8), a call refused by number 8, an interrupt held back by the mask, an address error (format 8)

abbrev pub r₂ : Cpu
r₂ = start 2 0x2700 0x200 0x100 0 0 3

abbrev pub two_list : List (Step Real)
two_list = bus_error ∷ call (TakeException 256) refl ∷ tick ∷ call (ExceptionAddressError 0x11 true false) refl ∷ []

pub two_rows : rows (end Real two_list r₂ room).book ≡ row 8 0x2700 0 0x00C ∷ row 8 0x2700 0 0x008 ∷ []
unfolding nested
two_rows = refl

-- ---- kind 8: CHK (format 2), a bus error (format 7), an interrupt from the master state (formats 1 and 0), trace

abbrev pub r₈ : Cpu
r₈ = start 8 0x3000 0x180 0x100 0x200 0 7

abbrev pub eight_list : List (Step Real)
eight_list = call ExceptionChk refl ∷ bus_error ∷ tick ∷ call ExceptionTrace refl ∷ []

pub eight_rows : rows (end Real eight_list r₈ room).book ≡ row 2 0x2700 0 0x024 ∷ row 1 0x3000 0 0x07C ∷ row 7 0x3000 0 0x008 ∷ row 2 0x3000 0x100 0x018 ∷ []
unfolding nested
eight_rows = refl

-- ---- kind 10: divide by zero (format 0), a bus error (format 8)

abbrev pub r₁₀ : Cpu
r₁₀ = start 10 0x0000 0x100 0x100 0x200 0 0

abbrev pub ten_list : List (Step Real)
ten_list = call ExceptionZeroDivide refl ∷ bus_error ∷ []

pub ten_rows : rows (end Real ten_list r₁₀ room).book ≡ row 8 0x2000 0 0x008 ∷ row 0 0x0000 0x100 0x014 ∷ []
unfolding nested
ten_rows = refl

-- ---- kind 11: both floating-point entries (formats 2 and 4), an interrupt with M set, which clears it and stays on the stack

abbrev pub r₁₁ : Cpu
r₁₁ = start 11 0x3000 0x200 0x100 0 0x180 7

abbrev pub eleven_list : List (Step Real)
eleven_list = call (TakeFpUnimp060 0x1234) refl ∷ call TakeFpDisabled060 refl ∷ tick ∷ bus_error ∷ []

pub eleven_rows : rows (end Real eleven_list r₁₁ room).book ≡ row 4 0x2700 0 0x008 ∷ row 0 0x3000 0 0x07C ∷ row 4 0x3000 0 0x02C ∷ row 2 0x3000 0x100 0x02C ∷ []
unfolding nested
eleven_rows = refl

-- ---- part (b): two lists from two starts that are alike at their ends

abbrev pub r₄' : Cpu
r₄' = start 4 0x2700 0x180 0 0 0 0

-- handlers put in place the record that the other list starts from; a trap then meets the same arguments
abbrev pub later : List (Step Real)
later = call ExceptionChk refl ∷ return ∷ handlers r₄ room ∷ three

same_end : end Real later r₄' room ≡ end Real three r₄ room
unfolding nested
same_end = refl
