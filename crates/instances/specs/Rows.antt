-- Paper 01's instances, by their numbers there, on `perform`, the definition that the public call's contract cites. Numbers that
-- the paper has in hexadecimal stand in decimal, with the paper's form beside them.
use Rattle.std.specs.Prelude.{Some, None}
use Rattle.std.specs.Prelude.{ℕ, ◌≡◌, Bool, true, false, List, [], ◌∷◌, length, get_or, take}
use Rattle.types.specs.declared.FaultCause.TheVariants.{PageFault}
use Rattle.cpu.specs.declared.Cpu.{Cpu}
use Rattle.cpu.specs.Fields.{a7_of, pc_of, set_a7}
use Rattle.cpu.specs.Clocks.{clocks_of, set_clocks, internal_cycles}
use Rattle.pending.specs.Interrupts.{set_irq}
use Rattle.memory.specs.World.{World, read_value}
use Rattle.frames.specs.Codes.{function_code, ssw020, ssw040, wb3s, fslw060}
use Rattle.steps.specs.Steps.{iack_vector}
use Rattle.answers.specs.declared.Call.{Call}
use Rattle.answers.specs.declared.Call.TheVariants.{TakeException, Trap, ExceptionChk, ExceptionZeroDivide, ExceptionBusError, CheckAndServiceInterrupts}
use Rattle.answers.specs.Answer.{Answer}
use Rattle.answers.specs.Answer.{Cycles, Flag, Refused}
use Rattle.answers.specs.Answers.{Performed, answered, value_of}
use Rattle.calls.specs.Calls.{perform}
use Rattle.instances.specs.Start.{set_vbr, set_saved, start, start_at, pending, auto, holding, zeros, lent, fresh, laid, EveryKind}

-- what an entry is told by: its answer, A7, PC and the whole store
pub record Seen : Type 0 where
  pub answer : Answer
  pub a7 : ℕ
  pub pc : ℕ
  pub store : List ℕ

abbrev cpu_after : Performed → Cpu
cpu_after x = x.after.core.cpu

unfoldable pub seen : Performed → Seen
seen x = record { answer = x.answer; a7 = a7_of (cpu_after x); pc = pc_of (cpu_after x); store = x.after.store }

-- the first words of the log, three for an event
unfoldable pub logged : Performed → ℕ → List ℕ
logged x n = take n x.after.log

-- kind 2, trap 15: 27 00 00 00 10 00 00 BC at 0x7FF8; 34 cycles, with 9 events
abbrev pub P1 : Type 0
P1 = seen (perform (fresh (start 2)) (Trap 15)) ≡ record { answer = Cycles 34 9; a7 = 0x7FF8; pc = 0; store = laid zeros 0x7FF8 (39 ∷ 0 ∷ 0 ∷ 0 ∷ 16 ∷ 0 ∷ 0 ∷ 188 ∷ []) }

-- kind 1, divide by zero: 27 00 00 00 10 00, at 0x7FFA; 38 cycles, with 8 events
abbrev pub P2 : Type 0
P2 = seen (perform (fresh (start 1)) ExceptionZeroDivide) ≡ record { answer = Cycles 38 8; a7 = 0x7FFA; pc = 0; store = laid zeros 0x7FFA (39 ∷ 0 ∷ 0 ∷ 0 ∷ 16 ∷ 0 ∷ []) }

-- kind 4, CHK: 27 00 00 00 10 00 20 18 00 00 0F FE, at 0x7FF4; 40 cycles, with 6 events
abbrev pub P3 : Type 0
P3 = seen (perform (fresh (start 4)) ExceptionChk) ≡ record { answer = Cycles 40 6; a7 = 0x7FF4; pc = 0; store = laid zeros 0x7FF4 (39 ∷ 0 ∷ 0 ∷ 0 ∷ 16 ∷ 0 ∷ 32 ∷ 24 ∷ 0 ∷ 0 ∷ 15 ∷ 254 ∷ []) }

-- the interrupt call at a mask with a level pending, and a response
abbrev interrupted : ℕ → ℕ → ℕ → ℕ → Performed
interrupted kind response mask level = perform (lent response 192 (pending kind mask level)) CheckAndServiceInterrupts

-- level 3, mask 3: not taken, nothing changed and no event; level 7, mask 7: taken
abbrev pub NotTaken : ℕ → Type 0
NotTaken kind = interrupted kind auto 3 3 ≡ answered (lent auto 192 (pending kind 3 3)) (Flag false 0)

abbrev pub Taken : ℕ → Type 0
Taken kind = value_of (interrupted kind auto 7 7).answer ≡ 1

-- on every kind
abbrev pub P4 : Type 0
P4 = EveryKind NotTaken × EveryKind Taken

-- level 4 over mask 3 enters the vector on a response; so on kinds 1 and 2, and on one of the kinds that share the third order
-- of acknowledge and frame
abbrev pub Enters : ℕ → ℕ → ℕ → Type 0
Enters response vector kind = (cpu_after (interrupted kind response 3 4)).fault.last_exception_vector ≡ record { some = true; value = vector }

abbrev pub EntersInEachOrder : ℕ → ℕ → Type 0
EntersInEachOrder response vector = Enters response vector 1 × Enters response vector 2 × Enters response vector 4

-- response 0x1FF: vector 255; 0xFFFFFFFE: 254; 0xFFFFFFFF at level 4: 28. The first two are so at any level
abbrev pub P5 : Type 0
P5 =
    ((level : ℕ) → iack_vector 511 level ≡ 255) × ((level : ℕ) → iack_vector 0xFFFFFFFE level ≡ 254) × (iack_vector auto 4 ≡ 28)
    × EntersInEachOrder 511 255 × EntersInEachOrder 0xFFFFFFFE 254 × EntersInEachOrder auto 28

-- whatever the 65,536 bytes of the store, a call leaves a word, or a long, at an address
abbrev pub Leaves : Cpu → Call → ℕ → Bool → ℕ → Type 0
Leaves c call a long v = (s : List ℕ) → length s ≡ 0x10000 → read_value (perform (holding s auto 192 c) call).after a long ≡ v

-- kind 4 status word: supervisor instruction fault 0x5006; supervisor long data read 0x0145. By its definition, and 10 bytes
-- above the new A7 of 0x7FA4 after a bus error entry at address 0x1234
abbrev pub P6 : Type 0
P6 =
    (ssw020 (function_code true true) false true 2 ≡ 0x5006) × Leaves (start 4) (ExceptionBusError 0x1234 false true 2 None) 0x7FAE false 0x5006
    × (ssw020 (function_code true false) false false 4 ≡ 325) × Leaves (start 4) (ExceptionBusError 0x1234 false false 4 None) 0x7FAE false 325

-- in user state: status 0x0700, and the pointer of the interrupt stack is 0x8000 too
abbrev pub user : ℕ → Cpu
user kind = set_saved (start_at kind 0x700) 4 0x8000

-- kind 9, user word write, no cause: 0x0041, third write-back status 0x00C1. By their definitions, and 12 and 14 bytes above the
-- new A7 of 0x7FC4
abbrev pub P7 : Type 0
P7 =
    (ssw040 (function_code false false) true 2 0 ≡ 65) × Leaves (user 9) (ExceptionBusError 0x1234 true false 2 None) 0x7FD0 false 65
    × (wb3s (function_code false false) true 2 ≡ 193) × Leaves (user 9) (ExceptionBusError 0x1234 true false 2 None) 0x7FD2 false 193

-- kind 11, supervisor byte read, page fault: 0x01250200. By its definition, and as the last long of the frame
abbrev pub P8 : Type 0
P8 = (fslw060 false false 1 (function_code true false) 4 ≡ 0x1250200) × Leaves (start 11) (ExceptionBusError 0x1234 false false 1 (Some PageFault)) 0x7FFC true 0x1250200

-- pending 0xFFFFFFFF plus 4 clocks: 3. An entry on kind 2 adds 4, and its first event is their sync
abbrev pub P9 : Type 0
P9 =
    (clocks_of (internal_cycles (set_clocks (start 2) 0xFFFFFFFF) 4) ≡ 3)
    × (logged (perform (fresh (set_clocks (start 2) 0xFFFFFFFF)) (Trap 15)) 3 ≡ 5 ∷ 0 ∷ 3 ∷ [])

-- kind 4, fresh store, A7 = 2, trap 0: the second push faults; A7 0xFFFFFFFA, PC 0, `stopped` 1, `run_mode` 1. In the log: the
-- first push at 0, the second at 0xFFFFFFFC not served, the release; the third push and the vector are not tried
abbrev halts : Performed
halts = perform (fresh (set_a7 (start 4) 2)) (Trap 0)

abbrev pub P10 : Type 0
P10 =
    (seen halts ≡ record { answer = Cycles 34 3; a7 = 0xFFFFFFFA; pc = 0; store = laid zeros 0 (0 ∷ 128 ∷ []) })
    × ((cpu_after halts).flow.stopped ≡ 1) × ((cpu_after halts).flow.run_mode ≡ 1)
    × (logged halts 9 ≡ 3 ∷ 0 ∷ 128 ∷ 20 ∷ 0xFFFFFFFC ∷ 0x1000 ∷ 7 ∷ 0 ∷ 0 ∷ [])

-- kind 4, status 0x3700, master 0x6000, interrupt 0x5000, level 7: 37 00 00 00 10 00 00 7C at 0x5FF8, the saved master pointer,
-- and 37 00 00 00 10 00 10 7C at 0x4FF8, the new A7
abbrev thrown : Performed
thrown = perform (fresh (set_saved (set_a7 (set_irq (start_at 4 0x3700) 7) 24576) 4 0x5000)) CheckAndServiceInterrupts

abbrev pub P11 : Type 0
P11 =
    (seen thrown ≡ record { answer = Flag true 9; a7 = 0x4FF8; pc = 0; store = laid (laid zeros 0x5FF8 (55 ∷ 0 ∷ 0 ∷ 0 ∷ 16 ∷ 0 ∷ 0 ∷ 124 ∷ [])) 0x4FF8 (55 ∷ 0 ∷ 0 ∷ 0 ∷ 16 ∷ 0 ∷ 16 ∷ 124 ∷ []) })
    × (get_or (cpu_after thrown).regs.sp 6 0 ≡ 0x5FF8)

-- refused by a number, with nothing changed
abbrev Refuses : World → Call → ℕ → Type 0
Refuses w c n = perform w c ≡ answered w (Refused n)

-- a log of 191 words is refused by 7, one of 192 is not; vector 255 is not refused, 256 is by 8; an odd `vbr` is refused by 2 on
-- kind 2, and is not on kind 4
abbrev pub Also : Type 0
Also =
    Refuses (lent auto 191 (start 2)) (Trap 15) 7 × ((perform (lent auto 192 (start 2)) (Trap 15)).answer ≡ Cycles 34 9)
    × ((perform (fresh (start 2)) (TakeException 255)).answer ≡ Cycles 34 9) × Refuses (fresh (start 2)) (TakeException 256) 8
    × Refuses (fresh (set_vbr (start 2) 1)) (Trap 15) 2 × ((perform (fresh (set_vbr (start 4) 1)) (Trap 15)).answer ≡ Cycles 34 5)
