-- Trace and the double fault, as the manuals have them, and that `check_trace` and a trigger inside an entry do so.
use Rattle.std.specs.Prelude.{ℕ, ◌+◌, ◌*◌, ◌/◌, ◌%◌, ◌^◌, ◌≡◌, refl, Bool, true, false, ◌&&◌, ◌||◌, eqb}
use Rattle.std.proofs.Common.{sym, ap, ◌∙◌, arith}
use Rattle.types.specs.Kinds.{pick}
use Rattle.cpu.specs.Fields.{is_faulted, in_exception, halted}
use Rattle.pending.specs.Trace.{asks_trace, check_trace}
use Rattle.memory.specs.World.{World, put_cpu, cpu_of}
use Rattle.access.specs.Access.{raise_bus, trigger}
use Rattle.answers.specs.declared.Call.TheVariants.{CheckTrace, TriggerBusError}
use Rattle.numbers.specs.Numbers.{bit}
use Rattle.answers.specs.Answers.{value_of, flag, plain, of_trace}
use Rattle.calls.specs.Calls.{run, restarted, begun, refusal, perform}
use Rattle.manual.specs.Parts.{Family, mc68000, mc68010, mc68020, mc68030, mc68040, mc68060, number}
use Rattle.manual.specs.State.{is_set}
use Rattle.manual.specs.Returns.{implemented}
use Rattle.manual.specs.PartLaws.{impossible}

-- ---- trace

-- an instruction that began with T1 set is traced, and on the 68020, 68030 and 68040 one that began with T0 set and changed the flow. M68000UM 6.3.8, MC68020UM 6.1.7,
-- MC68030UM 8.1.7, M68040UM 8.2.6, MC68060UM 8.2.6 (recalled)
abbrev has_t0 : Family → Bool
has_t0 f = eqb (number f) 2 || (eqb (number f) 3 || eqb (number f) 4)

unfoldable pub traced : Family → ℕ → Bool → Bool
traced f st flow = is_set 15 st || (has_t0 f && (is_set 14 st && flow))

even : (n : ℕ) → n * 2 % 2 ≡ 0
even n = omega arith

no_t0 : (w k : ℕ) → w / 0x8000 % 2 * 0x8000 + 0 + w / 0x2000 % 2 * 0x2000 + k % 2 * 0x1000 + w / 0x100 % 8 * 0x100 + w % 0x20 ≡ w → w / 2 ^ 14 % 2 ≡ 0
no_t0 w k e =
    let t : (w / 0x8000 % 2 * 0x8000 + 0 + w / 0x2000 % 2 * 0x2000 + k % 2 * 0x1000 + w / 0x100 % 8 * 0x100 + w % 0x20) / 2 ^ 14 ≡ w / 0x8000 % 2 * 2 = omega arith in
    let u : w / 2 ^ 14 ≡ w / 0x8000 % 2 * 2 = ap (λ (n : ℕ). n / 2 ^ 14) (sym e) ∙ t in
    ap (λ (n : ℕ). n % 2) u ∙ even (w / 0x8000 % 2)

by_bits : (a b d flow : Bool) → (d ≡ false → b ≡ false) → pick a true (pick b flow false) ≡ (a || (d && (b && flow)))
by_bits true b d flow h = refl
by_bits false true true flow h = refl
by_bits false true false flow h = impossible (h refl)
by_bits false false true flow h = refl
by_bits false false false flow h = refl

clear_t0 : (f : Family) (w : ℕ) → implemented f w ≡ w → has_t0 f ≡ false → is_set 14 w ≡ false
unfolding implemented
clear_t0 mc68000 w e h = ap (λ (n : ℕ). eqb n 1) (no_t0 w 0 e)
clear_t0 mc68010 w e h = ap (λ (n : ℕ). eqb n 1) (no_t0 w 0 e)
clear_t0 mc68020 w e h = impossible h
clear_t0 mc68030 w e h = impossible h
clear_t0 mc68040 w e h = impossible h
clear_t0 mc68060 w e h = ap (λ (n : ℕ). eqb n 1) (no_t0 w (w / 0x1000) e)

-- `check_trace` answers so, for a status before the instruction that has no bit which the part has not
pub trace_is : (w : World) (F : Family) → implemented F (cpu_of w).flags.sr_save ≡ (cpu_of w).flags.sr_save → refusal w CheckTrace ≡ 0
    → value_of (perform w CheckTrace).answer ≡ bit (traced F (cpu_of w).flags.sr_save (cpu_of w).flow.change_of_flow)
unfolding perform run of_trace flag check_trace asks_trace value_of begun restarted traced
trace_is w F e r =
    rw r (ap bit (by_bits (is_set 15 (cpu_of w).flags.sr_save) (is_set 14 (cpu_of w).flags.sr_save) (has_t0 F) (cpu_of w).flow.change_of_flow (clear_t0 F (cpu_of w).flags.sr_save e)))

-- ---- the double fault

-- a bus error while a bus error, an address error or a reset is processed halts the processor, and nothing is stacked. M68000UM 6.3.9.1, MC68020UM 6.1.2 (recalled). The record does
-- not say which exception is being processed: a trigger halts inside every one of them, also where the manual would take the bus error (docs/DIFFERENCES.md)
pub double_fault : (w : World) (a : ℕ) (write i : Bool) (z : ℕ) → refusal w (TriggerBusError a write i z) ≡ 0 → is_faulted (cpu_of w) ≡ false → in_exception (cpu_of w) ≡ true
    → ((perform w (TriggerBusError a write i z)).after.store ≡ w.store) × (cpu_of (perform w (TriggerBusError a write i z)).after ≡ halted (cpu_of w))
unfolding perform run plain begun restarted trigger raise_bus put_cpu in_exception is_faulted
double_fault w a write i z r f e = (rw (r, f, e), rw (r, f, e))
