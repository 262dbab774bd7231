-- THE TRIGGERS. One that no number refuses, on a record that runs, outside an entry where it is a bus error, puts back status and registers as they were
-- before the instruction; then it leaves what the manuals define for the error in that state, but for the rows of the table of differences.
use Rattle.std.specs.Prelude.{ℕ, zero, suc, ◌*◌, ◌/◌, ◌%◌, ◌<◌, ◌≡◌, Bool, true, false, ◌⊎◌, eqb}
use Rattle.std.proofs.Math.Path.{refl, subst}
use Rattle.std.proofs.Common.{inl, inr, arith}
use Rattle.types.specs.Kinds.{pick, both, is_pre68020, mask_status}
use Rattle.cpu.specs.declared.Cpu.{Cpu}
use Rattle.cpu.specs.Fields.{kind_of, pc_of, a7_of, vbr_of, checks_alignment, set_exception, restore_registers}
use Rattle.status.specs.Status.{get_sr, s_of, m_under_s, decompose, set_sr_noint_nosp, restore_sr, keep_resume}
use Rattle.status.specs.Laws.{drop_m}
use Rattle.status.proofs.Laws.{status_restored}
use Rattle.memory.specs.World.{World, put_cpu, cpu_of, step}
use Rattle.frames.specs.Frames.{bus_frame}
use Rattle.refusals.specs.Refusals.{odd_base}
use Rattle.steps.specs.Steps.{begin_address, enter_bus_error}
use Rattle.forms.specs.Gist.{gist, gist_cpu}
use Rattle.forms.specs.Plans.{Plan, single}
use Rattle.nest.specs.View.{view}
use Rattle.entered.specs.Pointers.{regs_of, stacks_of, Fit}
use Rattle.entered.specs.One.{EntersAt, Enters}
use Rattle.entered.specs.Turns.{enters_bus}
use Rattle.manual.specs.State.{State}
use Rattle.manual.specs.Differences.{differences}
use Rattle.manual.specs.Calls.{Event}
use Rattle.manual.specs.Statement.{Agrees}
use Rattle.manual.specs.PartLaws.{impossible}
use Rattle.manual.specs.Entries.{Turn, turn_bus}
use Rattle.manual.specs.Holds.{InDomain}

-- status and registers as saved before the instruction; where S is clear M is cleared, as the Rust does, which no manual has (docs/DIFFERENCES.md)
abbrev pub restored : World → World
restored w = step begin_address w

-- a bus error entry inside exception processing, which ends behind it
abbrev pub trigger_plan : Cpu → ℕ → Bool → Bool → ℕ → ℕ → Plan
trigger_plan c a write i z cause = single (λ d. enter_bus_error (set_exception d true)) (bus_frame c a write i z cause) 2 (λ d. set_exception d false)

-- ---- the record

below_two : (n : ℕ) → n < 2 → eqb n 1 ≡ false → n ≡ 0
below_two zero l e = refl
below_two (suc zero) l e = impossible e
below_two (suc (suc n)) l e = absurd (omega arith)

pub even_base : (c : Cpu) → odd_base c ≡ false → is_pre68020 (kind_of c) ≡ true → vbr_of c % 2 ≡ 0
unfolding odd_base checks_alignment kind_of
even_base c o p = below_two (vbr_of c % 2) (omega arith) (subst (λ (b : Bool). both b (eqb (vbr_of c % 2) 1) ≡ false) p o)

one_of : (n : ℕ) → n < 2 → ((n * 4 ≡ 0) ⊎ (n * 4 ≡ 4)) × ((n * 2 ≡ 0) ⊎ (n * 2 ≡ 2))
one_of zero l = (inl refl, inl refl)
one_of (suc zero) l = (inr refl, inr refl)
one_of (suc (suc n)) l = absurd (omega arith)

s_fits : (w : ℕ) → (s_of w ≡ 0) ⊎ (s_of w ≡ 4)
s_fits w = (one_of (w / 0x2000 % 2) (omega arith)).0

m_fits : (w : ℕ) → (m_under_s w ≡ 0) ⊎ (m_under_s w ≡ 2)
unfolding m_under_s
m_fits w = go (eqb (s_of w) 0)
  where
    go : (b : Bool) → (pick b 0 (w / 0x1000 % 2 * 2) ≡ 0) ⊎ (pick b 0 (w / 0x1000 % 2 * 2) ≡ 2)
    go true = inl refl
    go false = (one_of (w / 0x1000 % 2) (omega arith)).1

pub restored_fits : (w : World) → InDomain (cpu_of (restored w)) → Fit (cpu_of (gist (restored w)))
unfolding gist gist_cpu begin_address restore_registers restore_sr set_sr_noint_nosp decompose put_cpu
restored_fits w d = record { registers = d.registers; pointers = d.pointers; s_is_lem = s_fits (mask_status (kind_of (cpu_of w)) (cpu_of w).flags.sr_save); m_is_lem = m_fits (mask_status (kind_of (cpu_of w)) (cpu_of w).flags.sr_save) }

pub restored_kind : (w : World) → kind_of (cpu_of (restored w)) ≡ kind_of (cpu_of w)
unfolding begin_address restore_registers restore_sr set_sr_noint_nosp decompose kind_of put_cpu
restored_kind w = refl

-- what is put back: the status before the instruction, under the kind's mask and without M where S is clear; the registers before it
pub status_back : (w : World) → get_sr (cpu_of (restored w)) ≡ drop_m (mask_status (kind_of (cpu_of w)) (cpu_of w).flags.sr_save)
unfolding begin_address restore_registers restore_sr get_sr put_cpu
status_back w = status_restored (cpu_of w) (cpu_of w).flags.sr_save

pub registers_back : (w : World) → (cpu_of (restored w)).regs.dar ≡ (cpu_of w).regs.dar_save
unfolding begin_address restore_registers restore_sr set_sr_noint_nosp put_cpu
registers_back w = refl

-- what the end of the instruction needs is kept: nothing else changes
pub resumed : (s : State) (e : Event) (w z : World) → Agrees differences s e w z → Agrees differences s e w (step keep_resume z)
unfolding keep_resume a7_of regs_of view get_sr pc_of kind_of put_cpu
resumed s e w z h = record { frame = h.frame; under = h.under; usp = h.usp; selected = h.selected; pointer = h.pointer; stacks = h.stacks; status = h.status; pc = h.pc; pins = h.pins }

-- a bus error entry inside exception processing
enters_inside : Enters (λ d. enter_bus_error (set_exception d true))
unfolding set_exception stacks_of kind_of a7_of put_cpu
enters_inside c g =
    let e : EntersAt (set_exception c true) (enter_bus_error (set_exception c true)) = enters_bus (set_exception c true) (record { registers = g.registers; pointers = g.pointers; s_is_lem = g.s_is_lem; m_is_lem = g.m_is_lem }) in
    record { stacks = e.stacks; fit = e.fit; kind = e.kind }

pub turn_inside : Turn (λ d. enter_bus_error (set_exception d true))
unfolding set_exception vbr_of kind_of get_sr put_cpu
turn_inside =
    record {
      enters = enters_inside;
      still = record { vbr = λ c. turn_bus.still.vbr (set_exception c true); kind = λ c. turn_bus.still.kind (set_exception c true) };
      status = λ c. turn_bus.status (set_exception c true);
    }
