-- THE THEOREM. A direct entry that no number refuses, that is taken, starts sound and whose accesses are served leaves what Motorola's manuals define,
-- on every part that they cover and for every call that they have an exception for, but for the rows of the table of differences and nothing else.
use Rattle.std.specs.Prelude.{ℕ, ◌<◌, ◌≡◌, length, get_or}
use Rattle.std.proofs.Math.Path.{refl}
use Rattle.std.proofs.Common.{sym, ◌∙◌, subst, arith}
use Rattle.std.proofs.Math.Option.{Option, none, some}
use Rattle.cpu.specs.declared.Cpu.{Cpu}
use Rattle.cpu.specs.Fields.{kind_of, pc_of, ppc_of, a7_of}
use Rattle.status.specs.Status.{get_sr}
use Rattle.memory.specs.World.{World, cpu_of}
use Rattle.forms.specs.Gist.{gist, gist_cpu, a7_gist}
use Rattle.forms.specs.Plans.{Plan, planned, Clean}
use Rattle.nest.specs.View.{view}
use Rattle.entered.specs.Pointers.{regs_of}
use Rattle.entered.specs.Bytes.{mem_gist}
use Rattle.manual.specs.State.{State}
use Rattle.manual.specs.Differences.{differences}
use Rattle.manual.specs.Calls.{Event}
use Rattle.manual.specs.Statement.{Agrees}

-- the record's arrays have their lengths, and its registers are of 32 bits: every record of the types
pub record InDomain (c : Cpu) : Type 0 where
  pub registers : length c.regs.dar ≡ 16
  pub pointers : length c.regs.sp ≡ 8
  pub a7 : a7_of c < 0x100000000
  pub saved : (i : ℕ) → get_or c.regs.sp i 0 < 0x100000000
  pub pc : pc_of c < 0x100000000
  pub ppc : ppc_of c < 0x100000000

pub same_event : (d e : Event) → ◌≡◌ {A = Option Event} (some d) (some e) → d ≡ e
same_event d e h = cc

pub no_event : {A : Type 0} (e : Event) → ◌≡◌ {A = Option Event} none (some e) → A
no_event e h = let z : ◌≡◌ {A = ℕ} 0 1 = cc in absurd (omega arith)

-- a plan and an exception by other names
pub given : (w : World) (s : State) (p q : Plan) (e d : Event) → q ≡ p → d ≡ e → (Clean (gist w) q → Agrees differences s d w (planned (gist w) q)) → Clean (gist w) p → Agrees differences s e w (planned (gist w) p)
given w s p q e d a b h =
    subst (λ (r : Plan). Clean (gist w) r → Agrees differences s e w (planned (gist w) r)) a (subst (λ (x : Event). Clean (gist w) q → Agrees differences s x w (planned (gist w) q)) b h)

sr_gist : (z : World) → get_sr (cpu_of (gist z)) ≡ get_sr (cpu_of z)
unfolding gist gist_cpu get_sr
sr_gist z = refl

views_gist : (z : World) → view (regs_of (cpu_of (gist z))) ≡ view (regs_of (cpu_of z))
unfolding regs_of view gist gist_cpu kind_of a7_of
views_gist z = refl

pc_gist : (z : World) → pc_of (cpu_of (gist z)) ≡ pc_of (cpu_of z)
unfolding gist gist_cpu pc_of
pc_gist z = refl

-- what is said of the gist is said of the world
pub agrees_gist : (s : State) (e : Event) (w z : World) → Agrees differences s e w (gist z) → Agrees differences s e w z
agrees_gist s e w z h =
    record {
      frame = rw (mem_gist z, top) at h.frame;
      under = λ d a. rw (mem_gist z) at (h.under d a);
      usp = rw (views_gist z) at h.usp;
      selected = λ x. rw (views_gist z, top) at (h.selected x);
      pointer = λ x. sym top ∙ h.pointer x;
      stacks = λ x. rw (views_gist z) at (h.stacks x);
      status = λ x. sym state ∙ h.status x;
      pc = λ x. rw (mem_gist z, counter) at (h.pc x);
      pins = h.pins;
    }
  where
    top : a7_of (cpu_of (gist z)) ≡ a7_of (cpu_of z)
    top = sym (a7_gist z)

    state : get_sr (cpu_of (gist z)) ≡ get_sr (cpu_of z)
    state = sr_gist z

    counter : pc_of (cpu_of (gist z)) ≡ pc_of (cpu_of z)
    counter = pc_gist z
