-- A nest of two ticks on the 68010, computed: an interrupt of level 2, and inside its handler one of level 4. The premises of rule 3 hold of
-- it, and the rows and values that rule 3 gives are these. The store has 512 bytes from 0, with the handlers' addresses 0x120 at vector 26
-- (0x68) and 0x140 at vector 28 (0x70).
use Rattle.std.specs.Prelude.{ℕ, ◌*◌, ◌≤◌, ◌≡◌, refl, true, List, [], ◌∷◌, set, replicate}
use Rattle.std.proofs.Common.{sym, ap, ◌∙◌, arith}
use Rattle.std.proofs.Math.Option.{Option, none, some}
use Rattle.cpu.specs.declared.Cpu.{Cpu}
use Rattle.cpu.specs.Fields.{set_a7, set_pc}
use Rattle.cpu.specs.Fresh.{fresh_cpu}
use Rattle.status.specs.Status.{set_sr_noint_nosp}
use Rattle.pending.specs.Interrupts.{set_irq}
use Rattle.memory.specs.declared.Bus.{Bus}
use Rattle.answers.specs.declared.Call.TheVariants.{CheckAndServiceInterrupts}
use Rattle.instances.specs.Start.{laid}
use Rattle.nest.specs.View.{Row}
use Rattle.nest.specs.Nest.{Step, entry, handlers, State, end, rows, Values, restored, restored_by, depth, Told}
use Rattle.entered.specs.Machines.{Direct, Room}
use Rattle.rule3.specs.Rule3.{Real, walk}
use Rattle.rule3.specs.Checked.{real, premises_test}
use Rattle.rule3.specs.Computed.{nested}

-- ---- the list

-- the interrupt call
abbrev tick : Direct
tick = record { call = CheckAndServiceInterrupts; is = refl }

abbrev bus : Bus
bus = record { base = 0; windows = 0; starts = replicate 8 0; lengths = replicate 8 0; responses = replicate 8 0xFFFFFFFF; events = 0 }

-- 0x00000120 at 0x68, 0x00000140 at 0x70
abbrev image : List ℕ
image = set (set (set (set (replicate 512 0) 0x6A 0x01) 0x6B 0x20) 0x72 0x01) 0x73 0x40

-- kind 2 at a PC, with a pointer, a status and a level pending
abbrev machine_at : ℕ → ℕ → ℕ → ℕ → Cpu
machine_at pc a7 status level = set_irq (set_sr_noint_nosp (set_a7 (set_pc (fresh_cpu 2) pc) a7) status) level

abbrev pub r₀ : Cpu
r₀ = machine_at 0x100 0x180 0x2000 2

abbrev pub s₀ : Room
s₀ = record { bus = bus; bytes = image; log = replicate 192 0 }

-- what the first tick's handler leaves: it has come to 0x124, has written a byte at 0x10, and level 4 has come in. The frame stands at 0x178
abbrev r₂ : Cpu
r₂ = machine_at 0x124 0x178 0x2200 4

abbrev s₂ : Room
s₂ = record { bus = bus; bytes = laid (set image 0x10 0x55) 0x178 (0x20 ∷ 0x00 ∷ 0x00 ∷ 0x00 ∷ 0x01 ∷ 0x00 ∷ 0x00 ∷ 0x68 ∷ []); log = replicate 192 0 }

abbrev pub steps : List (Step Real)
steps = entry tick ∷ handlers r₂ s₂ ∷ entry tick ∷ []

abbrev pub final : State Real
final = end Real steps r₀ s₀

-- ---- the book, computed

pub final_rows : rows final.book ≡ record { format = 0; status = 0x2200; address = 0x124; offset = 0x70 } ∷ record { format = 0; status = 0x2000; address = 0x100; offset = 0x68 } ∷ []
unfolding nested
final_rows = refl

-- ---- the premises

pub test : premises_test real steps r₀ s₀ ≡ true
unfolding nested
test = refl

-- ---- rule 3 speaks of it

pub depth_is : depth Real final ≡ 2
unfolding nested
depth_is = refl

-- what rule 3 says, by the depth, the rows and the values computed
module _ (st : State Real) (n : ℕ) (d : depth Real st ≡ n) (t : Told Real st) where
  pub walked_by : (w : ℕ) → 4 * n ≤ w → (rs : List Row) → rows st.book ≡ rs → walk n w st.rec st.sto ≡ record { rows = rs; number = none }
  walked_by w l rs e = ap (λ (m : ℕ). walk m w st.rec st.sto) (sym d) ∙ t.walked w (omega (arith, l, d)) ∙ ap (λ (q : List Row). record { rows = q; number = none }) e

  pub returned_by_lem : (vs : List Values) → restored_by st.book ≡ vs → restored Real n st.rec st.sto ≡ some vs
  returned_by_lem vs e = ap (λ (m : ℕ). restored Real m st.rec st.sto) (sym d) ∙ t.returns ∙ ap {B = Option (List Values)} some e

pub final_values : restored_by final.book ≡ record { status = 0x2200; pc = 0x124; a7 = 0x178 } ∷ record { status = 0x2000; pc = 0x100; a7 = 0x180 } ∷ []
unfolding nested
final_values = refl
