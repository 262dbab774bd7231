-- Laws of the interrupt decision and of what an interrupt costs.
use Rattle.std.specs.Prelude.{◌≡◌, refl, Bool, true, false, ℕ, ◌%◌, ◌<◌, eqb, ltb, ℤ, pos, ◌-ℤ◌}
use Rattle.std.proofs.Common.{sym, ◌∙◌, arith, eq-eqb, ne_eqb, lt-ltb, le-ltb, ltb-true}
use Rattle.types.specs.Kinds.{pick}
use Rattle.types.proofs.Laws.{pick_holds}
use Rattle.cpu.specs.declared.Cpu.{Cpu}
use Rattle.cpu.specs.Fields.{kind_of}
use Rattle.pending.specs.Interrupts.{set_irq, pending_level, mask_level, takes_interrupt, has_room, has_cycles, less_cycles, charged, charge_interrupt}

-- ---- interrupts

-- level 7 is taken whatever the mask
pub seven_taken : (c : Cpu) → pending_level c ≡ 7 → takes_interrupt c ≡ true
unfolding takes_interrupt
seven_taken c h = simp (eq-eqb _ _ h)

-- any other level is taken exactly if it exceeds the mask
pub taken_above : (c : Cpu) → (pending_level c ≡ 7 → ⊥) → takes_interrupt c ≡ ltb (mask_level c) (pending_level c)
unfolding takes_interrupt
taken_above c h = simp (ne_eqb _ _ h)

-- so a level other than 7 that is taken exceeds the mask
pub taken_exceeds : (c : Cpu) → takes_interrupt c ≡ true → (pending_level c ≡ 7 → ⊥) → mask_level c < pending_level c
taken_exceeds c t h = ltb-true _ _ (sym (taken_above c h) ∙ t)

-- and a level that exceeds the mask is taken
pub exceeding_taken : (c : Cpu) → mask_level c < pending_level c → takes_interrupt c ≡ true
unfolding takes_interrupt
exceeding_taken c h = rw (lt-ltb _ _ h) (pick_holds (λ (t : Bool). t ≡ true) (eqb (pending_level c) 7) true true refl refl)

-- level 0 is never taken
pub none_taken : (c : Cpu) → pending_level c ≡ 0 → takes_interrupt c ≡ false
none_taken c h = taken_above c (λ e. omega arith) ∙ le-ltb (mask_level c) (pending_level c) (omega arith)

-- a level of 8 reads as none
pub eight_ignored : (c : Cpu) → c.flags.int_level ≡ 8 → takes_interrupt c ≡ false
unfolding pending_level
eight_ignored c h = none_taken c (omega arith)

-- `set_irq` leaves the low 3 bits of its level pending
pub irq_pending : (c : Cpu) (n : ℕ) → pending_level (set_irq c n) ≡ n % 8
unfolding pending_level set_irq
irq_pending c n = omega arith

-- ---- cycles

charged_by_lem : (n : ℤ) (more : Bool) → has_room n ≡ true → less_cycles n more ≡ n -ℤ pos (pick more 46 44)
unfolding less_cycles
charged_by_lem n true h = rw h
charged_by_lem n false h = rw h

-- where number 3's test passes, an interrupt takes 46 cycles off on kind 2, else 44
pub cycles_charged : (c : Cpu) → has_cycles c ≡ true → (charge_interrupt c).flow.cycles_remaining ≡ c.flow.cycles_remaining -ℤ pos (pick (eqb (kind_of c) 2) 46 44)
unfolding has_cycles charge_interrupt charged kind_of
cycles_charged c h = charged_by_lem c.flow.cycles_remaining (eqb (kind_of c) 2) h
