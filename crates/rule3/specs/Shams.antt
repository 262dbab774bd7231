-- SHAM ENGINES that rule 3 catches: the project's machine with one call put in place of its own. Of each it is proved that rule 3 does not
-- hold; the list that shows it meets every premise.
use Rattle.std.specs.Prelude.{ℕ, zero, suc, ◌+◌, ◌-◌, ◌≡◌, refl, true, false, cond, not, ◌&&◌, List, [], ◌∷◌, eqb, ltb, get_or, set}
use Rattle.std.proofs.Common.{sym, ◌∙◌, arith, ltb-true}
use Rattle.cpu.specs.declared.Cpu.{Cpu}
use Rattle.cpu.specs.Setters.{with_mflag}
use Rattle.cpu.specs.Fields.{kind_of, a7_of, set_a7}
use Rattle.answers.specs.declared.Call.TheVariants.{Trap, CheckAndServiceInterrupts}
use Rattle.nest.specs.Nest.{Step, entry, end, depth, Entered, refused, untaken, taken, Returned, denied, returned, Rule3}
use Rattle.entered.specs.Machines.{Room}
use Rattle.rule3.specs.Checked.{Engine, machine_of, real, premises_test, premises_tested}
use Rattle.rule3.specs.Tells.{told_test, told_tested}
use Rattle.rule3.specs.Nests.{room, start}
use Rattle.rule3.specs.Computed.{nested}

-- a list that meets the premises and of which the engine tells something else
module _ (engine : Engine) (xs : List (Step (machine_of engine))) (r : Cpu) (s : Room) where
  caught : premises_test engine xs r s ≡ true → ltb 0 (depth (machine_of engine) (end (machine_of engine) xs r s)) ≡ true
      → told_test engine (end (machine_of engine) xs r s) ≡ false → Rule3 (machine_of engine) → ⊥
  caught e d f rule =
      let t : told_test engine (end (machine_of engine) xs r s) ≡ true =
      told_tested engine (end (machine_of engine) xs r s) (rule.tells xs r s (premises_tested engine xs r s e) (ltb-true 0 (depth (machine_of engine) (end (machine_of engine) xs r s)) d)) in
      let z : true ≡ false = sym t ∙ f in
      let y : ◌≡◌ {A = ℕ} 0 1 = cc in absurd (omega arith)

-- ---- "One that makes the first frame well and then repeats its row"

-- n bytes of a list from one place to another
abbrev copied : ℕ → List ℕ → ℕ → ℕ → List ℕ
copied zero l from to = l
copied (suc n) l from to = set (copied n l from to) (to + n) (get_or l (from + n) 0)

-- where a format word stands above (a frame is there), the new frame gets the eight bytes of that one
abbrev again : ℕ → Entered Cpu Room → Entered Cpu Room
again a (refused n) = refused n
again a (untaken r s) = untaken r s
again a (taken r s) =
    taken r
    (cond (eqb (get_or s.bytes (a + 7) 0) 0) s (record { bus = s.bus; bytes = copied 8 s.bytes a (a7_of r); log = s.log }))

abbrev repeats : Engine
repeats = record { enter = λ c r s. again (a7_of r) (real.enter c r s); give_back = real.give_back; walk = real.walk }

abbrev traps : (e : Engine) → List (Step (machine_of e))
traps e = entry (record { call = Trap 0; is = refl }) ∷ entry (record { call = Trap 1; is = refl }) ∷ []

pub repeats_caught : Rule3 (machine_of repeats) → ⊥
unfolding nested
repeats_caught = caught repeats (traps repeats) (start 4 0x2000 0x180 0x100 0 0x140 0) room refl refl refl

-- ---- one that takes no entry

abbrev held : Entered Cpu Room → Cpu → Room → Entered Cpu Room
held (refused n) r s = refused n
held (untaken x y) r s = untaken x y
held (taken x y) r s = untaken r s

abbrev idle : Engine
idle = record { enter = λ c r s. held (real.enter c r s) r s; give_back = real.give_back; walk = real.walk }

pub idle_caught : Rule3 (machine_of idle) → ⊥
unfolding nested
idle_caught = caught idle (entry (record { call = Trap 0; is = refl }) ∷ []) (start 4 0x2000 0x180 0x100 0 0x140 0) room refl refl refl

-- ---- a return that forgets M where S is clear

abbrev forgot : Returned Cpu → Returned Cpu
forgot (denied n) = denied n
forgot (returned r) = returned (cond (eqb r.flags.s_flag 0) (with_mflag r 0) r)

abbrev forgets : Engine
forgets = record { enter = real.enter; give_back = λ r s. forgot (real.give_back r s); walk = real.walk }

pub forgets_caught : Rule3 (machine_of forgets) → ⊥
unfolding nested
forgets_caught = caught forgets (traps forgets) (start 4 0x1000 0x100 0x100 0 0x180 0) room refl refl refl

-- ---- a return that leaves A7 where it is

abbrev stuck : ℕ → Returned Cpu → Returned Cpu
stuck a (denied n) = denied n
stuck a (returned r) = returned (set_a7 r a)

abbrev stays : Engine
stays = record { enter = real.enter; give_back = λ r s. stuck (a7_of r) (real.give_back r s); walk = real.walk }

pub stays_caught : Rule3 (machine_of stays) → ⊥
unfolding nested
stays_caught = caught stays (traps stays) (start 4 0x2000 0x180 0x100 0 0x140 0) room refl refl refl

-- ---- one that clears M on the 68060 by switching stacks

abbrev switched : Cpu → Entered Cpu Room → Entered Cpu Room
switched c (refused n) = refused n
switched c (untaken r s) = untaken r s
switched c (taken r s) = taken (cond (eqb (kind_of c) 11 && not (eqb c.flags.m_flag 0)) (set_a7 r (get_or r.regs.sp 6 0)) r) s

abbrev switches : Engine
switches = record { enter = λ c r s. switched r (real.enter c r s); give_back = real.give_back; walk = real.walk }

pub switches_caught : Rule3 (machine_of switches) → ⊥
unfolding nested
switches_caught = caught switches (entry (record { call = CheckAndServiceInterrupts; is = refl }) ∷ []) (start 11 0x3000 0x180 0x100 0 0x1C0 7) room refl refl refl

-- ---- a walk that stops one row early

abbrev early : Engine
early = record { enter = real.enter; give_back = real.give_back; walk = λ n w r s. real.walk (n - 1) w r s }

pub early_caught : Rule3 (machine_of early) → ⊥
unfolding nested
early_caught = caught early (traps early) (start 4 0x2000 0x180 0x100 0 0x140 0) room refl refl refl
