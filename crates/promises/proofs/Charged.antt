-- Theorems about what specs/Charged defines, and what rests on them.
use Rattle.std.specs.Prelude.{◌≡◌, Bool, eqb, ◌-ℤ◌}
use Rattle.std.proofs.Math.Path.{refl, subst}
use Rattle.std.proofs.Common.{sym, ◌∙◌}
use Rattle.std.proofs.Math.Bool.{true, false, not}
use Rattle.std.proofs.Math.IntN.{pos}
use Rattle.types.specs.Kinds.{pick}
use Rattle.cpu.specs.Fields.{kind_of}
use Rattle.pending.specs.Interrupts.{pending_level, takes_interrupt, clear_level, has_cycles}
use Rattle.memory.specs.World.{World, put_cpu, cpu_of}
use Rattle.access.specs.Access.{raised}
use Rattle.interrupts.specs.Interrupts.{serviced, check_and_service}
use Rattle.bounds.specs.Levels.{clash}
use Rattle.refusals.specs.Refusals.{bad_cycles, tests_of}
use Rattle.refusals.specs.Laws.{outcomes}
use Rattle.answers.specs.declared.Call.TheVariants.{CheckAndServiceInterrupts}
use Rattle.answers.specs.Matters.{matter_of}
use Rattle.answers.specs.Answers.{value_of, flag, of_service}
use Rattle.calls.specs.Calls.{restarted, begun, refusal, perform}
use Rattle.promises.specs.Refusals.{refusal_none}
use Rattle.promises.proofs.Interrupts.{answer_decides}
use Rattle.promises.proofs.Calls.{performed, decided}
use Rattle.promises.specs.Over.{check_and_service_by, check_and_service_by_raised}
use Rattle.promises.specs.Charged.{left, service_charged}

module _ (w : World) (h : refusal w CheckAndServiceInterrupts ≡ 0) where
  -- number 3 does not apply: the cycles can be taken off
  accepted_cycles : has_cycles (cpu_of w) ≡ true
  unfolding outcomes tests_of bad_cycles matter_of
  accepted_cycles = go (has_cycles (cpu_of w)) ((refusal_none w CheckAndServiceInterrupts).0 h 3)
    where
      go : (b : Bool) → not b ≡ false → b ≡ true
      go true e = refl
      go false e = clash {b = true} refl e

  hence : (x : World) → left x ≡ left w → has_cycles (cpu_of x) ≡ true
  unfolding has_cycles
  hence x e = rw e accepted_cycles

  taken_charged : (check_and_service (begun w)).ok ≡ true → left (check_and_service (begun w)).after ≡ left w -ℤ pos (pick (eqb (kind_of (cpu_of w)) 2) 46 44)
  unfolding begun restarted check_and_service_by serviced clear_level put_cpu
  taken_charged e =
      subst (λ x. left x.after ≡ left w -ℤ pos (pick (eqb (kind_of (cpu_of w)) 2) 46 44)) (check_and_service_by_raised (begun w)) (go (sym (answer_decides (begun w)) ∙ e))
    where
      go : takes_interrupt (cpu_of (begun w)) ≡ true → left (check_and_service_by raised (begun w)).after ≡ left w -ℤ pos (pick (eqb (kind_of (cpu_of w)) 2) 46 44)
      go e = rw e (service_charged (kind_of (cpu_of w)) (left w) hence (begun w) (pending_level (cpu_of w)) (refl, refl))

  -- where the interrupt is taken 46 cycles are taken off on kind 2, else 44
  pub service_charges : value_of (perform w CheckAndServiceInterrupts).answer ≡ 1 → left (perform w CheckAndServiceInterrupts).after ≡ left w -ℤ pos (pick (eqb (kind_of (cpu_of w)) 2) 46 44)
  unfolding of_service flag
  service_charges e = subst (λ x. left x.after ≡ left w -ℤ pos (pick (eqb (kind_of (cpu_of w)) 2) 46 44)) (sym (performed w h)) (taken_charged (decided w h true e))
