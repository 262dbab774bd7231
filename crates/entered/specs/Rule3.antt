-- Rule 3 for the project's machine, from what is left: that a return and a walk meet their three laws.
use Rattle.std.specs.Prelude.{ℕ, ◌≡◌, refl, Bool, true, false, eqb}
use Rattle.std.proofs.Common.{arith, eqb-true}
use Rattle.std.proofs.Math.Option.{Option, none, some}
use Rattle.types.specs.Kinds.{pick}
use Rattle.cpu.specs.declared.Cpu.{Cpu}
use Rattle.memory.specs.World.{World, cpu_of}
use Rattle.answers.specs.declared.Call.{Call}
use Rattle.calls.specs.Calls.{begun, refusal, perform}
use Rattle.forms.specs.Plans.{Plan}
use Rattle.forms.specs.Forms.{plan_of}
use Rattle.nest.specs.Nest.{refused, untaken}
use Rattle.entered.specs.Machines.{Room, room_of, outcome, by_plan}

-- an entry accepted and not taken has no plan
pub record Held (w : World) (c : Call) (r : Cpu) (s : Room) : Type 0 where
  pub accepted : refusal w c ≡ 0
  pub has : plan_of (begun w) c ≡ none
  pub cpu_is : cpu_of (perform w c).after ≡ r
  pub room_is : room_of (perform w c).after ≡ s

pub held : (w : World) (c : Call) (r : Cpu) (s : Room) → by_plan w c ≡ untaken r s → Held w c r s
unfolding by_plan
held w c r s = go (eqb (refusal w c) 0) refl (plan_of (begun w) c) refl
  where
    go : (b : Bool) → eqb (refusal w c) 0 ≡ b → (o : Option Plan) → plan_of (begun w) c ≡ o → pick b (outcome o (perform w c).after) (refused (refusal w c)) ≡ untaken r s → Held w c r s
    go true e none d h = record { accepted = eqb-true (refusal w c) 0 e; has = d; cpu_is = cc; room_is = cc }
    go true e (some p) d h = let z : ◌≡◌ {A = ℕ} 0 1 = cc in absurd (omega arith)
    go false e o d h = let z : ◌≡◌ {A = ℕ} 0 1 = cc in absurd (omega arith)
