-- The shapes of the plans of `take_exception` and of the interrupt call.
use Rattle.std.proofs.Common.{◌≡◌, ℕ, ◌<◌, Bool, true, false, ltb, eqb, arith}
use Rattle.std.specs.Prelude.{Some}
use Rattle.std.proofs.lemmas.Option.{same_Some}
use Rattle.types.specs.Kinds.{pick}
use Rattle.fast_plans.specs.declared.View.{View}
use Rattle.fast_plans.specs.declared.plans.Plan.{Plan}
use Rattle.fast_plans.specs.declared.plans.Maker.TheVariants.{Exception}
use Rattle.fast_plans.specs.declared.plans.Shape.TheVariants.{Three, Short, Old, Four, Late}
use Rattle.fast_plans.specs.Plans.{row, entry_plan, entry_of, is_long, halts, interrupt_plan, shape_number}
use Rattle.fast.specs.Laws.{found_step}

plan_small : (x : View) (v : ℕ) → shape_number (entry_plan x (row Exception v false)).shape < 3
unfolding entry_plan is_long
plan_small x v = go (eqb x.kind 1)
  where
    go : (u : Bool) → shape_number (pick u Three Short) < 3
    go true = omega arith
    go false = omega arith

pub exception_small : (x : View) (v : ℕ) (p : Plan) → entry_of x (row Exception v false) ≡ Some p → shape_number p.shape < 3
unfolding entry_of halts
exception_small x v p e =
    let t1 = found_step (ltb 255 v) _ p e in
    let t2 = found_step x.exception _ p t1.1 in
    let z : entry_plan x (row Exception v false) ≡ p = same_Some _ _ t2.1 in
    rw (← z) (plan_small x v)

pub interrupt_large : (x : View) (p : Plan) → p ≡ interrupt_plan x → 3 < shape_number p.shape
unfolding interrupt_plan
interrupt_large x p e = rw e (go (eqb x.kind 1) (eqb x.kind 2))
  where
    go : (s t : Bool) → 3 < shape_number (pick s Old (pick t Four Late))
    go true t = omega arith
    go false true = omega arith
    go false false = omega arith
