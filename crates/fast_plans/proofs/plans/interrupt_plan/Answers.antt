use Rattle.std.proofs.Common.{arith}
use Rattle.fast_plans.specs.Laws.{iack_small}
use Rattle.fast_plans.proofs.plans.interrupt_plan.Goals as goal

pub overflow_mul-format : goal.overflow_mul-format
overflow_mul-format c = record { fits = omega (arith, iack_small _ _ c.iack_vector-v.ensures) }
