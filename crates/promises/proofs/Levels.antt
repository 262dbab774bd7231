-- Theorems about what specs/Levels defines, and what rests on them.
use Rattle.std.specs.Prelude.{ℕ, suc, ◌≡◌, Bool}
use Rattle.std.proofs.Math.Path.{refl}
use Rattle.std.proofs.Common.{◌∙◌, eqb-true}
use Rattle.std.proofs.Math.Bool.{true, false}
use Rattle.std.proofs.Math.Dec.{eqb}
use Rattle.types.specs.Kinds.{pick, is_prefetch_kind}
use Rattle.cpu.specs.Fields.{kind_of}
use Rattle.memory.specs.World.{World, cpu_of}
use Rattle.access.specs.Access.{Raise, Fault, raised, trigger}
use Rattle.bounds.specs.Skeleton.{Raises}
use Rattle.bounds.specs.Levels.{Domain, Kept, Any, Either, inside, Unrolls}
use Rattle.bounds.proofs.Levels.{level_any, levels}
use Rattle.bounds.proofs.Unique.{unique}
use Rattle.answers.specs.declared.Call.{Call}
use Rattle.answers.specs.Answer.{Refused}
use Rattle.answers.specs.Answers.{answered}
use Rattle.calls.specs.Calls.{begun, refusal, perform}
use Rattle.promises.proofs.Refusals.{accepted_domain}
use Rattle.promises.specs.Over.{run_by, perform_by, perform_by_raised}
use Rattle.promises.specs.Levels.{run_same, unrolled_raises}

-- two that agree inside the domain give one public call
module _ (t u : Raise) (T : (k : ℕ) → Raises (Kept k Either) Any (is_prefetch_kind k) t u) (E : (w : World) (q : Fault) → Domain w → t w q ≡ u w q) where
  perform_same : (w : World) (c : Call) → perform_by t w c ≡ perform_by u w c
  unfolding perform_by
  perform_same w c = go (eqb (refusal w c) 0) refl
    where
      go : (b : Bool) → eqb (refusal w c) 0 ≡ b → pick b (run_by t (begun w) c) (answered w (Refused (refusal w c))) ≡ pick b (run_by u (begun w) c) (answered w (Refused (refusal w c)))
      go true e = let d = accepted_domain w c (eqb-true (refusal w c) 0 e) in run_same (kind_of (cpu_of (begun w))) t u (T _) E (begun w) d (inside (begun w) d) c
      go false e = refl

-- THE LEVELS: whatever meets the equations of the recursion, with no level in them, gives the public call
pub perform_unrolled : (t : Raise) → Unrolls t t → (w : World) (c : Call) → perform_by t w c ≡ perform w c
perform_unrolled t s w c = perform_same t raised (unrolled_raises t s) (unique t s) w c ∙ perform_by_raised w c

-- and so do two levels or more
pub perform_levels : (n : ℕ) (w : World) (c : Call) → perform_by (trigger (suc (suc n))) w c ≡ perform w c
perform_levels n w c = perform_same (trigger (suc (suc n))) raised (λ k. level_any k n 0) (levels n) w c ∙ perform_by_raised w c
