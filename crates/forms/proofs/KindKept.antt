-- Theorems about what specs/KindKept defines, and what rests on them.
use Rattle.std.specs.Prelude.{◌≡◌, []}
use Rattle.std.proofs.Common.{sym, ap, ◌∙◌}
use Rattle.std.proofs.Math.Option.{some}
use Rattle.cpu.specs.Fields.{kind_of}
use Rattle.memory.specs.World.{World, cpu_of}
use Rattle.answers.specs.declared.Call.{Call}
use Rattle.calls.specs.Calls.{begun, refusal, perform}
use Rattle.forms.specs.Gist.{gist}
use Rattle.forms.specs.Plans.{Plan, Clean}
use Rattle.forms.specs.Forms.{plan_of}
use Rattle.forms.proofs.Forms.{entry_form}
use Rattle.forms.specs.KindKept.{planned_kind, plan_kept, gist_kind}

pub entry_kind : (w : World) (c : Call) (p : Plan) → refusal w c ≡ 0 → plan_of (begun w) c ≡ some p → Clean (gist w) p → kind_of (cpu_of (perform w c).after) ≡ kind_of (cpu_of w)
entry_kind w c p r e cl =
    sym (gist_kind (perform w c).after) ∙ ap (λ (z : World). kind_of (cpu_of z)) (entry_form w c p r e cl) ∙ planned_kind (gist w) p (plan_kept (begun w) c p e) ∙ gist_kind w
