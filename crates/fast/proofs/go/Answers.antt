use Rattle.std.proofs.Common.{sym, ◌∙◌}
use Rattle.fast_plans.specs.Laws.{shaped, accepted_room}
use Rattle.fast.proofs.go.Goals as goal

pub enter-requires : goal.enter-requires
enter-requires c =
    let r = accepted_room _ _ _ (sym c.accepts.ensures ∙ c.if-not-accepts.false) in
    (shaped _ _ _ (sym c.in-Some.ensures), r.0, r.1)
