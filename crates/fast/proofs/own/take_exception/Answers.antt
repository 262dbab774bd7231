use Rattle.std.proofs.Common.{sym, ◌∙◌}
use Rattle.fast_plans.specs.Laws.{entry_of_shaped, accepted_room}
use Rattle.fast.proofs.Shapes.{exception_small}
use Rattle.fast.proofs.own.take_exception.Goals as goal

pub enter_exception-requires : goal.enter_exception-requires
enter_exception-requires c =
    let r = accepted_room _ _ _ (sym c.accepts.ensures ∙ c.if-not-accepts.false) in
    (entry_of_shaped _ _ _ (sym c.in-Some.ensures), exception_small _ _ _ (sym c.in-Some.ensures), r.0, r.1)
