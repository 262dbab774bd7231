use Rattle.attempts.proofs.Tries.{attempt_way, attempt_way_2}
use Rattle.attempts.proofs.attempt_exception.Goals as goal

pub returns-then-not-is_tidy : goal.returns-then-not-is_tidy
returns-then-not-is_tidy c = attempt_way_2 _ _ _ _ c.none.ensures c.hand_over.ensures.0

pub returns : goal.returns
returns c = attempt_way _ _ _ _ c.is_tidy.ensures c.if-not-is_tidy.false c.view.ensures.1 c.view.ensures.0 c.take_exception.ensures c.hand_over-2.ensures.1 c.hand_over-2.ensures.0
