use Rattle.attempts.proofs.Tries.{attempt_way, attempt_way_2, framed_way}
use Rattle.attempts.proofs.attempt.Goals as goal

pub returns-then-not-is_tidy : goal.returns-then-not-is_tidy
returns-then-not-is_tidy c = attempt_way_2 _ _ _ _ c.none.ensures c.hand_over.ensures.0

pub returns-then-is_framed : goal.returns-then-is_framed
returns-then-is_framed c =
    framed_way _ _ _ _ c.is_tidy.ensures c.if-not-is_tidy.false c.view-x.ensures.1 c.view-x.ensures.0 c.go.ensures c.hand_over-then-is_framed.ensures.1 c.hand_over-then-is_framed.ensures.0

pub returns : goal.returns
returns c = attempt_way _ _ _ _ c.is_tidy.ensures c.if-not-is_tidy.false c.view-x.ensures.1 c.view-x.ensures.0 c.go-2.ensures c.hand_over-2.ensures.1 c.hand_over-2.ensures.0
