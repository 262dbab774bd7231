use Rattle.sessions.proofs.Walks.{walk_many, walk_few}
use Rattle.sessions.proofs.Machine.walk.Goals as goal

pub returns-then-n-gt-ROW_LIMIT-clause-lines : goal.returns-then-n-gt-ROW_LIMIT-clause-lines
returns-then-n-gt-ROW_LIMIT-clause-lines c = walk_many _ _ _ _ _ c.if-n-gt-ROW_LIMIT.true c.refuse.ensures.line

pub returns-else-n-gt-ROW_LIMIT-clause-lines : goal.returns-else-n-gt-ROW_LIMIT-clause-lines
returns-else-n-gt-ROW_LIMIT-clause-lines c = walk_few _ _ _ _ _ c.if-n-gt-ROW_LIMIT.false c.walk_rows.ensures.lines
