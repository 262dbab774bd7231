use Rattle.std.proofs.Common.{arith}
use Rattle.prints.specs.Laws.{laid_room}
use Rattle.sessions.proofs.Walks.{rows_start, rows_go, rows_end}
use Rattle.sessions.proofs.row_lines.Goals as goal

pub loop-k-init : goal.loop-k-init
loop-k-init c = (omega arith, rows_start _ _ _)

pub loop-k-preserved : goal.loop-k-preserved
loop-k-preserved c = (
  omega (arith, c.row_line.ensures.bound, c.loop-k.invariant.0),
  rows_go _ _ _ _ _ _ c.loop-k-test.true c.loop-k.invariant.1 (laid_room _ _ _ _ (omega (arith, c.loop-k.invariant.0, c.loop-k-test.true, c.requires.1)) c.row_line.ensures.line),
)

pub returns-clause-lines : goal.returns-clause-lines
returns-clause-lines c = rows_end _ _ _ _ _ c.loop-k-test.false c.loop-k.invariant.1

pub returns-clause-bound : goal.returns-clause-bound
returns-clause-bound c = omega (arith, c.loop-k.invariant.0, c.loop-k.auto.k-end)
