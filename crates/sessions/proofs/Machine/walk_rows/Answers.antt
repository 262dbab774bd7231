use Rattle.std.proofs.Common.{arith}
use Rattle.sessions.proofs.Walks.{count_is, walk_quiet, walk_refused}
use Rattle.sessions.proofs.Machine.walk_rows.Goals as goal

pub row_lines-requires : goal.row_lines-requires
row_lines-requires c = (omega (arith, count_is c.args.self.now.core c.args.store.now c.args.self.now.rows.now _ c.args.n _ _ (omega (arith, c.requires.0)) c.walk-w.ensures, c.requires.0), omega (arith, count_is c.args.self.now.core c.args.store.now c.args.self.now.rows.now _ c.args.n _ _ (omega (arith, c.requires.0)) c.walk-w.ensures, c.requires.0, c.requires.1))

pub refuse-requires : goal.refuse-requires
refuse-requires c = omega (arith, count_is c.args.self.now.core c.args.store.now c.args.self.now.rows.now _ c.args.n _ _ (omega (arith, c.requires.0)) c.walk-w.ensures, c.requires.0, c.requires.1, c.row_lines.ensures.bound)

pub returns-then-w-ne0-clause-lines : goal.returns-then-w-ne0-clause-lines
returns-then-w-ne0-clause-lines c = walk_refused c.args.self.now.core c.args.store.now c.args.self.now.rows.now _ c.args.n _ _ (omega (arith, c.requires.0)) c.walk-w.ensures _ _ _ c.row_lines.ensures.lines c.if-w-ne0.true c.refuse.ensures.line

pub returns-then-w-ne0-clause-bound : goal.returns-then-w-ne0-clause-bound
returns-then-w-ne0-clause-bound c = omega (arith, count_is c.args.self.now.core c.args.store.now c.args.self.now.rows.now _ c.args.n _ _ (omega (arith, c.requires.0)) c.walk-w.ensures, c.requires.0, c.row_lines.ensures.bound, c.refuse.ensures.bound)

pub returns-else-w-ne0-clause-lines : goal.returns-else-w-ne0-clause-lines
returns-else-w-ne0-clause-lines c = walk_quiet c.args.self.now.core c.args.store.now c.args.self.now.rows.now _ c.args.n _ _ (omega (arith, c.requires.0)) c.walk-w.ensures _ _ c.row_lines.ensures.lines c.if-w-ne0.false

pub returns-else-w-ne0-clause-bound : goal.returns-else-w-ne0-clause-bound
returns-else-w-ne0-clause-bound c = omega (arith, count_is c.args.self.now.core c.args.store.now c.args.self.now.rows.now _ c.args.n _ _ (omega (arith, c.requires.0)) c.walk-w.ensures, c.requires.0, c.row_lines.ensures.bound)
