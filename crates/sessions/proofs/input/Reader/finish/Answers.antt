use Rattle.std.proofs.Common.{arith}
use Rattle.sessions.proofs.Lines.{end_none, end_some}
use Rattle.sessions.proofs.input.Reader.finish.Goals as goal

pub end_line-requires : goal.end_line-requires
end_line-requires c = rw c.clear.ensures (omega arith)

pub returns-then-not-is_empty-clause-finished : goal.returns-then-not-is_empty-clause-finished
returns-then-not-is_empty-clause-finished c = end_some _ _ _ _ _ c.clear.ensures (grind arith) c.end_line.ensures.ends

pub returns-else-not-is_empty-clause-finished : goal.returns-else-not-is_empty-clause-finished
returns-else-not-is_empty-clause-finished c = end_none _ _ _ c.clear.ensures (grind arith)
