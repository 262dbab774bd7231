use Rattle.std.proofs.Common.{arith}
use Rattle.sessions.proofs.Lines.{takes_feed, takes_byte, takes_none}
use Rattle.sessions.proofs.input.Reader.take.Goals as goal

pub returns-then-b-eq10-clause-takes : goal.returns-then-b-eq10-clause-takes
returns-then-b-eq10-clause-takes c = takes_feed _ _ _ c.if-b-eq10.true c.end_line.ensures.ends

pub returns-then-not-is_full-clause-takes : goal.returns-then-not-is_full-clause-takes
returns-then-not-is_full-clause-takes c = takes_byte _ _ _ _ c.if-b-eq10.false (grind arith) c.push.ensures.items

pub returns-else-not-is_full-clause-takes : goal.returns-else-not-is_full-clause-takes
returns-else-not-is_full-clause-takes c = takes_none _ _ _ c.if-b-eq10.false (grind arith)
