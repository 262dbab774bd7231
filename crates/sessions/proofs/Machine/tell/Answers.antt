use Rattle.std.proofs.Common.{◌∙◌}
use Rattle.sessions.proofs.Ways.{told_refused, tell_way}
use Rattle.sessions.proofs.Machine.tell.Goals as goal

pub returns-then-refused-ne0-clause-line : goal.returns-then-refused-ne0-clause-line
returns-then-refused-ne0-clause-line c = told_refused _ _ _ _ _ c.if-refused-ne0.true c.refuse.ensures.line

pub returns-clause-line : goal.returns-clause-line
returns-clause-line c = tell_way _ _ _ _ _ _ _ c.requires c.if-refused-ne0.false (c.from-sr.ensures ∙ c.get_sr.ensures) c.a7.ensures c.state_line.ensures.line
