use Rattle.std.proofs.Common.{sym, ◌∙◌}
use Rattle.sessions.proofs.Acts.{act_none, line_step}
use Rattle.sessions.proofs.Machine.step.Goals as goal

pub returns-in-Some-clause-acts : goal.returns-in-Some-clause-acts
returns-in-Some-clause-acts c = line_step _ _ _ _ (sym c.in-Some.is ∙ c.parse.ensures) c.act.ensures.acts

pub returns-in-None-clause-acts : goal.returns-in-None-clause-acts
returns-in-None-clause-acts c = line_step _ _ _ _ c.parse.ensures (act_none _ _ _ c.in-None.is c.refuse.ensures.line)
