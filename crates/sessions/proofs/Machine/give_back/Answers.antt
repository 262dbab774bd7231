use Rattle.sessions.proofs.Ways.{return_way}
use Rattle.sessions.proofs.Machine.give_back.Goals as goal

pub returns-in-Ok-clause-line : goal.returns-in-Ok-clause-line
returns-in-Ok-clause-line c = λ log. return_way _ _ log _ _ _ c.in-Ok.ensures c.tell.ensures.line

pub returns-in-Err-clause-line : goal.returns-in-Err-clause-line
returns-in-Err-clause-line c = λ log. return_way _ _ log _ _ _ c.in-Err.ensures (rw c.number.ensures at c.tell-in-Err.ensures.line)
