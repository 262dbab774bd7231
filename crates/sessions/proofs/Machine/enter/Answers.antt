use Rattle.sessions.proofs.Ways.{enter_way}
use Rattle.sessions.proofs.Machine.enter.Goals as goal

pub returns-clause-line : goal.returns-clause-line
returns-clause-line c = enter_way _ _ _ _ _ _ _ _ _ c.raw_call-x.ensures c.cycles_of-cycles.ensures c.tell.ensures.line
