use Rattle.prints.specs.Laws.{laid_room}
use Rattle.sessions.proofs.refuse.Goals as goal

pub returns-clause-line : goal.returns-clause-line
returns-clause-line c = laid_room _ _ _ _ c.requires c.refused_line.ensures.line
