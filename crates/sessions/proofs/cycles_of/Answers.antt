use Rattle.sessions.proofs.Ways.{cycles_charge, cycles_answer}
use Rattle.sessions.proofs.cycles_of.Goals as goal

pub returns-then-number-eq-SERVICE : goal.returns-then-number-eq-SERVICE
returns-then-number-eq-SERVICE c = cycles_charge _ _ _ _ c.if-number-eq-SERVICE.true c.charge.ensures

pub returns-else-number-eq-SERVICE : goal.returns-else-number-eq-SERVICE
returns-else-number-eq-SERVICE c = cycles_answer _ _ _ c.if-number-eq-SERVICE.false
