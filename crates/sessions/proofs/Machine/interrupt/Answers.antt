use Rattle.std.proofs.Common.{◌∙◌, ap}
use Rattle.sessions.specs.Numbered.{numbered}
use Rattle.sessions.proofs.Ways.{interrupt_way}
use Rattle.sessions.proofs.Machine.interrupt.Goals as goal

pub returns-clause-line : goal.returns-clause-line
returns-clause-line c = interrupt_way _ _ _ _ _ _ _ _ _ _ (c.numbered-set.ensures ∙ ap (numbered 20) c.from.ensures) c.ranges.level.fits c.raw_call-x.ensures c.numbered.ensures c.enter.ensures.line
