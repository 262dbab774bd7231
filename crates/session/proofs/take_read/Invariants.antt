-- What is written so far and what the rest prints is what all the bytes print; the measure is the bytes that are left.
use Rattle.std.proofs.Common.{length}
use Rattle.sessions.specs.Machines.{reading}
use Rattle.session.proofs.Plays.{Part}
use Rattle.session.proofs.take_read.Given as goal

abbrev pub invariant-loop-rest : goal.invariant-loop-rest
invariant-loop-rest g l = Part (reading l.initial.session l.initial.store l.initial.log l.initial.out) l.initial.rest (reading l.session l.store l.log l.out) l.rest (g.W.Write.contents l.initial.output) (g.W.Write.contents l.output)

abbrev pub decreases-loop-rest : goal.decreases-loop-rest
decreases-loop-rest g l = length l.rest
