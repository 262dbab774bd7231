-- What is written so far and what is owed for the bytes that are left is what is owed for all.
use Rattle.sessions.specs.Machines.{reading}
use Rattle.session.proofs.Plays.{Played}
use Rattle.session.proofs.play.Given as goal

abbrev pub invariant-loop : goal.invariant-loop
invariant-loop g l = Played (reading l.initial.session l.initial.store l.initial.log l.initial.out) (g.R.Read.remaining l.initial.input) (reading l.session l.store l.log l.out) (g.R.Read.remaining l.input) (g.W.Write.contents l.initial.output) (g.W.Write.contents l.output)
