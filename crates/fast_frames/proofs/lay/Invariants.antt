use Rattle.fast_frames.proofs.Lays.{Laying}
use Rattle.fast_frames.proofs.lay.Given as goal

abbrev pub invariant-loop-k : goal.invariant-loop-k
invariant-loop-k l = Laying l.s l.n l.f l.initial.store l.initial.log l.store l.log l.k l.o l.e
