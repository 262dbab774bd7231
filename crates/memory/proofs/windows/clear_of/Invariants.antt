use Rattle.std.proofs.Common.{◌≡◌, true}
use Rattle.memory.specs.Served.{clear_of}
use Rattle.memory.proofs.windows.clear_of.Given as goal

abbrev pub invariant-loop-k : goal.invariant-loop-k
invariant-loop-k l = clear_of l.b l.k l.a l.n ≡ true
