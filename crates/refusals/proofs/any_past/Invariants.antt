use Rattle.std.proofs.Common.{◌≡◌, false}
use Rattle.refusals.specs.Refusals.{any_past}
use Rattle.refusals.proofs.any_past.Given as goal

abbrev pub invariant-loop-k : goal.invariant-loop-k
invariant-loop-k l = any_past l.b l.k ≡ false
