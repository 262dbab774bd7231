use Rattle.std.proofs.Common.{◌≡◌, true}
use Rattle.unwind.specs.Frames.{all_served, sight}
use Rattle.unwind.proofs.view.View.is_served.Given as goal

abbrev pub invariant-loop-i : goal.invariant-loop-i
invariant-loop-i l = all_served (sight l.self.kind l.self.bus l.self.store.now) l.p l.i ≡ true
