use Rattle.std.proofs.Common.{◌≡◌, ◌-◌, length}
use Rattle.unwind.specs.Returns.{laid}
use Rattle.unwind.specs.Steps.{stack, steps_of}
use Rattle.unwind.proofs.returns.rows_of.Given as goal

abbrev pub invariant-loop-k : goal.invariant-loop-k
invariant-loop-k g l = (length l.rows ≡ length l.initial.rows) × (laid l.rows l.k (steps_of (l.n - l.k) (stack g.S.Stack.a7 g.S.Stack.in_user g.S.Stack.taken) (g.F.Frames.sight l.frames) l.now) ≡ laid l.initial.rows 0 (steps_of l.n (stack g.S.Stack.a7 g.S.Stack.in_user g.S.Stack.taken) (g.F.Frames.sight l.frames) l.initial.now))
