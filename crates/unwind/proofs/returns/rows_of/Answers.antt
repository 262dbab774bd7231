use Rattle.unwind.proofs.Walks.{walk_stops, walk_goes}
use Rattle.std.proofs.Common.{◌∙◌, arith}
use Rattle.unwind.proofs.returns.rows_of.Goals as goal

pub returns-in-Err : goal.returns-in-Err
returns-in-Err g c = walk_stops _ _ _ _ _ _ _ _ (omega (arith, c.if-rows-n.false)) c.loop-k.invariant.1 _ _ c.in-Err.ensures c.loop-k-test.true c.number-in-Err.ensures

pub loop-k-preserved : goal.loop-k-preserved
loop-k-preserved g c = (c.put_row.auto.rows ∙ c.loop-k.invariant.0, walk_goes _ _ _ _ _ _ _ _ (omega (arith, c.if-rows-n.false)) c.loop-k.invariant.1 _ _ c.in-Ok.ensures c.loop-k-test.true c.put_row.ensures)
