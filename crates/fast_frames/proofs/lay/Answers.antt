use Rattle.std.proofs.Common.{arith}
use Rattle.fast_frames.proofs.Lays.{left_read, lay_low, lay_room, lay_goes, lay_ends}
use Rattle.fast_frames.proofs.lay.Goals as goal

pub overflow_sub-o : goal.overflow_sub-o
overflow_sub-o c = let z = lay_low _ _ _ _ _ _ _ _ _ _ _ _ c.loop-k.invariant c.loop-k-test.true (left_read _ _ _ _ _ _ _ _ _ _ c.loop-k.invariant _ c.requires.1 c.loop-k-test.true) c.width-o.ensures in omega arith

pub put_field-requires : goal.put_field-requires
put_field-requires c =
    lay_room _ _ _ _ _ _ _ _ _ _ _ _ c.loop-k.invariant c.loop-k-test.true (left_read _ _ _ _ _ _ _ _ _ _ c.loop-k.invariant _ c.requires.1 c.loop-k-test.true) c.width-o.ensures _ c.requires.0 c.requires.1 c.requires.2 c.requires.3

pub loop-k-preserved : goal.loop-k-preserved
loop-k-preserved c =
    lay_goes _ _ _ _ _ _ _ _ _ _ _ _ c.loop-k.invariant c.loop-k-test.true (left_read _ _ _ _ _ _ _ _ _ _ c.loop-k.invariant _ c.requires.1 c.loop-k-test.true) c.width-o.ensures _ _ c.put_field.ensures

pub returns : goal.returns
returns c = lay_ends _ _ _ _ _ _ _ _ _ _ c.loop-k.invariant c.loop-k-test.false
