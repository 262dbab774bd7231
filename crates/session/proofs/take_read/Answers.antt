use Rattle.std.proofs.Common.{arith}
use Rattle.session.proofs.Plays.{part_start, part_goes, part_ends}
use Rattle.session.proofs.take_read.Goals as goal

pub loop-rest-init : goal.loop-rest-init
loop-rest-init g c = part_start _ _ _

pub loop-rest-preserved : goal.loop-rest-preserved
loop-rest-preserved g c = part_goes _ _ _ _ _ _ _ _ _ _ c.loop-rest.invariant c.take_block-used.ensures.taken c.as_slice.ensures.value c.in_ok-write_all.ensures.bytes

pub returns : goal.returns
returns g c = part_ends _ _ _ _ _ _ (grind arith) c.loop-rest.invariant
