use Rattle.fast_return.proofs.Finds.{found_is}
use Rattle.fast_return.proofs.quick.RunFrames.frame.Goals as goal

pub returns-in-Some : goal.returns-in-Some
returns-in-Some c = found_is _ _ _ _ _ c.in-Some.ensures
