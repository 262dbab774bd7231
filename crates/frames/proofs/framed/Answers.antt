use Rattle.frames.proofs.Filled.{filled}
use Rattle.frames.proofs.framed.Goals as goal

pub returns : goal.returns
returns c = filled _ _ _ c.min-n.ensures c.copy_from_slice.ensures.after
