-- A return that is tried, and the record after it.
use Rattle.std.specs.Prelude.{Bool, true, false, ◌==◌, Option, Some, None}
use Rattle.types.specs.Kinds.{pick}
use Rattle.memory.specs.declared.Core.{Core}
use Rattle.memory.specs.World.{put_cpu}
use Rattle.unwind.specs.declared.returns.Row.{Row}
use Rattle.unwind.specs.Models.{Frame, Returned}
use Rattle.unwind.specs.Frames.{refused_frame, read}
use Rattle.unwind.specs.Returns.{row_of, take_frame}
use Rattle.fast_return.specs.declared.ReturnPatch.{ReturnPatch as Code}
use Rattle.fast_return.specs.Quick.{Found}

-- whether the return goes, its row and the frame that it takes
pub record ReturnPatch : Type 0 where
  pub ok : Bool
  pub row : Row
  pub frame : Frame

-- the patch of the code, so read: it goes
abbrev pub going : Code → ReturnPatch
going q = record { ok = true; row = q.row; frame = read q.frame }

unfoldable pub no_patch : ReturnPatch
no_patch = record { ok = false; row = record { format = 0; status = 0; address = 0; offset = 0 }; frame = refused_frame 0 }

-- what the code answers, so read
abbrev pub tried : Option Code → ReturnPatch
tried (Some q) = going q
tried None = no_patch

unfoldable pub done_patch : Frame → ReturnPatch
done_patch f = record { ok = true; row = row_of f.format f; frame = f }

-- the return by a frame that was found; a frame of format 1 has another one under it, and goes the plain way
unfoldable pub found_patch : Found → ReturnPatch
found_patch q = pick q.ok (pick (q.frame.format == 1) no_patch (done_patch q.frame)) no_patch

-- the record after the frame of a return that was tried and goes
unfoldable pub patch_back : Core → ReturnPatch → Core
patch_back m q = put_cpu m (take_frame m.cpu q.frame)

-- what the return answers then
unfoldable pub patch_returned : Core → ReturnPatch → Returned
patch_returned m q = record { core = patch_back m q; refused = 0; row = q.row }
