-- Theorems about what specs/Lists defines, and what rests on them.
use Rattle.std.specs.Prelude.{ℕ, ◌+◌, ◌≡◌, Bool, List, [], ◌∷◌}
use Rattle.std.proofs.Math.Path.{refl}
use Rattle.std.proofs.Common.{◌∙◌}
use Rattle.memory.specs.World.{width_of}
use Rattle.memory.specs.Runs.{Apart}
use Rattle.memory.specs.ByteLaws.{put, get}
use Rattle.memory.proofs.ByteLaws.{read_other}
use Rattle.memory.specs.AccessLaws.{kept}
use Rattle.unfaulted.specs.Closed.{Piece, laid, Within}
use Rattle.unfaulted.specs.Lists.{part_apart}

-- a read that lies apart from all n bytes of the frame is the same before it and after it
pub laid_other : (ps : List Piece) (g : Bool) (s : List ℕ) (p n q : ℕ) → Within n ps → Apart p n q (width_of g) → get g (laid s p ps) q ≡ get g s q
unfolding laid Within
laid_other [] g s p n q w a = refl
laid_other (x ∷ xs) g s p n q w a =
    laid_other xs g (put x.long s (p + x.offset) (kept x.long x.value)) p n q w.2 a
    ∙ read_other x.long g s (p + x.offset) q (kept x.long x.value) (part_apart p n x.offset (width_of x.long) q (width_of g) w.1 a)
