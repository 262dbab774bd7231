-- A text in bytes, so that a worked session can be read.
use Rattle.std.specs.Prelude.{ℕ, List, [] as none, ◌∷◌ as ◌then◌}
use Prim.Native.Char.{code}
use Prim.Native.String.{String, [], ◌∷◌}

unfoldable pub bytes_of : String → List ℕ
bytes_of [] = none
bytes_of (c ∷ s) = code c then bytes_of s
