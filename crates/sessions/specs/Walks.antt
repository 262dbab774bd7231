-- "`walk` prints a line a row .. A refusal prints `refused`, a space and its number, after any rows kept".
use Rattle.std.specs.Prelude.{ℕ, List, [], ◌∷◌, ◌++◌, eqb, ltb}
use Rattle.types.specs.Kinds.{pick}
use Rattle.memory.specs.declared.Core.{Core}
use Rattle.unwind.specs.declared.returns.Row.{Row}
use Rattle.unwind.specs.Rows.{trail_from}
use Rattle.prints.specs.Prints.{row_line, refused_line}

abbrev pub row_text : Row → List ℕ
row_text r = row_line r.format r.status r.address r.offset

unfoldable pub row_texts : List Row → List ℕ
row_texts [] = []
row_texts (r ∷ rs) = row_text r ++ row_texts rs

-- nothing where nothing was refused
unfoldable pub refusal_text : ℕ → List ℕ
refusal_text n = pick (eqb n 0) [] (refused_line n)

unfoldable pub walk_text : Core → List ℕ → ℕ → List ℕ
walk_text m s n = row_texts (trail_from m s n).rows ++ refusal_text (trail_from m s n).refused

-- "14 also covers .. `walk` above 4096"
unfoldable pub walked : Core → List ℕ → ℕ → List ℕ
walked m s n = pick (ltb 4096 n) (refused_line 14) (walk_text m s n)
