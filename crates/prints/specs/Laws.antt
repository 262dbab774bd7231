-- Laws for those who lay lines one after the other.
use Rattle.std.specs.Prelude.{ℕ, ◌+◌, ◌≤◌, ◌≡◌, List, ◌++◌, [], length}
use Rattle.std.proofs.Common.{ap, ◌∙◌, append_assoc, append-nil, le-leb}
use Rattle.prints.specs.Prints.{more, laid}

-- where there is room, a line is laid
pub laid_room : (room : ℕ) (done line s : List ℕ) → length done + 34 ≤ room → s ≡ laid room done line → s ≡ more done line
unfolding laid
laid_room room done line s h e = rw (le-leb (length done + 34) room h) at e

-- bytes and more bytes after them
pub more_more : (s t u a b : List ℕ) → t ≡ more s a → u ≡ more t b → u ≡ more s (a ++ b)
unfolding more
more_more s t u a b e f = f ∙ ap (λ (l : List ℕ). l ++ b) e ∙ append_assoc s a b

pub more_none : (s : List ℕ) → more s [] ≡ s
unfolding more
more_none s = append-nil s
