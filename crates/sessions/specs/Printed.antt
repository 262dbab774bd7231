-- A whole session: bytes in, bytes out.
use Rattle.std.specs.Prelude.{ℕ, List, [], ◌∷◌, eqb, replicate}
use Rattle.types.specs.Kinds.{pick}
use Rattle.memory.specs.World.{world}
use Rattle.sessions.specs.Sessions.{Session, session, fresh_core, step}

-- a byte in front of the first line
unfoldable pub in_front : ℕ → List (List ℕ) → List (List ℕ)
in_front b [] = (b ∷ []) ∷ []
in_front b (l ∷ ls) = (b ∷ l) ∷ ls

-- "A line ends with a line feed, not counted in its bytes, or with the input": the lines of the input; of 0 bytes there are none
unfoldable pub lines_of : List ℕ → List (List ℕ)
lines_of [] = []
lines_of (b ∷ bs) = pick (eqb b 10) ([] ∷ lines_of bs) (in_front b (lines_of bs))

-- "The session goes on": one line after the other
unfoldable pub steps : Session → List (List ℕ) → Session
steps s [] = s
steps s (l ∷ ls) = steps (step s l) ls

-- "Before any `kind`, kind 1"; "65,536 zero bytes"; nothing is printed, nothing logged
unfoldable pub started : Session
started = session (world (fresh_core 1) (replicate 65536 0) (replicate 192 0)) []

-- what is printed for the bytes of an input
unfoldable pub printed : List ℕ → List ℕ
printed input = (steps started (lines_of input)).printed
