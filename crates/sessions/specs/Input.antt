-- The input a byte at a time, as the program reads it: the bytes of the line that is not ended are kept, 81 at most, so that memory
-- does not grow with a line. Laws are in Cuts: this is `printed`, however the input is cut into reads.
use Rattle.std.specs.Prelude.{ℕ, List, [], ◌∷◌, ◌++◌, eqb, ltb, length}
use Rattle.types.specs.Kinds.{pick}
use Rattle.sessions.specs.Sessions.{Session, step}

-- a session in the middle of a line: the bytes of it so far
pub record Under : Type 0 where
  pub session : Session
  pub line : List ℕ

abbrev pub under : Session → List ℕ → Under
under s l = record { session = s; line = l }

-- a byte of a line; of a line over 80 bytes 81 are kept
unfoldable pub kept : List ℕ → ℕ → List ℕ
kept l b = pick (ltb (length l) 81) (l ++ (b ∷ [])) l

-- one byte of the input
unfoldable pub take1 : Under → ℕ → Under
take1 u b = pick (eqb b 10) (under (step u.session u.line) []) (under u.session (kept u.line b))

unfoldable pub taken_all : Under → List ℕ → Under
taken_all u [] = u
taken_all u (b ∷ bs) = taken_all (take1 u b) bs

-- the end of the input ends a line that has bytes
unfoldable pub finished : Under → Session
finished u = pick (eqb (length u.line) 0) u.session (step u.session u.line)
