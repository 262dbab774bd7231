-- What the program writes for what it reads, where a reader's bytes and a writer's are known.
use Rattle.std.specs.Prelude.{◌≡◌, ℕ, List, [], Option, Some, None, ⊤}
use Rattle.std.specs.Io.KnownBytes.{Appends}
use Rattle.sessions.specs.Sessions.{session}
use Rattle.sessions.specs.Input.{Under, under, taken_all, finished}
use Rattle.sessions.specs.Printed.{started, printed}
use Rattle.sessions.specs.Cuts.{by_lines}

-- what bytes of the input make of a session of which all that was printed is written
abbrev pub block : Under → List ℕ → Under
block u bs = taken_all (under (session u.session.after []) u.line) bs

-- what such a session prints for the rest of its input
abbrev pub owed : Under → List ℕ → List ℕ
owed u xs = (finished (block u xs)).printed

-- bytes of the input are taken, and what they print is written
abbrev pub Takes : Under → List ℕ → Under → Option (List ℕ) → Option (List ℕ) → Type 0
Takes u bs v old new = Appends old new (block u bs).session.printed × (v.session.after ≡ (block u bs).session.after) × (v.line ≡ (block u bs).line)

-- the rest of the input is played to its end
abbrev pub Plays : Under → Option (List ℕ) → Option (List ℕ) → Option (List ℕ) → Type 0
Plays u None old new = ⊤
Plays u (Some xs) old new = Appends old new (owed u xs)

-- a whole session: what is written is `printed` of what is read
abbrev pub Prints : Option (List ℕ) → Option (List ℕ) → Option (List ℕ) → Type 0
Prints None old new = ⊤
Prints (Some xs) old new = Appends old new (printed xs)

-- what a session owes at its start
pub owed_at_start : (xs : List ℕ) → owed (under started []) xs ≡ printed xs
unfolding started
owed_at_start xs = by_lines xs
