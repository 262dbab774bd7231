-- Theorems about what specs/Bytes defines, and what rests on them.
use Rattle.std.specs.Prelude.{ℕ, ◌≤◌, ◌<◌, ◌≡◌, replicate}
use mathlib.Core.List.{List, ◌∷◌, ◌++◌}
use Rattle.nest.specs.Nest.{rows, restored_by}
use Rattle.lines.specs.Commands.{ret_name}
use Rattle.sessions.specs.Sessions.{Session}
use Rattle.sessions.specs.Printed.{started, printed}
use Rattle.printed.specs.Steps.{Meets, book_of, depth_of}
use Rattle.printed.specs.Told.{rows_text, returns_text}
use Rattle.printed.proofs.Told.{tells}
use Rattle.printed.specs.Lines.{with_feed, text, walk_line}
use Rattle.printed.specs.Bytes.{printed_from, lines_in, PrintsBook, d, in_bytes}

-- THE THEOREM: from any session, for any input that a line feed ends, whose lines meet the premises of rule 3 and leave 1 to 4096
-- entries open
pub prints_book : (s : Session) (input : List ℕ) → Meets s (lines_in input) → 0 < depth_of s (lines_in input) → depth_of s (lines_in input) ≤ 4096 → PrintsBook s input
prints_book s input p d l = in_bytes s input (tells s (lines_in input) p d) l

-- the same of `printed`, a whole session from its start
pub printed_book : (input : List ℕ) → Meets started (lines_in input) → 0 < depth_of started (lines_in input) → depth_of started (lines_in input) ≤ 4096
    → printed (with_feed input ++ text (walk_line (depth_of started (lines_in input)) ∷ replicate (depth_of started (lines_in input)) ret_name))
    ≡ printed (with_feed input) ++ rows_text (rows (book_of started (lines_in input))) ++ returns_text (restored_by (book_of started (lines_in input)))
unfolding printed printed_from
printed_book input p d l = (prints_book started input p d l).both
