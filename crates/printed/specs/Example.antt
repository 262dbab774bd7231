-- Paper 01's example of a session, from its start with 65,536 bytes. What its lines print before `walk 1` is computed; what `walk 1` and
-- `ret` print follows by rule 3.
use Rattle.std.specs.Prelude.{ℕ, ◌≡◌, refl, List, [], ◌∷◌, ◌++◌, replicate}
use Rattle.nest.specs.Nest.{Line}
use Rattle.lines.specs.Commands.{ret_name}
use Rattle.prints.specs.Prints.{decimal_of}
use Rattle.sessions.specs.Printed.{started}
use Rattle.printed.specs.Lines.{with_feed, text, walk_line}
use Rattle.printed.specs.Bytes.{printed_from}
use Rattle.printed.specs.Texts.{bytes_of}
use Rattle.printed.specs.Computed.{played}
use Rattle.printed.specs.Worked.{line, lines_text, Computes}

abbrev pub before : List ℕ
before = bytes_of "kind 2\na7 8000\npc 1000\nppc FFE\nlong BC 2000\ntrap F"

abbrev pub book : List Line
book = line 0 0x2700 0x1000 0x0BC 0x8000 ∷ []

pub computes : Computes started before book
unfolding played started
computes = record { test = refl; book_is = refl; one = refl; most = refl }

pub so_far : printed_from started (with_feed before) ≡ bytes_of "34 00002000 2700 00007FF8\n"
unfolding played started
so_far = refl

-- its bytes in and out
pub input_is : bytes_of "kind 2\na7 8000\npc 1000\nppc FFE\nlong BC 2000\ntrap F\nwalk 1\nret\n" ≡ with_feed before ++ text (walk_line 1 ∷ replicate 1 ret_name)
unfolding bytes_of decimal_of
input_is = refl

pub output_is : bytes_of "34 00002000 2700 00007FF8\n" ++ lines_text book ≡ bytes_of "34 00002000 2700 00007FF8\n0 2700 00001000 0BC\n0 00001000 2700 00008000\n"
unfolding played
output_is = refl
