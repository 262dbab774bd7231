-- Theorems about what specs/Example defines, and what rests on them.
use Rattle.std.specs.Prelude.{ℕ, ◌≡◌, List, ◌++◌}
use Rattle.std.proofs.Common.{ap, ◌∙◌}
use Rattle.sessions.specs.Printed.{started, printed}
use Rattle.printed.specs.Bytes.{printed_from}
use Rattle.printed.specs.Texts.{bytes_of}
use Rattle.printed.specs.Worked.{lines_text}
use Rattle.printed.proofs.Worked.{prints}
use Rattle.printed.specs.Example.{before, book, computes, so_far, input_is, output_is}

-- "Input .. prints exactly"
pub example : printed (bytes_of "kind 2\na7 8000\npc 1000\nppc FFE\nlong BC 2000\ntrap F\nwalk 1\nret\n")
    ≡ bytes_of "34 00002000 2700 00007FF8\n0 2700 00001000 0BC\n0 00001000 2700 00008000\n"
unfolding printed printed_from
example = ap (printed_from started) input_is ∙ prints started before book computes ∙ ap (λ (bs : List ℕ). bs ++ lines_text book) so_far ∙ output_is
