-- Theorems about what specs/Follows defines, and what rests on them.
use Rattle.std.specs.Prelude.{ℕ, ◌≡◌, List, [], ◌∷◌}
use Rattle.std.proofs.Math.Path.{refl, ap}
use Rattle.std.proofs.Common.{◌∙◌}
use Rattle.nest.specs.Nest.{Page, run}
use Rattle.rule3.specs.Rule3.{Real}
use Rattle.lines.specs.Commands.{command_of}
use Rattle.sessions.specs.Sessions.{Session, step}
use Rattle.sessions.specs.Printed.{steps}
use Rattle.printed.specs.Steps.{steps_of, nest_of, ended, book_of}
use Rattle.printed.specs.Follows.{standing, same_book, command_follows, run_append}

lines_follow : (s : Session) (ls : List (List ℕ)) (b : List Page) → run Real (nest_of s ls) (standing s.after b) ≡ standing (steps s ls).after (run Real (nest_of s ls) (standing s.after b)).book
unfolding nest_of steps step
lines_follow s [] b = refl
lines_follow s (l ∷ ls) b =
    same_book _ _ _
    (run_append (steps_of s (command_of l)) (nest_of (step s l) ls) (standing s.after b)
    ∙ ap (run Real (nest_of (step s l) ls)) (command_follows s (command_of l) b)
    ∙ lines_follow (step s l) ls (run Real (steps_of s (command_of l)) (standing s.after b)).book)

-- the nest of a session's lines follows the session
pub follows : (s : Session) (ls : List (List ℕ)) → ended s ls ≡ standing (steps s ls).after (book_of s ls)
follows s ls = lines_follow s ls []
