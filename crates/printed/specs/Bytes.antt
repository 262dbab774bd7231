-- RULE 3 from the bytes of an input to the bytes that are printed.
use Rattle.std.specs.Prelude.{ℕ, zero, suc, ◌≤◌, ◌≡◌, refl, true, replicate}
use Rattle.std.proofs.Math.Path.{ap}
use Rattle.std.proofs.Common.{◌∙◌, arith}
use mathlib.Core.List.{List, [], ◌∷◌, ◌++◌}
use Rattle.nest.specs.Nest.{rows, restored_by}
use Rattle.lines.specs.Commands.{ret_name}
use Rattle.prints.specs.Prints.{more}
use Rattle.sessions.specs.Sessions.{Session, say, step}
use Rattle.sessions.specs.Printed.{lines_of, steps}
use Rattle.printed.specs.Steps.{book_of, depth_of}
use Rattle.printed.specs.Told.{rows_text, returns_text, Told}
use Rattle.printed.specs.Lines.{with_feed, text, walk_line, all_feedless, lines_append, lines_text_lem, walk_is, walk_feedless}

-- what is printed for the bytes of an input from any session; `printed` is that of `started`
unfoldable pub printed_from : Session → List ℕ → List ℕ
printed_from s input = (steps s (lines_of input)).printed

-- ---- the statement

-- the lines of an input that a line feed ends
abbrev pub lines_in : List ℕ → List (List ℕ)
lines_in input = lines_of (with_feed input)

-- of a session s and an input that a line feed ends: what is printed for it, and then for the lines after it
pub record PrintsBook (s : Session) (input : List ℕ) : Type 0 where
  -- `walk` of the depth prints the rows of the book and nothing else
  pub walk : printed_from s (with_feed input ++ text (walk_line (depth_of s (lines_in input)) ∷ []))
      ≡ printed_from s (with_feed input) ++ rows_text (rows (book_of s (lines_in input)))
  -- as many `ret`s print its addresses, statuses and A7s and nothing else
  pub returns : printed_from s (with_feed input ++ text (replicate (depth_of s (lines_in input)) ret_name))
      ≡ printed_from s (with_feed input) ++ returns_text (restored_by (book_of s (lines_in input)))
  -- and so after the walk
  pub both : printed_from s (with_feed input ++ text (walk_line (depth_of s (lines_in input)) ∷ replicate (depth_of s (lines_in input)) ret_name))
      ≡ printed_from s (with_feed input) ++ rows_text (rows (book_of s (lines_in input))) ++ returns_text (restored_by (book_of s (lines_in input)))

-- ---- the proof

steps_append : (s : Session) (ls ms : List (List ℕ)) → steps s (ls ++ ms) ≡ steps (steps s ls) ms
unfolding steps
steps_append s [] ms = refl
steps_append s (l ∷ ls) ms = steps_append (step s l) ls ms

-- what lines after the input print
more_lines : (s : Session) (input : List ℕ) (ms : List (List ℕ)) → all_feedless ms ≡ true
    → printed_from s (with_feed input ++ text ms) ≡ (steps (steps s (lines_in input)) ms).printed
unfolding printed_from
more_lines s input ms e =
    ap (λ (ls : List (List ℕ)). (steps s ls).printed) (lines_append input (text ms) ∙ ap (λ (ls : List (List ℕ)). lines_in input ++ ls) (lines_text_lem ms e))
    ∙ ap (λ (t : Session). t.printed) (steps_append s (lines_in input) ms)

rets_feedless : (n : ℕ) → all_feedless (replicate n ret_name) ≡ true
rets_feedless zero = refl
rets_feedless (suc n) = rets_feedless n

walk_before : (n : ℕ) (ms : List (List ℕ)) → all_feedless ms ≡ true → all_feedless (walk_line n ∷ ms) ≡ true
walk_before n ms e = rw (walk_feedless n) e

module _ (s : Session) (input : List ℕ) (t : Told s (lines_in input)) (small : depth_of s (lines_in input) ≤ 4096) where
  abbrev pub d : ℕ
  d = depth_of s (lines_in input)

  abbrev now : Session
  now = steps s (lines_in input)

  abbrev rets : List (List ℕ)
  rets = replicate d ret_name

  walked : step now (walk_line d) ≡ say now now.after (rows_text (rows (book_of s (lines_in input))))
  walked = t.walks small (walk_line d) (walk_is d (omega (arith, small)))

  pub in_bytes : PrintsBook s input
  unfolding printed_from steps more
  in_bytes =
      record {
        walk = more_lines s input (walk_line d ∷ []) (walk_before d [] refl) ∙ ap (λ (z : Session). z.printed) walked;
        returns = more_lines s input rets (rets_feedless d) ∙ t.returns now.printed;
        both =
            more_lines s input (walk_line d ∷ rets) (walk_before d rets (rets_feedless d))
            ∙ ap (λ (z : Session). (steps z rets).printed) walked
            ∙ t.returns (more now.printed (rows_text (rows (book_of s (lines_in input)))));
      }
