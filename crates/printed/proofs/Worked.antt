-- Theorems about what specs/Worked defines, and what rests on them.
use Rattle.std.specs.Prelude.{ℕ, ◌≤◌, ◌<◌, ◌≡◌, List, ◌∷◌, ◌++◌, length, replicate}
use Rattle.std.proofs.Common.{sym, ap, ◌∙◌, subst, append_assoc, ltb-true, leb-true}
use Rattle.nest.specs.Nest.{Page, Line, rows, restored_by}
use Rattle.lines.specs.Commands.{ret_name}
use Rattle.sessions.specs.Sessions.{Session}
use Rattle.printed.specs.Steps.{book_of, depth_of}
use Rattle.printed.specs.Told.{rows_text, returns_text, meets}
use Rattle.printed.specs.Lines.{with_feed, text, walk_line}
use Rattle.printed.specs.Bytes.{lines_in, printed_from, PrintsBook}
use Rattle.printed.proofs.Bytes.{prints_book}
use Rattle.printed.specs.Texts.{bytes_of}
use Rattle.printed.specs.Computed.{played}
use Rattle.printed.specs.Worked.{lines_text, Computes, depth_lines, rows_lines, values_lines, small, afternoon, afternoon_computes, master, master_computes}

-- what rule 3 says of it
pub prints : (s : Session) (input : List ℕ) (ls : List Line) → Computes s input ls
    → printed_from s (with_feed input ++ text (walk_line (length ls) ∷ replicate (length ls) ret_name)) ≡ printed_from s (with_feed input) ++ lines_text ls
prints s input ls c =
    ap (λ (n : ℕ). printed_from s (with_feed input ++ text (walk_line n ∷ replicate n ret_name))) (sym depth_is)
    ∙ told.both
    ∙ append_assoc (printed_from s (with_feed input)) (rows_text (rows book)) (returns_text (restored_by book))
    ∙ (λ i. printed_from s (with_feed input) ++ (rows_text (rows_lines book i) ++ returns_text (values_lines book i)))
    ∙ ap (λ (ms : List Line). printed_from s (with_feed input) ++ lines_text ms) c.book_is
  where
    book : List Page
    book = book_of s (lines_in input)

    depth_is : depth_of s (lines_in input) ≡ length ls
    depth_is = depth_lines book ∙ ap (λ (ms : List Line). length ms) c.book_is

    told : PrintsBook s input
    told =
        prints_book s input (meets s (lines_in input) c.test) (subst (λ (n : ℕ). 0 < n) (sym depth_is) (ltb-true 0 (length ls) c.one))
        (subst (λ (n : ℕ). n ≤ 4096) (sym depth_is) (leb-true (length ls) 4096 c.most))

-- what three lines more print, by rule 3
pub afternoon_prints : printed_from small (with_feed afternoon ++ bytes_of "walk 2\nret\nret\n")
    ≡ printed_from small (with_feed afternoon)
    ++ bytes_of "0 2204 00000120 070\n0 2004 00000102 068\n0 00000120 2204 000001F8\n0 00000102 2004 00000200\n"
unfolding played
afternoon_prints = prints small afternoon _ afternoon_computes

pub master_prints : printed_from small (with_feed master ++ bytes_of "walk 2\nret\nret\n")
    ≡ printed_from small (with_feed master)
    ++ bytes_of "0 2700 00000144 080\n1 3000 00000102 07C\n0 00000144 2700 000001F8\n0 00000102 3000 00000180\n"
unfolding played
master_prints = prints small master _ master_computes
