-- RULE 3 on what a session prints: after lines that meet the premises, with an entry open, `walk` of the depth prints exactly the rows
-- of the book, and as many `ret`s print exactly its addresses, statuses and A7s.
use Rattle.std.specs.Prelude.{ℕ, Some, ◌≤◌, ◌≡◌, refl, Bool, true, false, List, [], ◌∷◌, ◌++◌, eqb, replicate}
use Rattle.std.proofs.Math.Path.{ap}
use Rattle.std.proofs.Common.{arith, eqb-true}
use Rattle.std.proofs.Math.Option.{Option, none, some}
use Rattle.types.specs.Kinds.{pick}
use Rattle.memory.specs.World.{cpu_of}
use Rattle.unwind.specs.declared.returns.Row.{Row}
use Rattle.nest.specs.View.{Row as NestRow}
use Rattle.nest.specs.Nest.{rows, Values, restored_by}
use Rattle.entered.specs.Machines.{room_of}
use Rattle.rule3.specs.Rows.{numbered, rows_here}
use Rattle.rule3.specs.Checked.{real, premises_test, premises_tested}
use Rattle.lines.specs.declared.Command.TheVariants.{Walk, Ret}
use Rattle.lines.specs.Commands.{ret_name, starts_with, ret_in, word_in, command_of}
use Rattle.prints.specs.Prints.{more, state_line, row_line}
use Rattle.sessions.specs.Walks.{row_text, row_texts, walked}
use Rattle.sessions.specs.Sessions.{Session, session, say, act, step}
use Rattle.sessions.specs.Printed.{steps}
use Rattle.printed.specs.Steps.{nest_of, Meets, book_of, depth_of}

-- ---- what is printed of a book

-- "`walk` prints a line a row: format in 1 digit, status in 4, address in 8, offset in 3"
abbrev pub rows_text : List NestRow → List ℕ
rows_text [] = []
rows_text (r ∷ rs) = row_line r.format r.status r.address r.offset ++ rows_text rs

-- "`exc`, `trap`, `irq` and `ret` print cycles (.. `ret` 0), PC in 8 digits, status in 4, A7 in 8"
abbrev pub return_text : Values → List ℕ
return_text v = state_line 0 v.pc v.status v.a7

abbrev pub returns_text : List Values → List ℕ
returns_text [] = []
returns_text (v ∷ vs) = return_text v ++ returns_text vs

-- ---- the statement

-- of the lines ls of a session s
pub record Told (s : Session) (ls : List (List ℕ)) : Type 0 where
  -- "a walk of the depth .. gives exactly the rows .., latest first": no refusal after them, and nothing else of the session changes.
  -- A walk above 4096 is refused
  pub walks : depth_of s ls ≤ 4096 → (l : List ℕ) → command_of l ≡ Some (Walk (depth_of s ls))
      → step (steps s ls) l ≡ say (steps s ls) (steps s ls).after (rows_text (rows (book_of s ls)))
  -- "and as many returns restore in turn exactly each status, stacked address (as PC) and A7 in it", whatever was printed before them
  pub returns : (bs : List ℕ) → (steps (session (steps s ls).after bs) (replicate (depth_of s ls) ret_name)).printed ≡ more bs (returns_text (restored_by (book_of s ls)))

-- ---- the walk

pub no_number : (n : ℕ) → numbered n ≡ none → n ≡ 0
no_number n = go (eqb n 0) refl
  where
    go : (b : Bool) → eqb n 0 ≡ b → pick b none (some n) ≡ none → n ≡ 0
    go true e h = eqb-true n 0 e
    go false e h = let z : ◌≡◌ {A = ℕ} 0 1 = cc in absurd (omega arith)

pub rows_text_lem : (rs : List Row) → row_texts rs ≡ rows_text (rows_here rs)
unfolding row_texts
rows_text_lem [] = refl
rows_text_lem (r ∷ rs) = ap (λ (bs : List ℕ). row_text r ++ bs) (rows_text_lem rs)

pub walk_acts : (s : Session) (l : List ℕ) (n : ℕ) → command_of l ≡ Some (Walk n) → step s l ≡ say s s.after (walked s.after.core s.after.store n)
unfolding step act
walk_acts s l n e = rw e

-- ---- the returns

pub ret_is : command_of ret_name ≡ Some Ret
unfolding command_of word_in starts_with ret_in
ret_is = refl

pub never : {A B : Type 0} (t : B) → ◌≡◌ {A = Option B} none (some t) → A
never t e = let z : ◌≡◌ {A = ℕ} 0 1 = cc in absurd (omega arith)

-- part (b): "two lists alike .. at the end have the same rows and restored values", as the two sessions print them
pub record SamePrints (s : Session) (ls : List (List ℕ)) (s' : Session) (ls' : List (List ℕ)) : Type 0 where
  pub walks : rows_text (rows (book_of s ls)) ≡ rows_text (rows (book_of s' ls'))
  pub returns : returns_text (restored_by (book_of s ls)) ≡ returns_text (restored_by (book_of s' ls'))

-- the premises, where the test of `rule3` computes to true
pub meets : (s : Session) (ls : List (List ℕ)) → premises_test real (nest_of s ls) (cpu_of s.after) (room_of s.after) ≡ true → Meets s ls
meets s ls e = premises_tested real (nest_of s ls) (cpu_of s.after) (room_of s.after) e
