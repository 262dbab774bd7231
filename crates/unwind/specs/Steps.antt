-- One return and a walk, whatever they work on: the record (`back`, `trail_of`, `walk_of`), or what a walk keeps of it.
use Rattle.std.specs.Prelude.{ℕ, zero, suc, Bool, List, [], ◌∷◌, length, ◌==◌, Result, Ok, Err}
use Rattle.types.specs.Kinds.{pick}
use Rattle.refusals.specs.declared.Refusal.{Refusal}
use Rattle.refusals.specs.Matters.{number_of}
use Rattle.unwind.specs.declared.returns.Row.{Row}
use Rattle.unwind.specs.declared.returns.Stepped.{Stepped}
use Rattle.unwind.specs.Models.{Frame}
use Rattle.unwind.specs.Frames.{Sight, frame_of}
use Rattle.unwind.specs.Returns.{Trail, trail, row_of, Walk, walk, laid}
use Rattle.unwind.specs.Unwind.{short_rows}

-- what a return asks of that: its A7, whether S is clear, and what it is after a frame, by kind
pub record Stack (S : Type 0) : Type 0 where
  pub a7 : S → ℕ
  pub in_user : S → Bool
  pub taken : ℕ → S → Frame → S

abbrev pub stack : {S : Type 0} → (S → ℕ) → (S → Bool) → (ℕ → S → Frame → S) → Stack S
stack a u t = record { a7 = a; in_user = u; taken = t }

-- after a return, with its row; or as it was, and the number that refuses
pub record Step (S : Type 0) : Type 0 where
  pub after : S
  pub refused : ℕ
  pub row : Row

unfoldable pub refused_step : {S : Type 0} → S → ℕ → Step S
refused_step x n = record { after = x; refused = n; row = record { format = 0; status = 0; address = 0; offset = 0 } }

-- after frame f, the last one
unfoldable pub done_step : {S : Type 0} → Stack S → ℕ → S → ℕ → Frame → Step S
done_step t k x format f = record { after = t.taken k x f; refused = 0; row = row_of format f }

-- the second frame f, under a frame of format 1; y is after that
unfoldable pub second_step : {S : Type 0} → Stack S → ℕ → S → S → Frame → Step S
second_step t k x y f = pick (f.refused == 0) (pick (f.format == 1) (refused_step x 13) (done_step t k y 1 f)) (refused_step x f.refused)

-- the first frame f
unfoldable pub first_step : {S : Type 0} → Stack S → Sight → S → Frame → Step S
first_step t v x f =
    pick (f.refused == 0)
    (pick (f.format == 1) (second_step t v.kind x (t.taken v.kind x f) (frame_of v (t.a7 (t.taken v.kind x f)))) (done_step t v.kind x f.format f))
    (refused_step x f.refused)

-- one return
unfoldable pub step_of : {S : Type 0} → Stack S → Sight → S → Step S
step_of t v x = pick (t.in_user x) (refused_step x 11) (first_step t v x (frame_of v (t.a7 x)))

-- what the code hands back, so read
abbrev pub stepped : {S : Type 0} → S → Result (Stepped S) Refusal → Step S
stepped x (Ok y) = record { after = y.after; refused = 0; row = y.row }
stepped x (Err e) = refused_step x (number_of e)

unfoldable pub steps_of : {S : Type 0} → ℕ → Stack S → Sight → S → Trail
steps_of zero t v x = trail [] 0
steps_of (suc n) t v x =
    pick ((step_of t v x).refused == 0)
    (trail ((step_of t v x).row ∷ (steps_of n t v (step_of t v x).after).rows) (steps_of n t v (step_of t v x).after).refused)
    (trail [] (step_of t v x).refused)

-- n returns, into the buffer ws, which has to hold them
unfoldable pub walk_by : {S : Type 0} → ℕ → Stack S → Sight → S → List ℕ → Walk
walk_by n t v x ws = pick (short_rows n (length ws)) (walk 10 0 ws) (laid ws 0 (steps_of n t v x))
