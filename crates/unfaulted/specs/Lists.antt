-- Events and pieces in a row.
use Rattle.std.specs.Prelude.{ℕ, suc, ◌+◌, ◌≤◌, ◌≡◌, Bool, true, false, List, [], ◌∷◌, ◌++◌, ltb, length}
use Rattle.std.proofs.Math.Path.{refl}
use Rattle.std.proofs.Common.{ap, ◌∙◌, inl, inr}
use native.Mathlib.Omega.{arith}
use Rattle.types.specs.Kinds.{pick}
use Rattle.memory.specs.Log.{note_log}
use Rattle.memory.specs.Runs.{Apart}
use Rattle.memory.specs.ByteLaws.{put}
use Rattle.memory.proofs.ByteLaws.{put_length}
use Rattle.memory.specs.LogLaws.{Event}
use Rattle.memory.specs.AccessLaws.{kept}
use Rattle.unfaulted.specs.Closed.{event, told, Piece, laid, writes_of, clock_events}

-- ---- events

-- first some events, then others
pub told_append : (xs ys : List Event) (e : ℕ) (l : List ℕ) → told e l (xs ++ ys) ≡ told (e + length xs) (told e l xs) ys
unfolding told
told_append [] ys e l = let z : e + 0 ≡ e = omega arith in rw z
told_append (x ∷ xs) ys e l =
    let z : e + 1 + length xs ≡ e + suc (length xs) = omega arith in
    rw (← z) (told_append xs ys (e + 1) (note_log e l x.code x.place x.value))

pub length_writes : (q : ℕ) (ps : List Piece) → length (writes_of q ps) ≡ length ps
unfolding writes_of
length_writes q [] = refl
length_writes q (x ∷ xs) = ap (λ (n : ℕ). suc n) (length_writes q xs)

-- clocks are one event at most
pub clocks_small : (k : ℕ) → length (clock_events k) ≤ 1
unfolding clock_events
clocks_small k = go (ltb 0 k)
  where
    go : (t : Bool) → length (pick t (event 5 0 k ∷ []) []) ≤ 1
    go true = omega arith
    go false = omega arith

-- the events one by one, as code writes them
module _ (e : ℕ) (l : List ℕ) (a b : Event) where
  pub told_two : told e l (a ∷ b ∷ []) ≡ note_log (e + 1) (note_log e l a.code a.place a.value) b.code b.place b.value
  unfolding told
  told_two = refl

  pub told_three : (c : Event) → told e l (a ∷ b ∷ c ∷ []) ≡ note_log (e + 2) (told e l (a ∷ b ∷ [])) c.code c.place c.value
  unfolding told
  told_three c = let z : e + 1 + 1 ≡ e + 2 = omega arith in rw z

  pub told_four : (c d : Event) → told e l (a ∷ b ∷ c ∷ d ∷ []) ≡ note_log (e + 3) (told e l (a ∷ b ∷ c ∷ [])) d.code d.place d.value
  unfolding told
  told_four c d = let z : e + 1 + 1 + 1 ≡ e + 3 = omega arith in rw z

  pub told_five : (c d x : Event) → told e l (a ∷ b ∷ c ∷ d ∷ x ∷ []) ≡ note_log (e + 4) (told e l (a ∷ b ∷ c ∷ d ∷ [])) x.code x.place x.value
  unfolding told
  told_five c d x = let z : e + 1 + 1 + 1 + 1 ≡ e + 4 = omega arith in rw z

-- ---- pieces

-- the store keeps its length
pub laid_length : (ps : List Piece) (s : List ℕ) (p : ℕ) → length (laid s p ps) ≡ length s
unfolding laid
laid_length [] s p = refl
laid_length (x ∷ xs) s p =
    laid_length xs (put x.long s (p + x.offset) (kept x.long x.value)) p ∙ put_length x.long s (p + x.offset) (kept x.long x.value)

pub part_apart : (p n o d q m : ℕ) → o + d ≤ n → Apart p n q m → Apart (p + o) d q m
part_apart p n o d q m l (inl h) = inl (omega arith)
part_apart p n o d q m l (inr h) = inr (omega arith)
