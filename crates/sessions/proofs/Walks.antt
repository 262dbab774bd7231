-- The rows of a walk, printed from the buffer that the walk was lent.
use Prim.Native.Nat.{ℕ, suc, ◌+◌, ◌-◌, ◌*◌, ◌<◌, ◌≤◌}
use mathlib.Core.Path.{◌≡◌, refl, sym, ap, ◌∙◌}
use mathlib.Core.List.{List, append-nil}
use native.Mathlib.Omega.{arith}
use native.Mathlib.Numerals.{add-one}
use borrow.Author.Tests.{eq-eqb, ne_eqb, lt-ltb, le-ltb}
use lib.ListN.{length}
use Rattle.memory.specs.declared.Core.{Core}
use Rattle.unwind.specs.Returns.{Walk, walk}
use Rattle.unwind.specs.Unwind.{walk_from}
use Rattle.unwind.specs.Rows.{row_at, rows_from, trail_from, Reads}
use Rattle.unwind.proofs.Rows.{walk_reads}
use Rattle.prints.specs.Prints.{more, refused_line}
use Rattle.prints.specs.Laws.{more_more, more_none}
use Rattle.sessions.specs.Walks.{row_text, row_texts, refusal_text, walk_text, walked}

-- rows k to n - 1 are left, after what is printed of those before
pub rows_start : (b ws : List ℕ) (n : ℕ) → more b (row_texts (rows_from ws 0 (n - 0))) ≡ more b (row_texts (rows_from ws 0 n))
rows_start b ws n =
    let e : n - 0 ≡ n = omega arith in
    ap (λ (k : ℕ). more b (row_texts (rows_from ws 0 k))) e

pub rows_go : (b u ws x : List ℕ) (k n : ℕ) → k < n → more b (row_texts (rows_from ws k (n - k))) ≡ x → u ≡ more b (row_text (row_at ws k))
    → more u (row_texts (rows_from ws (k + 1) (n - (k + 1)))) ≡ x
unfolding row_texts rows_from
rows_go b u ws x k n l e f =
    let j : ℕ = n - (k + 1) in
    let s : n - k ≡ suc j = omega arith in
    let t : k + 1 ≡ suc k = add-one k in
    ap (λ (i : ℕ). more u (row_texts (rows_from ws i j))) t
    ∙ more_more b u (more u (row_texts (rows_from ws (suc k) j))) (row_text (row_at ws k)) (row_texts (rows_from ws (suc k) j)) f refl
    ∙ ap (λ (i : ℕ). more b (row_texts (rows_from ws k i))) (sym s)
    ∙ e

pub rows_end : (b ws x : List ℕ) (k n : ℕ) → n ≤ k → more b (row_texts (rows_from ws k (n - k))) ≡ x → b ≡ x
unfolding row_texts rows_from
rows_end b ws x k n l e =
    let z : n - k ≡ 0 = omega arith in
    sym (more_none b) ∙ ap (λ (i : ℕ). more b (row_texts (rows_from ws k i))) (sym z) ∙ e

-- the walk, of which x is the answer and v the buffer
module _ (m : Core) (s ws v : List ℕ) (n refused count : ℕ) (room : n * 4 ≤ length ws) (e : walk refused count v ≡ walk_from m s n ws) where
  reads : Reads m s n ws
  reads = walk_reads m s n ws room

  pub count_is : count ≤ n
  count_is = let h : (walk_from m s n ws).count ≤ n = reads.at_most in rw (ap (λ (x : Walk). x.count) (sym e)) at h

  rows_are : rows_from v 0 count ≡ (trail_from m s n).rows
  rows_are = ap (λ (x : Walk). rows_from x.words 0 x.count) e ∙ reads.rows_are

  refused_is : refused ≡ (trail_from m s n).refused
  refused_is = ap (λ (x : Walk). x.refused) e ∙ reads.refused_is

  pub walk_quiet : (b u : List ℕ) → u ≡ more b (row_texts (rows_from v 0 count)) → refused ≡ 0 → u ≡ more b (walk_text m s n)
  unfolding walk_text refusal_text
  walk_quiet b u f z = f ∙ rw (← rows_are, ← refused_is, eq-eqb refused 0 z, append-nil)

  pub walk_refused : (b u t : List ℕ) → u ≡ more b (row_texts (rows_from v 0 count)) → ¬ (refused ≡ 0) → t ≡ more u (refused_line refused) → t ≡ more b (walk_text m s n)
  unfolding walk_text refusal_text
  walk_refused b u t f z g = rw (← rows_are, ← refused_is, ne_eqb refused 0 z) (more_more b u t _ _ f g)

pub walk_many : (m : Core) (s b u : List ℕ) (n : ℕ) → 4096 < n → u ≡ more b (refused_line 14) → u ≡ more b (walked m s n)
unfolding walked
walk_many m s b u n h f = rw (lt-ltb 4096 n h) f

pub walk_few : (m : Core) (s b u : List ℕ) (n : ℕ) → n ≤ 4096 → u ≡ more b (walk_text m s n) → u ≡ more b (walked m s n)
unfolding walked
walk_few m s b u n h f = rw (le-ltb 4096 n h) f
