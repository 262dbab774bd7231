-- The rows of a walk, read back from the buffer that it was lent.
use Rattle.std.specs.Prelude.{◌≡◌, ℕ, zero, suc, ◌+◌, ◌*◌, ◌<◌, ◌≤◌, Bool, true, false, List, [], ◌∷◌, length, ◌==◌, slice_index, slice_set, refl}
use Rattle.std.proofs.Common.{◌∙◌, arith, length-set, get_or-set_same, get_or-set_other}
use Rattle.types.specs.Kinds.{pick}
use Rattle.cpu.specs.declared.Cpu.{Cpu}
use Rattle.memory.specs.declared.Core.{Core}
use Rattle.unwind.specs.declared.returns.Row.{Row}
use Rattle.unwind.specs.Frames.{Sight}
use Rattle.unwind.specs.Returns.{back, Trail, trail, trail_of, put_row, put_rows}
use Rattle.unwind.specs.Unwind.{refusal, sight_of, walk_from}

-- row k of a buffer is its words 4k to 4k + 3
abbrev pub row_at : List ℕ → ℕ → Row
row_at ws k = record { format = slice_index ws (k * 4); status = slice_index ws (k * 4 + 1); address = slice_index ws (k * 4 + 2); offset = slice_index ws (k * 4 + 3) }

-- its rows k to k + n - 1
unfoldable pub rows_from : List ℕ → ℕ → ℕ → List Row
rows_from ws k zero = []
rows_from ws k (suc n) = row_at ws k ∷ rows_from ws (suc k) n

-- what a walk of n reads on a store, whatever buffer it is lent: its rows, and the number that ended it, or 0
unfoldable pub trail_from : Core → List ℕ → ℕ → Trail
trail_from m s n = pick (refusal m (length s) == 0) (trail_of n (sight_of m s) m.cpu) (trail [] (refusal m (length s)))

pub put_length : (ws : List ℕ) (k : ℕ) (r : Row) → length (put_row ws k r) ≡ length ws
unfolding put_row
put_length ws k r = simp length-set

-- a row reads back
pub put_row_lem : (ws : List ℕ) (k : ℕ) (r : Row) → suc k * 4 ≤ length ws → row_at (put_row ws k r) k ≡ r
unfolding put_row
put_row_lem ws k r l =
    let a : List ℕ = slice_set ws (k * 4) r.format in
    let b : List ℕ = slice_set a (k * 4 + 1) r.status in
    let d : List ℕ = slice_set b (k * 4 + 2) r.address in
    let la : length a ≡ length ws = length-set ws (k * 4) r.format in
    let lb : length b ≡ length ws = length-set a (k * 4 + 1) r.status ∙ la in
    let ld : length d ≡ length ws = length-set b (k * 4 + 2) r.address ∙ lb in
    rw (
      get_or-set_other d (k * 4 + 3) (k * 4) r.offset 0 (λ e. omega arith),
      get_or-set_other b (k * 4 + 2) (k * 4) r.address 0 (λ e. omega arith),
      get_or-set_other a (k * 4 + 1) (k * 4) r.status 0 (λ e. omega arith),
      get_or-set_same ws (k * 4) r.format 0 (omega arith),
      get_or-set_other d (k * 4 + 3) (k * 4 + 1) r.offset 0 (λ e. omega arith),
      get_or-set_other b (k * 4 + 2) (k * 4 + 1) r.address 0 (λ e. omega arith),
      get_or-set_same a (k * 4 + 1) r.status 0 (omega (arith, la)),
      get_or-set_other d (k * 4 + 3) (k * 4 + 2) r.offset 0 (λ e. omega arith),
      get_or-set_same b (k * 4 + 2) r.address 0 (omega (arith, lb)),
      get_or-set_same d (k * 4 + 3) r.offset 0 (omega (arith, ld)),
    )

-- words before row k are not touched by it
put_row_before : (ws : List ℕ) (k : ℕ) (r : Row) (j : ℕ) → j < k * 4 → slice_index (put_row ws k r) j ≡ slice_index ws j
unfolding put_row
put_row_before ws k r j l =
    let a : List ℕ = slice_set ws (k * 4) r.format in
    let b : List ℕ = slice_set a (k * 4 + 1) r.status in
    let d : List ℕ = slice_set b (k * 4 + 2) r.address in
    get_or-set_other d (k * 4 + 3) j r.offset 0 (λ e. omega arith) ∙ get_or-set_other b (k * 4 + 2) j r.address 0 (λ e. omega arith)
    ∙ get_or-set_other a (k * 4 + 1) j r.status 0 (λ e. omega arith) ∙ get_or-set_other ws (k * 4) j r.format 0 (λ e. omega arith)

put_rows_before : (rs : List Row) (ws : List ℕ) (k j : ℕ) → j < k * 4 → slice_index (put_rows ws k rs) j ≡ slice_index ws j
unfolding put_rows
put_rows_before [] ws k j l = refl
put_rows_before (r ∷ rs) ws k j l = put_rows_before rs (put_row ws k r) (suc k) j (omega arith) ∙ put_row_before ws k r j l

pub row_before : (rs : List Row) (ws : List ℕ) (k : ℕ) → row_at (put_rows ws (suc k) rs) k ≡ row_at ws k
row_before rs ws k =
    rw (
      put_rows_before rs ws (suc k) (k * 4) (omega arith),
      put_rows_before rs ws (suc k) (k * 4 + 1) (omega arith),
      put_rows_before rs ws (suc k) (k * 4 + 2) (omega arith),
      put_rows_before rs ws (suc k) (k * 4 + 3) (omega arith),
    )

-- a trail of n has at most n rows
pub trail_length : (n : ℕ) (v : Sight) (c : Cpu) → length (trail_of n v c).rows ≤ n
unfolding trail_of
trail_length zero v c = omega arith
trail_length (suc n) v c = go ((back v c).refused == 0) (trail_length n v (back v c).cpu)
  where
    go : (t : Bool) → length (trail_of n v (back v c).cpu).rows ≤ n → length (pick t (trail ((back v c).row ∷ (trail_of n v (back v c).cpu).rows) (trail_of n v (back v c).cpu).refused) (trail [] (back v c).refused)).rows ≤ suc n
    go true h = omega arith
    go false h = omega arith

-- what the walk answers into a buffer that is long enough: the rows of `trail_from`, read back, and its number
pub record Reads (m : Core) (s : List ℕ) (n : ℕ) (ws : List ℕ) : Type 0 where
  pub rows_are : rows_from (walk_from m s n ws).words 0 (walk_from m s n ws).count ≡ (trail_from m s n).rows
  pub refused_is : (walk_from m s n ws).refused ≡ (trail_from m s n).refused
  pub at_most : (walk_from m s n ws).count ≤ n
