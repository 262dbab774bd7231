-- Theorems about what specs/Rows defines, and what rests on them.
use Rattle.std.specs.Prelude.{◌≡◌, ℕ, suc, ◌+◌, ◌*◌, ◌≤◌, Bool, true, false, List, [], ◌∷◌, length, ◌==◌, refl}
use Rattle.std.proofs.Common.{ap, ◌∙◌, arith, le-ltb}
use Rattle.memory.specs.declared.Core.{Core}
use Rattle.unwind.specs.declared.returns.Row.{Row}
use Rattle.unwind.specs.Returns.{Trail, trail_of, put_row, put_rows, laid, walk_of}
use Rattle.unwind.specs.Unwind.{refusal, sight_of, short_rows, walk_from}
use Rattle.unwind.specs.Rows.{rows_from, trail_from, put_length, put_row_lem, row_before, trail_length, Reads}

-- rows laid into a buffer that is long enough read back
pub rows_back : (rs : List Row) (ws : List ℕ) (k : ℕ) → (k + length rs) * 4 ≤ length ws → rows_from (put_rows ws k rs) k (length rs) ≡ rs
unfolding rows_from put_rows
rows_back [] ws k l = refl
rows_back (r ∷ rs) ws k l =
    let e : length (put_row ws k r) ≡ length ws = put_length ws k r in
    rw (row_before rs (put_row ws k r) k, put_row_lem ws k r (omega arith), rows_back rs (put_row ws k r) (suc k) (omega (arith, e)))

pub walk_reads : (m : Core) (s : List ℕ) (n : ℕ) (ws : List ℕ) → n * 4 ≤ length ws → Reads m s n ws
unfolding walk_from trail_from walk_of laid short_rows rows_from
walk_reads m s n ws l = go (refusal m (length s) == 0) refl
  where
    t : Trail
    t = trail_of n (sight_of m s) m.cpu

    count : 0 + length t.rows ≡ length t.rows
    count = omega arith

    enough : (0 + length t.rows) * 4 ≤ length ws
    enough = omega (arith, l, trail_length n (sight_of m s) m.cpu)

    go : (b : Bool) → (refusal m (length s) == 0) ≡ b → Reads m s n ws
    go true e =
        record {
          rows_are = rw (e, le-ltb (length ws) (n * 4) l) (ap (rows_from (put_rows ws 0 t.rows) 0) count ∙ rows_back t.rows ws 0 enough);
          refused_is = rw (e, le-ltb (length ws) (n * 4) l);
          at_most = rw (e, le-ltb (length ws) (n * 4) l) (omega (arith, trail_length n (sight_of m s) m.cpu));
        }
    go false e = record { rows_are = rw e; refused_is = rw e; at_most = rw e (omega arith) }
