-- What a caller of the walk sees, as the rows of the nest.
use Rattle.std.specs.Prelude.{ℕ, ◌+◌, ◌*◌, ◌≤◌, ◌≡◌, refl, Bool, true, false, List, [], map, eqb, ltb, length}
use Rattle.std.proofs.Common.{ap, ◌∙◌, arith, ltb-false}
use Rattle.std.proofs.Math.Option.{Option, none, some}
use Rattle.types.specs.Kinds.{pick}
use Rattle.memory.specs.declared.Core.{Core}
use Rattle.unwind.specs.declared.returns.Row.{Row}
use Rattle.unwind.specs.Returns.{Trail, trail_of, put_rows, Walk, walk, laid, walk_of}
use Rattle.unwind.specs.Rows.{rows_from, trail_length}
use Rattle.unwind.proofs.Rows.{rows_back}
use Rattle.unwind.specs.Unwind.{refusal, sight_of, short_rows, walk_from}
use Rattle.nest.specs.View.{Row as NestRow}
use Rattle.nest.specs.Nest.{Walked}
use Rattle.rule3.specs.Taken.{row_here}

abbrev pub numbered : ℕ → Option ℕ
numbered n = pick (eqb n 0) none (some n)

abbrev pub rows_here : List Row → List NestRow
rows_here rs = map row_here rs

-- what a caller of the walk sees: the rows counted, read from the buffer, and the number
unfoldable pub told : Walk → Walked
told x = record { rows = rows_here (rows_from x.words 0 x.count); number = numbered x.refused }

-- what a walk tells, without the buffer: its words are not looked at, only how many there are
unfoldable pub tale : Core → List ℕ → ℕ → ℕ → Walked
tale m s n w =
    pick (eqb (refusal m (length s)) 0)
    (pick (short_rows n w) (record { rows = []; number = some 10 })
    (record { rows = rows_here (trail_of n (sight_of m s) m.cpu).rows; number = numbered (trail_of n (sight_of m s) m.cpu).refused }))
    (record { rows = []; number = numbered (refusal m (length s)) })

pub walk_tells : (m : Core) (s : List ℕ) (n : ℕ) (ws : List ℕ) → told (walk_from m s n ws) ≡ tale m s n (length ws)
unfolding walk_from tale told walk_of laid rows_from short_rows
walk_tells m s n ws = go (eqb (refusal m (length s)) 0) (ltb (length ws) (n * 4)) refl
  where
    t : Trail
    t = trail_of n (sight_of m s) m.cpu

    count : 0 + length t.rows ≡ length t.rows
    count = omega arith

    enough : n * 4 ≤ length ws → (0 + length t.rows) * 4 ≤ length ws
    enough h = omega (arith, h, trail_length n (sight_of m s) m.cpu)

    go : (b d : Bool) → ltb (length ws) (n * 4) ≡ d
        → told (pick b (pick d (walk 10 0 ws) (laid ws 0 t)) (walk (refusal m (length s)) 0 ws))
        ≡ pick b (pick d (record { rows = []; number = some 10 }) (record { rows = rows_here t.rows; number = numbered t.refused })) (record { rows = []; number = numbered (refusal m (length s)) })
    go false d e = refl
    go true true e = refl
    go true false e = ap (λ (rs : List NestRow). record { rows = rs; number = numbered t.refused }) (ap rows_here (ap (rows_from (put_rows ws 0 t.rows) 0) count ∙ rows_back t.rows ws 0 (enough (ltb-false (length ws) (n * 4) e))))
