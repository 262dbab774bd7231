-- Rows k to n - 1 are left, after what is printed of those before.
use Rattle.std.proofs.Common.{◌≡◌, ◌≤◌, ◌+◌, ◌-◌, ◌*◌}
use Rattle.arrayvec.specs.ArrayVec.{array_vec_len}
use Rattle.unwind.specs.Rows.{rows_from}
use Rattle.prints.specs.Prints.{more}
use Rattle.sessions.specs.Walks.{row_texts}
use Rattle.sessions.proofs.row_lines.Given as goal

abbrev pub invariant-loop-k : goal.invariant-loop-k
invariant-loop-k l =
    (array_vec_len l.out ≤ array_vec_len l.initial.out + l.k * 20)
    × (more l.out.items (row_texts (rows_from l.rows l.k (l.n - l.k))) ≡ more l.initial.out.items (row_texts (rows_from l.rows 0 l.n)))
