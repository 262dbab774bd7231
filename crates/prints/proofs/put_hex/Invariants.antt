use Rattle.std.proofs.Common.{◌≡◌, ◌≤◌, ◌+◌, ◌-◌, ◌*◌, ◌/◌, ◌^◌}
use Rattle.arrayvec.specs.ArrayVec.{array_vec_len}
use Rattle.prints.specs.Prints.{more, hex}
use Rattle.prints.proofs.put_hex.Given as goal

abbrev pub invariant-loop-place : goal.invariant-loop-place
invariant-loop-place g l =
    (l.place ≤ l.digits)
    × (array_vec_len l.out + l.place ≤ g.row.CAP)
    × (l.out.items ≡ more l.initial.out.items (hex (l.digits - l.place) (l.v / 2 ^ (4 * l.place))))
    × (array_vec_len l.out + l.place ≡ array_vec_len l.initial.out + l.digits)
