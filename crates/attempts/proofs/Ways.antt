-- The call on a lent record by value: from what each step ensures.
use Prim.Native.Nat.{ℕ}
use mathlib.Core.Path.{◌≡◌, ap, ◌∙◌}
use mathlib.Core.List.{List}
use Rattle.memory.specs.declared.Core.{Core}
use Rattle.unwind.specs.Models.{Returned}
use Rattle.unwind.specs.Unwind.{return_from}
use Rattle.records.specs.declared.LentCore.{LentCore}
use Rattle.records.specs.Records.{raised}
use Rattle.attempts.specs.Lent.{record_after, served_return, returned_by, lent_return}

pub served_way : (c : LentCore) (s : List ℕ) (m : Core) (y : Returned) → m ≡ raised c → y ≡ return_from m s → served_return (record_after c y.refused y.core) (record { refused = y.refused; row = y.row }) ≡ lent_return c s
unfolding lent_return returned_by
served_way c s m y h0 h1 = ap (returned_by c) h1 ∙ ap (λ m. returned_by c (return_from m s)) h0
