-- What rests on `levels`, in a file of its own: an edit of `levels` is judged by it.
use Rattle.std.proofs.Common.{sym, ◌∙◌}
use Rattle.access.specs.Access.{bus_error, address_error, trigger}
use Rattle.bounds.specs.Levels.{Unrolls, level_unrolls}
use Rattle.bounds.proofs.Levels.{levels}

-- `again`: with two levels a trigger is what the recursion says, with itself inside and no level
pub again : Unrolls (trigger 2) (trigger 2)
again = record { bus = λ w a wr i z d. sym (levels 1 w (bus_error a wr i z) d) ∙ (level_unrolls 2).bus w a wr i z d; address = λ w a wr i d. sym (levels 1 w (address_error a wr i) d) ∙ (level_unrolls 2).address w a wr i d }
