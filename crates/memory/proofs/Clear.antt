-- One window that holds a byte of an access, among the first j.
use Rattle.std.specs.Prelude.{◌≡◌, refl, ℕ, zero, suc, ◌<◌, Bool, true, false}
use Rattle.std.proofs.Common.{arith}
use Rattle.types.specs.Kinds.{pick}
use Rattle.memory.specs.declared.Bus.{Bus}
use Rattle.memory.specs.Served.{meets, clear_of}

either_way : (t : Bool) → pick t false false ≡ false
either_way true = refl
either_way false = refl

pub met : (b : Bus) (j k a n : ℕ) → k < j → meets b k a n ≡ true → clear_of b j a n ≡ false
unfolding clear_of
met b zero k a n h t = absurd (omega arith)
met b (suc j) k a n h t = grind (arith, either_way, met b j k a n)
