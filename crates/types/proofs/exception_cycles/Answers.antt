use mathlib.Core.Path.{refl, sym}
use mathlib.Core.Bool.{Bool}
use Prim.Native.Nat.{ℕ}
use mathlib.Core.List.{List, ◌∷◌, ◌++◌}
use lib.ListN.{replicate}
use lib.Dec.{eqb}
use borrow.Author.Tests.{eqb-true}
use Rattle.types.specs.Tables.{exception_cycles}
use Rattle.types.specs.Past.{cycles_past}
use Rattle.types.specs.Every.{at}
use Rattle.types.proofs.exception_cycles.Goals as goal

-- `types::exception_cycles` meets its contract: the table's rule is one test over its 256 entries.

table : List ℕ
table =
    40 ∷ 40 ∷ 50 ∷ 50 ∷ 34 ∷ 38 ∷ 40 ∷ (replicate 17 34 ++ (replicate 8 44 ++ replicate 224 34))

right : ℕ → ℕ → Bool
right k x = eqb x (exception_cycles k)

pub returns-then-vector-ge256 : goal.returns-then-vector-ge256
returns-then-vector-ge256 c = sym (cycles_past _ c.if-vector-ge256.true)

pub returns : goal.returns
unfolding right table exception_cycles
returns c = eqb-true _ _ (at 0 right table refl c.args.vector c.if-vector-ge256.false)
