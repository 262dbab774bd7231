-- Theorems about what specs/Rule3 defines, and what rests on them.
use Prim.Native.Nat.{ℕ, ◌*◌, ◌≤◌}
use Rattle.std.proofs.Math.Path.{◌≡◌}
use Rattle.std.proofs.Common.{◌∙◌}
use Rattle.std.specs.Prelude.{List, length}
use Rattle.std.proofs.Math.Option.{none}
use Rattle.unwind.specs.Unwind.{walk_from}
use Rattle.nest.specs.Nest.{State, depth, rows, Told, Rule3}
use Rattle.entered.proofs.Rule3.{nest}
use Rattle.rule3.specs.Rows.{told}
use Rattle.rule3.specs.Rule3.{core_of, give_back, walk, Real, walk_any, return_law, stays_law, walks_law}

-- DEMAND 3, with no hypothesis
pub rule3 : Rule3 Real
rule3 = nest give_back walk (record { returns = return_law; stays_inside = λ r r' s. stays_law r s r'; walks = walks_law })

-- part (a) for every buffer that number 10 does not refuse, whatever it held
pub any_buffer : (st : State Real) → Told Real st → (ws : List ℕ) → 4 * depth Real st ≤ length ws
    → told (walk_from (core_of st.rec st.sto) st.sto.bytes (depth Real st) ws) ≡ record { rows = rows st.book; number = none }
any_buffer st t ws l = walk_any (depth Real st) ws st.rec st.sto ∙ t.walked (length ws) l
