-- What rule 3 says of the end of a list, as a test that computes: the walk of the depth gives the rows of the book, and as many returns
-- its values. For any engine, so that a sham can fail it.
use Rattle.std.specs.Prelude.{ℕ, ◌*◌, ◌≡◌, refl, Bool, true, false, ◌&&◌, List, [], ◌∷◌, eqb}
use Rattle.std.proofs.Math.Option.{Option, none, some}
use Rattle.std.proofs.Common.{arith, eq-eqb}
use Rattle.nest.specs.View.{Row}
use Rattle.nest.specs.Nest.{Machine, State, depth, rows, restored_by, restored, Values, Told}
use Rattle.rule3.specs.Checked.{Engine, machine_of}

abbrev same_row : Row → Row → Bool
same_row a b = eqb a.format b.format && (eqb a.status b.status && (eqb a.address b.address && eqb a.offset b.offset))

abbrev same_rows : List Row → List Row → Bool
same_rows [] [] = true
same_rows [] (b ∷ bs) = false
same_rows (a ∷ l) [] = false
same_rows (a ∷ l) (b ∷ bs) = same_row a b && same_rows l bs

abbrev same_number : Option ℕ → Bool
same_number none = true
same_number (some n) = false

abbrev same_value : Values → Values → Bool
same_value a b = eqb a.status b.status && (eqb a.pc b.pc && eqb a.a7 b.a7)

abbrev same_values : List Values → List Values → Bool
same_values [] [] = true
same_values [] (b ∷ bs) = false
same_values (a ∷ l) [] = false
same_values (a ∷ l) (b ∷ bs) = same_value a b && same_values l bs

abbrev gives : Option (List Values) → List Values → Bool
gives none vs = false
gives (some us) vs = same_values us vs

self : (n : ℕ) → eqb n n ≡ true
self n = eq-eqb n n refl

rows_self : (l : List Row) → same_rows l l ≡ true
rows_self [] = refl
rows_self (a ∷ l) = rw (self a.format, self a.status, self a.address, self a.offset, rows_self l)

values_self : (l : List Values) → same_values l l ≡ true
values_self [] = refl
values_self (a ∷ l) = rw (self a.status, self a.pc, self a.a7, values_self l)

module _ (engine : Engine) where
  abbrev M : Machine
  M = machine_of engine

  -- the walk of the depth into a buffer just large enough, and as many returns
  abbrev pub told_test : State M → Bool
  told_test st =
      (same_rows (engine.walk (depth M st) (4 * depth M st) st.rec st.sto).rows (rows st.book)
      && same_number (engine.walk (depth M st) (4 * depth M st) st.rec st.sto).number)
      && gives (restored M (depth M st) st.rec st.sto) (restored_by st.book)

  pub told_tested : (st : State M) → Told M st → told_test st ≡ true
  told_tested st t = rw (t.walked (4 * depth M st) (omega arith), t.returns, rows_self (rows st.book), values_self (restored_by st.book))
