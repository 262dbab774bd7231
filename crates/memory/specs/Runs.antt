-- A run of values stored into a list one after the other: a field in the store, an event in the log.
use Rattle.std.specs.Prelude.{ℕ, zero, suc, ◌+◌, ◌≤◌, ◌<◌, ◌≡◌, refl, ◌⊎◌, List, [], ◌∷◌, length, get_or, set}
use Rattle.std.proofs.Common.{◌∙◌, inl, inr, arith, length-set, get_or-set_same, get_or-set_other}
use Rattle.std.proofs.lemmas.List.Edits.{sets}
use Rattle.std.proofs.lemmas.List.{set_comm}

-- i is not one of the n places from p on
abbrev pub Outside : ℕ → ℕ → ℕ → Type 0
Outside p n i = (i < p) ⊎ (p + n ≤ i)

-- the n places from p on and the m places from q on share none
abbrev pub Apart : ℕ → ℕ → ℕ → ℕ → Type 0
Apart p n q m = (p + n ≤ q) ⊎ (q + m ≤ p)

-- places outside the run keep what they held
pub sets_keeps : (vs l : List ℕ) (p i : ℕ) → Outside p (length vs) i → get_or (sets l p vs) i 0 ≡ get_or l i 0
sets_keeps [] l p i h = refl
sets_keeps (v ∷ vs) l p i (inl h) = sets_keeps vs (set l p v) (suc p) i (inl (omega arith)) ∙ get_or-set_other l p i v 0 (omega arith)
sets_keeps (v ∷ vs) l p i (inr h) = sets_keeps vs (set l p v) (suc p) i (inr (omega arith)) ∙ get_or-set_other l p i v 0 (omega arith)

-- each place of the run holds its value
pub sets_holds : (vs l : List ℕ) (p i : ℕ) → i < length vs → p + length vs ≤ length l → get_or (sets l p vs) (p + i) 0 ≡ get_or vs i 0
sets_holds [] l p i h r = absurd (omega arith)
sets_holds (v ∷ vs) l p zero h r =
    let e : p + zero ≡ p = omega arith in
    rw e (sets_keeps vs (set l p v) (suc p) p (inl (omega arith)) ∙ get_or-set_same l p v 0 (omega arith))
sets_holds (v ∷ vs) l p (suc i) h r =
    let e : p + suc i ≡ suc p + i = omega arith in
    rw e (sets_holds vs (set l p v) (suc p) i (omega arith) (simp length-set (omega arith)))

-- one value outside the run may be stored before it or after it
set_sets : (vs l : List ℕ) (p j x : ℕ) → Outside p (length vs) j → sets (set l j x) p vs ≡ set (sets l p vs) j x
set_sets [] l p j x h = refl
set_sets (v ∷ vs) l p j x (inl h) = rw (set_comm l j p x v (omega arith)) (set_sets vs (set l p v) (suc p) j x (inl (omega arith)))
set_sets (v ∷ vs) l p j x (inr h) = rw (set_comm l j p x v (omega arith)) (set_sets vs (set l p v) (suc p) j x (inr (omega arith)))

-- two runs that share no place may be stored in either order
pub sets_comm : (us vs l : List ℕ) (p q : ℕ) → Apart p (length us) q (length vs) → sets (sets l q vs) p us ≡ sets (sets l p us) q vs
sets_comm [] vs l p q h = refl
sets_comm (u ∷ us) vs l p q (inl h) = rw (← set_sets vs l q p u (inl (omega arith))) (sets_comm us vs (set l p u) (suc p) q (inl (omega arith)))
sets_comm (u ∷ us) vs l p q (inr h) = rw (← set_sets vs l q p u (inr (omega arith))) (sets_comm us vs (set l p u) (suc p) q (inr (omega arith)))
