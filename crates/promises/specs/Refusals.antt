-- REFUSALS: what each number says, which number is answered, and that a refused call touches nothing.
use Prim.Native.Nat.{ℕ, zero, suc, ◌+◌, ◌-◌, ◌^◌, ◌≤◌, ◌<◌}
use Rattle.std.specs.Prelude.{◌≡◌, Bool, not, List, [], ◌∷◌, ◌⊎◌, ◌↔◌, leb, ltb, ℤ, pos, negsuc, ◌<ℤ◌, length, get_or}
use Rattle.std.proofs.Math.Path.{refl}
use Rattle.std.proofs.Common.{sym, ◌∙◌, subst, inl, inr, ⊎_elim, arith, leb-true, leb-false, eqb-true, eq-eqb, ltb-true, lt-ltb, ltb→lt, lt→ltb}
use Rattle.std.proofs.Math.Bool.{true, false}
use Rattle.std.proofs.Math.Dec.{eqb}
use Rattle.types.specs.Kinds.{either, both}
use Rattle.pending.specs.Interrupts.{has_room}
use Rattle.memory.specs.declared.Bus.{Bus}
use Rattle.memory.specs.World.{World}
use Rattle.bounds.specs.Levels.{clash}
use Rattle.refusals.specs.Refusals.{past_top, any_past, tests_of}
use Rattle.refusals.specs.Laws.{outcomes, place_from, refusal_place}
use Rattle.answers.specs.declared.Call.{Call}
use Rattle.answers.specs.Matters.{matter_of}
use Rattle.calls.specs.Calls.{refusal}

-- ---- which number

-- the tests of a call on a world
abbrev pub tested : World → Call → List Bool
tested w c = outcomes (tests_of w.core (length w.store) (length w.log) (matter_of c))

-- condition n: 1 to 9 are the tests, and there is no other
abbrev pub numbered : World → Call → List Bool
numbered w c = false ∷ tested w c

abbrev pub holds : World → Call → ℕ → Bool
holds w c n = get_or (numbered w c) n false

-- the first test that holds, counted from i: it is true, and those before it are not
found : (i : ℕ) (bs : List Bool) (n : ℕ) → 0 < n → place_from i bs ≡ n → (i ≤ n) × (get_or bs (n - i) false ≡ true) × ((m : ℕ) → m < n - i → get_or bs m false ≡ false)
unfolding place_from
found i [] n p e = absurd (omega arith)
found i (true ∷ bs) n p e = let z : 0 ≡ n - i = omega arith in (omega arith, subst (λ x. get_or (true ∷ bs) x false ≡ true) z refl, λ m h. absurd (omega arith))
found i (false ∷ bs) n p e =
    let r = found (suc i) bs n p e in
    let q : suc i ≤ n = r.0 in
    let z : suc (n - suc i) ≡ n - i = omega arith in
    (omega arith, subst (λ x. get_or (false ∷ bs) x false ≡ true) z r.1, below r.2 (omega arith))
  where
    below : {j k : ℕ} → ((m : ℕ) → m < j → get_or bs m false ≡ false) → k ≡ suc j → (m : ℕ) → m < k → get_or (false ∷ bs) m false ≡ false
    below f z zero h = refl
    below f z (suc m) h = f m (omega arith)

-- and so a test that holds with none before it is the first
lowest : (i : ℕ) (bs : List Bool) (n : ℕ) → get_or bs n false ≡ true → ((m : ℕ) → m < n → get_or bs m false ≡ false) → place_from i bs ≡ i + n
unfolding place_from
lowest i [] n h f = clash {b = false} h refl
lowest i (true ∷ bs) zero h f = omega arith
lowest i (true ∷ bs) (suc n) h f = clash {b = true} refl (f zero (omega arith))
lowest i (false ∷ bs) zero h f = clash {b = false} h refl
lowest i (false ∷ bs) (suc n) h f = let r : place_from (suc i) bs ≡ suc i + n = lowest (suc i) bs n h (λ m k. f (suc m) (omega arith)) in omega arith

-- none holds
empty : (i : ℕ) (bs : List Bool) → 0 < i → place_from i bs ≡ 0 → (m : ℕ) → get_or bs m false ≡ false
unfolding place_from
empty i [] p e m = refl
empty i (true ∷ bs) p e m = absurd (omega arith)
empty i (false ∷ bs) p e zero = refl
empty i (false ∷ bs) p e (suc m) = empty (suc i) bs (omega arith) e m

barren : (i : ℕ) (bs : List Bool) → ((m : ℕ) → get_or bs m false ≡ false) → place_from i bs ≡ 0
unfolding place_from
barren i [] f = refl
barren i (true ∷ bs) f = clash {b = true} refl (f zero)
barren i (false ∷ bs) f = barren (suc i) bs (λ m. f (suc m))

module _ (w : World) (c : Call) where
  place_is : refusal w c ≡ place_from 0 (numbered w c)
  unfolding refusal place_from
  place_is = refusal_place w.core (length w.store) (length w.log) (matter_of c)

  -- THE NUMBER is n exactly if condition n holds and none below it does
  pub refusal_exact : (n : ℕ) → 0 < n → (refusal w c ≡ n) ↔ ((holds w c n ≡ true) × ((m : ℕ) → m < n → holds w c m ≡ false))
  refusal_exact n p = (down, λ h. place_is ∙ lowest 0 (numbered w c) n h.0 h.1 ∙ omega arith)
    where
      down : refusal w c ≡ n → (holds w c n ≡ true) × ((m : ℕ) → m < n → holds w c m ≡ false)
      down e =
          let r = found 0 (numbered w c) n p (sym place_is ∙ e) in
          let z : n - 0 ≡ n = omega arith in
          (subst (λ x. get_or (numbered w c) x false ≡ true) z r.1, λ m h. r.2 m (omega arith))

  -- and 0 exactly if none holds
  pub refusal_none : (refusal w c ≡ 0) ↔ ((m : ℕ) → holds w c m ≡ false)
  unfolding place_from
  refusal_none = (down, λ f. place_is ∙ barren 0 (numbered w c) f)
    where
      down : refusal w c ≡ 0 → (m : ℕ) → holds w c m ≡ false
      down e zero = refl
      down e (suc m) = empty 1 (tested w c) (omega arith) (sym place_is ∙ e) m

-- ---- what each number says

-- tests and what they decide
pub self_is : (b : Bool) → (b ≡ true) ↔ (b ≡ true)
self_is b = (λ h. h, λ h. h)

pub eqb_is : (m n : ℕ) → (eqb m n ≡ true) ↔ (m ≡ n)
eqb_is m n = (eqb-true m n, eq-eqb m n)

pub ltb_is : (m n : ℕ) → (ltb m n ≡ true) ↔ (m < n)
ltb_is m n = (ltb-true m n, lt-ltb m n)

pub not_is : {A : Type 0} (a : Bool) → (a ≡ true) ↔ A → (not a ≡ true) ↔ (A → ⊥)
not_is true p = (λ h. clash {b = false} h refl, λ h. absurd (h (p.0 refl)))
not_is false p = (λ h x. clash {b = false} (p.1 x) refl, λ h. refl)

pub both_is : {A B : Type 0} (a b : Bool) → (a ≡ true) ↔ A → (b ≡ true) ↔ B → (both a b ≡ true) ↔ (A × B)
both_is true b p q = (λ h. (p.0 refl, q.0 h), λ h. q.1 h.1)
both_is false b p q = (λ h. clash {b = false} h refl, λ h. p.1 h.0)

pub either_is : {A B : Type 0} (a b : Bool) → (a ≡ true) ↔ A → (b ≡ true) ↔ B → (either a b ≡ true) ↔ (A ⊎ B)
either_is true b p q = (λ h. inl (p.0 refl), λ h. refl)
either_is false b p q = (λ h. inr (q.0 h), ⊎_elim (λ x. clash {b = false} (p.1 x) refl) (λ y. q.1 y))

-- too few cycles to charge 46
pub below_is : (n : ℤ) → (not (has_room n) ≡ true) ↔ (n <ℤ negsuc 2147483601)
below_is (pos n) = (λ h. clash {b = false} h refl, λ h. absurd h.lt)
below_is (negsuc n) = go (leb n 2147483601) refl
  where
    go : (b : Bool) → leb n 2147483601 ≡ b → (not b ≡ true) ↔ (negsuc n <ℤ negsuc 2147483601)
    go true e = (λ h. clash {b = false} h refl, λ h. let l : 2147483601 < n = ltb→lt 2147483601 n h.lt in let m : n ≤ 2147483601 = leb-true n 2147483601 e in absurd (omega arith))
    go false e = (λ h. record { lt = lt→ltb 2147483601 n (leb-false n 2147483601 e) }, λ h. refl)

ne_lt : (k n : ℕ) → k < suc n → (k ≡ n → ⊥) → k < n
ne_lt k n h e = omega arith

-- one of the first n windows ends past 2^32
abbrev pub Past : Bus → ℕ → Type 0
Past b n = (k : ℕ) × (k < n) × (2 ^ 32 < get_or b.starts k 0 + get_or b.lengths k 0)

past_next : (b : Bus) (n : ℕ) (t : Bool) → past_top b n ≡ t → (any_past b n ≡ true) ↔ Past b n → (either t (any_past b n) ≡ true) ↔ Past b (suc n)
unfolding past_top
past_next b n true e p = (λ h. (n, omega arith, ltb-true _ _ e), λ h. refl)
past_next b n false e p = (down, up)
  where
    down : any_past b n ≡ true → Past b (suc n)
    down h = let r = p.0 h in (r.0, (let z : r.0 < n = r.1 in omega arith), r.2)

    up : Past b (suc n) → any_past b n ≡ true
    up h = p.1 (h.0, ne_lt h.0 n h.1 (λ q. clash (lt-ltb _ _ (subst (λ k. 2 ^ 32 < get_or b.starts k 0 + get_or b.lengths k 0) q h.2)) e), h.2)

pub any_is : (b : Bus) (n : ℕ) → (any_past b n ≡ true) ↔ Past b n
unfolding any_past
any_is b zero = (λ h. clash {b = false} h refl, λ h. let z : h.0 < 0 = h.1 in absurd (omega arith))
any_is b (suc n) = past_next b n (past_top b n) refl (any_is b n)
