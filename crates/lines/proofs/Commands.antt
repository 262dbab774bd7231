-- Laws of the commands: a line by its name, the field after it, the two fields of `long`.
use Rattle.std.proofs.Common.{◌≡◌, ◌≤◌, ◌<◌, ◌+◌, ◌-◌, ℕ, Bool, true, false, List, [], ◌∷◌, Option, Some, None, ◌&&◌, MatchOption, IsSomeAnd, HoldsAt, option_map, add-one, length, take, drop, eqb, refl, sym, ap, ◌∙◌, arith, eq-eqb, ne_eqb, take_all, length-drop, drop_of_length-le}
use Rattle.std.specs.List.{AllWithin}
use Rattle.std.specs.Option.{unwrap_or}
use Rattle.std.proofs.lemmas.Iterator.{index_from_first}
use lib.Pointwise.{pointwise}
use Rattle.types.specs.Kinds.{pick}
use Rattle.lines.specs.Numbers.{number_of}
use Rattle.lines.specs.declared.Command.{Command}
use Rattle.lines.specs.declared.Command.TheVariants.{Long, Ret}
use Rattle.lines.specs.Commands.{ret_name, starts_with, space_in, long_in, long_fields, ret_in}

-- std's test of a name
begins : (n s : List ℕ) → pointwise eqb (take (length n) s) n ≡ starts_with n s
unfolding starts_with
begins [] s = refl
begins (a ∷ n) [] = refl
begins (a ∷ n) (b ∷ s) = go (begins n s) (eqb b a)
  where
    go : pointwise eqb (take (length n) s) n ≡ starts_with n s → (t : Bool) → (t && pointwise eqb (take (length n) s) n) ≡ pick t (starts_with n s) false
    go e true = e
    go e false = refl

-- the line has this name, or another
pub named : {X : Type 0} (n s : List ℕ) {x z : X} (y : X) → pointwise eqb (take (length n) s) n ≡ true → z ≡ x → z ≡ pick (starts_with n s) x y
named n s y e g = rw (sym (begins n s) ∙ e) g

pub later : {X : Type 0} (n s : List ℕ) (x : X) {y z : X} → pointwise eqb (take (length n) s) n ≡ false → z ≡ y → z ≡ pick (starts_with n s) x y
later n s x e g = rw (sym (begins n s) ∙ e) g

-- a command of one field
pub made : (make : ℕ → Command) (o p : Option ℕ) (r : Option Command) → MatchOption o (r ≡ None) (λ x. IsSomeAnd r (λ y. y ≡ make x)) → o ≡ p → r ≡ option_map make p
made make o p r h e = go o h ∙ ap (option_map make) e
  where
    go : (q : Option ℕ) → MatchOption q (r ≡ None) (λ x. IsSomeAnd r (λ y. y ≡ make x)) → r ≡ option_map make q
    go None k = k
    go (Some x) k = some r k
      where
        some : (t : Option Command) → IsSomeAnd t (λ y. y ≡ make x) → t ≡ Some (make x)
        some None l = absurd l
        some (Some y) l = ap Some l

-- `ret` is the whole line
ret_whole : (s : List ℕ) → ret_in s ≡ pick (pointwise eqb s ret_name) (Some Ret) None
unfolding ret_in starts_with
ret_whole [] = refl
ret_whole (a ∷ []) = grind arith
ret_whole (a ∷ b ∷ []) = grind arith
ret_whole (a ∷ b ∷ c ∷ []) = grind arith
ret_whole (a ∷ b ∷ c ∷ d ∷ s) = grind arith

pub ret_eq : (s t : List ℕ) (b v : Bool) → t ≡ ret_name → b ≡ pointwise eqb s t → b ≡ v → pick v (Some Ret) None ≡ ret_in s
ret_eq s t b v h e f = ap (λ (u : Bool). pick u (Some Ret) None) (sym f ∙ e ∙ ap (pointwise eqb s) h) ∙ sym (ret_whole s)

-- the first space
space_hit : (b : ℕ) (l : List ℕ) → b ≡ 32 → space_in (b ∷ l) ≡ 0
unfolding space_in
space_hit b l e = rw (eq-eqb b 32 e)

space_miss : (b : ℕ) (l : List ℕ) → ¬ (b ≡ 32) → space_in (b ∷ l) ≡ space_in l + 1
unfolding space_in
space_miss b l e = rw (ne_eqb b 32 e, add-one)

space_none : space_in [] ≡ 0
unfolding space_in
space_none = refl

pub space_first : (s : List ℕ) (r : Option ℕ) → MatchOption r (AllWithin (λ b. ¬ (b ≡ 32)) s 0 (length s)) (λ i. (i < length s) × HoldsAt (λ b. b ≡ 32) s i × AllWithin (λ b. ¬ (b ≡ 32)) s 0 i) → space_in s ≡ unwrap_or r (length s)
space_first s r h = index_from_first space_in (λ b. b ≡ 32) (λ b. ¬ (b ≡ 32)) space_none space_hit space_miss s r h

-- the fields of `long`
long_half : (o p : Option ℕ) → p ≡ None → None ≡ long_in o p
unfolding long_in
long_half None p e = refl
long_half (Some a) p e = rw e

pub long_none : (s : List ℕ) → space_in s ≡ length s → None ≡ long_fields s
unfolding long_fields number_of
long_none s e =
    let h : length s ≤ space_in s + 1 = omega arith in
    long_half _ _ (rw (drop_of_length-le s h))

module _ (s : List ℕ) (k : ℕ) (e : space_in s ≡ k) where
  pub long_bad_address : None ≡ number_of 16 8 (take k s) → None ≡ long_fields s
  unfolding long_fields long_in
  long_bad_address h = rw (e, ← h)

  pub long_bad_value : None ≡ number_of 16 8 (drop (k + 1) s) → None ≡ long_fields s
  unfolding long_fields
  long_bad_value h = rw e (long_half _ _ (sym h))

  pub long_good : (a v : ℕ) → Some a ≡ number_of 16 8 (take k s) → Some v ≡ number_of 16 8 (drop (k + 1) s) → Some (Long a v) ≡ long_fields s
  unfolding long_fields long_in
  long_good a v h g = rw (e, ← h, ← g)

-- the bytes after a place
pub rest : (s : List ℕ) (k : ℕ) → take (length s - k) (drop k s) ≡ drop k s
rest s k = take_all (length s - k) (drop k s) (rw length-drop (omega arith))
