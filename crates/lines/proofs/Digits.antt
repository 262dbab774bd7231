-- Laws of `number`: its digits are those of std, and one digit more.
use Rattle.std.proofs.Common.{◌≡◌, ◌≤◌, ◌<◌, ◌⊎◌, ◌+◌, ◌*◌, ◌^◌, ℕ, suc, Bool, true, false, List, Option, Some, None, length, get_or, drop, eqb, ltb, refl, sym, ◌∙◌, arith, add-one, lt-ltb, le-ltb, le-leb, inl, inr, ltb-true, ltb-false, eq-eqb, ne_eqb, drop-cons, drop_of_length-le}
use Rattle.std.proofs.lemmas.Bool.{lt-leb}
use native.Mathlib.Nat.{mul-le-mul_left, pow-suc, pow-le-pow_right}
use Rattle.std.specs.Char.{digit_value}
use Rattle.types.specs.Kinds.{pick}
use Rattle.lines.specs.Numbers.{digit_of, reading, number_of}

-- std's digits below 16 are ours; what is larger in std, or no digit, is 16
pub small_digit : (b : ℕ) → digit_value b < 16 → digit_of b ≡ digit_value b
unfolding digit_of
small_digit b h = grind arith

pub large_digit : (b : ℕ) → 16 ≤ digit_value b → digit_of b ≡ 16
unfolding digit_of
large_digit b h = grind arith

not_below : (b base : ℕ) → base ≤ 16 → ¬ (digit_value b < base) → base ≤ digit_of b
not_below b base l n = go (ltb (digit_value b) 16) refl
  where
    go : (t : Bool) → ltb (digit_value b) 16 ≡ t → base ≤ digit_of b
    go true e = omega (arith, small_digit b (ltb-true (digit_value b) 16 e))
    go false e = omega (arith, large_digit b (ltb-false (digit_value b) 16 e))

-- a number
module _ (base limit : ℕ) (s : List ℕ) where
  pub number_none : (length s ≡ 0) ⊎ (limit < length s) → None ≡ number_of base limit s
  unfolding number_of
  number_none (inl h) = rw (eq-eqb (length s) 0 h)
  number_none (inr l) = go (eqb (length s) 0)
    where
      go : (t : Bool) → None ≡ pick t None (pick (ltb limit (length s)) None (reading base 0 s))
      go true = refl
      go false = rw (lt-ltb limit (length s) l)

  pub number_read : ¬ (length s ≡ 0) → length s ≤ limit → reading base 0 s ≡ number_of base limit s
  unfolding number_of
  number_read h l = rw (ne_eqb (length s) 0 h, le-ltb limit (length s) l)

module _ (base v i : ℕ) (s : List ℕ) (r : Option ℕ) (b : base ≤ 16) (inv : reading base v (drop i s) ≡ r) (h : i < length s) where
  pub read_stops : ¬ (digit_value (get_or s i 0) < base) → None ≡ r
  unfolding reading
  read_stops n =
      let q : base ≤ digit_of (get_or s i 0) = not_below (get_or s i 0) base b n in
      let z : reading base v (drop i s) ≡ None = rw (drop-cons s i 0 h, le-leb base (digit_of (get_or s i 0)) q) in
      sym z ∙ inv

  read_goes : digit_value (get_or s i 0) < base → reading base (v * base + digit_value (get_or s i 0)) (drop (i + 1) s) ≡ r
  unfolding reading
  read_goes l =
      let e : digit_of (get_or s i 0) ≡ digit_value (get_or s i 0) = small_digit (get_or s i 0) (omega arith) in
      let q : digit_of (get_or s i 0) < base = omega arith in
      let z : reading base v (drop i s) ≡ reading base (v * base + digit_of (get_or s i 0)) (drop (suc i) s) = rw (drop-cons s i 0 h, lt-leb base (digit_of (get_or s i 0)) q) in
      rw (add-one, ← e) (sym z ∙ inv)

pub goes : (base v i d : ℕ) (s : List ℕ) (r : Option ℕ) → base ≤ 16 → reading base v (drop i s) ≡ r → i < length s → digit_value (get_or s i 0) < base → d ≡ digit_value (get_or s i 0) → reading base (v * base + d) (drop (i + 1) s) ≡ r
goes base v i d s r b inv h l e = rw e (read_goes base v i s r b inv h l)

pub read_ends : (base v i : ℕ) (s : List ℕ) (r : Option ℕ) → reading base v (drop i s) ≡ r → length s ≤ i → Some v ≡ r
unfolding reading
read_ends base v i s r inv h =
    let z : reading base v (drop i s) ≡ Some v = rw (drop_of_length-le s h) in
    sym z ∙ inv

-- i digits of a base up to 16 are below 16 ^ i
pub below : (base v i d : ℕ) → v < 16 ^ i → base ≤ 16 → d < base → v * base + d < 16 ^ (i + 1)
below base v i d h b l =
    let p : v * base ≤ v * 16 = mul-le-mul_left v b in
    let q : 16 ^ (i + 1) ≡ 16 ^ i * 16 = rw (add-one, pow-suc) in
    omega arith

pub fits : (base v i d n : ℕ) → v < 16 ^ i → base ≤ 16 → d < base → i < n → n ≤ 8 → v * base + d < 4294967296
fits base v i d n h b l m t =
    let p : v * base + d < 16 ^ (i + 1) = below base v i d h b l in
    let k : i + 1 ≤ 8 = omega arith in
    let q : 16 ^ (i + 1) ≤ 16 ^ 8 = pow-le-pow_right (omega arith) k in
    omega arith
