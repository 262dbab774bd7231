-- What is appended after what.
use Rattle.std.proofs.Common.{◌≡◌, ◌≤◌, ◌<◌, ◌+◌, ◌-◌, ◌*◌, ◌/◌, ◌%◌, ◌^◌, ℕ, zero, suc, List, [], ◌∷◌, ◌++◌, length, sym, ap, ◌∙◌, arith, lt-ltb, le-ltb, le-leb, append-nil, length-append, decimal, append_assoc, mul-suc}
use Rattle.std.proofs.lemmas.Nat.{pow-add}
use Rattle.std.proofs.Math.Nat.{div-div-eq-div-mul, div-one}
use Rattle.std.proofs.lemmas.Bool.{lt-leb}
use Rattle.std.proofs.lemmas.Fmt.{AppendsLastDigit, decimal_from_appends, length-decimal-le}
use Rattle.prints.specs.Prints.{more, hex, hex_byte, decimal_of, laid}
use Rattle.prints.specs.Laws.{more_more}

pub join3 : (s t u v a b c : List ℕ) → t ≡ more s a → u ≡ more t b → v ≡ more u c → v ≡ more s (a ++ (b ++ c))
join3 s t u v a b c h i j = more_more s t v a _ h (more_more t u v b c i j)

pub join5 : (s t u v w x a b c d e : List ℕ) → t ≡ more s a → u ≡ more t b → v ≡ more u c → w ≡ more v d → x ≡ more w e → x ≡ more s ((((a ++ b) ++ c) ++ d) ++ e)
join5 s t u v w x a b c d e h i j k l = more_more s w x _ e (more_more s v w _ d (more_more s u v _ c (more_more s t u a b h i) j) k) l

-- the digits of a number are those that std writes
appends : AppendsLastDigit decimal_of
unfolding decimal_of
appends = record {
  one = λ k n h. rw (lt-ltb n 10 h);
  more = λ k n h. rw (le-ltb n 10 h);
}

short_decimal : (v : ℕ) → v < 4294967296 → length (decimal v) ≤ 10
short_decimal v h = length-decimal-le 10 v (omega arith) (omega arith) (omega arith)

pub decimal_is : (v : ℕ) → v < 4294967296 → decimal_of 10 v ≡ decimal v
decimal_is v h = decimal_from_appends decimal_of appends 10 v (omega arith) (short_decimal v h)

pub appended : (s t u : List ℕ) → u ≡ s ++ t → (u ≡ more s t) × (length u ≡ length s + length t)
unfolding more
appended s t u e = (e, ap length e ∙ length-append s t)

-- a line is laid where there is room for it
pub on_room : (room : ℕ) (done s line : List ℕ) → length done + 34 ≤ room → s ≡ more done line → s ≡ laid room done line
unfolding laid
on_room room done s line h e = rw (le-leb (length done + 34) room h) e

pub no_room : (room : ℕ) (done line : List ℕ) → room < length done + 34 → done ≡ laid room done line
unfolding laid
no_room room done line h = rw (lt-leb (length done + 34) room h)

-- a digit more
shifted : (v p : ℕ) → v / 2 ^ (4 * p) / 16 ≡ v / 2 ^ (4 * suc p)
shifted v p =
    let e : 2 ^ (4 * suc p) ≡ 2 ^ (4 * p) * 16 = rw (mul-suc, pow-add) in
    div-div-eq-div-mul v (2 ^ (4 * p)) 16 ∙ ap (λ (k : ℕ). v / k) (sym e)

hex_suc : (s t u : List ℕ) (n v w d : ℕ) → s ≡ more t (hex n w) → v / 16 ≡ w → d ≡ hex_byte (v % 16) → u ≡ s ++ (d ∷ []) → u ≡ more t (hex (suc n) v)
unfolding hex more
hex_suc s t u n v w d e f g h = rw (h, e, g, f, append_assoc)

pub hex_more : (s t u : List ℕ) (n p v d : ℕ) → 0 < p → p ≤ n → s ≡ more t (hex (n - p) (v / 2 ^ (4 * p))) → d ≡ hex_byte (v / 2 ^ (4 * (p - 1)) % 16) → u ≡ s ++ (d ∷ []) → u ≡ more t (hex (n - (p - 1)) (v / 2 ^ (4 * (p - 1))))
hex_more s t u n zero v d l h e f g = absurd (omega arith)
hex_more s t u n (suc p) v d l h e f g =
    let a : suc p - 1 ≡ p = omega arith in
    let b : n - p ≡ suc (n - suc p) = omega arith in
    let k : d ≡ hex_byte (v / 2 ^ (4 * p) % 16) = rw a at f in
    rw (a, b) (hex_suc s t u (n - suc p) (v / 2 ^ (4 * p)) (v / 2 ^ (4 * suc p)) d e (shifted v p) k g)

pub hex_none : (s : List ℕ) (n v : ℕ) → s ≡ more s (hex (n - n) v)
unfolding hex more
hex_none s n v =
    let e : n - n ≡ 0 = omega arith in
    rw (e, append-nil)

pub hex_all : (s t : List ℕ) (n p v : ℕ) → p ≤ 0 → s ≡ more t (hex (n - p) (v / 2 ^ (4 * p))) → s ≡ more t (hex n v)
hex_all s t n zero v h e =
    let k : n - 0 ≡ n = omega arith in
    let q : v / 2 ^ (4 * 0) ≡ v = div-one v in
    rw (k, q) at e
hex_all s t n (suc p) v h e = absurd (omega arith)

-- a space and digits
pub after_space : (s t u : List ℕ) (n v : ℕ) → t ≡ s ++ (32 ∷ []) → u ≡ more t (hex n v) → u ≡ more s (32 ∷ hex n v)
unfolding more
after_space s t u n v e f = rw (f, e, append_assoc)

pub short_digits : (a b : List ℕ) (v : ℕ) → a ≡ b → b ≡ decimal v → v < 4294967296 → length a ≤ 10
short_digits a b v e f h = rw (e, f) (short_decimal v h)
