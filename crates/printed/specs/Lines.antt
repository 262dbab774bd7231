-- The line `walk n` in bytes, and the bytes of lines cut into lines again.
use Rattle.std.specs.Prelude.{ℕ, Option, Some, None, zero, suc, ◌+◌, ◌*◌, ◌/◌, ◌%◌, ◌≤◌, ◌<◌, ◌≡◌, refl, Bool, true, false, List, [], ◌∷◌, ◌++◌, eqb, ltb, leb, length}
use Rattle.std.proofs.Common.{ap, ◌∙◌, arith, ltb-true, lt-ltb, le-ltb, ne_eqb, length-append}
use Rattle.std.proofs.lemmas.Bool.{lt-leb}
use Rattle.types.specs.Kinds.{pick}
use Rattle.lines.specs.declared.Command.TheVariants.{Walk}
use Rattle.lines.specs.Numbers.{digit_of, reading, number_of}
use Rattle.lines.specs.Commands.{walk_name, starts_with, word_in, command_of}
use Rattle.prints.specs.Prints.{decimal_of}
use Rattle.sessions.specs.Printed.{in_front, lines_of}

-- ---- lines in bytes

-- "A line ends with a line feed"
abbrev pub with_feed : List ℕ → List ℕ
with_feed l = l ++ (10 ∷ [])

abbrev pub text : List (List ℕ) → List ℕ
text [] = []
text (l ∷ ls) = with_feed l ++ text ls

-- "`walk n`", n in decimal
abbrev pub walk_line : ℕ → List ℕ
walk_line n = walk_name ++ decimal_of 4 n

-- no line feed in a line, in any of them
abbrev pub feedless : List ℕ → Bool
feedless [] = true
feedless (b ∷ l) = pick (eqb b 10) false (feedless l)

abbrev pub all_feedless : List (List ℕ) → Bool
all_feedless [] = true
all_feedless (l ∷ ls) = pick (feedless l) (all_feedless ls) false

-- ---- bytes to lines

none_of : {A : Type 0} → false ≡ true → A
none_of e = let z : ◌≡◌ {A = ℕ} 0 1 = cc in absurd (omega arith)

-- an input that ends with a line feed has a line
record HasLine (ls : List (List ℕ)) : Type 0 where
  first : List ℕ
  others : List (List ℕ)
  is : ls ≡ first ∷ others

has_line : (bs : List ℕ) → HasLine (lines_of (with_feed bs))
unfolding lines_of in_front
has_line [] = record { first = []; others = []; is = refl }
has_line (b ∷ bs) = go (has_line bs) (eqb b 10)
  where
    go : HasLine (lines_of (with_feed bs)) → (t : Bool) → HasLine (pick t ([] ∷ lines_of (with_feed bs)) (in_front b (lines_of (with_feed bs))))
    go h true = record { first = []; others = lines_of (with_feed bs); is = refl }
    go h false = record { first = b ∷ h.first; others = h.others; is = ap (in_front b) h.is }

in_front_append : (b : ℕ) (ls ms : List (List ℕ)) → HasLine ls → in_front b (ls ++ ms) ≡ in_front b ls ++ ms
unfolding in_front
in_front_append b ls ms h = rw h.is

-- the lines of an input that ends with a line feed and of what follows it
pub lines_append : (bs cs : List ℕ) → lines_of (with_feed bs ++ cs) ≡ lines_of (with_feed bs) ++ lines_of cs
unfolding lines_of
lines_append [] cs = refl
lines_append (b ∷ bs) cs = go (lines_append bs cs) (eqb b 10)
  where
    go : lines_of (with_feed bs ++ cs) ≡ lines_of (with_feed bs) ++ lines_of cs → (t : Bool)
        → pick t ([] ∷ lines_of (with_feed bs ++ cs)) (in_front b (lines_of (with_feed bs ++ cs))) ≡ pick t ([] ∷ lines_of (with_feed bs)) (in_front b (lines_of (with_feed bs))) ++ lines_of cs
    go h true = ap (λ (ls : List (List ℕ)). [] ∷ ls) h
    go h false = ap (in_front b) h ∙ in_front_append b (lines_of (with_feed bs)) (lines_of cs) (has_line bs)

-- a line without a line feed is the first line
line_first : (l : List ℕ) → feedless l ≡ true → lines_of (with_feed l) ≡ l ∷ []
unfolding lines_of in_front
line_first [] = λ e. refl
line_first (b ∷ l) = go (line_first l) (eqb b 10)
  where
    go : (feedless l ≡ true → lines_of (with_feed l) ≡ l ∷ []) → (t : Bool) → pick t false (feedless l) ≡ true → pick t ([] ∷ lines_of (with_feed l)) (in_front b (lines_of (with_feed l))) ≡ (b ∷ l) ∷ []
    go h true e = none_of e
    go h false e = ap (in_front b) (h e)

-- lines without line feeds come back from their bytes
pub lines_text_lem : (ls : List (List ℕ)) → all_feedless ls ≡ true → lines_of (text ls) ≡ ls
unfolding lines_of
lines_text_lem [] = λ e. refl
lines_text_lem (l ∷ ls) = go (lines_text_lem ls) (feedless l) refl
  where
    go : (all_feedless ls ≡ true → lines_of (text ls) ≡ ls) → (t : Bool) → feedless l ≡ t → pick t (all_feedless ls) false ≡ true → lines_of (with_feed l ++ text ls) ≡ l ∷ ls
    go h false f e = none_of e
    go h true f e = lines_append l (text ls) ∙ ap (λ (ms : List (List ℕ)). ms ++ lines_of (text ls)) (line_first l f) ∙ ap (λ (ms : List (List ℕ)). l ∷ ms) (h e)

-- ---- a number in decimal reads back

digit_of_lem : (x : ℕ) → x < 10 → digit_of (48 + x) ≡ x
unfolding digit_of
digit_of_lem x l = rw (le-ltb (48 + x) 48 (omega arith), lt-ltb (48 + x) 58 (omega arith)) (omega arith)

one_digit : (v x : ℕ) → x < 10 → reading 10 v ((48 + x) ∷ []) ≡ Some (v * 10 + x)
unfolding reading
one_digit v x l = rw (digit_of_lem x l, lt-leb 10 x l)

-- a digit after those that read as u
then_digit : (l : List ℕ) (v u x : ℕ) → x < 10 → reading 10 v l ≡ Some u → reading 10 v (l ++ ((48 + x) ∷ [])) ≡ Some (u * 10 + x)
unfolding reading
then_digit [] v u x h = λ e. let q : v ≡ u = cc in one_digit v x h ∙ ap (λ (k : ℕ). Some (k * 10 + x)) q
then_digit (b ∷ l) v u x h = go (then_digit l (v * 10 + digit_of b) u x h) (leb 10 (digit_of b))
  where
    go : (reading 10 (v * 10 + digit_of b) l ≡ Some u → reading 10 (v * 10 + digit_of b) (l ++ ((48 + x) ∷ [])) ≡ Some (u * 10 + x)) → (t : Bool)
        → pick t None (reading 10 (v * 10 + digit_of b) l) ≡ Some u → pick t None (reading 10 (v * 10 + digit_of b) (l ++ ((48 + x) ∷ []))) ≡ Some (u * 10 + x)
    go r true e = let z : ◌≡◌ {A = ℕ} 0 1 = cc in absurd (omega arith)
    go r false e = r e

-- one digit more
abbrev ReadsBack : ℕ → ℕ → Type 0
ReadsBack n below = (v : ℕ) → v < below → reading 10 0 (decimal_of n v) ≡ Some v

digit_more : (n below : ℕ) → ReadsBack n below → ReadsBack (suc n) (10 * below)
unfolding decimal_of
digit_more n below h v l = go (ltb v 10) refl
  where
    go : (t : Bool) → ltb v 10 ≡ t → reading 10 0 (pick t ((48 + v) ∷ []) (decimal_of n (v / 10) ++ ((48 + v % 10) ∷ []))) ≡ Some v
    go true e = one_digit 0 v (ltb-true v 10 e) ∙ ap {B = Option ℕ} Some (let q : 0 * 10 + v ≡ v = omega arith in q)
    go false e =
        then_digit (decimal_of n (v / 10)) 0 (v / 10) (v % 10) (omega arith) (h (v / 10) (omega arith))
        ∙ ap {B = Option ℕ} Some (let q : v / 10 * 10 + v % 10 ≡ v = omega arith in q)

no_digit : ReadsBack 0 1
unfolding decimal_of reading
no_digit v l = let q : 0 ≡ v = omega arith in ap {B = Option ℕ} Some q

reads_back : ReadsBack 4 10000
reads_back = digit_more 3 1000 (digit_more 2 100 (digit_more 1 10 (digit_more 0 1 no_digit)))

-- its digits: at least one, at most n, none a line feed
record Digits (n : ℕ) (l : List ℕ) : Type 0 where
  some : 1 ≤ length l
  most : length l ≤ n
  plain : feedless l ≡ true

feedless_append : (l m : List ℕ) → feedless l ≡ true → feedless m ≡ true → feedless (l ++ m) ≡ true
feedless_append [] m = λ e f. f
feedless_append (b ∷ l) m = go (feedless_append l m) (eqb b 10)
  where
    go : (feedless l ≡ true → feedless m ≡ true → feedless (l ++ m) ≡ true) → (t : Bool) → pick t false (feedless l) ≡ true → feedless m ≡ true → pick t false (feedless (l ++ m)) ≡ true
    go h true e f = none_of e
    go h false e f = h e f

one_plain : (x : ℕ) → feedless ((48 + x) ∷ []) ≡ true
one_plain x = rw (ne_eqb (48 + x) 10 (λ e. omega arith))

digits : (n v : ℕ) → Digits (suc n) (decimal_of (suc n) v)
unfolding decimal_of
digits zero v = go (ltb v 10)
  where
    go : (t : Bool) → Digits 1 (pick t ((48 + v) ∷ []) ((48 + v % 10) ∷ []))
    go true = record { some = omega arith; most = omega arith; plain = one_plain v }
    go false = record { some = omega arith; most = omega arith; plain = one_plain (v % 10) }
digits (suc n) v = go (digits n (v / 10)) (ltb v 10)
  where
    go : Digits (suc n) (decimal_of (suc n) (v / 10)) → (t : Bool) → Digits (suc (suc n)) (pick t ((48 + v) ∷ []) (decimal_of (suc n) (v / 10) ++ ((48 + v % 10) ∷ [])))
    go h true = record { some = omega arith; most = omega arith; plain = one_plain v }
    go h false =
        let q : length (decimal_of (suc n) (v / 10) ++ ((48 + v % 10) ∷ [])) ≡ length (decimal_of (suc n) (v / 10)) + 1 = length-append (decimal_of (suc n) (v / 10)) ((48 + v % 10) ∷ []) in
        record {
          some = omega (arith, q);
          most = omega (arith, q, h.most);
          plain = feedless_append (decimal_of (suc n) (v / 10)) ((48 + v % 10) ∷ []) h.plain (one_plain (v % 10));
        }

-- ---- the line `walk n`

field_walks : (l : List ℕ) (n : ℕ) → length l ≤ 4 → number_of 10 4 l ≡ Some n → command_of (walk_name ++ l) ≡ Some (Walk n)
unfolding command_of word_in starts_with
field_walks l n h e = rw (le-ltb 80 (length (walk_name ++ l)) (omega arith), e)

number_back : (n : ℕ) → n < 10000 → number_of 10 4 (decimal_of 4 n) ≡ Some n
unfolding number_of
number_back n l =
    let d : Digits 4 (decimal_of 4 n) = digits 3 n in
    rw (ne_eqb (length (decimal_of 4 n)) 0 (λ e. omega (arith, d.some)), le-ltb 4 (length (decimal_of 4 n)) d.most) (reads_back n l)

pub walk_is : (n : ℕ) → n < 10000 → command_of (walk_line n) ≡ Some (Walk n)
walk_is n l = field_walks (decimal_of 4 n) n (digits 3 n).most (number_back n l)

pub walk_feedless : (n : ℕ) → feedless (walk_line n) ≡ true
walk_feedless n = (digits 3 n).plain
