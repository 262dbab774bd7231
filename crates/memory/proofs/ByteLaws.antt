-- Theorems about what specs/ByteLaws defines, and what rests on them.
use Rattle.std.specs.Prelude.{ℕ, zero, suc, ◌+◌, ◌≤◌, ◌<◌, ◌≡◌, refl, Bool, true, false, List, [], ◌∷◌, length, get_or, set}
use Rattle.std.proofs.Common.{◌∙◌, inl, inr, arith, add-one}
use Rattle.std.proofs.Math.Numerals.{add-two}
use Rattle.std.proofs.lemmas.List.Edits.{sets}
use Rattle.std.proofs.Math.Seq.{length-sets}
use Rattle.memory.specs.Bytes.{put_word, put_long, get_word, get_long}
use Rattle.memory.specs.World.{width_of}
use Rattle.memory.specs.Runs.{Outside, Apart, sets_keeps, sets_holds, sets_comm}
use Rattle.memory.specs.ByteLaws.{AllBytes, Fits, bytes_of, get, put}

length_bytes : (g : Bool) (v : ℕ) → length (bytes_of g v) ≡ width_of g
length_bytes true v = refl
length_bytes false v = refl

-- a write stores these bytes one after the other
pub put_bytes : (g : Bool) (s : List ℕ) (p v : ℕ) → put g s p v ≡ sets s p (bytes_of g v)
unfolding put_long put_word
put_bytes true s p v = simp (add-one, add-two)
put_bytes false s p v = simp add-one

-- the store keeps its length
pub put_length : (g : Bool) (s : List ℕ) (p v : ℕ) → length (put g s p v) ≡ length s
put_length g s p v = rw put_bytes (length-sets s p (bytes_of g v))

-- bytes outside the access stay
pub put_keeps : (g : Bool) (s : List ℕ) (p v i : ℕ) → Outside p (width_of g) i → get_or (put g s p v) i 0 ≡ get_or s i 0
put_keeps g s p v i h = rw put_bytes (sets_keeps (bytes_of g v) s p i (rw length_bytes h))

-- byte i of the access is byte i of the value
pub put_holds : (g : Bool) (s : List ℕ) (p v i : ℕ) → i < width_of g → p + width_of g ≤ length s → get_or (put g s p v) (p + i) 0 ≡ get_or (bytes_of g v) i 0
put_holds g s p v i h r = rw put_bytes (sets_holds (bytes_of g v) s p i (rw length_bytes h) (rw length_bytes r))

-- a read depends on the bytes of its access only
get_same : (g : Bool) (s t : List ℕ) (p q : ℕ) → ((i j k : ℕ) → i < width_of g → j ≡ p + i → k ≡ q + i → get_or s j 0 ≡ get_or t k 0) → get g s p ≡ get g t q
unfolding get_long get_word
get_same true s t p q h =
    rw (h 0 p q (omega arith) (omega arith) (omega arith), h 1 (p + 1) (q + 1) (omega arith) refl refl, h 2 (p + 2) (q + 2) (omega arith) refl refl, h 3 (p + 2 + 1) (q + 2 + 1) (omega arith) (omega arith) (omega arith))
get_same false s t p q h = rw (h 0 p q (omega arith) (omega arith) (omega arith), h 1 (p + 1) (q + 1) (omega arith) refl refl)

-- the bytes of a value say the value
bytes_say : (g : Bool) (v : ℕ) → get g (bytes_of g v) 0 ≡ v
unfolding get_long get_word
bytes_say true v = omega arith
bytes_say false v = omega arith

-- what was written is read back
pub read_back : (g : Bool) (s : List ℕ) (p v : ℕ) → p + width_of g ≤ length s → get g (put g s p v) p ≡ v
read_back g s p v r =
    get_same g (put g s p v) (bytes_of g v) p 0 (λ i j k l e f. let z : k ≡ i = omega arith in rw (e, z) (put_holds g s p v i l r)) ∙ bytes_say g v

-- the same for a word and for a long
pub word_back : (s : List ℕ) (p v : ℕ) → p + 2 ≤ length s → get_word (put_word s p v) p ≡ v
word_back s p v r = read_back false s p v r

pub long_back : (s : List ℕ) (p v : ℕ) → p + 4 ≤ length s → get_long (put_long s p v) p ≡ v
long_back s p v r = read_back true s p v r

-- a read that shares no byte with a write is not changed
pub read_other : (g h : Bool) (s : List ℕ) (p q v : ℕ) → Apart p (width_of g) q (width_of h) → get h (put g s p v) q ≡ get h s q
read_other g h s p q v (inl a) = get_same h (put g s p v) s q q (λ i j k l e f. rw (e, f) (put_keeps g s p v (q + i) (inr (omega arith))))
read_other g h s p q v (inr a) = get_same h (put g s p v) s q q (λ i j k l e f. rw (e, f) (put_keeps g s p v (q + i) (inl (omega arith))))

-- two writes that share no byte commute
pub put_comm : (g h : Bool) (s : List ℕ) (p q v w : ℕ) → Apart p (width_of g) q (width_of h) → put g (put h s q w) p v ≡ put h (put g s p v) q w
put_comm g h s p q v w a = simp put_bytes (sets_comm (bytes_of g v) (bytes_of h w) s p q (rw (length_bytes g v, length_bytes h w) a))

set_byte : (s : List ℕ) (p x : ℕ) → x < 256 → AllBytes s → AllBytes (set s p x)
set_byte [] p x h k i = k i
set_byte (y ∷ s) zero x h k zero = h
set_byte (y ∷ s) zero x h k (suc i) = k (suc i)
set_byte (y ∷ s) (suc p) x h k zero = k zero
set_byte (y ∷ s) (suc p) x h k (suc i) = set_byte s p x h (λ j. k (suc j)) i

-- each byte of a value of its width is below 256
pub bytes_small : (g : Bool) (v : ℕ) → Fits g v → AllBytes (bytes_of g v)
bytes_small true v h zero = omega arith
bytes_small true v h (suc zero) = omega arith
bytes_small true v h (suc (suc zero)) = omega arith
bytes_small true v h (suc (suc (suc zero))) = omega arith
bytes_small true v h (suc (suc (suc (suc i)))) = omega arith
bytes_small false v h zero = omega arith
bytes_small false v h (suc zero) = omega arith
bytes_small false v h (suc (suc i)) = omega arith

-- a write of such a value into a list of bytes leaves a list of bytes
pub put_small : (g : Bool) (s : List ℕ) (p v : ℕ) → Fits g v → AllBytes s → AllBytes (put g s p v)
put_small g s p v h k = rw put_bytes (go (bytes_of g v) s p (bytes_small g v h) k)
  where
    go : (vs t : List ℕ) (q : ℕ) → AllBytes vs → AllBytes t → AllBytes (sets t q vs)
    go [] t q a b = b
    go (x ∷ vs) t q a b = go vs (set t q x) (suc q) (λ i. a (suc i)) (set_byte t q x (a zero) b)

-- a read of a list of bytes is a value of its width
pub get_fits : (g : Bool) (s : List ℕ) (p : ℕ) → AllBytes s → Fits g (get g s p)
unfolding get_long get_word
get_fits true s p k = omega (arith, k p, k (p + 1), k (p + 2), k (p + 2 + 1))
get_fits false s p k = omega (arith, k p, k (p + 1))
