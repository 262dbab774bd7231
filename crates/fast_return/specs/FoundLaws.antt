-- A frame that is found in one run of the store is the frame that a return reads there.
use Rattle.std.specs.Prelude.{◌≡◌, ℕ, zero, suc, ◌+◌, ◌-◌, ◌%◌, ◌^◌, ◌<◌, ◌≤◌, Bool, true, false, List, length, ◌==◌, nat_eq, nat_le, nat_lt, slice_index}
use Rattle.std.proofs.Math.Path.{refl, sym}
use Rattle.std.proofs.Common.{ap, ◌∙◌, lit<}
use native.Mathlib.Omega.{arith}
use borrow.Author.Tests.{ltb-false, leb-true, eqb-true, le-ltb, le-leb}
use Rattle.types.specs.Kinds.{pick, both, mask_address, is_pre68020}
use Rattle.types.proofs.Laws.{pick_holds}
use Rattle.memory.specs.declared.Bus.{Bus}
use Rattle.memory.specs.Served.{served_of, in_store, windows_in_use, clear_of, place_of}
use Rattle.unwind.specs.Frames.{sight, byte_address, byte_of, all_served, word_of, long_of, head_of, taken_frame, sized_frame, format_frame, odd_pointer, frame_of}
use Rattle.unwind.specs.Straight.{straight, straight_served}
use Rattle.fast_return.specs.Quick.{word_at, long_at, lies, not_found, taken_at, format_at, size_of, rest_lies, found_sized, found_word, found_in, found_of}

no : {A : Type 0} → false ≡ true → A
no e = let z : ◌≡◌ {A = ℕ} 0 1 = cc in absurd (omega arith)

pos : (n : ℕ) → (n == 0) ≡ false → 0 < n
pos zero e = no (sym e)
pos (suc n) e = omega arith

-- n bytes from a on lie in the store: what the test says
pub record Lies (base len k a n : ℕ) : Type 0 where
  pub above : base ≤ a
  pub inside : a - base + n ≤ len
  pub straight_is : straight k a n ≡ true

pub lies_means : (base len k a n : ℕ) → lies base len k a n ≡ true → Lies base len k a n
unfolding lies
lies_means base len k a n e = go (nat_lt a base) refl (nat_lt len (a - base + n)) refl e
  where
    go : (t : Bool) → nat_lt a base ≡ t → (u : Bool) → nat_lt len (a - base + n) ≡ u → pick t false (pick u false (straight k a n)) ≡ true → Lies base len k a n
    go true x u y z = no z
    go false x true y z = no z
    go false x false y z = record { above = ltb-false a base x; inside = ltb-false len (a - base + n) y; straight_is = z }

-- a head has 6 bytes or more
pub head_six : (k : ℕ) → 5 < head_of k
unfolding head_of
head_six k = pick_holds (λ (n : ℕ). 5 < n) (k == 1) 6 8 (lit< tt) (lit< tt)

-- where bytes do not wrap, byte i lies at a + i
in_line : (k p n i : ℕ) → i < n → straight k (byte_address k p 0) n ≡ true → byte_address k p i ≡ byte_address k p 0 + i
unfolding straight byte_address mask_address
in_line k p n i l e = go (nat_lt k 3) e
  where
    go : (t : Bool) → nat_le (pick t ((p + 0) % 2 ^ 32 % 0x1000000) ((p + 0) % 2 ^ 32) + n) (pick t 0x1000000 0x100000000) ≡ true → pick t ((p + i) % 2 ^ 32 % 0x1000000) ((p + i) % 2 ^ 32) ≡ pick t ((p + 0) % 2 ^ 32 % 0x1000000) ((p + 0) % 2 ^ 32) + i
    go true x = omega (arith, leb-true ((p + 0) % 2 ^ 32 % 0x1000000 + n) 0x1000000 x)
    go false x = omega (arith, leb-true ((p + 0) % 2 ^ 32 + n) 0x100000000 x)

module _ (s : List ℕ) (b : Bus) (k p : ℕ) (none : b.windows ≡ 0) where
  -- then they are served
  lies_served : (n : ℕ) → 0 < n → Lies b.base (length s) k (byte_address k p 0) n → all_served (sight k b s) p n ≡ true
  unfolding served_of in_store windows_in_use clear_of
  lies_served n l h =
      sym (straight_served (sight k b s) p n l h.straight_is)
      ∙ rw (le-ltb (byte_address k p 0) b.base h.above, le-leb (byte_address k p 0 - b.base + n) (length s) h.inside, none)

  -- and each is the store's
  byte_in : (n i : ℕ) → i < n → Lies b.base (length s) k (byte_address k p 0) n → byte_of (sight k b s) p i ≡ slice_index s (byte_address k p 0 - b.base + i)
  unfolding byte_of place_of
  byte_in n i l h =
      let z : byte_address k p 0 + i - b.base ≡ byte_address k p 0 - b.base + i = omega (arith, h.above) in
      rw (in_line k p n i l h.straight_is, le-ltb (byte_address k p 0 + i) b.base (omega (arith, h.above)), z)

  word_in_lem : (n i : ℕ) → i + 1 < n → Lies b.base (length s) k (byte_address k p 0) n → word_of (sight k b s) p i ≡ word_at s (byte_address k p 0 - b.base + i)
  unfolding word_of word_at
  word_in_lem n i l h =
      let z : byte_address k p 0 - b.base + (i + 1) ≡ byte_address k p 0 - b.base + i + 1 = omega arith in
      rw (byte_in n i (omega arith) h, byte_in n (i + 1) l h, z)

  status_in : (n : ℕ) → 5 < n → Lies b.base (length s) k (byte_address k p 0) n → word_of (sight k b s) p 0 ≡ word_at s (byte_address k p 0 - b.base)
  status_in n l h =
      let z : byte_address k p 0 - b.base + 0 ≡ byte_address k p 0 - b.base = omega arith in
      word_in_lem n 0 (omega arith) h ∙ ap (word_at s) z

  long_in_lem : (n : ℕ) → 5 < n → Lies b.base (length s) k (byte_address k p 0) n → long_of (sight k b s) p 2 ≡ long_at s (byte_address k p 0 - b.base + 2)
  unfolding long_of long_at
  long_in_lem n l h =
      let z : byte_address k p 0 - b.base + 4 ≡ byte_address k p 0 - b.base + 2 + 2 = omega arith in
      rw (word_in_lem n 2 (omega arith) h, word_in_lem n 4 (omega arith) h, z)

  taken_in : (w m : ℕ) → Lies b.base (length s) k (byte_address k p 0) (head_of k) → (taken_at s (byte_address k p 0 - b.base) w m).frame ≡ taken_frame (sight k b s) p w m
  unfolding taken_at taken_frame
  taken_in w m h = rw (status_in (head_of k) (head_six k) h, long_in_lem (head_of k) (head_six k) h)

  -- a frame by its length
  sized_in : (w n : ℕ) → Lies b.base (length s) k (byte_address k p 0) (head_of k) → (found_sized s b.base k (byte_address k p 0) w n).ok ≡ true
      → (found_sized s b.base k (byte_address k p 0) w n).frame ≡ sized_frame (sight k b s) p w n
  unfolding found_sized sized_frame not_found rest_lies
  sized_in w n h e = go (n == 0) refl (n == head_of k) refl (lies b.base (length s) k (byte_address k p 0) n) refl e
    where
      served : (u : Bool) → (n == head_of k) ≡ u → (v : Bool) → lies b.base (length s) k (byte_address k p 0) n ≡ v → (n == 0) ≡ false → pick u true v ≡ true → all_served (sight k b s) p n ≡ true
      served true y v z x q = let w : n ≡ head_of k = eqb-true n (head_of k) y in rw w (lies_served (head_of k) (omega (arith, head_six k)) h)
      served false y true z x q = lies_served n (pos n x) (lies_means b.base (length s) k (byte_address k p 0) n z)
      served false y false z x q = no q

      go : (t : Bool) → (n == 0) ≡ t → (u : Bool) → (n == head_of k) ≡ u → (v : Bool) → lies b.base (length s) k (byte_address k p 0) n ≡ v
          → (found_sized s b.base k (byte_address k p 0) w n).ok ≡ true → (found_sized s b.base k (byte_address k p 0) w n).frame ≡ sized_frame (sight k b s) p w n
      go true x u y v z q = no (rw x at q)
      go false x true y v z q = rw (x, y, served true y v z x refl) (taken_in w n h)
      go false x false y true z q = rw (x, y, z, served false y true z x refl) (taken_in w n h)
      go false x false y false z q = no (rw (x, y, z) at q)

  odd_none : nat_eq (p % 2) 1 ≡ false → odd_pointer k p ≡ false
  unfolding odd_pointer
  odd_none e = rw e (go (is_pre68020 k))
    where
      go : (t : Bool) → both t false ≡ false
      go true = refl
      go false = refl

  frame_is_lem : nat_eq (p % 2) 1 ≡ false → Lies b.base (length s) k (byte_address k p 0) (head_of k) → frame_of (sight k b s) p ≡ pick (k == 1) (taken_frame (sight k b s) p 0 6) (format_frame (sight k b s) p)
  unfolding frame_of
  frame_is_lem e h = rw (odd_none e, lies_served (head_of k) (omega (arith, head_six k)) h)

  -- on kind 1
  short_found : nat_eq k 1 ≡ true → Lies b.base (length s) k (byte_address k p 0) (head_of k)
      → (found_word s b.base k (byte_address k p 0) (format_at s (byte_address k p 0 - b.base) k)).frame ≡ taken_frame (sight k b s) p 0 6
  unfolding found_word format_at size_of found_sized rest_lies head_of
  short_found e h =
      let z : (taken_at s (byte_address k p 0 - b.base) 0 6).frame ≡ taken_frame (sight k b s) p 0 6 = taken_in 0 6 h in
      rw e z

  head_eight : nat_eq k 1 ≡ false → 7 < head_of k
  unfolding head_of
  head_eight e = rw e (lit< tt)

  -- on the other kinds
  format_found : nat_eq k 1 ≡ false → Lies b.base (length s) k (byte_address k p 0) (head_of k)
      → (found_word s b.base k (byte_address k p 0) (format_at s (byte_address k p 0 - b.base) k)).ok ≡ true
      → (found_word s b.base k (byte_address k p 0) (format_at s (byte_address k p 0 - b.base) k)).frame ≡ format_frame (sight k b s) p
  unfolding found_word format_at size_of format_frame
  format_found e h q =
      let z : word_of (sight k b s) p 6 ≡ word_at s (byte_address k p 0 - b.base + 6) = word_in_lem (head_of k) 6 (head_eight e) h in
      rw (e, z) (sized_in (word_at s (byte_address k p 0 - b.base + 6)) _ h (rw e at q))

  word_found : (t : Bool) → (k == 1) ≡ t → Lies b.base (length s) k (byte_address k p 0) (head_of k)
      → (found_word s b.base k (byte_address k p 0) (format_at s (byte_address k p 0 - b.base) k)).ok ≡ true
      → (found_word s b.base k (byte_address k p 0) (format_at s (byte_address k p 0 - b.base) k)).frame ≡ pick t (taken_frame (sight k b s) p 0 6) (format_frame (sight k b s) p)
  word_found true e h q = short_found e h
  word_found false e h q = format_found e h q

  pub found_frame : (found_of s b.base k p).ok ≡ true → (found_of s b.base k p).frame ≡ frame_of (sight k b s) p
  unfolding found_of found_in not_found
  found_frame e = go (p % 2 == 1) refl (lies b.base (length s) k (byte_address k p 0) (head_of k)) refl e
    where
      go : (t : Bool) → (p % 2 == 1) ≡ t → (u : Bool) → lies b.base (length s) k (byte_address k p 0) (head_of k) ≡ u → (found_of s b.base k p).ok ≡ true → (found_of s b.base k p).frame ≡ frame_of (sight k b s) p
      go true x u y q = no (rw x at q)
      go false x false y q = no (rw (x, y) at q)
      go false x true y q =
          let h : Lies b.base (length s) k (byte_address k p 0) (head_of k) = lies_means b.base (length s) k (byte_address k p 0) (head_of k) y in
          rw (x, y) (word_found (k == 1) refl h (rw (x, y) at q) ∙ sym (frame_is_lem x h))
