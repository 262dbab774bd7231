-- A frame as `unwind` sees it (`Sight`, `frame_of`) and as the nest does (`View`, `frame`): where the nest reads one, so does `unwind`.
use Prim.Native.Nat.{ℕ, zero, suc, ◌+◌, ◌-◌, ◌*◌, ◌/◌, ◌%◌, ◌^◌, ◌≤◌, ◌<◌}
use Rattle.std.specs.Prelude.{◌≡◌, Bool, not, ◌&&◌, ◌||◌, List, [], ◌∷◌, ltb, leb, length, get_or, replicate}
use Rattle.std.proofs.Math.Path.{refl, sym, ap}
use Rattle.std.proofs.Common.{◌∙◌, inl, inr, arith, eqb-true, ltb-true, ltb-false, leb-true, leb-false, le-ltb, ne_eqb}
use Rattle.std.proofs.Math.Bool.{true, false, cond}
use Rattle.std.proofs.Math.Option.{Option, none, some}
use Rattle.std.proofs.Math.Dec.{eqb}
use Rattle.types.specs.Kinds.{pick, both, either, is_pre68020, is040, is060, mask_address}
use Rattle.types.specs.Tables.{frame_length, format_length, takes_format}
use Rattle.types.specs.Past.{length_past_formats}
use Rattle.types.specs.Every.{every, at}
use Rattle.memory.specs.declared.Bus.{Bus}
use Rattle.memory.specs.Served.{served_of, windows_in_use, place_of}
use Rattle.memory.specs.Runs.{Outside}
use Rattle.memory.specs.ServedLaws.{Byte, start, size}
use Rattle.unwind.specs.Models.{Frame}
use Rattle.unwind.specs.Frames.{Sight, sight, byte_address, byte_served, byte_of, all_served, word_of, long_of, head_of, refused_frame, taken_frame, sized_frame, format_frame, odd_pointer, frame_of}
use Rattle.unwind.specs.Straight.{one_byte, byte_one}
use Rattle.nest.specs.View.{Bytes, peek, in_store, in_windows, addr, aligned, odd, lengths, frame_len, View, top, opt, is_some, word, long, served, Taken, settle, sized, full_frame, short_frame, frame}
use Rattle.entered.specs.Bytes.{mem_of, windows_of, byte_peek}

no : {A : Type 0} → false ≡ true → A
no e = let z : ◌≡◌ {A = ℕ} 0 1 = cc in absurd (omega arith)

never : {A B : Type 0} (t : B) → ◌≡◌ {A = Option B} none (some t) → A
never t e = let z : ◌≡◌ {A = ℕ} 0 1 = cc in absurd (omega arith)

-- ---- one byte

window_out : (s n a : ℕ) → (leb s a && ltb a (s + n)) ≡ false → Outside s n a
window_out s n a e = go (leb s a) refl (ltb a (s + n)) refl e
  where
    go : (p : Bool) → leb s a ≡ p → (q : Bool) → ltb a (s + n) ≡ q → (p && q) ≡ false → Outside s n a
    go false x q y z = inl (omega (arith, leb-false s a x))
    go true x false y z = inr (ltb-false a (s + n) y)
    go true x true y z = no (sym z)

or_false : (p q : Bool) → (p || q) ≡ false → (p ≡ false) × (q ≡ false)
or_false true q e = no (sym e)
or_false false q e = (refl, e)

windows_out : (b : Bus) (n a : ℕ) → in_windows (windows_of b n) a ≡ false → (k : ℕ) → k < n → Outside (start b k) (size b k) a
unfolding windows_of in_windows
windows_out b zero a e k l = absurd (omega arith)
windows_out b (suc n) a e k l =
    let h : ((leb (start b n) a && ltb a (start b n + size b n)) ≡ false) × (in_windows (windows_of b n) a ≡ false) = or_false (leb (start b n) a && ltb a (start b n + size b n)) (in_windows (windows_of b n) a) e in
    go (ltb k n) refl h.0 (windows_out b n a h.1)
  where
    go : (t : Bool) → ltb k n ≡ t → (leb (start b n) a && ltb a (start b n + size b n)) ≡ false → ((j : ℕ) → j < n → Outside (start b j) (size b j) a) → Outside (start b k) (size b k) a
    go true x f g = g k (ltb-true k n x)
    go false x f g = let q : k ≡ n = omega (arith, ltb-false k n x) in rw q (window_out (start b n) (size b n) a f)

in_length : (s : List ℕ) (i x : ℕ) → in_store s i ≡ some x → i < length s
unfolding in_store
in_length [] i x e = never x e
in_length (y ∷ s) zero x e = omega arith
in_length (y ∷ s) (suc i) x e = omega (arith, in_length s i x e)

peek_byte : (b : Bus) (s : List ℕ) (a x : ℕ) → peek (mem_of b s) a ≡ some x → Byte b (length s) a
unfolding peek mem_of
peek_byte b s a x = go (leb b.base a) refl (in_windows (windows_of b (windows_in_use b)) a) refl
  where
    go : (p : Bool) → leb b.base a ≡ p → (q : Bool) → in_windows (windows_of b (windows_in_use b)) a ≡ q → cond (p && not q) (in_store s (a - b.base)) none ≡ some x → Byte b (length s) a
    go false e q f h = never x h
    go true e true f h = never x h
    go true e false f h = record { low = leb-true b.base a e; high = omega (arith, leb-true b.base a e, in_length s (a - b.base) x h); out = windows_out b (windows_in_use b) a f }

place_is : (b : Bus) (a : ℕ) → b.base ≤ a → a - b.base ≡ place_of b a
unfolding place_of
place_is b a h = rw (le-ltb a b.base h)

-- a byte of the nest is `some` exactly where an access of one byte is served
pub byte_view : (b : Bus) (s : List ℕ) (a : ℕ) → peek (mem_of b s) a ≡ pick (served_of b (length s) a 1) (some (get_or s (place_of b a) 0)) none
byte_view b s a = go (served_of b (length s) a 1) refl (peek (mem_of b s) a) refl
  where
    go : (t : Bool) → served_of b (length s) a 1 ≡ t → (o : Option ℕ) → peek (mem_of b s) a ≡ o → o ≡ pick t (some (get_or s (place_of b a) 0)) none
    go true e o f = sym f ∙ byte_peek b s a (one_byte b (length s) a e) ∙ ap (λ (j : ℕ). some (get_or s j 0)) (place_is b a (one_byte b (length s) a e).low)
    go false e none f = refl
    go false e (some x) f = no (sym e ∙ byte_one b (length s) a (peek_byte b s a x f))

address_is : (k p i : ℕ) → addr k p i ≡ byte_address k p i
unfolding addr byte_address mask_address
address_is k p i = go (ltb k 3)
  where
    go : (t : Bool) → (p + i) % 0x100000000 % cond t 0x1000000 0x100000000 ≡ pick t ((p + i) % 2 ^ 32 % 0x1000000) ((p + i) % 2 ^ 32)
    go true = refl
    go false = omega arith

-- ---- the length table

lengths_are : (k f : ℕ) → k < 12 → f < 16 → frame_length k f ≡ frame_len k f
unfolding frame_length takes_format format_length is040 is060 frame_len lengths
lengths_are k f l m =
    eqb-true _ _ (at 0 (λ (j x : ℕ). eqb (frame_length k j) (frame_len k j)) (replicate 16 0) (at 0 (λ (i x : ℕ). every (λ (j y : ℕ). eqb (frame_length i j) (frame_len i j)) 0 (replicate 16 0)) (replicate 12 0) refl k l) f m)

past_row : (l : List ℕ) (f : ℕ) → length l ≤ f → get_or l f 0 ≡ 0
past_row [] f h = refl
past_row (x ∷ l) zero h = absurd (omega arith)
past_row (x ∷ l) (suc f) h = past_row l f (omega arith)

rows_16 : (k : ℕ) → k < 12 → length (lengths k) ≡ 16
unfolding lengths
rows_16 k l = eqb-true _ _ (at 0 (λ (i x : ℕ). eqb (length (lengths i)) 16) (replicate 12 0) refl k l)

pub table_is : (k f : ℕ) → k < 12 → frame_length k f ≡ frame_len k f
unfolding frame_len
table_is k f l = go (ltb f 16) refl
  where
    past : 16 ≤ f → get_or (lengths k) f 0 ≡ 0
    past h = past_row (lengths k) f (omega (arith, rows_16 k l))

    go : (t : Bool) → ltb f 16 ≡ t → frame_length k f ≡ get_or (lengths k) f 0
    go true e = lengths_are k f l (ltb-true f 16 e)
    go false e = length_past_formats k f (ltb-false f 16 e) ∙ sym (past (ltb-false f 16 e))

-- ---- the frame

-- what `unwind` says of a frame that the nest takes
abbrev pub frame_is : Taken → Frame
frame_is t = record { refused = 0; format = t.format; status = t.status; address = t.address; offset = t.offset; size = t.size }

pub odd_is : (k p : ℕ) → odd_pointer k p ≡ (aligned k && odd p)
unfolding odd_pointer is_pre68020 aligned
odd_is k p = go (eqb k 1) (eqb k 2) (eqb k 10)
  where
    go : (x y z : Bool) → both (either x (either y z)) (eqb (p % 2) 1) ≡ ((x || (y || z)) && eqb (p % 2) 1)
    go true y z = refl
    go false true z = refl
    go false false true = refl
    go false false false = refl

module _ (k : ℕ) (bus : Bus) (store : List ℕ) where
  abbrev v : Sight
  v = sight k bus store

  abbrev b : Bytes
  b = peek (mem_of bus store)

  pub seen : (p i : ℕ) → b (addr k p i) ≡ pick (byte_served v p i) (some (byte_of v p i)) none
  unfolding byte_served byte_of
  seen p i = ap b (address_is k p i) ∙ byte_view bus store (byte_address k p i)

  pub served_is : (p n : ℕ) → served b k p n ≡ all_served v p n
  unfolding served all_served
  served_is p zero = refl
  served_is p (suc n) = rw (seen p n, served_is p n) (go (byte_served v p n))
    where
      go : (t : Bool) → (is_some (pick t (some (byte_of v p n)) none) && all_served v p n) ≡ both t (all_served v p n)
      go true = refl
      go false = refl

  record ByteIs (p i x : ℕ) : Type 0 where
    on : byte_served v p i ≡ true
    is : byte_of v p i ≡ x

  byte_some : (p i x : ℕ) → b (addr k p i) ≡ some x → ByteIs p i x
  byte_some p i x e = go (byte_served v p i) refl (sym (seen p i) ∙ e)
    where
      go : (t : Bool) → byte_served v p i ≡ t → pick t (some (byte_of v p i)) none ≡ some x → ByteIs p i x
      go true f h = record { on = f; is = cc }
      go false f h = never x h

  record WordIs (p i x : ℕ) : Type 0 where
    hi : byte_served v p i ≡ true
    lo : byte_served v p (i + 1) ≡ true
    is : word_of v p i ≡ x

  word_some : (p i x : ℕ) → word b k p i ≡ some x → WordIs p i x
  unfolding word word_of
  word_some p i x = go (b (addr k p i)) refl (b (addr k p (i + 1))) refl
    where
      go : (o : Option ℕ) → b (addr k p i) ≡ o → (q : Option ℕ) → b (addr k p (i + 1)) ≡ q → opt o (λ hi. opt q (λ lo. some (hi * 256 + lo))) ≡ some x → WordIs p i x
      go none e q f h = never x h
      go (some y) e none f h = never x h
      go (some y) e (some z) f h =
          let s : ByteIs p i y = byte_some p i y e in
          let t : ByteIs p (i + 1) z = byte_some p (i + 1) z f in
          let m : y * 256 + z ≡ x = cc in
          record { hi = s.on; lo = t.on; is = rw (s.is, t.is) m }

  record LongIs (p i x : ℕ) : Type 0 where
    hi : byte_served v p i ≡ true
    hi1 : byte_served v p (i + 1) ≡ true
    lo : byte_served v p (i + 2) ≡ true
    lo1 : byte_served v p (i + 2 + 1) ≡ true
    is : long_of v p i ≡ x

  long_some : (p i x : ℕ) → long b k p i ≡ some x → LongIs p i x
  unfolding long long_of
  long_some p i x = go (word b k p i) refl (word b k p (i + 2)) refl
    where
      go : (o : Option ℕ) → word b k p i ≡ o → (q : Option ℕ) → word b k p (i + 2) ≡ q → opt o (λ hi. opt q (λ lo. some (hi * 0x10000 + lo))) ≡ some x → LongIs p i x
      go none e q f h = never x h
      go (some y) e none f h = never x h
      go (some y) e (some z) f h =
          let s : WordIs p i y = word_some p i y e in
          let t : WordIs p (i + 2) z = word_some p (i + 2) z f in
          let m : y * 0x10000 + z ≡ x = cc in
          record { hi = s.hi; hi1 = s.lo; lo = t.hi; lo1 = t.lo; is = rw (s.is, t.is) m }

  six : (p st ad : ℕ) → WordIs p 0 st → LongIs p 2 ad → all_served v p 6 ≡ true
  unfolding all_served
  six p st ad s a = rw (s.hi, s.lo, a.hi, a.hi1, a.lo, a.lo1)

  eight : (p st ad fw : ℕ) → WordIs p 0 st → LongIs p 2 ad → WordIs p 6 fw → all_served v p 8 ≡ true
  unfolding all_served
  eight p st ad fw s a w = rw (s.hi, s.lo, a.hi, a.hi1, a.lo, a.lo1, w.hi, w.lo)

module _ (vw : View) (bus : Bus) (store : List ℕ) (t : Taken) (small : vw.kind < 12) where
  abbrev w : Sight
  w = sight vw.kind bus store

  abbrev d : Bytes
  d = peek (mem_of bus store)

  taken_is : (st ad fw n : ℕ) → word_of w (top vw) 0 ≡ st → long_of w (top vw) 2 ≡ ad
      → taken_frame w (top vw) fw n ≡ record { refused = 0; format = fw / 0x1000; status = st; address = ad; offset = fw % 0x1000; size = n }
  unfolding taken_frame
  taken_is st ad fw n e f = rw (e, f)

  sized_is : (st ad fw n : ℕ) → word_of w (top vw) 0 ≡ st → long_of w (top vw) 2 ≡ ad → sized vw d st ad fw n ≡ some t → sized_frame w (top vw) fw n ≡ frame_is t
  unfolding sized_frame
  sized_is st ad fw zero e f h = never t h
  sized_is st ad fw (suc n) e f h = rw (ne_eqb (suc n) 0 (λ z. omega arith), sym (served_is vw.kind bus store (top vw) (suc n))) (go (served d vw.kind (top vw) (suc n)) h)
    where
      go : (q : Bool) → cond q (some (record { format = fw / 0x1000; status = st; address = ad; offset = fw % 0x1000; size = suc n; after = settle vw (suc n) st })) none ≡ some t
          → pick q (taken_frame w (top vw) fw (suc n)) (refused_frame 12) ≡ frame_is t
      go true g = taken_is st ad fw (suc n) e f ∙ ap frame_is (let z : record { format = fw / 0x1000; status = st; address = ad; offset = fw % 0x1000; size = suc n; after = settle vw (suc n) st } ≡ t = cc in z)
      go false g = never t g

  abbrev Goal : Type 0
  Goal = frame_of w (top vw) ≡ frame_is t

  frame_short : eqb vw.kind 1 ≡ true → (aligned vw.kind && odd (top vw)) ≡ false → short_frame vw d ≡ some t → Goal
  unfolding frame_of head_of
  frame_short k e = go (word d vw.kind (top vw) 0) refl (long d vw.kind (top vw) 2) refl
    where
      go : (o : Option ℕ) → word d vw.kind (top vw) 0 ≡ o → (q : Option ℕ) → long d vw.kind (top vw) 2 ≡ q
          → opt o (λ st. opt q (λ ad. some (record { format = 0; status = st; address = ad; offset = 0; size = 6; after = settle vw 6 st }))) ≡ some t
          → pick (odd_pointer vw.kind (top vw)) (refused_frame 12) (pick (all_served w (top vw) (pick (eqb vw.kind 1) 6 8)) (pick (eqb vw.kind 1) (taken_frame w (top vw) 0 6) (format_frame w (top vw))) (refused_frame 12)) ≡ frame_is t
      go none x q y h = never t h
      go (some st) x none y h = never t h
      go (some st) x (some ad) y h =
          let s : WordIs vw.kind bus store (top vw) 0 st = word_some vw.kind bus store (top vw) 0 st x in
          let a : LongIs vw.kind bus store (top vw) 2 ad = long_some vw.kind bus store (top vw) 2 ad y in
          let z : record { format = 0; status = st; address = ad; offset = 0; size = 6; after = settle vw 6 st } ≡ t = cc in
          rw (odd_is vw.kind (top vw), e, k, six vw.kind bus store (top vw) st ad s a) (taken_is st ad 0 6 s.is a.is ∙ ap frame_is z)

  frame_full : eqb vw.kind 1 ≡ false → (aligned vw.kind && odd (top vw)) ≡ false → full_frame vw d ≡ some t → Goal
  unfolding frame_of head_of format_frame
  frame_full k e = go (word d vw.kind (top vw) 0) refl (long d vw.kind (top vw) 2) refl (word d vw.kind (top vw) 6) refl
    where
      go : (o : Option ℕ) → word d vw.kind (top vw) 0 ≡ o → (q : Option ℕ) → long d vw.kind (top vw) 2 ≡ q → (r : Option ℕ) → word d vw.kind (top vw) 6 ≡ r
          → opt o (λ st. opt q (λ ad. opt r (λ fw. sized vw d st ad fw (frame_len vw.kind (fw / 0x1000))))) ≡ some t
          → pick (odd_pointer vw.kind (top vw)) (refused_frame 12) (pick (all_served w (top vw) (pick (eqb vw.kind 1) 6 8)) (pick (eqb vw.kind 1) (taken_frame w (top vw) 0 6)
          (sized_frame w (top vw) (word_of w (top vw) 6) (frame_length vw.kind (word_of w (top vw) 6 / 0x1000)))) (refused_frame 12)) ≡ frame_is t
      go none x q y r u h = never t h
      go (some st) x none y r u h = never t h
      go (some st) x (some ad) y none u h = never t h
      go (some st) x (some ad) y (some fw) u h =
          let s : WordIs vw.kind bus store (top vw) 0 st = word_some vw.kind bus store (top vw) 0 st x in
          let a : LongIs vw.kind bus store (top vw) 2 ad = long_some vw.kind bus store (top vw) 2 ad y in
          let f : WordIs vw.kind bus store (top vw) 6 fw = word_some vw.kind bus store (top vw) 6 fw u in
          rw (odd_is vw.kind (top vw), e, k, eight vw.kind bus store (top vw) st ad fw s a f, f.is, table_is vw.kind (fw / 0x1000) small)
          (sized_is st ad fw (frame_len vw.kind (fw / 0x1000)) s.is a.is h)

  -- a frame that the nest takes is the one that `unwind` takes
  pub frame_of_lem : frame vw d ≡ some t → frame_of w (top vw) ≡ frame_is t
  unfolding frame
  frame_of_lem = go (aligned vw.kind && odd (top vw)) refl (eqb vw.kind 1) refl
    where
      go : (q : Bool) → (aligned vw.kind && odd (top vw)) ≡ q → (r : Bool) → eqb vw.kind 1 ≡ r → cond q none (cond r (short_frame vw d) (full_frame vw d)) ≡ some t → Goal
      go true e r f h = never t h
      go false e true f h = frame_short f e h
      go false e false f h = frame_full f e h
