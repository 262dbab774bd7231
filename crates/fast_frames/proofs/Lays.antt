-- A field and a whole frame written: from what each step ensures.
use Prim.Native.Nat.{ℕ, zero, suc, ◌+◌, ◌-◌, ◌%◌, ◌^◌, ◌<◌, ◌≤◌}
use mathlib.Core.Path.{◌≡◌, refl, sym, ap, ◌∙◌}
use mathlib.Core.Bool.{Bool, true, false}
use mathlib.Core.List.{List}
use native.Mathlib.Omega.{arith}
use lib.Dec.{leb}
use lib.ListN.{length, get_or}
use borrow.Author.Tests.{leb-true, leb-false, lt-ltb}
use Rattle.memory.specs.World.{width_of}
use Rattle.memory.specs.Bytes.{put_word, put_long}
use Rattle.memory.specs.Log.{note_log}
use Rattle.memory.specs.ByteLaws.{put}
use Rattle.memory.proofs.ByteLaws.{put_length}
use Rattle.memory.proofs.LogLaws.{note_length}
use Rattle.memory.specs.AccessLaws.{write_code, kept}
use Rattle.frames.specs.declared.Field.{Field}
use Rattle.frames.specs.declared.Frame.{Frame}
use Rattle.frames.specs.Frames.{word, field_at}
use Rattle.unfaulted.specs.Closed.{told, laid, writes_of}
use Rattle.unfaulted.specs.Pushes.{offset_of, pieces_of}
use Rattle.fast_plans.specs.declared.places.Spot.{Spot}
use Rattle.fast.specs.Stacks.{Fits}
use Rattle.fast_frames.specs.Entries.{Sized}

-- ---- a field

width_some : (g : Bool) → 2 ≤ width_of g
width_some true = omega arith
width_some false = omega arith

pub address_way : (s : Spot) (o : ℕ) (g : Bool) (m : List ℕ) → Fits s (o + width_of g) m → s.a7 + o < 2 ^ 32
address_way s o g m h = let u = h.address in let v = width_some g in omega arith

pub long_room : (s : Spot) (o : ℕ) (g : Bool) (m : List ℕ) → Fits s (o + width_of g) m → g ≡ true → s.place + o + 4 ≤ length m
long_room s o true m h e = let u = h.place in omega arith
long_room s o false m h e = let z : ◌≡◌ {A = ℕ} 0 1 = cc in absurd (omega arith)

pub word_room : (s : Spot) (o : ℕ) (g : Bool) (m : List ℕ) → Fits s (o + width_of g) m → s.place + o + 2 ≤ length m
word_room s o g m h = let u = h.place in let v = width_some g in omega arith

pub long_put : (g : Bool) (n a p v : ℕ) (m m1 l l1 : List ℕ) → g ≡ true → m1 ≡ put_long m p v → l1 ≡ note_log n l 4 a v
    → (m1 ≡ put g m p (kept g v)) × (l1 ≡ note_log n l (write_code g) a v)
long_put g n a p v m m1 l l1 h e f = rw h (e, f)

pub word_put : (g : Bool) (n a p v : ℕ) (m m1 l l1 : List ℕ) → g ≡ false → m1 ≡ put_word m p (v % 0x10000) → l1 ≡ note_log n l 3 a v
    → (m1 ≡ put g m p (kept g v)) × (l1 ≡ note_log n l (write_code g) a v)
word_put g n a p v m m1 l l1 h e f = rw h (e, f)

-- ---- a frame

offset_most : (f : Frame) (n k : ℕ) → k ≤ n → offset_of f k ≤ offset_of f n
unfolding offset_of
offset_most f zero k h = let z : k ≡ 0 = omega arith in rw z (omega arith)
offset_most f (suc n) k h = go (leb k n) refl (λ i. offset_most f n k i)
  where
    go : (b : Bool) → leb k n ≡ b → (k ≤ n → offset_of f k ≤ offset_of f n) → offset_of f k ≤ offset_of f n + width_of (field_at f n).long
    go true e r = let z = r (leb-true k n e) in omega arith
    go false e r = let y = leb-false k n e in let z : k ≡ suc n = omega arith in rw z (omega arith)

offset_next : (f : Frame) (i : ℕ) → offset_of f (suc i) ≡ offset_of f i + width_of (field_at f i).long
unfolding offset_of
offset_next f i = refl

laid_next : (m : List ℕ) (p : ℕ) (f : Frame) (i : ℕ) → laid m p (pieces_of f (suc i)) ≡ laid (put (field_at f i).long m (p + offset_of f i) (kept (field_at f i).long (field_at f i).value)) p (pieces_of f i)
unfolding laid pieces_of
laid_next m p f i = refl

told_next : (e : ℕ) (l : List ℕ) (q : ℕ) (f : Frame) (i : ℕ)
    → told e l (writes_of q (pieces_of f (suc i))) ≡ told (e + 1) (note_log e l (write_code (field_at f i).long) (q + offset_of f i) (field_at f i).value) (writes_of q (pieces_of f i))
unfolding told writes_of pieces_of
told_next e l q f i = refl

-- k fields are left, o bytes, and e is the next event
pub record Laying (s : Spot) (n : ℕ) (f : Frame) (m₀ l₀ m l : List ℕ) (k o e : ℕ) : Type 0 where
  pub most : k ≤ f.count
  pub offset : o ≡ offset_of f k
  pub events : e + k ≡ n + f.count
  pub stored : length m ≡ length m₀
  pub logged : length l ≡ length l₀
  pub store : laid m s.place (pieces_of f k) ≡ laid m₀ s.place (pieces_of f f.count)
  pub log : told e l (writes_of s.a7 (pieces_of f k)) ≡ told n l₀ (writes_of s.a7 (pieces_of f f.count))

-- a field read off the array
pub read_way : (f : Frame) (i : ℕ) → i < 28 → get_or f.fields i (word 0) ≡ field_at f i
unfolding field_at
read_way f i h = rw (lt-ltb i 28 h)

pub left_read : (s : Spot) (n : ℕ) (f : Frame) (m₀ l₀ m l : List ℕ) (k o e : ℕ) → Laying s n f m₀ l₀ m l k o e → (size : ℕ) → Sized f size → 0 < k → get_or f.fields (k - 1) (word 0) ≡ field_at f (k - 1)
left_read s n f m₀ l₀ m l k o e h size z p = read_way f (k - 1) (let a = h.most in let b = z.few in omega arith)

pub lay_starts : (s : Spot) (n size : ℕ) (f : Frame) (m l : List ℕ) → Sized f size → Laying s n f m l m l f.count size n
lay_starts s n size f m l h = record { most = omega arith; offset = sym h.bytes; events = refl; stored = refl; logged = refl; store = refl; log = refl }

module _ (s : Spot) (n : ℕ) (f : Frame) (m₀ l₀ m l : List ℕ) (k o e : ℕ) (y : Field) (w : ℕ) (h : Laying s n f m₀ l₀ m l k o e) (p : 0 < k) (u : y ≡ field_at f (k - 1)) (v : w ≡ width_of y.long) where
  one_left : k ≡ suc (k - 1)
  one_left = omega arith

  -- the bytes before the next field
  lay_back : o ≡ offset_of f (k - 1) + w
  lay_back = h.offset ∙ ap (λ (i : ℕ). offset_of f i) one_left ∙ offset_next f (k - 1) ∙ rw (v, u)

  pub lay_low : w ≤ o
  lay_low = let z = lay_back in omega arith

  lay_next : o - w ≡ offset_of f (k - 1)
  lay_next = let z = lay_back in omega arith

  pub lay_room : (size : ℕ) → Fits s size m₀ → Sized f size → n ≤ 1 → 192 ≤ length l₀ → Fits s (o - w + width_of y.long) m × (e < 64) × (192 ≤ length l)
  lay_room size r z i j =
      let a = lay_low in
      let b = offset_most f f.count k h.most in
      let c = h.offset in
      let d = z.bytes in
      let g = h.stored in
      let q = r.place in
      let t = r.address in
      let x = h.events in
      let ff = z.few in
      let ll = h.logged in
      (rw (← v) (record { place = omega arith; address = omega arith }), omega arith, omega arith)

  pub lay_goes : (m1 l1 : List ℕ) → (m1 ≡ put y.long m (s.place + (o - w)) (kept y.long y.value)) × (l1 ≡ note_log e l (write_code y.long) (s.a7 + (o - w)) y.value)
      → Laying s n f m₀ l₀ m1 l1 (k - 1) (o - w) (e + 1)
  lay_goes m1 l1 g =
      record {
        most = let a = h.most in omega arith;
        offset = lay_next;
        events = let a = h.events in omega arith;
        stored = ap length g.0 ∙ put_length y.long m (s.place + (o - w)) (kept y.long y.value) ∙ h.stored;
        logged = ap length g.1 ∙ note_length e l (write_code y.long) (s.a7 + (o - w)) y.value ∙ h.logged;
        store = rw (g.0, lay_next, u) (sym (laid_next m s.place f (k - 1)) ∙ ap (λ (i : ℕ). laid m s.place (pieces_of f i)) (sym one_left) ∙ h.store);
        log = rw (g.1, lay_next, u) (sym (told_next e l s.a7 f (k - 1)) ∙ ap (λ (i : ℕ). told e l (writes_of s.a7 (pieces_of f i))) (sym one_left) ∙ h.log);
      }

none_left : (s : Spot) (e : ℕ) (f : Frame) (m l : List ℕ) → (laid m s.place (pieces_of f 0) ≡ m) × (told e l (writes_of s.a7 (pieces_of f 0)) ≡ l)
unfolding laid told writes_of pieces_of
none_left s e f m l = (refl, refl)

pub lay_ends : (s : Spot) (n : ℕ) (f : Frame) (m₀ l₀ m l : List ℕ) (k o e : ℕ) → Laying s n f m₀ l₀ m l k o e → k ≤ 0
    → (m ≡ laid m₀ s.place (pieces_of f f.count)) × (l ≡ told n l₀ (writes_of s.a7 (pieces_of f f.count)))
lay_ends s n f m₀ l₀ m l k o e h z =
    let a : k ≡ 0 = omega arith in
    let b = none_left s e f m l in
    (sym b.0 ∙ ap (λ (i : ℕ). laid m s.place (pieces_of f i)) (sym a) ∙ h.store, sym b.1 ∙ ap (λ (i : ℕ). told e l (writes_of s.a7 (pieces_of f i))) (sym a) ∙ h.log)
