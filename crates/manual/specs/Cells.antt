-- What a frame of the engine holds at an offset, and that it lies there in the store after the frame was pushed.
use Prim.Native.Nat.{ℕ, zero, suc, ◌+◌, ◌*◌, ◌/◌, ◌%◌, ◌^◌, ◌≤◌, ◌<◌}
use Rattle.std.specs.Prelude.{◌≡◌, Bool, not, ◌&&◌, List, [], ◌∷◌, eqb, length}
use Rattle.std.proofs.Math.Path.{refl, ap, subst}
use Rattle.std.proofs.Common.{sym, ◌∙◌, arith}
use Rattle.std.proofs.Math.Bool.{true, false, cond}
use Rattle.std.proofs.Math.Option.{Option, none, some}
use borrow.Author.Tests.{eqb-true}
use Rattle.types.specs.Kinds.{mask_address}
use Rattle.cpu.specs.Fields.{kind_of}
use Rattle.memory.specs.Served.{served_of}
use Rattle.memory.specs.World.{World, width_of, served, read_value, cpu_of}
use Rattle.memory.specs.AccessLaws.{kept}
use Rattle.frames.specs.declared.Frame.{Frame}
use Rattle.frames.specs.Frames.{field_at, is_counted}
use Rattle.images.specs.Pushes.{served_same}
use Rattle.images.specs.Images.{Shape, Ready, Image, frame_bytes, field_address, new_a7, bottom}
use Rattle.images.proofs.Images.{at_offset}
use Rattle.nest.specs.View.{Bytes, opt, peek}
use Rattle.nest.specs.Written.{word_at, long_at}
use Rattle.entered.specs.Bytes.{mem, word_read, long_read}
use Rattle.manual.specs.Formats.{Field, Span, whole, bits}

-- ---- reading

-- some of the bits of a number
abbrev pub part : Span → ℕ → ℕ
part whole x = x
part (bits low n) x = x / 2 ^ low % 2 ^ n

abbrev pub part_of : Span → Option ℕ → Option ℕ
part_of p none = none
part_of p (some x) = some (part p x)

-- the word or long that bytes hold at an address
abbrev pub read_at : Bytes → Bool → ℕ → Option ℕ
read_at b g a = cond g (long_at b a) (word_at b a)

-- ---- a frame of the engine

abbrev alike : Bool → Bool → Bool
alike true b = b
alike false b = not b

-- the written field among the first n that begins at offset o and has width g
unfoldable pub look : Frame → ℕ → Bool → ℕ → Option ℕ
look f o g zero = none
look f o g (suc n) = cond (eqb (frame_bytes f n) o && (not (is_counted (field_at f n)) && alike g (field_at f n).long)) (some (kept g (field_at f n).value)) (look f o g n)

abbrev joined : Option ℕ → Option ℕ → Option ℕ
joined a b = opt a (λ hi. opt b (λ lo. some (hi * 0x10000 + lo)))

abbrev or_else : Option ℕ → Option ℕ → Option ℕ
or_else none b = b
or_else (some x) b = some x

-- a long is one field or two words
unfoldable pub in_frame : Frame → ℕ → Bool → Option ℕ
in_frame f o true = or_else (look f o true f.count) (joined (look f o false f.count) (look f (o + 2) false f.count))
in_frame f o false = look f o false f.count

no_some : {A : Type 0} (y : ℕ) → ◌≡◌ {A = Option ℕ} none (some y) → A
no_some y e = let z : ◌≡◌ {A = ℕ} 0 1 = cc in absurd (omega arith)

pub same_some : (x y : ℕ) → ◌≡◌ {A = Option ℕ} (some x) (some y) → x ≡ y
same_some x y e = cc

both_true : (a b : Bool) → (a && b) ≡ true → (a ≡ true) × (b ≡ true)
both_true true b e = (refl, e)
both_true false b e = let z : ◌≡◌ {A = ℕ} 0 1 = cc in absurd (omega arith)

not_true : (a : Bool) → not a ≡ true → a ≡ false
not_true true e = sym e
not_true false e = refl

alike_is : (a b : Bool) → alike a b ≡ true → b ≡ a
alike_is true b e = e
alike_is false b e = not_true b e

module _ (y : World) (f : Frame) (s : Shape f) (h : Ready y f) (z : World) (m : Image y z f) where
  served_after : (i : ℕ) → i < f.count → is_counted (field_at f i) ≡ false → served z (bottom y f + frame_bytes f i) (field_at f i).long ≡ true
  unfolding served
  served_after i l c =
      ap (λ (n : ℕ). served_of z.core.bus n (bottom y f + frame_bytes f i) (width_of (field_at f i).long)) m.size
      ∙ served_same z.core.bus y.core.bus (length y.store) (bottom y f + frame_bytes f i) (width_of (field_at f i).long) m.bus
      ∙ (rw (at_offset y f s h i l c) at (h.allowed.serves i l c))

  -- field i, read back
  field_back : (i : ℕ) → i < f.count → is_counted (field_at f i) ≡ false → (g : Bool) → (field_at f i).long ≡ g → read_at (peek (mem z)) g (bottom y f + frame_bytes f i) ≡ some (kept g (field_at f i).value)
  field_back i l c true e =
      long_read z (bottom y f + frame_bytes f i) (field_at f i).value (subst (λ (g : Bool). served z (bottom y f + frame_bytes f i) g ≡ true) e (served_after i l c))
      (subst (λ (g : Bool). read_value z (bottom y f + frame_bytes f i) g ≡ kept g (field_at f i).value) e (m.fields i l c))
  field_back i l c false e =
      word_read z (bottom y f + frame_bytes f i) ((field_at f i).value % 0x10000) (subst (λ (g : Bool). served z (bottom y f + frame_bytes f i) g ≡ true) e (served_after i l c))
      (subst (λ (g : Bool). read_value z (bottom y f + frame_bytes f i) g ≡ kept g (field_at f i).value) e (m.fields i l c))

  -- where it lies: at its offset from the new A7, as the kind masks it
  record Back (o : ℕ) (g : Bool) (x : ℕ) : Type 0 where
    value : read_at (peek (mem z)) g (bottom y f + o) ≡ some x
    spot : mask_address (kind_of (cpu_of y)) ((new_a7 y f + o) % 2 ^ 32) ≡ bottom y f + o

  spot_of : (i : ℕ) → i < f.count → is_counted (field_at f i) ≡ false → mask_address (kind_of (cpu_of y)) ((new_a7 y f + frame_bytes f i) % 2 ^ 32) ≡ bottom y f + frame_bytes f i
  unfolding field_address
  spot_of i k c = at_offset y f s h i k c

  look_back : (o : ℕ) (g : Bool) (n : ℕ) → n ≤ f.count → (x : ℕ) → look f o g n ≡ some x → Back o g x
  unfolding look
  look_back o g zero l x e = no_some x e
  look_back o g (suc n) l x e = go (λ u. look_back o g n (omega arith) x u) (eqb (frame_bytes f n) o && (not (is_counted (field_at f n)) && alike g (field_at f n).long)) refl e
    where
      go : (look f o g n ≡ some x → Back o g x) → (b : Bool) → (eqb (frame_bytes f n) o && (not (is_counted (field_at f n)) && alike g (field_at f n).long)) ≡ b → cond b (some (kept g (field_at f n).value)) (look f o g n) ≡ some x → Back o g x
      go r false t u = r u
      go r true t u =
          let p = both_true (eqb (frame_bytes f n) o) (not (is_counted (field_at f n)) && alike g (field_at f n).long) t in
          let q = both_true (not (is_counted (field_at f n))) (alike g (field_at f n).long) p.1 in
          let c : is_counted (field_at f n) ≡ false = not_true (is_counted (field_at f n)) q.0 in
          let w : frame_bytes f n ≡ o = eqb-true (frame_bytes f n) o p.0 in
          subst (λ (k : ℕ). Back k g x) w
          (record {
            value = field_back n (omega arith) c g (alike_is g (field_at f n).long q.1) ∙ u;
            spot = spot_of n (omega arith) c;
          })

  halves_back : (o x : ℕ) (a b : Option ℕ) → look f o false f.count ≡ a → look f (o + 2) false f.count ≡ b → joined a b ≡ some x → Back o true x
  halves_back o x none b p q e = no_some x e
  halves_back o x (some u) none p q e = no_some x e
  halves_back o x (some u) (some w) p q e =
      let c : Back o false u = look_back o false f.count (omega arith) u p in
      let d : Back (o + 2) false w = look_back (o + 2) false f.count (omega arith) w q in
      let n : bottom y f + o + 2 ≡ bottom y f + (o + 2) = omega arith in
      record { value = rw c.value (rw (ap (word_at (peek (mem z))) n ∙ d.value) e); spot = c.spot }

  long_back : (o x : ℕ) (a : Option ℕ) → look f o true f.count ≡ a → or_else a (joined (look f o false f.count) (look f (o + 2) false f.count)) ≡ some x → Back o true x
  long_back o x none p e = halves_back o x (look f o false f.count) (look f (o + 2) false f.count) refl refl e
  long_back o x (some u) p e = look_back o true f.count (omega arith) x (p ∙ e)

  found_back : (o : ℕ) (g : Bool) (x : ℕ) → in_frame f o g ≡ some x → Back o g x
  unfolding in_frame
  found_back o true x e = long_back o x (look f o true f.count) refl e
  found_back o false x e = look_back o false f.count (omega arith) x e

  -- what a frame holds at an offset lies there in the store
  pub frame_back : (t : Field) (x : ℕ) → part_of t.span (in_frame f t.offset t.long) ≡ some x
      → part_of t.span (read_at (peek (mem z)) t.long (mask_address (kind_of (cpu_of y)) ((new_a7 y f + t.offset) % 2 ^ 32))) ≡ some x
  frame_back t x e = go (in_frame f t.offset t.long) refl e
    where
      go : (o : Option ℕ) → in_frame f t.offset t.long ≡ o → part_of t.span o ≡ some x
          → part_of t.span (read_at (peek (mem z)) t.long (mask_address (kind_of (cpu_of y)) ((new_a7 y f + t.offset) % 2 ^ 32))) ≡ some x
      go none p q = no_some x q
      go (some u) p q =
          let b : Back t.offset t.long u = found_back t.offset t.long u p in
          ap (λ (a : ℕ). part_of t.span (read_at (peek (mem z)) t.long a)) b.spot ∙ ap (part_of t.span) b.value ∙ q

-- the same, at its offset from the frame's lowest byte
module _ (y : World) (f : Frame) (s : Shape f) (h : Ready y f) (z : World) (m : Image y z f) where
  pub frame_at : (t : Field) (x : ℕ) → part_of t.span (in_frame f t.offset t.long) ≡ some x
      → (part_of t.span (read_at (peek (mem z)) t.long (bottom y f + t.offset)) ≡ some x) × (mask_address (kind_of (cpu_of y)) ((new_a7 y f + t.offset) % 2 ^ 32) ≡ bottom y f + t.offset)
  frame_at t x e = go (in_frame f t.offset t.long) refl e
    where
      go : (o : Option ℕ) → in_frame f t.offset t.long ≡ o → part_of t.span o ≡ some x
          → (part_of t.span (read_at (peek (mem z)) t.long (bottom y f + t.offset)) ≡ some x) × (mask_address (kind_of (cpu_of y)) ((new_a7 y f + t.offset) % 2 ^ 32) ≡ bottom y f + t.offset)
      go none p q = no_some x q
      go (some u) p q =
          let b : Back y f s h z m t.offset t.long u = found_back y f s h z m t.offset t.long u p in
          (ap (part_of t.span) b.value ∙ q, b.spot)

-- what is read is the same where the bytes are
pub read_same : (b d : Bytes) (g : Bool) (a : ℕ) → ((j : ℕ) → j < cond g 4 2 → b (a + j) ≡ d (a + j)) → read_at b g a ≡ read_at d g a
read_same b d true a h =
    let z : a + 0 ≡ a = omega arith in
    let u : a + 1 + 1 ≡ a + 2 = omega arith in
    let v : a + 2 + 1 ≡ a + 3 = omega arith in
    let p : b a ≡ d a = rw z at (h 0 (omega arith)) in
    let q : b (a + 2 + 1) ≡ d (a + 2 + 1) = rw v (h 3 (omega arith)) in
    rw (p, h 1 (omega arith), h 2 (omega arith), q)
read_same b d false a h =
    let z : a + 0 ≡ a = omega arith in
    let p : b a ≡ d a = rw z at (h 0 (omega arith)) in
    rw (p, h 1 (omega arith))

-- ---- a frame that holds what the manual's table says, but where a row of the table of differences stands

-- one field: excluded, without a value, or held
abbrev pub Cell : Frame → Bool → Option ℕ → Field → Type 0
Cell f true v t = Unit {0}
Cell f false none t = Unit {0}
Cell f false (some x) t = part_of t.span (in_frame f t.offset t.long) ≡ some x

abbrev pub Holding : Frame → (Field → Bool) → List Field → Type 0
Holding f out [] = Unit {0}
Holding f out (t ∷ ts) = Cell f (out t) t.value t × Holding f out ts

-- a value that is there
pub is : {x y : ℕ} → x ≡ y → ◌≡◌ {A = Option ℕ} (some x) (some y)
is e = ap {B = Option ℕ} some e
