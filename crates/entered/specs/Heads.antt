-- The head of a frame, read back: status, address and format word, and that all else stays.
use Rattle.std.specs.Prelude.{ℕ, ◌+◌, ◌-◌, ◌*◌, ◌%◌, ◌≤◌, ◌<◌, ◌≡◌, refl, Bool, true, false, cond, [], ◌∷◌, ltb, length}
use Rattle.std.proofs.Common.{sym, ◌∙◌, subst, inl, inr, arith, ltb-true, ltb-false}
use Rattle.std.proofs.Math.Path.{ap}
use Rattle.std.proofs.Math.Option.{Option, some}
use Rattle.types.specs.Kinds.{pick, mask_address}
use Rattle.cpu.specs.Fields.{kind_of, a7_of}
use Rattle.memory.specs.Served.{served_of}
use Rattle.memory.specs.Runs.{Outside}
use Rattle.memory.specs.World.{World, width_of, served, read_value, cpu_of}
use Rattle.memory.specs.AccessLaws.{kept}
use Rattle.frames.specs.declared.Frame.{Frame}
use Rattle.frames.specs.Frames.{field_at, is_counted}
use Rattle.access.specs.Access.{raised, push_frame}
use Rattle.images.specs.Pushes.{calm, served_same}
use Rattle.images.specs.Images.{Shape, Ready, Image, frame_bytes, new_a7, bottom}
use Rattle.images.proofs.Images.{at_offset, stacked_image}
use Rattle.forms.specs.Gist.{gist, gist_cpu, a7_gist, framed_by, stacked_form, minus_below}
use Rattle.forms.specs.Jumps.{value_gist}
use Rattle.nest.specs.View.{Frame as NestFrame}
use Rattle.nest.specs.View.{peek, addr, span, short}
use Rattle.nest.specs.Nest.{Holds}
use Rattle.nest.specs.Laws.{Pushed}
use Rattle.nest.specs.Written.{word_at, long_at, word_is, long_is, out_range}
use Rattle.entered.specs.Bytes.{mem, word_read, long_read, same_peek}

-- ---- the image of a frame, by the gist

kind_gist : (x : World) → kind_of (cpu_of (gist x)) ≡ kind_of (cpu_of x)
unfolding gist gist_cpu kind_of
kind_gist x = refl

image_gist : (w x : World) (f : Frame) → Image w x f → Image w (gist x) f
unfolding gist calm
image_gist w x f h =
    record {
      a7 = sym (a7_gist x) ∙ h.a7;
      kind = kind_gist x ∙ h.kind;
      bus = h.bus;
      size = h.size;
      fields = λ i l c. value_gist x (bottom w f + frame_bytes f i) (field_at f i).long ∙ h.fields i l c;
      gaps = h.gaps;
      others = h.others;
    }

-- what `framed_by` leaves is the image of its frame
pub framed_image : (y : World) (f : Frame) → gist y ≡ y → Shape f → Ready y f → Image y (framed_by y f) f
framed_image y f e s h =
    subst (λ (z : World). Image y z f) (stacked_form raised y y f e h.sound h.allowed) (image_gist y (push_frame raised y f) f (stacked_image y f s h raised))

-- ---- fields by their offsets

-- a word of value v at offset o
pub record WordIn (f : Frame) (o v : ℕ) : Type 0 where
  pub at : ℕ
  pub inside : at < f.count
  pub written : is_counted (field_at f at) ≡ false
  pub width : (field_at f at).long ≡ false
  pub offset : frame_bytes f at ≡ o
  pub value : (field_at f at).value % 0x10000 ≡ v

-- a long
pub record LongIn (f : Frame) (o v : ℕ) : Type 0 where
  pub at : ℕ
  pub inside : at < f.count
  pub written : is_counted (field_at f at) ≡ false
  pub width : (field_at f at).long ≡ true
  pub offset : frame_bytes f at ≡ o
  pub value : (field_at f at).value ≡ v

-- an address at offset 2, whole or by words
pub data AddressIn (f : Frame) (v : ℕ) : Type 0 where
  whole : LongIn f 2 v → AddressIn f v
  halves : (x y : ℕ) → WordIn f 2 x → WordIn f 4 y → x * 0x10000 + y ≡ v → AddressIn f v

-- f has the head status, address and, on kinds other than 1, format word
pub record Heads (k : ℕ) (f : Frame) (len status address word : ℕ) : Type 0 where
  pub shape : Shape f
  pub length : frame_bytes f f.count ≡ len
  pub status_in : WordIn f 0 status
  pub address_in : AddressIn f address
  pub word_in_lem : short k ≡ false → WordIn f 6 word
  pub six : 6 ≤ len
  pub eight : short k ≡ false → 8 ≤ len

module _ (y : World) (f : Frame) (s : Shape f) (h : Ready y f) (z : World) (m : Image y z f) where
  served_after : (i : ℕ) → i < f.count → is_counted (field_at f i) ≡ false → served z (bottom y f + frame_bytes f i) (field_at f i).long ≡ true
  unfolding served
  served_after i l c =
      ap (λ (n : ℕ). served_of z.core.bus n (bottom y f + frame_bytes f i) (width_of (field_at f i).long)) m.size
      ∙ served_same z.core.bus y.core.bus (length y.store) (bottom y f + frame_bytes f i) (width_of (field_at f i).long) m.bus
      ∙ (rw (at_offset y f s h i l c) at (h.allowed.serves i l c))

  word_back : (o v : ℕ) → WordIn f o v → word_at (peek (mem z)) (bottom y f + o) ≡ some v
  word_back o v w =
      subst (λ (n : ℕ). word_at (peek (mem z)) (bottom y f + n) ≡ some v) w.offset
      (word_read z (bottom y f + frame_bytes f w.at) v
      (subst (λ (g : Bool). served z (bottom y f + frame_bytes f w.at) g ≡ true) w.width (served_after w.at w.inside w.written))
      (subst (λ (g : Bool). read_value z (bottom y f + frame_bytes f w.at) g ≡ kept g (field_at f w.at).value) w.width (m.fields w.at w.inside w.written) ∙ w.value))

  long_back : (o v : ℕ) → LongIn f o v → long_at (peek (mem z)) (bottom y f + o) ≡ some v
  long_back o v w =
      subst (λ (n : ℕ). long_at (peek (mem z)) (bottom y f + n) ≡ some v) w.offset
      (long_read z (bottom y f + frame_bytes f w.at) v
      (subst (λ (g : Bool). served z (bottom y f + frame_bytes f w.at) g ≡ true) w.width (served_after w.at w.inside w.written))
      (subst (λ (g : Bool). read_value z (bottom y f + frame_bytes f w.at) g ≡ kept g (field_at f w.at).value) w.width (m.fields w.at w.inside w.written) ∙ w.value))

  address_back : (v : ℕ) → AddressIn f v → long_at (peek (mem z)) (bottom y f + 2) ≡ some v
  address_back v (whole w) = long_back 2 v w
  address_back v (halves a b u w e) =
      rw (word_back 2 a u) (rw (ap (word_at (peek (mem z))) (sum (bottom y f)) ∙ word_back 4 b w) (ap {B = Option ℕ} some e))
    where
      sum : (n : ℕ) → n + 2 + 2 ≡ n + 4
      sum n = omega arith

mask_addr : (k q : ℕ) → q < 0x100000000 → addr k q 0 ≡ mask_address k q
unfolding addr mask_address
mask_addr k q l = go (ltb k 3)
  where
    go : (t : Bool) → (q + 0) % 0x100000000 % cond t 0x1000000 0x100000000 ≡ pick t (q % 0x1000000) q
    go true = omega arith
    go false = omega arith

-- a frame of the nest whose head and place are those of f
module _ (y : World) (f : Frame) (h : Ready y f) (z : World) (m : Image y z f) (k : ℕ) (e : kind_of (cpu_of y) ≡ k) (n : NestFrame)
    (d : Heads k f n.len n.status n.address n.word) (at : n.at ≡ new_a7 y f) (below : addr k n.at 0 + n.len ≤ span k) where
  place : addr k n.at 0 ≡ bottom y f
  place =
      ap (λ (q : ℕ). addr k q 0) at ∙ mask_addr k (new_a7 y f) (minus_below (a7_of (cpu_of y)) (frame_bytes f f.count))
      ∙ ap (λ (j : ℕ). mask_address j (new_a7 y f)) (sym e)

  pub frame_pushed : Pushed k (peek (mem z)) n
  frame_pushed =
      record {
        status_at = word_is (peek (mem z)) k n.at n.len below 0 (omega (arith, d.six)) ∙ ap (λ (a : ℕ). word_at (peek (mem z)) (a + 0)) place ∙ word_back y f d.shape h z m 0 n.status d.status_in;
        address_at = long_is (peek (mem z)) k n.at n.len below 2 (omega (arith, d.six)) ∙ ap (λ (a : ℕ). long_at (peek (mem z)) (a + 2)) place ∙ address_back y f d.shape h z m n.address d.address_in;
        word_at = λ q. word_is (peek (mem z)) k n.at n.len below 6 (omega (arith, d.eight q)) ∙ ap (λ (a : ℕ). word_at (peek (mem z)) (a + 6)) place ∙ word_back y f d.shape h z m 6 n.word (d.word_in_lem q);
      }

  pub frame_outside : (a : ℕ) → (Holds k (n ∷ []) a → ⊥) → peek (mem z) a ≡ peek (mem y) a
  frame_outside a o = same_peek y z a m.bus m.size (m.others a (go (ltb a (bottom y f)) refl))
    where
      go : (t : Bool) → ltb a (bottom y f) ≡ t → Outside (bottom y f) (frame_bytes f f.count) a
      go true u = inl (ltb-true a (bottom y f) u)
      go false u = past (ltb a (bottom y f + frame_bytes f f.count)) refl
        where
          past : (t : Bool) → ltb a (bottom y f + frame_bytes f f.count) ≡ t → Outside (bottom y f) (frame_bytes f f.count) a
          past false v = inr (ltb-false a (bottom y f + frame_bytes f f.count) v)
          past true v = absurd (out_range k n a below o (omega (arith, place, ltb-false a (bottom y f) u)) (omega (arith, place, d.length, ltb-true a (bottom y f + frame_bytes f f.count) v)))
