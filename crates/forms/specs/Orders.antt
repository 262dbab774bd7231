-- The frames that are written word by word in the order of the bus, A7 lowered first: kind 1 (address low, status, address high) and
-- the interrupt of kind 2 (the same, then the format word). What they leave is the frame of these words.
use Prim.Native.Nat.{ℕ, ◌+◌, ◌-◌, ◌/◌, ◌%◌, ◌^◌, ◌≤◌, ◌<◌}
use Rattle.std.specs.Prelude.{◌≡◌, Bool, eqb}
use Rattle.std.proofs.Math.Path.{refl, ap}
use Rattle.std.proofs.Common.{sym, ◌∙◌, inr, le-ltb}
use Rattle.std.proofs.Math.Bool.{false}
use mathlib.Core.List.{List, [], ◌∷◌}
use native.Mathlib.Omega.{arith}
use Rattle.std.proofs.Math.ListN.{length}
use Rattle.types.specs.Kinds.{pick, is_pre68020, mask_address}
use Rattle.cpu.specs.Fields.{kind_of, a7_of, address_of, is_faulted, checks_alignment, set_a7, lower_a7, minus32}
use Rattle.memory.specs.declared.Bus.{Bus}
use Rattle.memory.specs.Served.{served_of, place_of}
use Rattle.memory.specs.World.{World, stored, put_cpu, width_of, served, cpu_of, with_cpu}
use Rattle.memory.specs.ByteLaws.{put}
use Rattle.memory.proofs.ByteLaws.{put_length, put_comm}
use Rattle.memory.specs.AccessLaws.{kept}
use Rattle.memory.specs.ServedLaws.{served_means}
use Rattle.frames.specs.declared.Frame.{Frame}
use Rattle.frames.specs.Frames.{word, framed, field_at, is_counted, is_raw}
use Rattle.steps.specs.Steps.{refuses_odd}
use Rattle.access.specs.Access.{Raise, write_at, short_writes, push_exception_frame68000}
use Rattle.images.specs.Pushes.{laid_field}
use Rattle.images.specs.Images.{Shape, Ready, frame_bytes, field_address, laid, new_a7, bottom}
use Rattle.images.proofs.Images.{at_offset}
use Rattle.forms.specs.Gist.{gist, wrote_at, at7, a7_gist, a7_at7, guard_form, lower_form, framed_by, minus_below}

-- status and address by words: 6 bytes, and with a format word 8
unfoldable pub words6 : ℕ → ℕ → Frame
words6 sr pc = framed (word sr ∷ word (pc / 0x10000) ∷ word (pc % 0x10000) ∷ [])

unfoldable pub words8 : ℕ → ℕ → ℕ → Frame
words8 sr pc format = framed (word sr ∷ word (pc / 0x10000) ∷ word (pc % 0x10000) ∷ word format ∷ [])

pub shape6 : (sr pc : ℕ) → Shape (words6 sr pc)
unfolding words6 field_at is_counted frame_bytes
shape6 sr pc = record { some = omega arith; first = refl; short = omega arith }

pub shape8 : (sr pc format : ℕ) → Shape (words8 sr pc format)
unfolding words8 field_at is_counted frame_bytes
shape8 sr pc format = record { some = omega arith; first = refl; short = omega arith }

-- ---- three and four words in any order

abbrev pub P : List ℕ → ℕ → ℕ → List ℕ
P s p v = put false s p (kept false v)

three_order : (s : List ℕ) (p0 p2 p4 : ℕ) (a b c : ℕ) → p2 ≡ p0 + 2 → P (P (P s p4 c) p0 a) p2 b ≡ P (P (P s p4 c) p2 b) p0 a
three_order s p0 p2 p4 a b c e = put_comm false false (P s p4 c) p2 p0 (kept false b) (kept false a) (inr (omega arith))

pub four_order : (s : List ℕ) (p0 p2 p4 p6 : ℕ) (a b c d : ℕ) → p2 ≡ p0 + 2 → p4 ≡ p0 + 4 → p6 ≡ p0 + 6
    → P (P (P (P s p4 c) p0 a) p2 b) p6 d ≡ P (P (P (P s p6 d) p4 c) p2 b) p0 a
four_order s p0 p2 p4 p6 a b c d e f g =
    ap (λ (l : List ℕ). P l p6 d) (three_order s p0 p2 p4 a b c e)
    ∙ put_comm false false (P (P s p4 c) p2 b) p6 p0 (kept false d) (kept false a) (inr (omega arith))
    ∙ ap (λ (l : List ℕ). P l p0 a) (put_comm false false (P s p4 c) p6 p2 (kept false d) (kept false b) (inr (omega arith)))
    ∙ ap (λ (l : List ℕ). P (P l p2 b) p0 a) (put_comm false false s p6 p4 (kept false d) (kept false c) (inr (omega arith)))

-- ---- one word of such a frame

module _ (x : World) (a : ℕ) (g : Bool) (v : ℕ) where
  wrote_served : (c : ℕ) (h : Bool) → served (wrote_at x a g v) c h ≡ served x c h
  unfolding served stored
  wrote_served c h = rw (put_length g x.store (place_of x.core.bus a) (kept g v))

  wrote_cpu : cpu_of (wrote_at x a g v) ≡ cpu_of x
  unfolding stored
  wrote_cpu = refl

  wrote_bus : (wrote_at x a g v).core.bus ≡ x.core.bus
  unfolding stored
  wrote_bus = refl

place_above : (b : Bus) (a : ℕ) → b.base ≤ a → place_of b a ≡ a - b.base
unfolding place_of
place_above b a h = rw (le-ltb a b.base h)

module _ (x : World) (f : Frame) (s : Shape f) (h : Ready x f) where
  abbrev spot_of : ℕ → ℕ
  spot_of i = field_address (kind_of (cpu_of x)) (new_a7 x f) f i

  spot_low : (i : ℕ) → i < f.count → is_counted (field_at f i) ≡ false → x.core.bus.base ≤ bottom x f + frame_bytes f i
  spot_low i l c =
      omega (arith, rw (at_offset x f s h i l c) at (served_means x.core.bus (length x.store) (spot_of i) (width_of (field_at f i).long) (h.allowed.serves i l c)).low)

  -- the place of a written field is its offset above the place of the lowest
  pub place_is : (i : ℕ) → i < f.count → is_counted (field_at f i) ≡ false → place_of x.core.bus (spot_of i) ≡ bottom x f + frame_bytes f i - x.core.bus.base
  place_is i l c = ap (λ (a : ℕ). place_of x.core.bus a) (at_offset x f s h i l c) ∙ place_above x.core.bus (bottom x f + frame_bytes f i) (spot_low i l c)

  -- the world with A7 at the frame and a store of the same length
  abbrev standing : List ℕ → World
  standing l = at7 (stored x l) (new_a7 x f)

  stand_faulted : (l : List ℕ) → is_faulted (cpu_of (standing l)) ≡ is_faulted (cpu_of x)
  unfolding set_a7 put_cpu stored is_faulted
  stand_faulted l = refl

  stand_address : (l : List ℕ) (a : ℕ) → address_of (cpu_of (standing l)) a ≡ mask_address (kind_of (cpu_of x)) a
  unfolding set_a7 put_cpu stored address_of kind_of
  stand_address l a = refl

  stand_odd : (l : List ℕ) (a : ℕ) → refuses_odd (cpu_of (standing l)) a ≡ pick (is_pre68020 (kind_of (cpu_of x))) (eqb (a % 2) 1) false
  unfolding set_a7 put_cpu stored refuses_odd checks_alignment kind_of
  stand_odd l a = refl

  stand_served : (l : List ℕ) (a : ℕ) (g : Bool) → length l ≡ length x.store → served (standing l) a g ≡ served_of x.core.bus (length x.store) a (width_of g)
  unfolding put_cpu stored served
  stand_served l a g e = rw e

  stand_wrote : (l : List ℕ) (a : ℕ) (g : Bool) (v : ℕ) → wrote_at (standing l) a g v ≡ standing (put g l (place_of x.core.bus a) (kept g v))
  unfolding put_cpu stored
  stand_wrote l a g v = refl

  -- one guarded field, written at its address
  pub word_step : (t : Raise) (y : World) (l : List ℕ) (i a : ℕ) → gist y ≡ standing l → length l ≡ length x.store → i < f.count → is_counted (field_at f i) ≡ false → is_raw (field_at f i) ≡ false
      → a ≡ (new_a7 x f + frame_bytes f i) % 2 ^ 32
      → gist (write_at t y a (field_at f i).long (field_at f i).value) ≡ standing (put (field_at f i).long l (place_of x.core.bus (spot_of i)) (kept (field_at f i).long (field_at f i).value))
  unfolding field_address
  word_step t y l i a e n j c r d =
      guard_form t y (standing l) a (spot_of i) (field_at f i).long (field_at f i).value e (stand_faulted l ∙ h.sound.running)
      (stand_address l a ∙ ap (λ (z : ℕ). mask_address (kind_of (cpu_of x)) z) d) (stand_odd l (spot_of i) ∙ h.allowed.even i j c r)
      (stand_served l (spot_of i) (field_at f i).long n ∙ h.allowed.serves i j c)
      ∙ stand_wrote l (spot_of i) (field_at f i).long (field_at f i).value

  -- a step of the place: the place of field i is d bytes above the place of the lowest
  pub place_step : (i d : ℕ) → i < f.count → is_counted (field_at f i) ≡ false → frame_bytes f i ≡ d → place_of x.core.bus (spot_of i) ≡ place_of x.core.bus (spot_of 0) + d
  unfolding frame_bytes
  place_step i d l c e =
      place_is i l c ∙ sums (spot_low 0 s.some s.first) ∙ ap (λ (z : ℕ). z + d) (sym (place_is 0 s.some s.first))
    where
      sums : x.core.bus.base ≤ bottom x f + 0 → bottom x f + frame_bytes f i - x.core.bus.base ≡ bottom x f + 0 - x.core.bus.base + d
      sums k = omega arith

-- ---- kind 1: address low, status, address high

module _ (t : Raise) (x : World) (sr pc : ℕ) (h : Ready x (words6 sr pc)) where
  abbrev pub f6 : Frame
  f6 = words6 sr pc

  abbrev pub q6 : ℕ
  q6 = new_a7 x (words6 sr pc)

  abbrev pub p6 : ℕ → ℕ
  p6 i = place_of x.core.bus (field_address (kind_of (cpu_of x)) q6 f6 i)

  zero_sum : (q : ℕ) → q < 2 ^ 32 → q ≡ (q + 0) % 2 ^ 32
  zero_sum q l = omega arith

  pub first6 : (y : World) → gist y ≡ at7 x q6 → gist (write_at t y ((q6 + 4) % 2 ^ 32) false (pc % 0x10000)) ≡ at7 (stored x (P x.store (p6 2) (pc % 0x10000))) q6
  unfolding words6 field_at is_counted is_raw frame_bytes stored
  first6 y e = word_step x f6 (shape6 sr pc) h t y x.store 2 ((q6 + 4) % 2 ^ 32) e refl (omega arith) refl refl refl

  last6 : (y : World) → gist y ≡ at7 (stored x (P x.store (p6 2) (pc % 0x10000))) q6
      → gist (write_at t (write_at t y q6 false sr) ((q6 + 2) % 2 ^ 32) false (pc / 0x10000)) ≡ at7 (stored x (P (P (P x.store (p6 2) (pc % 0x10000)) (p6 0) sr) (p6 1) (pc / 0x10000))) q6
  unfolding words6 field_at is_counted is_raw frame_bytes
  last6 y e =
      let l : List ℕ = P x.store (p6 2) (pc % 0x10000) in
      let n : length l ≡ length x.store = put_length false x.store (p6 2) (kept false (pc % 0x10000)) in
      let m : length (P l (p6 0) sr) ≡ length x.store = put_length false l (p6 0) (kept false sr) ∙ n in
      let d = word_step x f6 (shape6 sr pc) h t y l 0 q6 e n (omega arith) refl refl (zero_sum q6 (minus_below (a7_of (cpu_of x)) 6)) in
      word_step x f6 (shape6 sr pc) h t (write_at t y q6 false sr) (P l (p6 0) sr) 1 ((q6 + 2) % 2 ^ 32) d m (omega arith) refl refl refl

  laid6 : at7 (stored x (P (P (P x.store (p6 2) (pc % 0x10000)) (p6 0) sr) (p6 1) (pc / 0x10000))) q6 ≡ framed_by x f6
  unfolding framed_by words6 field_at is_counted frame_bytes laid laid_field
  laid6 = ap (λ (l : List ℕ). at7 (stored x l) q6) (three_order x.store (p6 0) (p6 1) (p6 2) sr (pc / 0x10000) (pc % 0x10000) (place_step x f6 (shape6 sr pc) h 1 2 (omega arith) refl refl))

  -- the three words, with steps between the first and the others that leave the gist
  pub three_form : (y z : World) (sp : ℕ) → sp ≡ q6 → gist y ≡ at7 x q6 → gist z ≡ gist (write_at t y ((sp + 4) % 2 ^ 32) false (pc % 0x10000))
      → gist (write_at t (write_at t z sp false sr) ((sp + 2) % 2 ^ 32) false (pc / 0x10000)) ≡ framed_by x (words6 sr pc)
  three_form y z sp k e d =
      ap (λ (q : ℕ). gist (write_at t (write_at t z q false sr) ((q + 2) % 2 ^ 32) false (pc / 0x10000))) k
      ∙ last6 z (d ∙ ap (λ (q : ℕ). gist (write_at t y ((q + 4) % 2 ^ 32) false (pc % 0x10000))) k ∙ first6 y e) ∙ laid6

-- A7 after it is lowered
pub lowered_a7 : (w x : World) (n : ℕ) → gist w ≡ x → 15 < length (cpu_of x).regs.dar → a7_of (cpu_of (with_cpu w (lower_a7 (cpu_of w) n))) ≡ minus32 (a7_of (cpu_of x)) n
lowered_a7 w x n e l =
    a7_gist (with_cpu w (lower_a7 (cpu_of w) n)) ∙ ap (λ (y : World). a7_of (cpu_of y)) (lower_form w x n e) ∙ a7_at7 x (minus32 (a7_of (cpu_of x)) n) l

-- `push_exception_frame_68000`
pub short_form : (t : Raise) (w x : World) (sr pc : ℕ) → gist w ≡ x → Ready x (words6 sr pc) → gist (push_exception_frame68000 t w pc sr) ≡ framed_by x (words6 sr pc)
unfolding push_exception_frame68000 short_writes words6 frame_bytes field_at
short_form t w x sr pc e h =
    let y : World = with_cpu w (lower_a7 (cpu_of w) 6) in
    three_form t x sr pc h y (write_at t y ((a7_of (cpu_of y) + 4) % 2 ^ 32) false (pc % 0x10000)) (a7_of (cpu_of y)) (lowered_a7 w x 6 e h.sound.regs16) (lower_form w x 6 e) refl
