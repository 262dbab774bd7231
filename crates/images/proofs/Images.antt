-- Theorems about what specs/Images defines, and what rests on them.
use Prim.Native.Nat.{ℕ, zero, suc, ◌+◌, ◌-◌, ◌%◌, ◌^◌, ◌≤◌, ◌<◌}
use Rattle.std.specs.Prelude.{◌≡◌, List, eqb, get_or}
use Rattle.std.proofs.Math.Path.{refl, ap}
use Rattle.std.proofs.Common.{sym, ◌∙◌}
use Rattle.std.proofs.Math.Bool.{Bool, true, false}
use Rattle.std.proofs.Math.Logic.{inl, inr}
use native.Mathlib.Omega.{arith}
use borrow.Author.Tests.{ltb-true, ltb-false}
use Rattle.std.proofs.Math.Dec.{ltb}
use Rattle.std.proofs.Math.ListN.{length}
use Rattle.types.specs.Kinds.{pick, is_pre68020, mask_address, address_bits}
use Rattle.cpu.specs.declared.Cpu.{Cpu}
use Rattle.cpu.specs.declared.Regs.{Regs}
use Rattle.cpu.specs.Fields.{kind_of, a7_of, address_of, is_faulted, checks_alignment, lower_a7, minus32}
use Rattle.memory.specs.declared.Bus.{Bus}
use Rattle.memory.specs.Served.{served_of, place_of}
use Rattle.memory.specs.World.{World, put_cpu, width_of, served, fetched, read_value, cpu_of, with_cpu}
use Rattle.memory.specs.Runs.{Outside, Apart}
use Rattle.memory.specs.ByteLaws.{get}
use Rattle.memory.specs.AccessLaws.{kept}
use Rattle.memory.specs.ServedLaws.{Clear, served_means}
use Rattle.frames.specs.declared.Field.{Field}
use Rattle.frames.specs.declared.Frame.{Frame}
use Rattle.frames.specs.Frames.{field_at, is_counted, is_raw}
use Rattle.steps.specs.Steps.{refuses_odd}
use Rattle.access.specs.Access.{Raise, stack_field, push_field, push_fields, push_frame}
use Rattle.images.specs.Pushes.{calm, served_same, place_same, laid_field, field_left}
use Rattle.images.specs.Images.{frame_bytes, field_address, laid, minus_minus, minus_none, minus_below, Allowed, Sound, Framed, laid_field_length, lowered_a7, lowered_regs, lowered_precise, lowered_flow_lem, kind_of_lem, served_of_lem, address_of_lem, bytes_below, address_offset, mask_below, no_wrap, place_above, field_keeps, field_other, field_back, new_a7, bottom, Shape, Ready, SameByte, Image, clash}

-- one push: A7 is lowered by the width and the field laid there
pub push_framed : (t : Raise) (w : World) (f : Field) (a : ℕ) → Sound (cpu_of w) → mask_address (kind_of (cpu_of w)) (minus32 (a7_of (cpu_of w)) (width_of f.long)) ≡ a
    → (is_counted f ≡ false → served w a f.long ≡ true) → (is_counted f ≡ false → is_raw f ≡ false → pick (is_pre68020 (kind_of (cpu_of w))) (eqb (a % 2) 1) false ≡ false)
    → Framed w (push_field t w f) (width_of f.long) (laid_field w.store (place_of w.core.bus a) f)
unfolding push_field put_cpu a7_of address_of kind_of is_faulted refuses_odd checks_alignment served
push_framed t w f a h m s o =
    let n : ℕ = width_of f.long in
    let c : Cpu = lower_a7 (cpu_of w) n in
    let e : a7_of c ≡ minus32 (a7_of (cpu_of w)) n = lowered_a7 (cpu_of w) n h.regs16 in
    let z : c.flow ≡ (cpu_of w).flow = lowered_flow_lem (cpu_of w) n in
    let r = field_left t (with_cpu w c) f a (rw (e, z) m) (rw z h.running) s (λ x y. rw z (o x y)) in
    let u : a7_of (cpu_of (stack_field t (with_cpu w c) f)) ≡ minus32 (a7_of (cpu_of w)) n = ap (λ (x : Regs). get_or x.dar 15 0) r.same.regs ∙ e in
    record {
      flow = r.same.flow ∙ z;
      precise = r.same.precise ∙ lowered_precise (cpu_of w) n;
      bus = r.same.bus;
      a7 = u;
      store = r.store;
      sound = record { running = rw (r.same.flow ∙ z) h.running; regs16 = rw r.same.regs (lowered_regs (cpu_of w) n h.regs16); a7_fits = rw u (minus_below (a7_of (cpu_of w)) n) };
    }

-- the first k fields of a frame, pushed
pub fields_framed : (t : Raise) (f : Frame) (k : ℕ) (w : World) (b : Bus) (len kd q : ℕ) → Sound (cpu_of w) → calm w.core.bus ≡ calm b → length w.store ≡ len → kind_of (cpu_of w) ≡ kd
    → minus32 (a7_of (cpu_of w)) (frame_bytes f k) ≡ q → Allowed b len kd q f k → Framed w (push_fields t w f k) (frame_bytes f k) (laid b kd q w.store f k)
unfolding push_fields frame_bytes laid
fields_framed t f zero w b len kd q h eb el ek eq l = record { flow = refl; precise = refl; bus = refl; sound = h; a7 = sym (minus_none (a7_of (cpu_of w)) h.a7_fits); store = refl }
fields_framed t f (suc k) w b len kd q h eb el ek eq l =
    let g : Field = field_at f k in
    let n : ℕ = width_of g.long in
    let a : ℕ = field_address kd q f k in
    let p = push_framed t w g a h (address_of_lem w f k kd q n ek eq)
    (λ x. served_of_lem w b len a g.long eb el (l.serves k (omega arith) x)) (λ x y. rw ek (l.even k (omega arith) x y)) in
    let x : World = push_field t w g in
    let s : List ℕ = laid_field w.store (place_of w.core.bus a) g in
    let es : length s ≡ len = laid_field_length w.store (place_of w.core.bus a) g ∙ el in
    let r = fields_framed t f k x b len kd q p.sound (p.bus ∙ eb) (ap length p.store ∙ es) (kind_of_lem (cpu_of x) (cpu_of w) p.flow ∙ ek)
    (rw p.a7 (minus_minus (a7_of (cpu_of w)) n (frame_bytes f k) ∙ eq)) (record { serves = λ i j. l.serves i (omega arith); even = λ i j. l.even i (omega arith) }) in
    record {
      flow = r.flow ∙ p.flow;
      precise = r.precise ∙ p.precise;
      bus = r.bus ∙ p.bus;
      sound = r.sound;
      a7 = r.a7 ∙ rw p.a7 (minus_minus (a7_of (cpu_of w)) n (frame_bytes f k));
      store = r.store ∙ rw (p.store, place_same w.core.bus b a eb);
    }

module _ (b : Bus) (kd q : ℕ) (f : Frame) where
  -- the place of field i in the store
  abbrev spot : ℕ → ℕ
  spot i = place_of b (field_address kd q f i)

  -- a byte outside every written field stays
  pub laid_keeps : (k : ℕ) (s : List ℕ) (p : ℕ) → ((i : ℕ) → i < k → is_counted (field_at f i) ≡ false → Outside (spot i) (width_of (field_at f i).long) p) → get_or (laid b kd q s f k) p 0 ≡ get_or s p 0
  unfolding laid
  laid_keeps zero s p h = refl
  laid_keeps (suc k) s p h = laid_keeps k (laid_field s (spot k) (field_at f k)) p (λ i j. h i (omega arith)) ∙ field_keeps s (spot k) (field_at f k) p (h k (omega arith))

  -- a read that shares no byte with a written field gives the same
  pub laid_other : (k : ℕ) (s : List ℕ) (g : Bool) (p : ℕ) → ((i : ℕ) → i < k → is_counted (field_at f i) ≡ false → Apart (spot i) (width_of (field_at f i).long) p (width_of g)) → get g (laid b kd q s f k) p ≡ get g s p
  unfolding laid
  laid_other zero s g p h = refl
  laid_other (suc k) s g p h = laid_other k (laid_field s (spot k) (field_at f k)) g p (λ i j. h i (omega arith)) ∙ field_other s (spot k) (field_at f k) g p (h k (omega arith))

  -- a written field that shares no byte with the fields pushed after it is read back
  pub laid_back : (k : ℕ) (s : List ℕ) (i : ℕ) → i < k → is_counted (field_at f i) ≡ false → spot i + width_of (field_at f i).long ≤ length s
      → ((j : ℕ) → j < i → is_counted (field_at f j) ≡ false → Apart (spot j) (width_of (field_at f j).long) (spot i) (width_of (field_at f i).long))
      → get (field_at f i).long (laid b kd q s f k) (spot i) ≡ kept (field_at f i).long (field_at f i).value
  unfolding laid
  laid_back zero s i l c r a = absurd (omega arith)
  laid_back (suc k) s i l c r a = go (ltb i k) refl (laid_back k (laid_field s (spot k) (field_at f k)) i)
    where
      go : (t : Bool) → ltb i k ≡ t
          → (i < k → is_counted (field_at f i) ≡ false → spot i + width_of (field_at f i).long ≤ length (laid_field s (spot k) (field_at f k))
          → ((j : ℕ) → j < i → is_counted (field_at f j) ≡ false → Apart (spot j) (width_of (field_at f j).long) (spot i) (width_of (field_at f i).long))
          → get (field_at f i).long (laid b kd q (laid_field s (spot k) (field_at f k)) f k) (spot i) ≡ kept (field_at f i).long (field_at f i).value)
          → get (field_at f i).long (laid b kd q (laid_field s (spot k) (field_at f k)) f k) (spot i) ≡ kept (field_at f i).long (field_at f i).value
      go true e ih = ih (ltb-true i k e) c (rw laid_field_length r) a
      go false e ih =
          let z : k ≡ i = omega (arith, ltb-false i k e) in
          rw z (laid_other i (laid_field s (spot i) (field_at f i)) (field_at f i).long (spot i) a ∙ field_back s (spot i) (field_at f i) c r)

-- a frame whose accesses are all served leaves its image, whatever faults would raise
pub stacked_framed : (t : Raise) (w : World) (f : Frame) → Sound (cpu_of w) → Allowed w.core.bus (length w.store) (kind_of (cpu_of w)) (new_a7 w f) f f.count
    → Framed w (push_frame t w f) (frame_bytes f f.count) (laid w.core.bus (kind_of (cpu_of w)) (new_a7 w f) w.store f f.count)
unfolding push_frame
stacked_framed t w f s l = fields_framed t f f.count w w.core.bus (length w.store) (kind_of (cpu_of w)) (new_a7 w f) s refl refl refl refl l

laid_length : (b : Bus) (kd q : ℕ) (s : List ℕ) (f : Frame) (k : ℕ) → length (laid b kd q s f k) ≡ length s
unfolding laid
laid_length b kd q s f zero = refl
laid_length b kd q s f (suc k) = laid_length b kd q (laid_field s (place_of b (field_address kd q f k)) (field_at f k)) f k ∙ laid_field_length s (place_of b (field_address kd q f k)) (field_at f k)

-- what is served is the same after the frame as before it
pub stacked_serves : (w : World) (f : Frame) → Ready w f → (t : Raise) (a : ℕ) (g : Bool) → served (push_frame t w f) a g ≡ served w a g
unfolding served
stacked_serves w f h t a g =
    let r = stacked_framed t w f h.sound h.allowed in
    let y : length (push_frame t w f).store ≡ length w.store = ap length r.store ∙ laid_length w.core.bus (kind_of (cpu_of w)) (new_a7 w f) w.store f f.count in
    rw y (served_same (push_frame t w f).core.bus w.core.bus (length w.store) a (width_of g) r.bus)

module _ (w : World) (f : Frame) (s : Shape f) (h : Ready w f) where
  a7_below : new_a7 w f < 2 ^ 32
  a7_below = minus_below (a7_of (cpu_of w)) (frame_bytes f f.count)

  -- the lowest field lies at the new A7, masked
  first_at : field_address (kind_of (cpu_of w)) (new_a7 w f) f 0 ≡ bottom w f
  unfolding frame_bytes
  first_at = address_offset (kind_of (cpu_of w)) (new_a7 w f) f 0 a7_below (omega (arith, mask_below (kind_of (cpu_of w)) (new_a7 w f) a7_below)) ∙ omega arith

  -- every written field begins below the top of the addresses: it and the lowest are in one store
  pub starts_below : (i : ℕ) → i < f.count → is_counted (field_at f i) ≡ false → bottom w f + frame_bytes f i < 2 ^ address_bits (kind_of (cpu_of w))
  unfolding field_address
  starts_below i l c =
      let b : Bus = w.core.bus in
      let k : ℕ = kind_of (cpu_of w) in
      let len : ℕ = length w.store in
      let x : Clear b len (bottom w f) (width_of (field_at f 0).long) = served_means b len (bottom w f) (width_of (field_at f 0).long) (rw first_at at (h.allowed.serves 0 s.some s.first)) in
      let y : Clear b len (field_address k (new_a7 w f) f i) (width_of (field_at f i).long) = served_means b len (field_address k (new_a7 w f) f i) (width_of (field_at f i).long) (h.allowed.serves i l c) in
      no_wrap k (new_a7 w f) (frame_bytes f i) b.base len a7_below (omega (arith, s.short, bytes_below f i f.count l)) h.small (omega (arith, x.high)) y.low

  -- where a written field lies: at its offset, in the store
  pub at_offset : (i : ℕ) → i < f.count → is_counted (field_at f i) ≡ false → field_address (kind_of (cpu_of w)) (new_a7 w f) f i ≡ bottom w f + frame_bytes f i
  at_offset i l c = address_offset (kind_of (cpu_of w)) (new_a7 w f) f i a7_below (starts_below i l c)

  -- a field below a written one ends below the top, so that only the last written field can reach past it
  pub only_last : (i j : ℕ) → i < j → j < f.count → is_counted (field_at f j) ≡ false → bottom w f + frame_bytes f i + width_of (field_at f i).long < 2 ^ address_bits (kind_of (cpu_of w))
  only_last i j o l c = omega (arith, bytes_below f i j (omega arith), starts_below j l c)

  clear_at : (i : ℕ) → i < f.count → is_counted (field_at f i) ≡ false → Clear w.core.bus (length w.store) (bottom w f + frame_bytes f i) (width_of (field_at f i).long)
  clear_at i l c = served_means w.core.bus (length w.store) (bottom w f + frame_bytes f i) (width_of (field_at f i).long) (rw (at_offset i l c) at (h.allowed.serves i l c))

  -- in a store that ends at 2^32 or below no written field ends past it, so that on a kind of 32 address bits none reaches past the top
  pub ends_below : w.core.bus.base + length w.store ≤ 2 ^ 32 → (i : ℕ) → i < f.count → is_counted (field_at f i) ≡ false → bottom w f + frame_bytes f i + width_of (field_at f i).long ≤ 2 ^ 32
  ends_below e i l c = omega (arith, (clear_at i l c).high)

  spot_at : (i : ℕ) → i < f.count → is_counted (field_at f i) ≡ false → place_of w.core.bus (field_address (kind_of (cpu_of w)) (new_a7 w f) f i) ≡ bottom w f + frame_bytes f i - w.core.bus.base
  spot_at i l c = rw (at_offset i l c) (place_above w.core.bus (bottom w f + frame_bytes f i) (clear_at i l c).low)

  -- a byte that no written field holds stays
  byte_kept : (t : Raise) (a : ℕ) → ((i : ℕ) → i < f.count → is_counted (field_at f i) ≡ false → Outside (bottom w f + frame_bytes f i) (width_of (field_at f i).long) a) → SameByte w (push_frame t w f) a
  byte_kept t a o p e =
      ap (λ (s : List ℕ). get_or s p 0) (stacked_framed t w f h.sound h.allowed).store
      ∙ laid_keeps w.core.bus (kind_of (cpu_of w)) (new_a7 w f) f f.count w.store p (λ i l c. rw (spot_at i l c) (past i (clear_at i l c).low (o i l c)))
    where
      past : (i : ℕ) → w.core.bus.base ≤ bottom w f + frame_bytes f i → Outside (bottom w f + frame_bytes f i) (width_of (field_at f i).long) a → Outside (bottom w f + frame_bytes f i - w.core.bus.base) (width_of (field_at f i).long) p
      past i l (inl x) = inl (omega arith)
      past i l (inr x) = inr (omega arith)

  -- a written field is read back at its offset
  read_field : (t : Raise) (i : ℕ) → i < f.count → is_counted (field_at f i) ≡ false
      → read_value (push_frame t w f) (bottom w f + frame_bytes f i) (field_at f i).long ≡ kept (field_at f i).long (field_at f i).value
  unfolding read_value fetched served
  read_field t i l c =
      let r = stacked_framed t w f h.sound h.allowed in
      let b : Bus = w.core.bus in
      let g : Bool = (field_at f i).long in
      let a : ℕ = bottom w f + frame_bytes f i in
      let y : length (push_frame t w f).store ≡ length w.store = ap length r.store ∙ laid_length b (kind_of (cpu_of w)) (new_a7 w f) w.store f f.count in
      let v : served_of (push_frame t w f).core.bus (length (push_frame t w f).store) a (width_of g) ≡ true = rw y (served_same (push_frame t w f).core.bus b (length w.store) a (width_of g) r.bus ∙ (rw (at_offset i l c) at (h.allowed.serves i l c))) in
      let p : place_of (push_frame t w f).core.bus a ≡ place_of b (field_address (kind_of (cpu_of w)) (new_a7 w f) f i) = rw (at_offset i l c) (place_same (push_frame t w f).core.bus b a r.bus) in
      let z = clear_at i l c in
      rw (v, p, r.store)
      (laid_back b (kind_of (cpu_of w)) (new_a7 w f) f f.count w.store i l c (rw (spot_at i l c) (omega (arith, z.low, z.high)))
      (λ j m d. let u = (clear_at j (omega arith) d).low in rw (spot_at i l c, spot_at j (omega arith) d) (inl (omega (arith, z.low, bytes_below f j i m)))))

  -- a served read that shares no byte with the frame gives the same after it as before it
  pub read_apart : (t : Raise) (a : ℕ) (g : Bool) → served w a g ≡ true → Apart (bottom w f) (frame_bytes f f.count) a (width_of g) → read_value (push_frame t w f) a g ≡ read_value w a g
  unfolding read_value fetched served
  read_apart t a g v d =
      let r = stacked_framed t w f h.sound h.allowed in
      let b : Bus = w.core.bus in
      let low : b.base ≤ a = (served_means b (length w.store) a (width_of g) v).low in
      let e : served_of (push_frame t w f).core.bus (length (push_frame t w f).store) a (width_of g) ≡ true = stacked_serves w f h t a g ∙ v in
      rw (e, v, r.store, place_same (push_frame t w f).core.bus b a r.bus)
      (laid_other b (kind_of (cpu_of w)) (new_a7 w f) f f.count w.store g (place_of b a)
      (λ i l c. rw (spot_at i l c, place_above b a low) (go i low (clear_at i l c).low (bytes_below f i f.count l) d)))
    where
      go : (i : ℕ) → w.core.bus.base ≤ a → w.core.bus.base ≤ bottom w f + frame_bytes f i → frame_bytes f i + width_of (field_at f i).long ≤ frame_bytes f f.count
          → Apart (bottom w f) (frame_bytes f f.count) a (width_of g) → Apart (bottom w f + frame_bytes f i - w.core.bus.base) (width_of (field_at f i).long) (a - w.core.bus.base) (width_of g)
      go i l m n (inl x) = inl (omega arith)
      go i l m n (inr x) = inr (omega arith)

  -- the image of a frame whose accesses are all served, whatever a fault would raise
  pub stacked_image : (t : Raise) → Image w (push_frame t w f) f
  stacked_image t =
      let r = stacked_framed t w f h.sound h.allowed in
      record {
        a7 = r.a7;
        kind = kind_of_lem (cpu_of (push_frame t w f)) (cpu_of w) r.flow;
        bus = r.bus;
        size = ap length r.store ∙ laid_length w.core.bus (kind_of (cpu_of w)) (new_a7 w f) w.store f f.count;
        fields = read_field t;
        gaps = λ i l c j m. byte_kept t (bottom w f + frame_bytes f i + j) (λ k n d. gap i l c j m k n d (ltb k i) refl (ltb i k) refl);
        others = λ a o. byte_kept t a (λ k n d. other a k _ n o (omega arith));
      }
    where
      gap : (i : ℕ) → i < f.count → is_counted (field_at f i) ≡ true → (j : ℕ) → j < width_of (field_at f i).long → (k : ℕ) → k < f.count → is_counted (field_at f k) ≡ false
          → (t : Bool) → ltb k i ≡ t → (u : Bool) → ltb i k ≡ u → Outside (bottom w f + frame_bytes f k) (width_of (field_at f k).long) (bottom w f + frame_bytes f i + j)
      gap i l c j m k n d true x u y = inr (omega (arith, bytes_below f k i (ltb-true k i x)))
      gap i l c j m k n d false x true y = inl (omega (arith, bytes_below f i k (ltb-true i k y)))
      gap i l c j m k n d false x false y = let z : k ≡ i = omega (arith, ltb-false k i x, ltb-false i k y) in absurd (clash (sym c ∙ ap (λ (e : ℕ). is_counted (field_at f e)) (sym z) ∙ d))

      other : (a k m : ℕ) → k < f.count → Outside (bottom w f) m a → frame_bytes f f.count ≤ m → Outside (bottom w f + frame_bytes f k) (width_of (field_at f k).long) a
      other a k m n (inl x) u = inl (omega arith)
      other a k m n (inr x) u = inr (omega (arith, bytes_below f k f.count n))

-- after it the record still runs
pub stacked_runs : (t : Raise) (w : World) (f : Frame) → Ready w f → is_faulted (cpu_of (push_frame t w f)) ≡ false
stacked_runs t w f h = (stacked_framed t w f h.sound h.allowed).sound.running
