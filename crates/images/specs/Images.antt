-- The image of a frame whose accesses are served: A7, the fields at their offsets, and every other byte as it was.
use Prim.Native.Nat.{ℕ, zero, suc, ◌+◌, ◌-◌, ◌%◌, ◌^◌, ◌≤◌, ◌<◌}
use Rattle.std.specs.Prelude.{◌≡◌, List, eqb, get_or}
use Rattle.std.proofs.Math.Path.{refl, ap}
use Rattle.std.proofs.Common.{sym, ◌∙◌, length-set, get_or-set_same}
use Rattle.std.proofs.Math.Bool.{Bool, true, false}
use Rattle.std.proofs.Math.Logic.{inl, inr}
use native.Mathlib.Omega.{arith}
use borrow.Author.Tests.{ltb-true, ltb-false, le-ltb, ne_eqb}
use Rattle.std.proofs.Math.Dec.{ltb}
use Rattle.std.proofs.Math.ListN.{length}
use Rattle.types.specs.Kinds.{pick, is_pre68020, mask_address, address_bits}
use Rattle.cpu.specs.declared.Cpu.{Cpu}
use Rattle.cpu.specs.declared.Flow.{Flow}
use Rattle.cpu.specs.declared.Regs.{Regs}
use Rattle.cpu.specs.Fields.{kind_of, a7_of, is_faulted, set_a7, lower_a7, minus32}
use Rattle.memory.specs.declared.Bus.{Bus}
use Rattle.memory.specs.Served.{served_of, place_of}
use Rattle.memory.specs.World.{World, width_of, served, fetched, read_value, cpu_of}
use Rattle.memory.specs.Runs.{Outside, Apart}
use Rattle.memory.specs.ByteLaws.{put, get, Fits}
use Rattle.memory.proofs.ByteLaws.{put_length, put_keeps, read_back, read_other}
use Rattle.memory.specs.AccessLaws.{kept}
use Rattle.memory.specs.ServedLaws.{Clear, start, size, served_means, served_if}
use Rattle.frames.specs.declared.Field.{Field}
use Rattle.frames.specs.declared.Frame.{Frame}
use Rattle.frames.specs.Frames.{field_at, is_counted, is_raw}
use Rattle.images.specs.Pushes.{calm, served_same, place_same, laid_field}

-- the bytes of the first k fields of a frame, counted ones too: the offset of field k from the new A7
unfoldable pub frame_bytes : Frame → ℕ → ℕ
frame_bytes f zero = 0
frame_bytes f (suc k) = frame_bytes f k + width_of (field_at f k).long

-- the address of field i on kind kd, where the new A7 is q
unfoldable pub field_address : ℕ → ℕ → Frame → ℕ → ℕ
field_address kd q f i = mask_address kd ((q + frame_bytes f i) % 2 ^ 32)

-- the store s with the fields below k laid, each at the place of its address, the last of them first
unfoldable pub laid : Bus → ℕ → ℕ → List ℕ → Frame → ℕ → List ℕ
laid b kd q s f zero = s
laid b kd q s f (suc k) = laid b kd q (laid_field s (place_of b (field_address kd q f k)) (field_at f k)) f k

sum_mod : (n m : ℕ) → (n + m) % 2 ^ 32 ≡ (n % 2 ^ 32 + m % 2 ^ 32) % 2 ^ 32
sum_mod n m = omega arith

two : (a m n : ℕ) → m < 2 ^ 32 → n < 2 ^ 32 → ((a + (2 ^ 32 - m)) % 2 ^ 32 + (2 ^ 32 - n)) % 2 ^ 32 ≡ (a + (2 ^ 32 - (n + m) % 2 ^ 32)) % 2 ^ 32
two a m n h k = go (ltb (n + m) (2 ^ 32)) refl
  where
    low : (a m n : ℕ) → m < 2 ^ 32 → n < 2 ^ 32 → n + m < 2 ^ 32 → ((a + (2 ^ 32 - m)) % 2 ^ 32 + (2 ^ 32 - n)) % 2 ^ 32 ≡ (a + (2 ^ 32 - (n + m))) % 2 ^ 32
    low a m n h k l = omega arith

    high : (a m n : ℕ) → m < 2 ^ 32 → n < 2 ^ 32 → 2 ^ 32 ≤ n + m → ((a + (2 ^ 32 - m)) % 2 ^ 32 + (2 ^ 32 - n)) % 2 ^ 32 ≡ (a + (2 ^ 32 - (n + m - 2 ^ 32))) % 2 ^ 32
    high a m n h k l = omega arith

    go : (t : Bool) → ltb (n + m) (2 ^ 32) ≡ t → ((a + (2 ^ 32 - m)) % 2 ^ 32 + (2 ^ 32 - n)) % 2 ^ 32 ≡ (a + (2 ^ 32 - (n + m) % 2 ^ 32)) % 2 ^ 32
    go true e =
        let l : n + m < 2 ^ 32 = ltb-true (n + m) (2 ^ 32) e in
        let z : (n + m) % 2 ^ 32 ≡ n + m = omega arith in
        rw z (low a m n h k l)
    go false e =
        let l : 2 ^ 32 ≤ n + m = ltb-false (n + m) (2 ^ 32) e in
        let z : (n + m) % 2 ^ 32 ≡ n + m - 2 ^ 32 = omega arith in
        rw z (high a m n h k l)

up : (a m r x : ℕ) → m < 2 ^ 32 → r % 2 ^ 32 ≡ x → ((a + (2 ^ 32 - (x + m) % 2 ^ 32)) % 2 ^ 32 + r) % 2 ^ 32 ≡ (a + (2 ^ 32 - m)) % 2 ^ 32
up a m r x h e = go (ltb (x + m) (2 ^ 32)) refl
  where
    low : (a m r x : ℕ) → m < 2 ^ 32 → r % 2 ^ 32 ≡ x → x + m < 2 ^ 32 → ((a + (2 ^ 32 - (x + m))) % 2 ^ 32 + r) % 2 ^ 32 ≡ (a + (2 ^ 32 - m)) % 2 ^ 32
    low a m r x h e l = omega arith

    high : (a m r x : ℕ) → m < 2 ^ 32 → r % 2 ^ 32 ≡ x → 2 ^ 32 ≤ x + m → ((a + (2 ^ 32 - (x + m - 2 ^ 32))) % 2 ^ 32 + r) % 2 ^ 32 ≡ (a + (2 ^ 32 - m)) % 2 ^ 32
    high a m r x h e l = omega arith

    go : (t : Bool) → ltb (x + m) (2 ^ 32) ≡ t → ((a + (2 ^ 32 - (x + m) % 2 ^ 32)) % 2 ^ 32 + r) % 2 ^ 32 ≡ (a + (2 ^ 32 - m)) % 2 ^ 32
    go true u =
        let l : x + m < 2 ^ 32 = ltb-true (x + m) (2 ^ 32) u in
        let z : (x + m) % 2 ^ 32 ≡ x + m = omega arith in
        rw z (low a m r x h e l)
    go false u =
        let l : 2 ^ 32 ≤ x + m = ltb-false (x + m) (2 ^ 32) u in
        let z : (x + m) % 2 ^ 32 ≡ x + m - 2 ^ 32 = omega arith in
        rw z (high a m r x h e l)

-- lowering twice is lowering by the sum
pub minus_minus : (a m n : ℕ) → minus32 (minus32 a m) n ≡ minus32 a (n + m)
unfolding minus32
minus_minus a m n = rw (sum_mod n m) (two a (m % 2 ^ 32) (n % 2 ^ 32) (omega arith) (omega arith))

-- lowering by r more and going up again by r
pub minus_plus : (a m r : ℕ) → (minus32 a (r + m) + r) % 2 ^ 32 ≡ minus32 a m
unfolding minus32
minus_plus a m r = rw (sum_mod r m) (up a (m % 2 ^ 32) r (r % 2 ^ 32) (omega arith) refl)

pub minus_none : (a : ℕ) → a < 2 ^ 32 → minus32 a 0 ≡ a
unfolding minus32
minus_none a h = omega arith

pub minus_below : (a n : ℕ) → minus32 a n < 2 ^ 32
unfolding minus32
minus_below a n = omega arith

-- the written fields among the first k are served at their addresses, and not refused for oddness where they are guarded
pub record Allowed (b : Bus) (len kd q : ℕ) (f : Frame) (k : ℕ) : Type 0 where
  pub serves : (i : ℕ) → i < k → is_counted (field_at f i) ≡ false → served_of b len (field_address kd q f i) (width_of (field_at f i).long) ≡ true
  pub even : (i : ℕ) → i < k → is_counted (field_at f i) ≡ false → is_raw (field_at f i) ≡ false → pick (is_pre68020 kd) (eqb (field_address kd q f i % 2) 1) false ≡ false

-- a record that runs, with 16 registers, A7 of 32 bits
pub record Sound (c : Cpu) : Type 0 where
  pub running : is_faulted c ≡ false
  pub regs16 : 15 < length c.regs.dar
  pub a7_fits : a7_of c < 2 ^ 32

-- what a frame leaves: flow, precise bus, windows, A7 lowered by n, the store s
pub record Framed (w x : World) (n : ℕ) (s : List ℕ) : Type 0 where
  pub flow : (cpu_of x).flow ≡ (cpu_of w).flow
  pub precise : (cpu_of x).queue.precise_bus ≡ (cpu_of w).queue.precise_bus
  pub bus : calm x.core.bus ≡ calm w.core.bus
  pub sound : Sound (cpu_of x)
  pub a7 : a7_of (cpu_of x) ≡ minus32 (a7_of (cpu_of w)) n
  pub store : x.store ≡ s

pub laid_field_length : (s : List ℕ) (p : ℕ) (f : Field) → length (laid_field s p f) ≡ length s
unfolding laid_field
laid_field_length s p f = go (is_counted f)
  where
    go : (c : Bool) → length (pick c s (put f.long s p (kept f.long f.value))) ≡ length s
    go true = refl
    go false = put_length f.long s p (kept f.long f.value)

pub lowered_a7 : (c : Cpu) (n : ℕ) → 15 < length c.regs.dar → a7_of (lower_a7 c n) ≡ minus32 (a7_of c) n
unfolding lower_a7 set_a7 a7_of
lowered_a7 c n h = get_or-set_same c.regs.dar 15 _ 0 h

pub lowered_regs : (c : Cpu) (n : ℕ) → 15 < length c.regs.dar → 15 < length (lower_a7 c n).regs.dar
unfolding lower_a7 set_a7
lowered_regs c n h = simp length-set h

pub lowered_precise : (c : Cpu) (n : ℕ) → (lower_a7 c n).queue.precise_bus ≡ c.queue.precise_bus
unfolding lower_a7 set_a7
lowered_precise c n = refl

pub lowered_flow_lem : (c : Cpu) (n : ℕ) → (lower_a7 c n).flow ≡ c.flow
unfolding lower_a7 set_a7
lowered_flow_lem c n = refl

pub kind_of_lem : (c d : Cpu) → c.flow ≡ d.flow → kind_of c ≡ kind_of d
unfolding kind_of
kind_of_lem c d e = ap (λ (x : Flow). x.cpu_type) e

pub served_of_lem : (w : World) (b : Bus) (len a : ℕ) (g : Bool) → calm w.core.bus ≡ calm b → length w.store ≡ len → served_of b len a (width_of g) ≡ true → served w a g ≡ true
unfolding served
served_of_lem w b len a g e l h = served_same w.core.bus b (length w.store) a (width_of g) e ∙ rw l h

pub address_of_lem : (w : World) (f : Frame) (k kd q n : ℕ) → kind_of (cpu_of w) ≡ kd → minus32 (a7_of (cpu_of w)) (frame_bytes f k + n) ≡ q → mask_address (kind_of (cpu_of w)) (minus32 (a7_of (cpu_of w)) n) ≡ field_address kd q f k
unfolding field_address
address_of_lem w f k kd q n e d = rw (e, ← d, minus_plus (a7_of (cpu_of w)) n (frame_bytes f k))

-- the fields lie one above the other
pub bytes_below : (f : Frame) (i k : ℕ) → i < k → frame_bytes f i + width_of (field_at f i).long ≤ frame_bytes f k
unfolding frame_bytes
bytes_below f i zero h = absurd (omega arith)
bytes_below f i (suc k) h = go (ltb i k) refl (bytes_below f i k)
  where
    go : (t : Bool) → ltb i k ≡ t → (i < k → frame_bytes f i + width_of (field_at f i).long ≤ frame_bytes f k) → frame_bytes f i + width_of (field_at f i).long ≤ frame_bytes f k + width_of (field_at f k).long
    go true e r = omega (arith, r (ltb-true i k e))
    go false e r = let z : i ≡ k = omega (arith, ltb-false i k e) in rw z (omega arith)

bytes_upto : (f : Frame) (i k : ℕ) → i < suc k → frame_bytes f i ≤ frame_bytes f k
bytes_upto f i k h = go (ltb i k) refl
  where
    go : (t : Bool) → ltb i k ≡ t → frame_bytes f i ≤ frame_bytes f k
    go true e = omega (arith, bytes_below f i k (ltb-true i k e))
    go false e = let z : i ≡ k = omega (arith, ltb-false i k e) in rw z (omega arith)

bits : (kd a n : ℕ) → n < 2 ^ 32 → mask_address kd a + n < 2 ^ address_bits kd → a < 2 ^ 32 → mask_address kd ((a + n) % 2 ^ 32) ≡ mask_address kd a + n
unfolding mask_address address_bits
bits kd a n = go (ltb kd 3)
  where
    go : (t : Bool) → n < 2 ^ 32 → pick t (a % 0x1000000) a + n < 2 ^ pick t 24 32 → a < 2 ^ 32 → pick t ((a + n) % 2 ^ 32 % 0x1000000) ((a + n) % 2 ^ 32) ≡ pick t (a % 0x1000000) a + n
    go true l h z = omega arith
    go false l h z = omega arith

below32 : (kd : ℕ) → 2 ^ address_bits kd ≤ 2 ^ 32
unfolding address_bits
below32 kd = go (ltb kd 3)
  where
    go : (t : Bool) → 2 ^ pick t 24 32 ≤ 2 ^ 32
    go true = omega arith
    go false = omega arith

-- a field is at its offset above the new A7, masked, where that is below the top of the addresses
pub address_offset : (kd q : ℕ) (f : Frame) (i : ℕ) → q < 2 ^ 32 → mask_address kd q + frame_bytes f i < 2 ^ address_bits kd → field_address kd q f i ≡ mask_address kd q + frame_bytes f i
unfolding field_address
address_offset kd q f i l h = bits kd q (frame_bytes f i) (omega (arith, below32 kd)) h l

-- a masked address is below the top
pub mask_below : (kd q : ℕ) → q < 2 ^ 32 → mask_address kd q < 2 ^ address_bits kd
unfolding mask_address address_bits
mask_below kd q = go (ltb kd 3)
  where
    go : (t : Bool) → q < 2 ^ 32 → pick t (q % 0x1000000) q < 2 ^ pick t 24 32
    go true l = omega arith
    go false l = omega arith

-- the most bytes of a store that number 5 does not refuse
abbrev pub most_store : ℕ
most_store = 0x10000

-- a field at most 92 bytes above the new A7 that wraps lies more than 65,536 bytes below it, so that no store holds both
pub no_wrap : (kd q n base len : ℕ) → q < 2 ^ 32 → n ≤ 92 → len ≤ most_store → mask_address kd q ≤ base + len → base ≤ mask_address kd ((q + n) % 2 ^ 32) → mask_address kd q + n < 2 ^ address_bits kd
unfolding mask_address address_bits
no_wrap kd q n base len = go (ltb kd 3)
  where
    go : (t : Bool) → q < 2 ^ 32 → n ≤ 92 → len ≤ most_store → pick t (q % 0x1000000) q ≤ base + len → base ≤ pick t ((q + n) % 2 ^ 32 % 0x1000000) ((q + n) % 2 ^ 32) → pick t (q % 0x1000000) q + n < 2 ^ pick t 24 32
    go true l m u x y = omega arith
    go false l m u x y = omega arith

-- a field at or past the top is masked to an address below the new A7
wraps : (kd q n : ℕ) → q < 2 ^ 32 → n ≤ 92 → 2 ^ address_bits kd ≤ mask_address kd q + n → mask_address kd ((q + n) % 2 ^ 32) + 2 ^ 24 ≤ mask_address kd q + n
unfolding mask_address address_bits
wraps kd q n = go (ltb kd 3)
  where
    go : (t : Bool) → q < 2 ^ 32 → n ≤ 92 → 2 ^ pick t 24 32 ≤ pick t (q % 0x1000000) q + n → pick t ((q + n) % 2 ^ 32 % 0x1000000) ((q + n) % 2 ^ 32) + 2 ^ 24 ≤ pick t (q % 0x1000000) q + n
    go true l m h = omega arith
    go false l m h = omega arith

-- the place of an address at or above the base
pub place_above : (b : Bus) (a : ℕ) → b.base ≤ a → place_of b a ≡ a - b.base
unfolding place_of
place_above b a h = rw (le-ltb a b.base h)

pub field_keeps : (s : List ℕ) (p : ℕ) (f : Field) (i : ℕ) → (is_counted f ≡ false → Outside p (width_of f.long) i) → get_or (laid_field s p f) i 0 ≡ get_or s i 0
unfolding laid_field
field_keeps s p f i h = go (is_counted f) h
  where
    go : (c : Bool) → (c ≡ false → Outside p (width_of f.long) i) → get_or (pick c s (put f.long s p (kept f.long f.value))) i 0 ≡ get_or s i 0
    go true h = refl
    go false h = put_keeps f.long s p (kept f.long f.value) i (h refl)

pub field_other : (s : List ℕ) (p : ℕ) (f : Field) (g : Bool) (i : ℕ) → (is_counted f ≡ false → Apart p (width_of f.long) i (width_of g)) → get g (laid_field s p f) i ≡ get g s i
unfolding laid_field
field_other s p f g i h = go (is_counted f) h
  where
    go : (c : Bool) → (c ≡ false → Apart p (width_of f.long) i (width_of g)) → get g (pick c s (put f.long s p (kept f.long f.value))) i ≡ get g s i
    go true h = refl
    go false h = read_other f.long g s p i (kept f.long f.value) (h refl)

pub field_back : (s : List ℕ) (p : ℕ) (f : Field) → is_counted f ≡ false → p + width_of f.long ≤ length s → get f.long (laid_field s p f) p ≡ kept f.long f.value
unfolding laid_field
field_back s p f h r = rw h (read_back f.long s p (kept f.long f.value) r)

-- the new A7 of a frame, and the address that it means on the kind
abbrev pub new_a7 : World → Frame → ℕ
new_a7 w f = minus32 (a7_of (cpu_of w)) (frame_bytes f f.count)

abbrev pub bottom : World → Frame → ℕ
bottom w f = mask_address (kind_of (cpu_of w)) (new_a7 w f)

-- what each error frame is: its lowest field is written, and it is at most 92 bytes long
pub record Shape (f : Frame) : Type 0 where
  pub some : 0 < f.count
  pub first : is_counted (field_at f 0) ≡ false
  pub short : frame_bytes f f.count ≤ 92

-- the premises: the record is sound, each written field is served and allowed, and the store has at most 65,536 bytes. Number 5's other
-- half, that it ends at 2^32 or below, is not needed.
pub record Ready (w : World) (f : Frame) : Type 0 where
  pub sound : Sound (cpu_of w)
  pub allowed : Allowed w.core.bus (length w.store) (kind_of (cpu_of w)) (new_a7 w f) f f.count
  pub small : length w.store ≤ most_store

-- the bytes of a store at an address of the bus
abbrev pub SameByte : World → World → ℕ → Type 0
SameByte w x a = (p : ℕ) → p + w.core.bus.base ≡ a → get_or x.store p 0 ≡ get_or w.store p 0

-- the image of a frame in a world x, from w: A7 lowered by its length, what is written read at its offset, all other bytes as they were
-- Addresses count on past the top of the kind's: an access is masked at its start alone, so that the last written field may begin
-- below the top and end past it, its bytes side by side in the store (`only_last`); a counted field may lie past it (`image_gaps`).
pub record Image (w x : World) (f : Frame) : Type 0 where
  pub a7 : a7_of (cpu_of x) ≡ new_a7 w f
  pub kind : kind_of (cpu_of x) ≡ kind_of (cpu_of w)
  pub bus : calm x.core.bus ≡ calm w.core.bus
  pub size : length x.store ≡ length w.store
  pub fields : (i : ℕ) → i < f.count → is_counted (field_at f i) ≡ false
      → read_value x (bottom w f + frame_bytes f i) (field_at f i).long ≡ kept (field_at f i).long (field_at f i).value
  pub gaps : (i : ℕ) → i < f.count → is_counted (field_at f i) ≡ true → (j : ℕ) → j < width_of (field_at f i).long → SameByte w x (bottom w f + frame_bytes f i + j)
  pub others : (a : ℕ) → Outside (bottom w f) (frame_bytes f f.count) a → SameByte w x a

kept_fits : (g : Bool) (v : ℕ) → Fits g v → kept g v ≡ v
kept_fits true v h = refl
kept_fits false v h = omega arith

pub clash : true ≡ false → ⊥
clash e = let z : ◌≡◌ {A = ℕ} 0 1 = cc in omega arith

-- a written value of its width is read back whole
pub field_value : (w x : World) (f : Frame) → Image w x f → (i : ℕ) → i < f.count → is_counted (field_at f i) ≡ false → Fits (field_at f i).long (field_at f i).value
    → read_value x (bottom w f + frame_bytes f i) (field_at f i).long ≡ (field_at f i).value
field_value w x f h i l c v = h.fields i l c ∙ kept_fits (field_at f i).long (field_at f i).value v

-- the bytes of a counted field stay at the address that the kind makes of it too, which lies below the frame if the field is past the top
pub image_gaps : (w x : World) (f : Frame) → Shape f → Image w x f → (i : ℕ) → i < f.count → is_counted (field_at f i) ≡ true → (j : ℕ) → j < width_of (field_at f i).long
    → SameByte w x (field_address (kind_of (cpu_of w)) (new_a7 w f) f i + j)
unfolding field_address
image_gaps w x f s h i l c j m = go (ltb (bottom w f + frame_bytes f i) (2 ^ address_bits (kind_of (cpu_of w)))) refl
  where
    q : new_a7 w f < 2 ^ 32
    q = minus_below (a7_of (cpu_of w)) (frame_bytes f f.count)

    n : frame_bytes f i + width_of (field_at f i).long ≤ 92
    n = omega (arith, s.short, bytes_below f i f.count l)

    go : (t : Bool) → ltb (bottom w f + frame_bytes f i) (2 ^ address_bits (kind_of (cpu_of w))) ≡ t → SameByte w x (mask_address (kind_of (cpu_of w)) ((new_a7 w f + frame_bytes f i) % 2 ^ 32) + j)
    go true e = rw (address_offset (kind_of (cpu_of w)) (new_a7 w f) f i q (ltb-true _ _ e)) (h.gaps i l c j m)
    go false e =
        h.others (mask_address (kind_of (cpu_of w)) ((new_a7 w f + frame_bytes f i) % 2 ^ 32) + j)
        (inl (omega (arith, n, wraps (kind_of (cpu_of w)) (new_a7 w f) (frame_bytes f i) q (omega (arith, n)) (ltb-false _ _ e))))

-- registers, kind, windows and store are the same
pub record Still (w x : World) : Type 0 where
  pub regs : (cpu_of x).regs ≡ (cpu_of w).regs
  pub kind : kind_of (cpu_of x) ≡ kind_of (cpu_of w)
  pub bus : calm x.core.bus ≡ calm w.core.bus
  pub store : x.store ≡ w.store

pub still_trans : {w x y : World} → Still w x → Still x y → Still w y
still_trans p q = record { regs = q.regs ∙ p.regs; kind = q.kind ∙ p.kind; bus = q.bus ∙ p.bus; store = q.store ∙ p.store }

-- what is read is the same where windows and store are
pub read_same : (w x : World) → Still w x → (a : ℕ) (g : Bool) → read_value x a g ≡ read_value w a g
unfolding read_value fetched served
read_same w x h a g = rw (h.store, served_same x.core.bus w.core.bus (length w.store) a (width_of g) h.bus, place_same x.core.bus w.core.bus a h.bus)

-- an image stays where registers, kind, windows and store do
pub image_still : (w x y : World) (f : Frame) → Image w x f → Still x y → Image w y f
unfolding a7_of
image_still w x y f h s =
    record {
      a7 = ap (λ (r : Regs). get_or r.dar 15 0) s.regs ∙ h.a7;
      kind = s.kind ∙ h.kind;
      bus = s.bus ∙ h.bus;
      size = ap length s.store ∙ h.size;
      fields = λ i l c. read_same x y s (bottom w f + frame_bytes f i) (field_at f i).long ∙ h.fields i l c;
      gaps = λ i l c j m p e. ap (λ (z : List ℕ). get_or z p 0) s.store ∙ h.gaps i l c j m p e;
      others = λ a o p e. ap (λ (z : List ℕ). get_or z p 0) s.store ∙ h.others a o p e;
    }

-- a part of what is served is served
pub served_part : (b : Bus) (len a n o m : ℕ) → served_of b len a n ≡ true → o + m ≤ n → served_of b len (a + o) m ≡ true
served_part b len a n o m h l =
    let c : Clear b len a n = served_means b len a n h in
    served_if b len (a + o) m (record { low = omega (arith, c.low); high = omega (arith, c.high); apart = λ k u z. go k (c.apart k u z) })
  where
    go : (k : ℕ) → Apart a n (start b k) (size b k) → Apart (a + o) m (start b k) (size b k)
    go k (inl x) = inl (omega arith)
    go k (inr x) = inr (omega arith)

-- fields are of even length
pub bytes_even : (f : Frame) (k : ℕ) → frame_bytes f k % 2 ≡ 0
unfolding frame_bytes
bytes_even f zero = refl
bytes_even f (suc k) = go (field_at f k).long (bytes_even f k)
  where
    go : (g : Bool) → frame_bytes f k % 2 ≡ 0 → (frame_bytes f k + width_of g) % 2 ≡ 0
    go true e = omega arith
    go false e = omega arith

-- the premises by one interval: field k is the last that may be written and begins below the top, all bytes up to its end are served,
-- and on the kinds that check alignment the new A7 is even
pub ready_whole : (w : World) (f : Frame) (k : ℕ) → ((j : ℕ) → suc k + j < f.count → is_counted (field_at f (suc k + j)) ≡ true)
    → Sound (cpu_of w) → length w.store ≤ most_store → bottom w f + frame_bytes f k < 2 ^ address_bits (kind_of (cpu_of w))
    → served_of w.core.bus (length w.store) (bottom w f) (frame_bytes f (suc k)) ≡ true → (is_pre68020 (kind_of (cpu_of w)) ≡ true → bottom w f % 2 ≡ 0) → Ready w f
ready_whole w f k g s m u h e =
    record {
      sound = s;
      allowed = record {
        serves = λ i l c. rw (place i (last i l c)) (served_part w.core.bus (length w.store) (bottom w f) (frame_bytes f (suc k)) (frame_bytes f i) (width_of (field_at f i).long) h (bytes_below f i (suc k) (last i l c)));
        even = λ i l c r. rw (place i (last i l c)) (go i (is_pre68020 (kind_of (cpu_of w))) e);
      };
      small = m;
    }
  where
    last : (i : ℕ) → i < f.count → is_counted (field_at f i) ≡ false → i < suc k
    last i l c = past (ltb i (suc k)) refl
      where
        past : (t : Bool) → ltb i (suc k) ≡ t → i < suc k
        past true x = ltb-true i (suc k) x
        past false x =
            let z : suc k + (i - suc k) ≡ i = omega (arith, ltb-false i (suc k) x) in
            absurd (clash (sym (rw z at (g (i - suc k) (rw z l))) ∙ c))

    place : (i : ℕ) → i < suc k → field_address (kind_of (cpu_of w)) (new_a7 w f) f i ≡ bottom w f + frame_bytes f i
    place i l = address_offset (kind_of (cpu_of w)) (new_a7 w f) f i (minus_below (a7_of (cpu_of w)) (frame_bytes f f.count)) (omega (arith, bytes_upto f i k l))

    go : (i : ℕ) (t : Bool) → (t ≡ true → bottom w f % 2 ≡ 0) → pick t (eqb ((bottom w f + frame_bytes f i) % 2) 1) false ≡ false
    go i true d = ne_eqb ((bottom w f + frame_bytes f i) % 2) 1 (λ x. let y = d refl in omega (arith, bytes_even f i))
    go i false d = refl
