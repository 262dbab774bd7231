-- What every error frame is: its lowest field is written, it is at most 92 bytes long, and on the kinds that check alignment each
-- written field is raw. So an error frame is ready where its written fields are served.
use Rattle.std.specs.Prelude.{ℕ, ◌%◌, ◌≤◌, ◌<◌, ◌≡◌, refl, Bool, true, false, eqb, length}
use Rattle.std.proofs.Common.{arith, lt-ltb}
use Rattle.types.specs.Kinds.{pick, either, is_pre68020}
use Rattle.types.specs.Every.{every, at}
use Rattle.cpu.specs.declared.Cpu.{Cpu}
use Rattle.cpu.specs.Fields.{kind_of, clear_fc_override}
use Rattle.status.specs.Status.{clear_trace}
use Rattle.status.specs.Banks.{enter_supervisor, set_sflag, restore_sp, put_s, backup_sp}
use Rattle.memory.specs.Served.{served_of}
use Rattle.memory.specs.World.{World, put_cpu, width_of, cpu_of, step}
use Rattle.frames.specs.declared.Field.{Field}
use Rattle.frames.specs.declared.Frame.{Frame}
use Rattle.frames.specs.Frames.{word, field_at, frame68000, frame8, frame2, frame0, frame4, frame7, frame11, address_frame, bus_frame, is_counted, is_raw}
use Rattle.steps.specs.Steps.{enter_bus_error}
use Rattle.images.specs.Images.{field_address, new_a7, most_store, Sound, Shape, Ready}
use Rattle.images.specs.Lengths.{length_of, length_68000, length_2, length_0, length_4, length_7, length_11}

-- each error frame has the shape
pub short_enough : (f : Frame) (n : ℕ) → 0 < f.count → is_counted (field_at f 0) ≡ false → length_of f ≡ n → n ≤ 92 → Shape f
short_enough f n s c e h = record { some = s; first = c; short = rw e h }

pub shape_68000 : (sr ppc ir a st : ℕ) → Shape (frame68000 sr ppc ir a st)
unfolding field_at is_counted frame68000
shape_68000 sr ppc ir a st = short_enough _ 14 (omega arith) refl (length_68000 sr ppc ir a st) (omega arith)

pub shape_2 : (sr ppc a : ℕ) → Shape (frame2 sr ppc a)
unfolding field_at is_counted frame2
shape_2 sr ppc a = short_enough _ 12 (omega arith) refl (length_2 sr ppc a) (omega arith)

pub shape_0 : (sr ppc : ℕ) → Shape (frame0 sr ppc)
unfolding field_at is_counted frame0
shape_0 sr ppc = short_enough _ 8 (omega arith) refl (length_0 sr ppc) (omega arith)

pub shape_4 : (sr ppc a s : ℕ) → Shape (frame4 sr ppc a s)
unfolding field_at is_counted frame4
shape_4 sr ppc a s = short_enough _ 16 (omega arith) refl (length_4 sr ppc a s) (omega arith)

pub shape_7 : (sr ppc a s wb wba wbd : ℕ) → Shape (frame7 sr ppc a s wb wba wbd)
unfolding field_at is_counted frame7
shape_7 sr ppc a s wb wba wbd = short_enough _ 60 (omega arith) refl (length_7 sr ppc a s wb wba wbd) (omega arith)

pub shape_11 : (sr ppc s x y z : ℕ) → Shape (frame11 sr ppc s x y z)
unfolding field_at is_counted frame11
shape_11 sr ppc s x y z = short_enough _ 92 (omega arith) refl (length_11 sr ppc s x y z) (omega arith)

pub either_shape : (t : Bool) (x y : Frame) → Shape x → Shape y → Shape (pick t x y)
either_shape true x y p q = p
either_shape false x y p q = q

-- a field that is counted or raw
abbrev free : ℕ → Field → Bool
free i g = either (is_counted g) (is_raw g)

-- no written field of the frame is guarded
abbrev AllRaw : Frame → Type 0
AllRaw f = (i : ℕ) → i < f.count → is_counted (field_at f i) ≡ false → is_raw (field_at f i) ≡ false → ⊥

neither : (c r : Bool) → either c r ≡ true → c ≡ false → r ≡ false → ⊥
neither true r h x y = let z : ◌≡◌ {A = ℕ} 0 1 = cc in omega arith
neither false true h x y = let z : ◌≡◌ {A = ℕ} 0 1 = cc in omega arith
neither false false h x y = let z : ◌≡◌ {A = ℕ} 0 1 = cc in omega arith

all_raw : (f : Frame) → every free 0 f.fields ≡ true → length f.fields ≡ 28 → f.count ≤ 28 → AllRaw f
unfolding field_at
all_raw f h n m i l = rw (lt-ltb i 28 (omega arith)) (neither _ _ (at (word 0) free f.fields h i (omega arith)))

raw_68000 : (sr ppc ir a st : ℕ) → AllRaw (frame68000 sr ppc ir a st)
unfolding frame68000 is_counted is_raw
raw_68000 sr ppc ir a st = all_raw (frame68000 sr ppc ir a st) refl refl (omega arith)

raw_8 : (sr ppc v : ℕ) → AllRaw (frame8 sr ppc v)
unfolding frame8 is_counted is_raw
raw_8 sr ppc v = all_raw (frame8 sr ppc v) refl refl (omega arith)

-- no field of the frame is refused for oddness on kind kd
abbrev Even : ℕ → Frame → Type 0
Even kd f = (q i : ℕ) → i < f.count → is_counted (field_at f i) ≡ false → is_raw (field_at f i) ≡ false → pick (is_pre68020 kd) (eqb (field_address kd q f i % 2) 1) false ≡ false

even : (kd : ℕ) (x y r : Frame) → AllRaw x → AllRaw y → Even kd (pick (eqb kd 1) x (pick (is_pre68020 kd) y r))
even kd x y r p q = go (eqb kd 1) (is_pre68020 kd)
  where
    go : (t u : Bool) (n i : ℕ) → i < (pick t x (pick u y r)).count → is_counted (field_at (pick t x (pick u y r)) i) ≡ false → is_raw (field_at (pick t x (pick u y r)) i) ≡ false
        → pick u (eqb (field_address kd n (pick t x (pick u y r)) i % 2) 1) false ≡ false
    go true u n i l c d = absurd (p i l c d)
    go false true n i l c d = absurd (q i l c d)
    go false false n i l c d = refl

bus_even : (c : Cpu) (a : ℕ) (write instruction : Bool) (z cause : ℕ) → Even (kind_of c) (bus_frame c a write instruction z cause)
unfolding bus_frame
bus_even c a write instruction z cause = even (kind_of c) _ _ _ (raw_68000 _ _ _ _ _) (raw_8 _ _ _)

address_even : (c : Cpu) (a : ℕ) (write instruction : Bool) → Even (kind_of c) (address_frame c a write instruction)
unfolding address_frame
address_even c a write instruction = even (kind_of c) _ _ _ (raw_68000 _ _ _ _ _) (raw_8 _ _ _)

-- each written field of the frame is served at its address
abbrev pub AllServed : World → Frame → Type 0
AllServed w f =
    (i : ℕ) → i < f.count → is_counted (field_at f i) ≡ false
    → served_of w.core.bus (length w.store) (field_address (kind_of (cpu_of w)) (new_a7 w f) f i) (width_of (field_at f i).long) ≡ true

bus_kind : (c : Cpu) → kind_of (enter_bus_error c) ≡ kind_of c
unfolding kind_of enter_bus_error clear_fc_override enter_supervisor clear_trace set_sflag restore_sp put_s backup_sp
bus_kind c = refl

address_kind : (c : Cpu) → kind_of (enter_supervisor c) ≡ kind_of c
unfolding kind_of enter_supervisor clear_trace set_sflag restore_sp put_s backup_sp
address_kind c = refl

module _ (w : World) (a : ℕ) (write instruction : Bool) (m : length w.store ≤ most_store) where
  -- a bus error frame is ready where its written fields are served, in a store that number 5 does not refuse
  pub bus_ready : (z cause : ℕ) → Sound (enter_bus_error (cpu_of w)) → AllServed (step enter_bus_error w) (bus_frame (cpu_of w) a write instruction z cause)
      → Ready (step enter_bus_error w) (bus_frame (cpu_of w) a write instruction z cause)
  unfolding put_cpu
  bus_ready z cause s h =
      record { sound = s; allowed = record { serves = h; even = rw (bus_kind (cpu_of w)) (bus_even (cpu_of w) a write instruction z cause _) }; small = m }

  -- and an address error frame
  pub address_ready : Sound (enter_supervisor (cpu_of w)) → AllServed (step enter_supervisor w) (address_frame (cpu_of w) a write instruction)
      → Ready (step enter_supervisor w) (address_frame (cpu_of w) a write instruction)
  unfolding put_cpu
  address_ready s h =
      record { sound = s; allowed = record { serves = h; even = rw (address_kind (cpu_of w)) (address_even (cpu_of w) a write instruction _) }; small = m }
