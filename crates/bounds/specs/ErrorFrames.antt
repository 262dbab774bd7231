-- What the two error frames ask of their pushes: which kinds push guarded, and how many fields are written.
use Rattle.std.specs.Prelude.{ℕ, ◌+◌, ◌≡◌, Bool, true, false, eqb}
use Rattle.std.proofs.Math.Path.{refl}
use native.Mathlib.Omega.{arith}
use Rattle.types.specs.Kinds.{pick, is_pre68020, is040, is060}
use Rattle.cpu.specs.declared.Cpu.{Cpu}
use Rattle.cpu.specs.Fields.{kind_of}
use Rattle.frames.specs.declared.Frame.{Frame}
use Rattle.frames.specs.Frames.{field_at, frame68000, frame8, frame2, frame0, frame4, frame7, frame11, address_frame, bus_frame, is_counted, is_raw}
use Rattle.bounds.specs.Skeleton.{after_fields, any_guarded, pick_one}

-- the fields that are written: those that are only counted are not
unfoldable pub bus_writes : ℕ → ℕ
bus_writes k = pick (eqb k 1) 5 (pick (is_pre68020 k) 8 (pick (is060 k) 5 (pick (is040 k) 18 28)))

unfoldable pub address_writes : ℕ → ℕ
address_writes k = pick (eqb k 1) 5 (pick (is_pre68020 k) 8 (pick (is040 k) 4 3))

pick_both : {A B : Type 0} (R : A → B → Type 0) (k : Bool) {a b : A} {x y : B} → R a x → R b y → R (pick k a b) (pick k x y)
pick_both R true f g = f
pick_both R false f g = g

abbrev Plain : Frame → Type 0
Plain f = any_guarded f f.count ≡ false

abbrev Writes : ℕ → Frame → ℕ → Type 0
Writes n f k = after_fields f f.count n ≡ k + n

module _ (sr ppc ir a status : ℕ) where
  plain_68000 : Plain (frame68000 sr ppc ir a status)
  unfolding any_guarded frame68000 field_at is_counted is_raw
  plain_68000 = refl

  plain_8 : Plain (frame8 sr ppc ir)
  unfolding any_guarded frame8 field_at is_counted is_raw
  plain_8 = refl

  plain_2 : Plain (frame2 sr ppc a)
  unfolding any_guarded frame2 field_at is_counted is_raw
  plain_2 = refl

  plain_0 : Plain (frame0 sr ppc)
  unfolding any_guarded frame0 field_at is_counted is_raw
  plain_0 = refl

  module _ (n : ℕ) where
    writes_68000 : Writes n (frame68000 sr ppc ir a status) 5
    unfolding after_fields frame68000 field_at is_counted
    writes_68000 = omega arith

    writes_8 : Writes n (frame8 sr ppc ir) 8
    unfolding after_fields frame8 field_at is_counted
    writes_8 = omega arith

    writes_2 : Writes n (frame2 sr ppc a) 4
    unfolding after_fields frame2 field_at is_counted
    writes_2 = omega arith

    writes_0 : Writes n (frame0 sr ppc) 3
    unfolding after_fields frame0 field_at is_counted
    writes_0 = omega arith

    writes_4 : Writes n (frame4 sr ppc a status) 5
    unfolding after_fields frame4 field_at is_counted
    writes_4 = omega arith

    writes_7 : (x y z : ℕ) → Writes n (frame7 sr ppc a status x y z) 18
    unfolding after_fields frame7 field_at is_counted
    writes_7 x y z = omega arith

    writes_11 : (x : ℕ) → Writes n (frame11 sr ppc ir a status x) 28
    unfolding after_fields frame11 field_at is_counted
    writes_11 x = omega arith

-- no field of an address error frame is pushed guarded, on any kind
pub address_plain : (c : Cpu) (a : ℕ) (wr i : Bool) → any_guarded (address_frame c a wr i) (address_frame c a wr i).count ≡ false
unfolding address_frame
address_plain c a wr i =
    pick_one Plain (eqb (kind_of c) 1) (plain_68000 _ _ _ _ _) (pick_one Plain (is_pre68020 (kind_of c)) (plain_8 _ _ _ 0 0) (pick_one Plain (is040 (kind_of c)) (plain_2 _ _ 0 _ 0) (plain_0 _ _ 0 0 0)))

-- no field of a bus error frame is, on the kinds that refuse odd addresses
pub bus_plain : (c : Cpu) (a : ℕ) (wr i : Bool) (z cause : ℕ) → is_pre68020 (kind_of c) ≡ true → any_guarded (bus_frame c a wr i z cause) (bus_frame c a wr i z cause).count ≡ false
unfolding bus_frame
bus_plain c a wr i z cause h = pick_one Plain (eqb (kind_of c) 1) (plain_68000 _ _ _ _ _) (rw h (plain_8 _ _ _ 0 0))

-- so many fields of each are written
pub address_writes_lem : (c : Cpu) (a : ℕ) (wr i : Bool) (n : ℕ) → after_fields (address_frame c a wr i) (address_frame c a wr i).count n ≡ address_writes (kind_of c) + n
unfolding address_frame address_writes
address_writes_lem c a wr i n =
    pick_both (Writes n) (eqb (kind_of c) 1) (writes_68000 _ _ _ _ _ n)
    (pick_both (Writes n) (is_pre68020 (kind_of c)) (writes_8 _ _ _ 0 0 n) (pick_both (Writes n) (is040 (kind_of c)) (writes_2 _ _ 0 _ 0 n) (writes_0 _ _ 0 0 0 n)))

-- and of a bus error frame
pub bus_writes_lem : (c : Cpu) (a : ℕ) (wr i : Bool) (z cause n : ℕ) → after_fields (bus_frame c a wr i z cause) (bus_frame c a wr i z cause).count n ≡ bus_writes (kind_of c) + n
unfolding bus_frame bus_writes
bus_writes_lem c a wr i z cause n =
    pick_both (Writes n) (eqb (kind_of c) 1) (writes_68000 _ _ _ _ _ n)
    (pick_both (Writes n) (is_pre68020 (kind_of c)) (writes_8 _ _ _ 0 0 n)
    (pick_both (Writes n) (is060 (kind_of c)) (writes_4 _ _ 0 _ _ n)
    (pick_both (Writes n) (is040 (kind_of c)) (writes_7 _ _ 0 _ _ n _ _ _) (writes_11 _ _ _ _ _ n _))))
