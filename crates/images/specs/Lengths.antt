-- The lengths of the error frames, and that they are those of the table.
use Rattle.std.specs.Prelude.{ℕ, zero, suc, ◌<◌, ◌≡◌, refl, Bool, true, false, List, [], ◌∷◌, eqb}
use Rattle.std.proofs.Common.{arith}
use Rattle.types.specs.Kinds.{pick, is_pre68020, is040, is060}
use Rattle.types.specs.Tables.{format_length, takes_format, frame_length}
use Rattle.frames.specs.declared.Frame.{Frame}
use Rattle.frames.specs.Frames.{field_at, frame68000, frame8, frame2, frame0, frame4, frame7, frame11}
use Rattle.images.specs.Images.{frame_bytes}

-- the length of a frame in bytes
abbrev pub length_of : Frame → ℕ
length_of f = frame_bytes f f.count

-- the frame of kind 1: 14 bytes
pub length_68000 : (sr ppc ir a st : ℕ) → length_of (frame68000 sr ppc ir a st) ≡ 14
unfolding frame_bytes field_at frame68000
length_68000 sr ppc ir a st = refl

-- format 8: 58 bytes
pub length_8 : (sr ppc v : ℕ) → length_of (frame8 sr ppc v) ≡ 58
unfolding frame_bytes field_at frame8
length_8 sr ppc v = refl

-- format 2: 12 bytes
pub length_2 : (sr ppc a : ℕ) → length_of (frame2 sr ppc a) ≡ 12
unfolding frame_bytes field_at frame2
length_2 sr ppc a = refl

-- format 0: 8 bytes
pub length_0 : (sr ppc : ℕ) → length_of (frame0 sr ppc) ≡ 8
unfolding frame_bytes field_at frame0
length_0 sr ppc = refl

-- format 4: 16 bytes
pub length_4 : (sr ppc a s : ℕ) → length_of (frame4 sr ppc a s) ≡ 16
unfolding frame_bytes field_at frame4
length_4 sr ppc a s = refl

-- format 7: 60 bytes
pub length_7 : (sr ppc a s wb wba wbd : ℕ) → length_of (frame7 sr ppc a s wb wba wbd) ≡ 60
unfolding frame_bytes field_at frame7
length_7 sr ppc a s wb wba wbd = refl

-- format 11: 92 bytes
pub length_11 : (sr ppc s x y z : ℕ) → length_of (frame11 sr ppc s x y z) ≡ 92
unfolding frame_bytes field_at frame11
length_11 sr ppc s x y z = refl

-- the offsets of the first k fields from the new A7
abbrev pub offsets_to : Frame → ℕ → List ℕ → List ℕ
offsets_to f zero l = l
offsets_to f (suc k) l = offsets_to f k (frame_bytes f k ∷ l)

abbrev pub offsets_of : Frame → List ℕ
offsets_of f = offsets_to f f.count []

-- where each field of each format lies
pub offsets_68000 : (sr ppc ir a st : ℕ) → offsets_of (frame68000 sr ppc ir a st) ≡ 0 ∷ 4 ∷ 6 ∷ 8 ∷ 12 ∷ []
unfolding frame_bytes field_at frame68000
offsets_68000 sr ppc ir a st = refl

pub offsets_8 : (sr ppc v : ℕ) → offsets_of (frame8 sr ppc v) ≡ 0 ∷ 2 ∷ 6 ∷ 8 ∷ 10 ∷ 14 ∷ 16 ∷ 18 ∷ 20 ∷ 22 ∷ 24 ∷ 26 ∷ 30 ∷ 34 ∷ 38 ∷ 42 ∷ 46 ∷ 50 ∷ 54 ∷ []
unfolding frame_bytes field_at frame8
offsets_8 sr ppc v = refl

pub offsets_2 : (sr ppc a : ℕ) → offsets_of (frame2 sr ppc a) ≡ 0 ∷ 2 ∷ 6 ∷ 8 ∷ []
unfolding frame_bytes field_at frame2
offsets_2 sr ppc a = refl

pub offsets_0 : (sr ppc : ℕ) → offsets_of (frame0 sr ppc) ≡ 0 ∷ 2 ∷ 6 ∷ []
unfolding frame_bytes field_at frame0
offsets_0 sr ppc = refl

pub offsets_4 : (sr ppc a s : ℕ) → offsets_of (frame4 sr ppc a s) ≡ 0 ∷ 2 ∷ 6 ∷ 8 ∷ 12 ∷ []
unfolding frame_bytes field_at frame4
offsets_4 sr ppc a s = refl

pub offsets_7 : (sr ppc a s wb wba wbd : ℕ) → offsets_of (frame7 sr ppc a s wb wba wbd) ≡ 0 ∷ 2 ∷ 6 ∷ 8 ∷ 12 ∷ 14 ∷ 16 ∷ 18 ∷ 20 ∷ 24 ∷ 28 ∷ 32 ∷ 36 ∷ 40 ∷ 44 ∷ 48 ∷ 52 ∷ 56 ∷ []
unfolding frame_bytes field_at frame7
offsets_7 sr ppc a s wb wba wbd = refl

pub offsets_11 : (sr ppc s x y z : ℕ) → offsets_of (frame11 sr ppc s x y z) ≡ 0 ∷ 2 ∷ 6 ∷ 8 ∷ 10 ∷ 12 ∷ 14 ∷ 16 ∷ 20 ∷ 24 ∷ 28 ∷ 32 ∷ 36 ∷ 40 ∷ 44 ∷ 48 ∷ 50 ∷ 52 ∷ 54 ∷ 56 ∷ 60 ∷ 64 ∷ 68 ∷ 72 ∷ 76 ∷ 80 ∷ 84 ∷ 88 ∷ []
unfolding frame_bytes field_at frame11
offsets_11 sr ppc s x y z = refl

-- the format of a bus error on a kind other than 1: 8; 4; 7; 11
unfoldable pub bus_format : ℕ → ℕ
bus_format k = pick (is_pre68020 k) 8 (pick (is060 k) 4 (pick (is040 k) 7 11))

-- the format of an address error on a kind other than 1: 8; 2; 0
unfoldable pub address_format : ℕ → ℕ
address_format k = pick (is_pre68020 k) 8 (pick (is040 k) 2 0)

-- the length of an error frame: 14 on kind 1, else that of the table
unfoldable pub error_length : ℕ → ℕ → ℕ
error_length k format = pick (eqb k 1) 14 (frame_length k format)

-- what holds of each kind holds of the numbers below 12
kinds : (P : ℕ → Type 0) → P 0 → P 1 → P 2 → P 3 → P 4 → P 5 → P 6 → P 7 → P 8 → P 9 → P 10 → P 11 → (k : ℕ) → k < 12 → P k
kinds P p0 p1 p2 p3 p4 p5 p6 p7 p8 p9 p10 p11 zero h = p0
kinds P p0 p1 p2 p3 p4 p5 p6 p7 p8 p9 p10 p11 (suc zero) h = p1
kinds P p0 p1 p2 p3 p4 p5 p6 p7 p8 p9 p10 p11 (suc (suc zero)) h = p2
kinds P p0 p1 p2 p3 p4 p5 p6 p7 p8 p9 p10 p11 (suc (suc (suc zero))) h = p3
kinds P p0 p1 p2 p3 p4 p5 p6 p7 p8 p9 p10 p11 (suc (suc (suc (suc zero)))) h = p4
kinds P p0 p1 p2 p3 p4 p5 p6 p7 p8 p9 p10 p11 (suc (suc (suc (suc (suc zero))))) h = p5
kinds P p0 p1 p2 p3 p4 p5 p6 p7 p8 p9 p10 p11 (suc (suc (suc (suc (suc (suc zero)))))) h = p6
kinds P p0 p1 p2 p3 p4 p5 p6 p7 p8 p9 p10 p11 (suc (suc (suc (suc (suc (suc (suc zero))))))) h = p7
kinds P p0 p1 p2 p3 p4 p5 p6 p7 p8 p9 p10 p11 (suc (suc (suc (suc (suc (suc (suc (suc zero)))))))) h = p8
kinds P p0 p1 p2 p3 p4 p5 p6 p7 p8 p9 p10 p11 (suc (suc (suc (suc (suc (suc (suc (suc (suc zero))))))))) h = p9
kinds P p0 p1 p2 p3 p4 p5 p6 p7 p8 p9 p10 p11 (suc (suc (suc (suc (suc (suc (suc (suc (suc (suc zero)))))))))) h = p10
kinds P p0 p1 p2 p3 p4 p5 p6 p7 p8 p9 p10 p11 (suc (suc (suc (suc (suc (suc (suc (suc (suc (suc (suc zero))))))))))) h = p11
kinds P p0 p1 p2 p3 p4 p5 p6 p7 p8 p9 p10 p11 (suc (suc (suc (suc (suc (suc (suc (suc (suc (suc (suc (suc k)))))))))))) h = absurd (omega arith)

pub bus_table : (k : ℕ) → k < 12 → pick (eqb k 1) 14 (pick (is_pre68020 k) 58 (pick (is060 k) 16 (pick (is040 k) 60 92))) ≡ error_length k (bus_format k)
unfolding error_length bus_format frame_length takes_format format_length is_pre68020 is040 is060
bus_table = kinds (λ k. pick (eqb k 1) 14 (pick (is_pre68020 k) 58 (pick (is060 k) 16 (pick (is040 k) 60 92))) ≡ error_length k (bus_format k)) refl refl refl refl refl refl refl refl refl refl refl refl

pub address_table : (k : ℕ) → k < 12 → pick (eqb k 1) 14 (pick (is_pre68020 k) 58 (pick (is040 k) 12 8)) ≡ error_length k (address_format k)
unfolding error_length address_format frame_length takes_format format_length is_pre68020 is040 is060
address_table = kinds (λ k. pick (eqb k 1) 14 (pick (is_pre68020 k) 58 (pick (is040 k) 12 8)) ≡ error_length k (address_format k)) refl refl refl refl refl refl refl refl refl refl refl refl

pub either_length : (t : Bool) (x y : Frame) (a b : ℕ) → length_of x ≡ a → length_of y ≡ b → length_of (pick t x y) ≡ pick t a b
either_length true x y a b p q = p
either_length false x y a b p q = q
