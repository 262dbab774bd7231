-- Theorems about what specs/Laws defines, and what rests on them.
use Rattle.std.specs.Prelude.{◌≡◌, refl, Bool, true, false, Option, Some, None, ℕ, ◌+◌, ◌*◌, ◌/◌, ◌%◌, ◌-◌, ◌^◌, ◌≤◌, ◌<◌, eqb, ltb, leb, replicate}
use Rattle.std.proofs.Common.{sym, ap, ap₂, ◌∙◌, div-add-mod', mod-lt, arith, lit<, lit≤, pow_pos, eqb-true}
use Rattle.std.specs.Int.Bits.{bit_and, and_zero_r}
use Rattle.std.proofs.lemmas.Nat.{and_block, and_mask, and_le_l, and_le_r}
use Rattle.types.specs.declared.FaultCause.{FaultCause}
use Rattle.types.specs.declared.FaultCause.TheVariants.{PointerA, PointerB, Indirect, PageFault, WriteProtect, SupervisorProtect, TableWalkBusError, AccessBusError}
use Rattle.types.specs.Kinds.{pick, either, both, address_bits, mask_address, has_t0, has_m, status_mask, mask_status}
use Rattle.types.specs.Every.{at}
use Rattle.types.specs.Causes.{cause_number, cause_of}
use Rattle.types.specs.Tables.{exception_cycles, format_length, takes_format, frame_length}
use Rattle.types.specs.Laws.{Parts}

-- what holds of both values holds of the one that is picked
pub pick_holds : {A : Type 0} (P : A → Type 0) (t : Bool) (x y : A) → P x → P y → P (pick t x y)
pick_holds P true x y p q = p
pick_holds P false x y p q = q

-- ---- the status mask

-- the bits of a mask below bit k see only the bits of a number below bit k
low_bits : (w k s : ℕ) → s < 2 ^ k → bit_and (w % 2 ^ k) s ≡ bit_and w s
low_bits w k s l =
    sym (ap₂ (λ (x y : ℕ). bit_and x y) (sym (div-add-mod' w (2 ^ k))) (omega arith) ∙ and_block k (w / 2 ^ k) 0 (w % 2 ^ k) s (mod-lt w (pow_pos k)) l
    ∙ ap (λ (x : ℕ). x * 2 ^ k + bit_and (w % 2 ^ k) s) (and_zero_r (w / 2 ^ k)) ∙ omega arith)

-- the top j bits of a mask, which stand at bit k, come off
field : (w j k s : ℕ) → s < 2 ^ k → bit_and w ((2 ^ j - 1) * 2 ^ k + s) ≡ w / 2 ^ k % 2 ^ j * 2 ^ k + bit_and w s
field w j k s l =
    ap (λ (x : ℕ). bit_and x ((2 ^ j - 1) * 2 ^ k + s)) (sym (div-add-mod' w (2 ^ k)))
    ∙ and_block k (w / 2 ^ k) (2 ^ j - 1) (w % 2 ^ k) s (mod-lt w (pow_pos k)) l
    ∙ ap₂ (λ (x y : ℕ). x * 2 ^ k + y) (and_mask (w / 2 ^ k) j) (low_bits w k s l)

-- the mask of the interrupt level and the condition codes, which every kind has
low_mask : (w : ℕ) → bit_and w 0x71F ≡ w / 256 % 8 * 256 + w % 32
low_mask w = omega (arith, field w 3 8 31 (lit< tt), and_mask w 5)

-- the three masks, by their tests: kinds 0 to 2, kind 10, kind 11
by_mask : (p q r : Bool) (w : ℕ) → w / 0x8000 % 2 * 0x8000 + pick (pick p false (pick q false (pick r false true))) (w / 0x4000 % 2 * 0x4000) 0 + w / 0x2000 % 2 * 0x2000 + pick (pick p false (pick q false true)) (w / 0x1000 % 2 * 0x1000) 0 + w / 256 % 8 * 256 + w % 32 ≡ bit_and w (pick (pick p false (pick q false true)) (pick (pick p false (pick q false (pick r false true))) 0xF71F 0xB71F) 0xA71F)
by_mask true q r w = omega (arith, field w 1 15 0x271F (lit< tt), field w 1 13 0x71F (lit< tt), low_mask w)
by_mask false true r w = omega (arith, field w 1 15 0x271F (lit< tt), field w 1 13 0x71F (lit< tt), low_mask w)
by_mask false false true w = omega (arith, field w 1 15 0x371F (lit< tt), field w 1 13 0x171F (lit< tt), field w 1 12 0x71F (lit< tt), low_mask w)
by_mask false false false w = omega (arith, field w 1 15 30495 (lit< tt), field w 1 14 0x371F (lit< tt), field w 1 13 0x171F (lit< tt), field w 1 12 0x71F (lit< tt), low_mask w)

-- `mask_status` is the Rust's `sr & sr_mask`
pub masked_status_bits : (k w : ℕ) → mask_status k w ≡ bit_and w (status_mask k)
unfolding mask_status status_mask has_t0 has_m
masked_status_bits k w = by_mask (ltb k 3) (eqb k 10) (eqb k 11) w

-- a masked status is no greater than the status
pub masked_status_small : (k w : ℕ) → mask_status k w ≤ w
masked_status_small k w = rw masked_status_bits (and_le_l w (status_mask k))

mask_fits : (k : ℕ) → status_mask k < 0x10000
unfolding status_mask
mask_fits k = pick_holds (λ (n : ℕ). n < 0x10000) (has_m k) _ _ (pick_holds (λ (n : ℕ). n < 0x10000) (has_t0 k) _ _ (lit< tt) (lit< tt)) (lit< tt)

-- a masked status is one of 16 bits
pub masked_status_fits : (k w : ℕ) → mask_status k w < 0x10000
masked_status_fits k w = rw masked_status_bits (omega (arith, and_le_r w (status_mask k), mask_fits k))

pub packed : (t1 t0 s m i x : ℕ) → t1 < 2 → t0 < 2 → s < 2 → m < 2 → i < 8 → x < 32
    → Parts (t1 * 0x8000 + t0 * 0x4000 + s * 0x2000 + m * 0x1000 + i * 256 + x) t1 t0 s m i x
packed t1 t0 s m i x l1 l2 l3 l4 l5 l6 =
    record { t1_bit = omega arith; t0_bit = omega arith; s_bit_lem = omega arith; m_bit_lem = omega arith; level = omega arith; codes = omega arith }

-- a bit that is kept or dropped, before it is weighed and after
weighed : (t : Bool) (n weight : ℕ) → pick t (n * weight) 0 ≡ pick t n 0 * weight
weighed true n weight = refl
weighed false n weight = omega arith

kept_bit : (t : Bool) (n : ℕ) → pick t (n % 2) 0 < 2
kept_bit true n = omega arith
kept_bit false n = lit< tt

kept_twice : (t : Bool) (n weight : ℕ) → pick t (pick t n 0 * weight) 0 ≡ pick t (n * weight) 0
kept_twice true n weight = refl
kept_twice false n weight = refl

module _ (k w : ℕ) where
  -- each part of a masked status is that of the status, but T0 and M are 0 on a kind that has them not
  pub masked_status_parts : Parts (mask_status k w) (w / 0x8000 % 2) (pick (has_t0 k) (w / 0x4000 % 2) 0) (w / 0x2000 % 2) (pick (has_m k) (w / 0x1000 % 2) 0) (w / 256 % 8) (w % 32)
  unfolding mask_status
  masked_status_parts =
      rw (weighed (has_t0 k) (w / 0x4000 % 2) 16384, weighed (has_m k) (w / 0x1000 % 2) 0x1000)
      (packed _ _ _ _ _ _ (omega arith) (kept_bit (has_t0 k) (w / 0x4000)) (omega arith) (kept_bit (has_m k) (w / 0x1000)) (omega arith) (omega arith))

  -- masking twice is masking once
  pub masked_status_twice : mask_status k (mask_status k w) ≡ mask_status k w
  unfolding mask_status
  masked_status_twice =
      let p : _ = masked_status_parts in
      rw (p.t1_bit, p.t0_bit, p.s_bit_lem, p.m_bit_lem, p.level, p.codes, kept_twice (has_t0 k), kept_twice (has_m k))

  -- a masked status is the sum of its parts: it has no other bit
  pub masked_status_sum : mask_status k w / 0x8000 % 2 * 0x8000 + mask_status k w / 0x4000 % 2 * 0x4000 + mask_status k w / 0x2000 % 2 * 0x2000 + mask_status k w / 0x1000 % 2 * 0x1000 + mask_status k w / 256 % 8 * 256 + mask_status k w % 32 ≡ mask_status k w
  unfolding mask_status
  masked_status_sum =
      let p : _ = masked_status_parts in
      rw (p.t1_bit, p.t0_bit, p.s_bit_lem, p.m_bit_lem, p.level, p.codes, ← weighed (has_t0 k), ← weighed (has_m k))

-- ---- the address mask

-- masking an address twice is masking it once
pub masked_address_twice : (k a : ℕ) → mask_address k (mask_address k a) ≡ mask_address k a
unfolding mask_address
masked_address_twice k a = go (ltb k 3)
  where
    go : (t : Bool) → pick t (pick t (a % 0x1000000) a % 0x1000000) (pick t (a % 0x1000000) a) ≡ pick t (a % 0x1000000) a
    go true = omega arith
    go false = refl

-- a masked address is the low 24 or 32 bits of an address
pub masked_address_bits : (k a : ℕ) → a < 2 ^ 32 → mask_address k a ≡ a % 2 ^ address_bits k
unfolding mask_address address_bits
masked_address_bits k a l = go (ltb k 3)
  where
    go : (t : Bool) → pick t (a % 0x1000000) a ≡ a % 2 ^ pick t 24 32
    go true = refl
    go false = omega arith

-- the mask keeps an address even or odd
pub masked_address_parity : (k a : ℕ) → a % 2 ≡ mask_address k a % 2
unfolding mask_address
masked_address_parity k a = pick_holds (λ (n : ℕ). a % 2 ≡ n % 2) (ltb k 3) (a % 0x1000000) a (omega arith) refl

-- ---- the causes

-- the number of a cause names that cause
pub cause_of_number : (x : Option FaultCause) → cause_of (cause_number x) ≡ x
unfolding cause_of
cause_of_number None = refl
cause_of_number (Some PointerA) = refl
cause_of_number (Some PointerB) = refl
cause_of_number (Some Indirect) = refl
cause_of_number (Some PageFault) = refl
cause_of_number (Some WriteProtect) = refl
cause_of_number (Some SupervisorProtect) = refl
cause_of_number (Some TableWalkBusError) = refl
cause_of_number (Some AccessBusError) = refl

-- the numbers 0 to 8 are those of the causes
pub number_of_cause : (n : ℕ) → n ≤ 8 → cause_number (cause_of n) ≡ n
unfolding cause_of
number_of_cause n l = eqb-true _ _ (at 0 numbered (replicate 9 0) refl n (omega arith))
  where
    numbered : ℕ → ℕ → Bool
    numbered i x = eqb (cause_number (cause_of i)) i

-- ---- the tables

-- what holds of every length of the table holds of the length of any frame
lengths : (P : ℕ → Type 0) → P 0 → P 8 → P 12 → P 16 → P 58 → P 60 → P 92 → (k f : ℕ) → P (frame_length k f)
unfolding frame_length format_length
lengths P p0 p8 p12 p16 p58 p60 p92 k f =
    pick_holds P (takes_format k f) _ _
    (pick_holds P (either (eqb f 0) (eqb f 1)) _ _ p8
    (pick_holds P (eqb f 2) _ _ p12
    (pick_holds P (eqb f 4) _ _ p16
    (pick_holds P (eqb f 7) _ _ p60
    (pick_holds P (eqb f 8) _ _ p58
    (pick_holds P (eqb f 11) _ _ p92 p0)))))) p0

-- every frame has an even number of bytes
pub length_even : (k f : ℕ) → frame_length k f % 2 ≡ 0
length_even = lengths (λ (n : ℕ). n % 2 ≡ 0) refl refl refl refl refl refl refl

-- no frame is longer than 92 bytes
pub length_bounded : (k f : ℕ) → frame_length k f ≤ 92
length_bounded = lengths (λ (n : ℕ). n ≤ 92) (lit≤ tt) (lit≤ tt) (lit≤ tt) (lit≤ tt) (lit≤ tt) (lit≤ tt) (lit≤ tt)

-- an exception takes 34 to 50 cycles
pub cycles_bounded : (v : ℕ) → (34 ≤ exception_cycles v) × (exception_cycles v ≤ 50)
unfolding exception_cycles
cycles_bounded v =
    pick_holds P (either (ltb v 2) (eqb v 6)) _ _ (lit≤ tt, lit≤ tt)
    (pick_holds P (either (eqb v 2) (eqb v 3)) _ _ (lit≤ tt, lit≤ tt)
    (pick_holds P (eqb v 5) _ _ (lit≤ tt, lit≤ tt)
    (pick_holds P (both (leb 24 v) (leb v 31)) _ _ (lit≤ tt, lit≤ tt) (lit≤ tt, lit≤ tt))))
  where
    P : ℕ → Type 0
    P n = (34 ≤ n) × (n ≤ 50)
