-- The kinds of processor, by the numbers of `CpuType`, and what follows from the kind alone: paper 01's "Domain".
-- Numbers above 11 name no kind. The public calls refuse them by number 9; here they get the last case of each rule.
use Rattle.std.specs.Prelude.{ℕ, ◌+◌, ◌*◌, ◌/◌, ◌%◌, Bool, true, false, eqb, ltb, leb}

-- the first where the test holds, else the second: every branch of every definition
abbrev pub pick : {A : Type 0} → Bool → A → A → A
pick true a b = a
pick false a b = b

abbrev pub either : Bool → Bool → Bool
either a b = pick a true b

abbrev pub both : Bool → Bool → Bool
both a b = pick a b false

-- `is_040`: 68EC040, 68LC040, 68040
unfoldable pub is040 : ℕ → Bool
is040 k = both (leb 7 k) (leb k 9)

-- `is_060`
unfoldable pub is060 : ℕ → Bool
is060 k = eqb k 11

-- `is_pre_68020`, and the kinds that check the alignment of a guarded access: 68000, 68010, 68070
unfoldable pub is_pre68020 : ℕ → Bool
is_pre68020 k = either (eqb k 1) (either (eqb k 2) (eqb k 10))

-- `is_ec020_plus`: the kinds with a master and an interrupt stack and a format 1 frame
unfoldable pub is_ec020_plus : ℕ → Bool
is_ec020_plus k = both (leb 3 k) (leb k 9)

-- the kinds with a prefetch queue: 68000, 68010
unfoldable pub is_prefetch_kind : ℕ → Bool
is_prefetch_kind k = either (eqb k 1) (eqb k 2)

-- address bits: 24 on kinds 0, 1, 2, else 32
unfoldable pub address_bits : ℕ → ℕ
address_bits k = pick (ltb k 3) 24 32

-- `address_mask` applied: an address is below 2^32, so 32 bits leave it as it is
unfoldable pub mask_address : ℕ → ℕ → ℕ
mask_address k a = pick (ltb k 3) (a % 0x1000000) a

-- the status bits that a kind has besides T1, S, the mask and the five condition codes
unfoldable pub has_t0 : ℕ → Bool
has_t0 k = pick (ltb k 3) false (pick (eqb k 10) false (pick (eqb k 11) false true))

unfoldable pub has_m : ℕ → Bool
has_m k = pick (ltb k 3) false (pick (eqb k 10) false true)

-- `sr_mask`: 0xA71F on kinds 0, 1, 2, 10; 0xB71F on kind 11; else 0xF71F
unfoldable pub status_mask : ℕ → ℕ
status_mask k = pick (has_m k) (pick (has_t0 k) 0xF71F 0xB71F) 0xA71F

-- a status under the kind's mask: T1, T0 where the kind has it, S, M where the kind has it, the mask, XNZVC
unfoldable pub mask_status : ℕ → ℕ → ℕ
mask_status k w =
    w / 0x8000 % 2 * 0x8000 + pick (has_t0 k) (w / 0x4000 % 2 * 0x4000) 0 + w / 0x2000 % 2 * 0x2000
    + pick (has_m k) (w / 0x1000 % 2 * 0x1000) 0 + w / 256 % 8 * 256 + w % 32
