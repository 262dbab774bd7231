-- Cores that meet the premises, two of them with frames that reach past the top of 24 address bits.
use Rattle.std.specs.Prelude.{ℕ, ◌+◌, ◌<◌, ◌^◌, ◌≡◌, refl, true, false, [], ltb, replicate}
use Rattle.std.proofs.Common.{arith, lt-ltb, le-ltb}
use Rattle.types.specs.Kinds.{pick, is_pre68020, mask_address, address_bits}
use Rattle.types.specs.Every.{at}
use Rattle.cpu.specs.Fields.{kind_of, a7_of, is_faulted, set_a7, minus32}
use Rattle.cpu.specs.Fresh.{fresh_cpu, fresh_flow, fresh_regs}
use Rattle.memory.specs.Served.{clear_of, windows_in_use, in_store, served_of}
use Rattle.memory.specs.World.{World, world}
use Rattle.frames.specs.Frames.{word, field_at, frame0, frame8, frame11, is_counted}
use Rattle.images.specs.Images.{frame_bytes, Ready, bottom, ready_whole}

-- a fresh record of kind k with A7 as said, no window, and n bytes from base on
unfoldable pub example : ℕ → ℕ → ℕ → ℕ → World
example k a7 base n = world (record { cpu = set_a7 (fresh_cpu k) a7; bus = record { base = base; windows = 0; starts = []; lengths = []; responses = []; events = 0 } }) (replicate n 0) []

-- a 68020 with 256 bytes from 0 on, A7 at 128: ready for a frame of format 0
pub example_ready : (sr ppc : ℕ) → Ready (example 4 128 0 256) (frame0 sr ppc)
unfolding example set_a7 fresh_cpu fresh_flow fresh_regs is_faulted a7_of kind_of minus32 frame_bytes field_at frame0 mask_address address_bits is_pre68020 served_of in_store clear_of windows_in_use
example_ready sr ppc = ready_whole (example 4 128 0 256) (frame0 sr ppc) 2 (λ j l. absurd (omega arith)) (record { running = refl; regs16 = omega arith; a7_fits = omega arith }) (omega arith) (omega arith) refl (λ e. refl)

-- kind 0, 24 address bits, 512 bytes from 0xFFFF00 on, A7 at 0x1000002
abbrev pub straddling : World
straddling = example 0 16777218 0xFFFF00 512

-- ready for a frame of format 11, whose topmost long begins at 0xFFFFFE and has two bytes on either side of the top
pub straddling_ready : (sr ppc s x y z : ℕ) → Ready straddling (frame11 sr ppc s x y z)
unfolding example set_a7 fresh_cpu fresh_flow fresh_regs is_faulted a7_of kind_of minus32 frame_bytes field_at frame11 mask_address address_bits is_pre68020 served_of in_store clear_of windows_in_use
straddling_ready sr ppc s x y z = ready_whole straddling (frame11 sr ppc s x y z) 27 (λ j l. absurd (omega arith)) (record { running = refl; regs16 = omega arith; a7_fits = omega arith }) (omega arith) (omega arith) refl (λ e. refl)

pub straddling_long : (sr ppc s x y z : ℕ) → bottom straddling (frame11 sr ppc s x y z) + frame_bytes (frame11 sr ppc s x y z) 27 + 2 ≡ 2 ^ 24
unfolding example set_a7 fresh_cpu fresh_flow fresh_regs a7_of kind_of minus32 frame_bytes field_at frame11 mask_address
straddling_long sr ppc s x y z = refl

-- the fields of format 8 above its first 11 are only counted
counted_8 : (sr ppc v j : ℕ) → 11 + j < 19 → is_counted (field_at (frame8 sr ppc v) (11 + j)) ≡ true
unfolding field_at frame8 is_counted
counted_8 sr ppc v j l =
    let e : ltb (11 + j) 28 ≡ true = lt-ltb (11 + j) 28 (omega arith) in
    let n : ltb (11 + j) 11 ≡ false = le-ltb (11 + j) 11 (omega arith) in
    rw e (rw n at (at (word 0) (λ i g. pick (ltb i 11) true (is_counted g)) (frame8 sr ppc v).fields refl (11 + j) (omega arith)))

-- kind 2, 256 bytes from 0xFFFF00 up to the top, A7 at 0x1000020
abbrev pub past : World
past = example 2 16777248 0xFFFF00 256

-- ready for a frame of format 8: its 26 bytes up to the last written field end at the top, and the 32 counted ones above lie past it,
-- in no store
pub past_ready : (sr ppc v : ℕ) → Ready past (frame8 sr ppc v)
unfolding example set_a7 fresh_cpu fresh_flow fresh_regs is_faulted a7_of kind_of minus32 frame_bytes field_at frame8 mask_address address_bits is_pre68020 served_of in_store clear_of windows_in_use
past_ready sr ppc v = ready_whole past (frame8 sr ppc v) 10 (counted_8 sr ppc v) (record { running = refl; regs16 = omega arith; a7_fits = omega arith }) (omega arith) (omega arith) refl (λ e. refl)
