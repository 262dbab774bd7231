-- Theorems about what specs/Orders defines, and what rests on them.
use Prim.Native.Nat.{ℕ, ◌+◌, ◌/◌, ◌%◌, ◌^◌, ◌<◌}
use Rattle.std.specs.Prelude.{◌≡◌}
use Rattle.std.proofs.Math.Path.{refl, ap}
use Rattle.std.proofs.Common.{◌∙◌}
use Rattle.std.proofs.Math.Bool.{false}
use mathlib.Core.List.{List, []}
use native.Mathlib.Omega.{arith}
use Rattle.std.proofs.Math.ListN.{length}
use Rattle.cpu.specs.Fields.{kind_of, a7_of}
use Rattle.memory.specs.Served.{place_of}
use Rattle.memory.specs.World.{World, stored, cpu_of}
use Rattle.memory.proofs.ByteLaws.{put_length}
use Rattle.memory.specs.AccessLaws.{kept}
use Rattle.frames.specs.declared.Frame.{Frame}
use Rattle.frames.specs.Frames.{field_at, is_counted, is_raw}
use Rattle.access.specs.Access.{Raise, write_at}
use Rattle.images.specs.Pushes.{laid_field}
use Rattle.images.specs.Images.{Ready, frame_bytes, field_address, laid, new_a7}
use Rattle.forms.specs.Gist.{gist, at7, framed_by, minus_below}
use Rattle.forms.specs.Orders.{words8, shape8, P, four_order, word_step, place_step}

-- ---- the interrupt of kind 2: the same, then the format word

module _ (t : Raise) (x : World) (sr pc fw : ℕ) (h : Ready x (words8 sr pc fw)) where
  abbrev f8 : Frame
  f8 = words8 sr pc fw

  abbrev q8 : ℕ
  q8 = new_a7 x (words8 sr pc fw)

  abbrev p8 : ℕ → ℕ
  p8 i = place_of x.core.bus (field_address (kind_of (cpu_of x)) q8 f8 i)

  writes8 : (y : World) → gist y ≡ at7 x q8
      → gist (write_at t (write_at t (write_at t (write_at t y ((q8 + 4) % 2 ^ 32) false (pc % 0x10000)) q8 false sr) ((q8 + 2) % 2 ^ 32) false (pc / 0x10000)) ((q8 + 6) % 2 ^ 32) false fw)
      ≡ at7 (stored x (P (P (P (P x.store (p8 2) (pc % 0x10000)) (p8 0) sr) (p8 1) (pc / 0x10000)) (p8 3) fw)) q8
  unfolding words8 field_at is_counted is_raw frame_bytes stored
  writes8 y e =
      let l : List ℕ = P x.store (p8 2) (pc % 0x10000) in
      let n : length l ≡ length x.store = put_length false x.store (p8 2) (kept false (pc % 0x10000)) in
      let m : length (P l (p8 0) sr) ≡ length x.store = put_length false l (p8 0) (kept false sr) ∙ n in
      let o : length (P (P l (p8 0) sr) (p8 1) (pc / 0x10000)) ≡ length x.store = put_length false (P l (p8 0) sr) (p8 1) (kept false (pc / 0x10000)) ∙ m in
      let a : World = write_at t y ((q8 + 4) % 2 ^ 32) false (pc % 0x10000) in
      let b : World = write_at t a q8 false sr in
      let c : World = write_at t b ((q8 + 2) % 2 ^ 32) false (pc / 0x10000) in
      let i = word_step x f8 (shape8 sr pc fw) h t y x.store 2 ((q8 + 4) % 2 ^ 32) e refl (omega arith) refl refl refl in
      let j = word_step x f8 (shape8 sr pc fw) h t a l 0 q8 i n (omega arith) refl refl (zero_sum8 q8 (minus_below (a7_of (cpu_of x)) 8)) in
      let k = word_step x f8 (shape8 sr pc fw) h t b (P l (p8 0) sr) 1 ((q8 + 2) % 2 ^ 32) j m (omega arith) refl refl refl in
      word_step x f8 (shape8 sr pc fw) h t c (P (P l (p8 0) sr) (p8 1) (pc / 0x10000)) 3 ((q8 + 6) % 2 ^ 32) k o (omega arith) refl refl refl
    where
      zero_sum8 : (q : ℕ) → q < 2 ^ 32 → q ≡ (q + 0) % 2 ^ 32
      zero_sum8 q l = omega arith

  laid8 : at7 (stored x (P (P (P (P x.store (p8 2) (pc % 0x10000)) (p8 0) sr) (p8 1) (pc / 0x10000)) (p8 3) fw)) q8 ≡ framed_by x f8
  unfolding framed_by words8 field_at is_counted frame_bytes laid laid_field
  laid8 =
      ap (λ (l : List ℕ). at7 (stored x l) q8)
      (four_order x.store (p8 0) (p8 1) (p8 2) (p8 3) sr (pc / 0x10000) (pc % 0x10000) fw
      (place_step x f8 (shape8 sr pc fw) h 1 2 (omega arith) refl refl) (place_step x f8 (shape8 sr pc fw) h 2 4 (omega arith) refl refl) (place_step x f8 (shape8 sr pc fw) h 3 6 (omega arith) refl refl))

  pub four_form : (y : World) (sp : ℕ) → sp ≡ q8 → gist y ≡ at7 x q8
      → gist (write_at t (write_at t (write_at t (write_at t y ((sp + 4) % 2 ^ 32) false (pc % 0x10000)) sp false sr) ((sp + 2) % 2 ^ 32) false (pc / 0x10000)) ((sp + 6) % 2 ^ 32) false fw) ≡ framed_by x (words8 sr pc fw)
  four_form y sp k e =
      ap (λ (q : ℕ). gist (write_at t (write_at t (write_at t (write_at t y ((q + 4) % 2 ^ 32) false (pc % 0x10000)) q false sr) ((q + 2) % 2 ^ 32) false (pc / 0x10000)) ((q + 6) % 2 ^ 32) false fw)) k
      ∙ writes8 y e ∙ laid8
