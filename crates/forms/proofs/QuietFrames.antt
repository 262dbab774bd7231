-- Theorems about what specs/QuietFrames defines, and what rests on them.
use Rattle.std.specs.Prelude.{ℕ, suc, ◌+◌, ◌/◌, ◌%◌, ◌^◌, ◌<◌, ◌≡◌, Bool, true, length}
use Rattle.std.proofs.Math.Path.{refl}
use Rattle.std.proofs.Common.{subst, arith}
use Rattle.std.proofs.Math.Bool.{false}
use Rattle.types.specs.Kinds.{both}
use Rattle.cpu.specs.declared.Cpu.{Cpu}
use Rattle.cpu.specs.Fields.{kind_of, a7_of, lower_a7, minus32}
use Rattle.memory.specs.declared.Bus.{Bus}
use Rattle.memory.specs.World.{World, with_cpu, cpu_of}
use Rattle.frames.specs.declared.Frame.{Frame}
use Rattle.frames.specs.Frames.{field_at, is_counted, is_raw}
use Rattle.access.specs.Access.{write_at, push_frame, short_writes, push_exception_frame68000, trigger}
use Rattle.images.specs.Images.{frame_bytes, new_a7}
use Rattle.forms.specs.Gist.{gist, minus_below}
use Rattle.forms.specs.Orders.{words6, words8}
use Rattle.forms.specs.Tests.{field_test, fields_test}
use Rattle.forms.specs.Quiet.{Booked, Tale, gist_tale, tale_less, tale_turn}
use Rattle.forms.specs.QuietFrames.{lower_turn, under, under_kind, fields_tale, frame_test, word_tale, under_top, above, at_bottom, first, tests6, tests8}

-- a whole frame, from a world whose gist is y as long as no test failed
pub frame_tale : (m : ℕ) (w y : World) (f : Frame) (n : ℕ) (d : Bool) → 15 < length (cpu_of y).regs.dar → (d ≡ true → gist w ≡ y) → Booked (f.count + n) d w → Booked n (both d (frame_test y f)) (push_frame (trigger m) w f)
unfolding push_frame
frame_tale m w y f n d l e p = fields_tale m f f.count (kind_of (cpu_of y)) (new_a7 y f) w l refl refl (gist_tale w y (f.count + n) d e p)

-- kind 1: address low; then, after steps that change neither A7 nor kind, status and address high
module _ (m : ℕ) {x : Cpu} {b : Bus} {len n : ℕ} {d : Bool} (w : World) (sp q sr pc : ℕ) (e : d ≡ true → sp ≡ q) where
  pub low6_tale : Tale x b len (suc n) d w → Tale x b len n (both d (field_test b len (kind_of x) q (words6 sr pc) 2)) (write_at (trigger m) w ((sp + 4) % 2 ^ 32) false (pc % 0x10000))
  unfolding words6 field_at is_counted is_raw frame_bytes
  low6_tale p = word_tale m w (words6 sr pc) 2 ((sp + 4) % 2 ^ 32) (kind_of x) q (pc % 0x10000) refl (λ h. above sp q 4 (e h)) refl refl refl p

  pub rest6_tale : q < 2 ^ 32 → Tale x b len (suc (suc n)) d w
      → Tale x b len n (both (both d (field_test b len (kind_of x) q (words6 sr pc) 0)) (field_test b len (kind_of x) q (words6 sr pc) 1)) (write_at (trigger m) (write_at (trigger m) w sp false sr) ((sp + 2) % 2 ^ 32) false (pc / 0x10000))
  unfolding words6 field_at is_counted is_raw frame_bytes
  rest6_tale l p =
      word_tale m (write_at (trigger m) w sp false sr) (words6 sr pc) 1 ((sp + 2) % 2 ^ 32) (kind_of x) q (pc / 0x10000) refl (λ h. above sp q 2 (e (first d _ h))) refl refl refl
      (word_tale m w (words6 sr pc) 0 sp (kind_of x) q sr refl (λ h. at_bottom sp q (e h) l) refl refl refl p)

-- `push_exception_frame_68000`
pub short_tale : (m : ℕ) (w y : World) (sr pc n : ℕ) (d : Bool) → 15 < length (cpu_of y).regs.dar → (d ≡ true → gist w ≡ y) → Booked (3 + n) d w → Booked n (both d (frame_test y (words6 sr pc))) (push_exception_frame68000 (trigger m) w pc sr)
unfolding push_exception_frame68000 short_writes words6 frame_bytes field_at
short_tale m w y sr pc n d l e p =
    let x : Cpu = under (cpu_of y) 6 in
    let b : Bus = y.core.bus in
    let len : ℕ = length y.store in
    let q : ℕ = minus32 (a7_of (cpu_of y)) 6 in
    let z : World = with_cpu w (lower_a7 (cpu_of w) 6) in
    let sp : ℕ = a7_of (cpu_of z) in
    let r : Tale x b len (suc (suc (suc n))) d z = tale_turn w (λ c. lower_a7 c 6) (lower_turn 6) (tale_less (omega arith) (gist_tale w y (3 + n) d e p)) in
    let s : Tale x b len (suc (suc n)) (both d (field_test b len (kind_of x) q (words6 sr pc) 2)) (write_at (trigger m) z ((sp + 4) % 2 ^ 32) false (pc % 0x10000)) = low6_tale m z sp q sr pc (λ h. under_top (cpu_of y) 6 l (r.scene h)) r in
    tests6 n d b len (kind_of (cpu_of y)) q sr pc (write_at (trigger m) (write_at (trigger m) (write_at (trigger m) z ((sp + 4) % 2 ^ 32) false (pc % 0x10000)) sp false sr) ((sp + 2) % 2 ^ 32) false (pc / 0x10000))
    (subst (λ (k : ℕ). Booked n (both (both (both d (field_test b len k q (words6 sr pc) 2)) (field_test b len k q (words6 sr pc) 0)) (field_test b len k q (words6 sr pc) 1))
    (write_at (trigger m) (write_at (trigger m) (write_at (trigger m) z ((sp + 4) % 2 ^ 32) false (pc % 0x10000)) sp false sr) ((sp + 2) % 2 ^ 32) false (pc / 0x10000))) (under_kind (cpu_of y) 6 l)
    (rest6_tale m (write_at (trigger m) z ((sp + 4) % 2 ^ 32) false (pc % 0x10000)) sp q sr pc (λ h. under_top (cpu_of y) 6 l (r.scene (first d _ h))) (minus_below (a7_of (cpu_of y)) 6) s).book)

-- A7 is lowered by 8 already
pub eight_tale : (m : ℕ) {n : ℕ} (x : Cpu) (b : Bus) (len : ℕ) (d : Bool) (w : World) (sp sr pc fw : ℕ) → 15 < length x.regs.dar → (d ≡ true → sp ≡ minus32 (a7_of x) 8) → Tale (under x 8) b len (suc (suc (suc (suc n)))) d w
    → Booked n (both d (fields_test b len (kind_of x) (minus32 (a7_of x) 8) (words8 sr pc fw) (words8 sr pc fw).count))
    (write_at (trigger m) (write_at (trigger m) (write_at (trigger m) (write_at (trigger m) w ((sp + 4) % 2 ^ 32) false (pc % 0x10000)) sp false sr) ((sp + 2) % 2 ^ 32) false (pc / 0x10000)) ((sp + 6) % 2 ^ 32) false fw)
unfolding words8 field_at is_counted is_raw frame_bytes
eight_tale m {n} x b len d w sp sr pc fw l e p =
    let q : ℕ = minus32 (a7_of x) 8 in
    let y : World = write_at (trigger m) w ((sp + 4) % 2 ^ 32) false (pc % 0x10000) in
    let z : World = write_at (trigger m) (write_at (trigger m) y sp false sr) ((sp + 2) % 2 ^ 32) false (pc / 0x10000) in
    let u : World = write_at (trigger m) z ((sp + 6) % 2 ^ 32) false fw in
    let k : ℕ = kind_of (under x 8) in
    let t : ℕ → Bool = λ i. field_test b len k q (words6 sr pc) i in
    let r : Tale (under x 8) b len (suc (suc (suc n))) (both d (t 2)) y = low6_tale m w sp q sr pc e p in
    let s : Tale (under x 8) b len (suc n) (both (both (both d (t 2)) (t 0)) (t 1)) z = rest6_tale m y sp q sr pc (λ h. e (first d (t 2) h)) (minus_below (a7_of x) 8) r in
    let o : Tale (under x 8) b len n (both (both (both (both d (t 2)) (t 0)) (t 1)) (field_test b len k q (words8 sr pc fw) 3)) u = word_tale m z (words8 sr pc fw) 3 ((sp + 6) % 2 ^ 32) k q fw refl
    (λ h. above sp q 6 (e (first d (t 2) (first (both d (t 2)) (t 0) (first (both (both d (t 2)) (t 0)) (t 1) h))))) refl refl refl s in
    subst (λ (j : ℕ). Booked n (both d (fields_test b len j q (words8 sr pc fw) (words8 sr pc fw).count)) u) (under_kind x 8 l) (tests8 n d b len k q sr pc fw u o.book)
