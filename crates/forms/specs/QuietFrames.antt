-- The frames of an entry beside their tests: what log and record show after them is what `fields_test` says.
use Rattle.std.specs.Prelude.{ℕ, zero, suc, ◌+◌, ◌%◌, ◌^◌, ◌<◌, ◌≡◌, Bool, true, not, eqb, length, get_or}
use Rattle.std.proofs.Math.Path.{refl}
use Rattle.std.proofs.Common.{sym, ap, ◌∙◌, subst, arith}
use Rattle.std.proofs.Math.Bool.{false}
use Rattle.std.proofs.Math.ListN.{length-set}
use Rattle.std.proofs.Math.Seq.{get_or-set_same}
use Rattle.types.specs.Kinds.{pick, either, both, is_pre68020, mask_address}
use Rattle.cpu.specs.declared.Cpu.{Cpu}
use Rattle.cpu.specs.Fields.{kind_of, a7_of, address_of, is_faulted, checks_alignment, set_a7, lower_a7, minus32}
use Rattle.cpu.specs.Clocks.{has_clocks}
use Rattle.memory.specs.declared.Bus.{Bus}
use Rattle.memory.specs.Served.{served_of}
use Rattle.memory.specs.World.{World, with_cpu, width_of, raw_write, cpu_of}
use Rattle.frames.specs.declared.Field.{Field}
use Rattle.frames.specs.declared.Frame.{Frame}
use Rattle.frames.specs.Frames.{field_at, is_counted, is_raw}
use Rattle.steps.specs.Steps.{refuses_odd}
use Rattle.access.specs.Access.{write_at, stack_field, push_field, push_fields, trigger}
use Rattle.images.specs.Images.{frame_bytes, field_address, new_a7, minus_minus, minus_plus}
use Rattle.forms.specs.Gist.{gist_cpu}
use Rattle.forms.specs.Orders.{words6, words8}
use Rattle.forms.specs.Tests.{field_test, fields_test}
use Rattle.forms.specs.Quiet.{Booked, Scene, Tale, Turn, scene_get, scene_address, judge_none, book_less, both_both, tale_less, tale_raw, tale_write, tale_turn}

-- ---- one field

scene_a7 : {x : Cpu} {b : Bus} {len : ℕ} {w : World} → Scene x b len w → a7_of (cpu_of w) ≡ a7_of x
unfolding gist_cpu a7_of
scene_a7 s = scene_get s a7_of (λ c. refl)

pub both_true : (s : Bool) → both s true ≡ s
both_true true = refl
both_true false = refl

field_tale : (m : ℕ) {x : Cpu} {b : Bus} {len n : ℕ} {d : Bool} (w : World) (g : Field) (p : ℕ) (o : Bool) → address_of x (a7_of x) ≡ p → refuses_odd x p ≡ o → Tale x b len (suc n) d w
    → Tale x b len n (both d (either (is_counted g) (both (served_of b len p (width_of g.long)) (either (is_raw g) (not o))))) (stack_field (trigger m) w g)
unfolding stack_field
field_tale m {x} {b} {len} {n} {d} w g p o k u q = go (is_counted g) (is_raw g)
  where
    here : d ≡ true → address_of x (a7_of (cpu_of w)) ≡ p
    here e = ap (λ (a : ℕ). address_of x a) (scene_a7 (q.scene e)) ∙ k

    spot : d ≡ true → address_of (cpu_of w) (a7_of (cpu_of w)) ≡ p
    spot e = scene_address (q.scene e) (a7_of (cpu_of w)) ∙ here e

    go : (c r : Bool) → Tale x b len n (both d (either c (both (served_of b len p (width_of g.long)) (either r (not o)))))
        (pick c w (pick r (raw_write w (address_of (cpu_of w) (a7_of (cpu_of w))) g.long g.value) (write_at (trigger m) w (a7_of (cpu_of w)) g.long g.value)))
    go true r = judge_none (λ e. Tale x b len n e w) d true (λ e. refl) (tale_less (omega arith) q)
    go false true =
        subst (λ (s : Bool). Tale x b len n (both d s) (raw_write w (address_of (cpu_of w) (a7_of (cpu_of w))) g.long g.value)) (sym (both_true (served_of b len p (width_of g.long))))
        (tale_raw w (address_of (cpu_of w) (a7_of (cpu_of w))) p g.long g.value spot q)
    go false false =
        tale_write m w (a7_of (cpu_of w)) p g.long g.value (both (served_of b len p (width_of g.long)) (not o)) here
        (ap (λ (s : Bool). both (served_of b len p (width_of g.long)) (not s)) (sym u)) q

-- ---- A7 lowered

pub lower_turn : (v : ℕ) → Turn (λ c. lower_a7 c v)
unfolding gist_cpu lower_a7 set_a7 a7_of is_faulted has_clocks
lower_turn v = record { seen = λ c. refl; runs = λ c. refl; waits = λ c. refl }

-- the gist's record with A7 lowered
abbrev pub under : Cpu → ℕ → Cpu
under x v = gist_cpu (lower_a7 x v)

module _ (x : Cpu) (v : ℕ) (l : 15 < length x.regs.dar) where
  pub under_a7 : a7_of (under x v) ≡ minus32 (a7_of x) v
  unfolding gist_cpu lower_a7 set_a7 a7_of
  under_a7 = get_or-set_same x.regs.dar 15 (minus32 (get_or x.regs.dar 15 0) v) 0 l

  pub under_regs : 15 < length (under x v).regs.dar
  unfolding gist_cpu lower_a7 set_a7
  under_regs = simp length-set l

  pub under_kind : kind_of (under x v) ≡ kind_of x
  unfolding gist_cpu lower_a7 set_a7 kind_of
  under_kind = refl

odd_is : (x : Cpu) (kd p : ℕ) → kind_of x ≡ kd → refuses_odd x p ≡ pick (is_pre68020 kd) (eqb (p % 2) 1) false
unfolding refuses_odd checks_alignment kind_of
odd_is x kd p e = ap (λ (k : ℕ). pick (is_pre68020 k) (eqb (p % 2) 1) false) e

address_is : (x : Cpu) (kd a : ℕ) → kind_of x ≡ kd → address_of x a ≡ mask_address kd a
unfolding address_of kind_of
address_is x kd a e = ap (λ (k : ℕ). mask_address k a) e

-- ---- the fields of a frame, pushed

pub fields_tale : (m : ℕ) (f : Frame) (k : ℕ) {x : Cpu} {b : Bus} {len n : ℕ} {d : Bool} (kd q : ℕ) (w : World) → 15 < length x.regs.dar → kind_of x ≡ kd → minus32 (a7_of x) (frame_bytes f k) ≡ q
    → Tale x b len (k + n) d w → Booked n (both d (fields_test b len kd q f k)) (push_fields (trigger m) w f k)
unfolding push_fields push_field fields_test field_test frame_bytes field_address
fields_tale m f zero {x} {b} {len} {n} {d} kd q w l ek eq p = judge_none (λ e. Booked n e w) d true (λ e. refl) (book_less (omega arith) p.book)
fields_tale m f (suc k) {x} {b} {len} {n} {d} kd q w l ek eq p =
    let g : Field = field_at f k in
    let v : ℕ = width_of g.long in
    let y : World = with_cpu w (lower_a7 (cpu_of w) v) in
    let a : ℕ = mask_address kd ((q + frame_bytes f k) % 2 ^ 32) in
    let t : Bool = either (is_counted g) (both (served_of b len a (width_of g.long)) (either (is_raw g) (not (pick (is_pre68020 kd) (eqb (a % 2) 1) false)))) in
    let u : minus32 (a7_of (under x v)) (frame_bytes f k) ≡ q = ap (λ (z : ℕ). minus32 z (frame_bytes f k)) (under_a7 x v l) ∙ minus_minus (a7_of x) v (frame_bytes f k) ∙ eq in
    let i : kind_of (under x v) ≡ kd = under_kind x v l ∙ ek in
    let j : address_of (under x v) (a7_of (under x v)) ≡ a = address_is (under x v) kd (a7_of (under x v)) i
    ∙ ap (λ (z : ℕ). mask_address kd z) (under_a7 x v l ∙ sym (minus_plus (a7_of x) v (frame_bytes f k)) ∙ ap (λ (z : ℕ). (z + frame_bytes f k) % 2 ^ 32) eq) in
    let r : Tale (under x v) b len (k + n) (both d t) (stack_field (trigger m) y g) = field_tale m y g a (pick (is_pre68020 kd) (eqb (a % 2) 1) false) j (odd_is (under x v) kd a i) (tale_turn w (λ c. lower_a7 c v) (lower_turn v) (tale_less (omega arith) p)) in
    subst (λ (e : Bool). Booked n e (push_fields (trigger m) (stack_field (trigger m) y g) f k)) (both_both d t (fields_test b len kd q f k))
    (fields_tale m f k kd q (stack_field (trigger m) y g) (under_regs x v l) i u r)

-- a frame's test
abbrev pub frame_test : World → Frame → Bool
frame_test y f = fields_test y.core.bus (length y.store) (kind_of (cpu_of y)) (new_a7 y f) f f.count

-- ---- frames by words, in the order of the bus

-- field i, a word that is guarded, at its address
pub word_tale : (m : ℕ) {x : Cpu} {b : Bus} {len n : ℕ} {d : Bool} (w : World) (f : Frame) (i a kd q v : ℕ) → kind_of x ≡ kd → (d ≡ true → a ≡ (q + frame_bytes f i) % 2 ^ 32)
    → is_counted (field_at f i) ≡ false → is_raw (field_at f i) ≡ false → (field_at f i).long ≡ false → Tale x b len (suc n) d w → Tale x b len n (both d (field_test b len kd q f i)) (write_at (trigger m) w a false v)
unfolding field_test field_address
word_tale m {x} {b} {len} {n} {d} w f i a kd q v ek ea c r g p =
    let z : ℕ = mask_address kd ((q + frame_bytes f i) % 2 ^ 32) in
    rw (c, r, g) (tale_write m w a z false v (both (served_of b len z 2) (not (pick (is_pre68020 kd) (eqb (z % 2) 1) false)))
    (λ e. address_is x kd a ek ∙ ap (λ (j : ℕ). mask_address kd j) (ea e)) (ap (λ (o : Bool). both (served_of b len z 2) (not o)) (sym (odd_is x kd z ek))) p)

-- A7 of a scene, lowered
pub under_top : (x : Cpu) {b : Bus} {len : ℕ} {w : World} (v : ℕ) → 15 < length x.regs.dar → Scene (under x v) b len w → a7_of (cpu_of w) ≡ minus32 (a7_of x) v
under_top x v l s = scene_a7 s ∙ under_a7 x v l

pub above : (sp q d : ℕ) → sp ≡ q → (sp + d) % 2 ^ 32 ≡ (q + d) % 2 ^ 32
above sp q d e = ap (λ (z : ℕ). (z + d) % 2 ^ 32) e

pub at_bottom : (sp q : ℕ) → sp ≡ q → q < 2 ^ 32 → sp ≡ (q + 0) % 2 ^ 32
at_bottom sp q e l = omega arith

pub first : (a t : Bool) → both a t ≡ true → a ≡ true
first true t h = refl
first false t h = h

three_tests : (d a b c : Bool) → both (both (both d c) a) b ≡ both d (both c (both b (both a true)))
three_tests true true b true = sym (both_true b)
three_tests true true true false = refl
three_tests true true false false = refl
three_tests true false true true = refl
three_tests true false false true = refl
three_tests true false b false = refl
three_tests false a b c = refl

-- the tests of the three words in the order of the fields
pub tests6 : (n : ℕ) (d : Bool) (b : Bus) (len kd q sr pc : ℕ) (w : World)
    → Booked n (both (both (both d (field_test b len kd q (words6 sr pc) 2)) (field_test b len kd q (words6 sr pc) 0)) (field_test b len kd q (words6 sr pc) 1)) w → Booked n (both d (fields_test b len kd q (words6 sr pc) (words6 sr pc).count)) w
unfolding words6 fields_test
tests6 n d b len kd q sr pc w p = subst (λ (e : Bool). Booked n e w) (three_tests d (field_test b len kd q (words6 sr pc) 0) (field_test b len kd q (words6 sr pc) 1) (field_test b len kd q (words6 sr pc) 2)) p

-- ---- the interrupt of kind 2: the same three words, then the format word

four_tests : (d a b c f : Bool) → both (both (both (both d c) a) b) f ≡ both d (both f (both c (both b (both a true))))
four_tests d a b c true = both_true (both (both (both d c) a) b) ∙ three_tests d a b c
four_tests true a b c false = none (both (both c a) b)
  where
    none : (e : Bool) → both e false ≡ false
    none true = refl
    none false = refl
four_tests false a b c false = refl

-- the words of both frames are at the same places
same_words : (b : Bus) (len kd q sr pc fw : ℕ) → (field_test b len kd q (words6 sr pc) 0 ≡ field_test b len kd q (words8 sr pc fw) 0)
    × ((field_test b len kd q (words6 sr pc) 1 ≡ field_test b len kd q (words8 sr pc fw) 1) × (field_test b len kd q (words6 sr pc) 2 ≡ field_test b len kd q (words8 sr pc fw) 2))
unfolding field_test field_address frame_bytes words6 words8 field_at is_counted is_raw
same_words b len kd q sr pc fw = (refl, (refl, refl))

pub tests8 : (n : ℕ) (d : Bool) (b : Bus) (len kd q sr pc fw : ℕ) (w : World)
    → Booked n (both (both (both (both d (field_test b len kd q (words6 sr pc) 2)) (field_test b len kd q (words6 sr pc) 0)) (field_test b len kd q (words6 sr pc) 1)) (field_test b len kd q (words8 sr pc fw) 3)) w
    → Booked n (both d (fields_test b len kd q (words8 sr pc fw) (words8 sr pc fw).count)) w
unfolding words8 fields_test
tests8 n d b len kd q sr pc fw w p =
    let s = same_words b len kd q sr pc fw in
    let t : ℕ → Bool = λ i. field_test b len kd q (words8 sr pc fw) i in
    subst (λ (e : Bool). Booked n e w) (four_tests d (t 0) (t 1) (t 2) (t 3))
    (subst (λ (e : Bool). Booked n (both (both (both (both d e) (t 0)) (t 1)) (t 3)) w) s.1.1
    (subst (λ (e : Bool). Booked n (both (both (both (both d (field_test b len kd q (words6 sr pc) 2)) e) (t 1)) (t 3)) w) s.0
    (subst (λ (e : Bool). Booked n (both (both (both (both d (field_test b len kd q (words6 sr pc) 2)) (field_test b len kd q (words6 sr pc) 0)) e) (t 3)) w) s.1.0 p)))
