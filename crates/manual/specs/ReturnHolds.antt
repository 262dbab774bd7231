-- A return that is accepted restores what RTE restores: the status under the part's bits, the stacked address as PC, the stack pointer raised by the bytes of the
-- format; after a frame of format 1 the frame on the stack that its status selects. And the formats taken are the manuals' but for the rows.
use Rattle.std.specs.Prelude.{ℕ, ◌+◌, ◌*◌, ◌/◌, ◌%◌, ◌<◌, ◌≡◌, Bool, cond, not, ◌&&◌, ◌||◌, List, [], ◌∷◌, length, get_or, replicate}
use Rattle.std.proofs.Math.Path.{refl}
use Rattle.std.proofs.Common.{sym, ap, ◌∙◌, subst, arith}
use Rattle.std.proofs.Math.Bool.{true, false}
use Rattle.std.proofs.Math.Option.{Option, none, some}
use borrow.Author.Tests.{eqb-true, eqb-false}
use Rattle.std.proofs.Math.Dec.{eqb}
use Rattle.types.specs.Kinds.{pick, is040, is060, has_t0, has_m, mask_status}
use Rattle.types.specs.Tables.{format_length, takes_format, frame_length}
use Rattle.types.specs.Every.{every, at}
use Rattle.cpu.specs.declared.Cpu.{Cpu}
use Rattle.cpu.specs.Fields.{kind_of, pc_of, a7_of, set_pc}
use Rattle.cpu.specs.Clocks.{clear_prefetch}
use Rattle.status.specs.Status.{get_sr}
use Rattle.memory.specs.declared.Core.{Core}
use Rattle.memory.specs.Served.{place_of}
use Rattle.memory.specs.World.{put_cpu}
use Rattle.unwind.specs.Models.{Frame}
use Rattle.unwind.specs.Frames.{Sight, byte_address, byte_of, word_of, long_of, head_of, all_served, refused_frame, taken_frame, sized_frame, format_frame, odd_pointer, frame_of}
use Rattle.unwind.specs.Returns.{in_user, take_frame, refused_back, done_back, second_back, first_back, back}
use Rattle.unwind.specs.Unwind.{refusal, sight_of, returned, return_from}
use Rattle.unwind.proofs.Laws.{take_status}
use Rattle.nest.specs.View.{settle, view}
use Rattle.entered.specs.Pointers.{regs_of, Fit}
use Rattle.rule3.specs.Taken.{take_view, take_fit, take_kind}
use Rattle.manual.specs.Parts.{Family, family_of, number}
use Rattle.manual.specs.Returns.{Untaken, rte_bytes, return_differences, in_rows, implemented}
use Rattle.manual.specs.Plain.{first}
use Rattle.manual.specs.PartLaws.{impossible, same, same_is, both_true, tests_of_lem}

-- ---- the formats

abbrev like : Option Family → ℕ → ℕ → Bool
like none k f = true
like (some F) k f = in_rows return_differences F f || eqb (frame_length k f) (rte_bytes F f)

abbrev row_of_formats : ℕ → Bool
row_of_formats k = every (λ (f x : ℕ). like (family_of k) k f) 0 (replicate 16 0)

-- every format but those of the rows is taken, with the manual's length, or refused, as by the manual; the 68000 reads none
pub formats_are : (k : ℕ) (F : Family) (f : ℕ) → k < 12 → f < 16 → family_of k ≡ some F → in_rows return_differences F f ≡ false → frame_length k f ≡ rte_bytes F f
unfolding family_of return_differences rte_bytes frame_length takes_format format_length is040 is060
formats_are k F f l h e r =
    let t : row_of_formats k ≡ true = at 0 (λ (i x : ℕ). row_of_formats i) (replicate 12 0) refl k l in
    let u : like (family_of k) k f ≡ true = at 0 (λ (i x : ℕ). like (family_of k) k i) (replicate 16 0) t f h in
    let v : like (some F) k f ≡ true = subst (λ (o : Option Family). like o k f ≡ true) e u in
    eqb-true (frame_length k f) (rte_bytes F f) (or_right (in_rows return_differences F f) (eqb (frame_length k f) (rte_bytes F f)) v r)
  where
    or_right : (a b : Bool) → (a || b) ≡ true → a ≡ false → b ≡ true
    or_right true b x y = impossible y
    or_right false b x y = x

-- each row is a difference on every kind of its part: the manual takes the format, ours has length 0
abbrev row_shown : List Untaken → ℕ → Bool
row_shown [] k = true
row_shown (r ∷ rs) k = shown (family_of k) && row_shown rs k
  where
    shown : Option Family → Bool
    shown none = true
    shown (some F) = not (in_rows (r ∷ []) F r.format) || (eqb (frame_length k r.format) 0 && not (eqb (rte_bytes F r.format) 0))

pub return_rows_shown : every (λ (k x : ℕ). row_shown return_differences k) 0 (replicate 12 0) ≡ true
unfolding family_of return_differences rte_bytes frame_length takes_format format_length is040 is060
return_rows_shown = refl

-- ---- the status

abbrev masks : Option Family → ℕ → Bool
masks none k = true
masks (some F) k = same (has_t0 k) (t0 F) && same (has_m k) (m F)
  where
    t0 : Family → Bool
    t0 f = eqb (number f) 2 || (eqb (number f) 3 || eqb (number f) 4)

    m : Family → Bool
    m f = t0 f || eqb (number f) 6

-- the kind's mask is the part's bits
pub mask_is : (k : ℕ) (F : Family) (w : ℕ) → k < 12 → family_of k ≡ some F → mask_status k w ≡ implemented F w
unfolding family_of mask_status has_t0 has_m implemented
mask_is k F w l e =
    let t : masks (some F) k ≡ true = subst (λ (o : Option Family). masks o k ≡ true) e (at 0 (λ (i x : ℕ). masks (family_of i) i) (replicate 12 0) refl k l) in
    let a = both_true _ _ t in
    go (has_t0 k) _ (has_m k) _ (same_is _ _ a.0) (same_is _ _ a.1)
  where
    go : (p q r s : Bool) → p ≡ q → r ≡ s
        → w / 0x8000 % 2 * 0x8000 + pick p (w / 0x4000 % 2 * 0x4000) 0 + w / 0x2000 % 2 * 0x2000 + pick r (w / 0x1000 % 2 * 0x1000) 0 + w / 256 % 8 * 256 + w % 32
        ≡ w / 0x8000 % 2 * 0x8000 + cond q (w / 0x4000 % 2 * 0x4000) 0 + w / 0x2000 % 2 * 0x2000 + cond s (w / 0x1000 % 2 * 0x1000) 0 + w / 0x100 % 8 * 0x100 + w % 0x20
    go true q true s x y = rw (← x, ← y)
    go true q false s x y = rw (← x, ← y)
    go false q true s x y = rw (← x, ← y)
    go false q false s x y = rw (← x, ← y)

first_is : (k : ℕ) (F : Family) → k < 12 → family_of k ≡ some F → eqb k 1 ≡ first F
first_is k F l e = (tests_of_lem F k l e).one

-- ---- a frame that is not refused

record Head (v : Sight) (p : ℕ) (f : Frame) : Type 0 where
  status : f.status ≡ word_of v p 0
  address : f.address ≡ long_of v p 2
  short : eqb v.kind 1 ≡ true → (f.size ≡ 6) × (f.format ≡ 0)
  long : eqb v.kind 1 ≡ false → (f.format ≡ word_of v p 6 / 0x1000) × ((f.size ≡ frame_length v.kind (word_of v p 6 / 0x1000)) × (eqb f.size 0 ≡ false))

refused_12 : {A : Type 0} → ◌≡◌ {A = ℕ} 12 0 → A
refused_12 e = absurd (omega arith)

refused_13 : {A : Type 0} → ◌≡◌ {A = ℕ} 13 0 → A
refused_13 e = absurd (omega arith)

head_of_lem : (v : Sight) (p : ℕ) → (frame_of v p).refused ≡ 0 → Head v p (frame_of v p)
unfolding frame_of format_frame sized_frame refused_frame taken_frame
head_of_lem v p = go (odd_pointer v.kind p) (all_served v p (head_of v.kind)) (eqb v.kind 1) refl
    (eqb (frame_length v.kind (word_of v p 6 / 0x1000)) 0) refl (all_served v p (frame_length v.kind (word_of v p 6 / 0x1000)))
  where
    W : ℕ
    W = word_of v p 6

    N : ℕ
    N = frame_length v.kind (word_of v p 6 / 0x1000)

    go : (a b c : Bool) → eqb v.kind 1 ≡ c → (d : Bool) → eqb (frame_length v.kind (word_of v p 6 / 0x1000)) 0 ≡ d → (e : Bool)
        → (pick a (refused_frame 12) (pick b (pick c (taken_frame v p 0 6) (pick d (refused_frame 13) (pick e (taken_frame v p (word_of v p 6) (frame_length v.kind (word_of v p 6 / 0x1000))) (refused_frame 12)))) (refused_frame 12))).refused ≡ 0
        → Head v p (pick a (refused_frame 12) (pick b (pick c (taken_frame v p 0 6) (pick d (refused_frame 13) (pick e (taken_frame v p (word_of v p 6) (frame_length v.kind (word_of v p 6 / 0x1000))) (refused_frame 12)))) (refused_frame 12)))
    go true b c x d y e r = refused_12 r
    go false false c x d y e r = refused_12 r
    go false true true x d y e r = record { status = refl; address = refl; short = λ q. (refl, refl); long = λ q. impossible (sym x ∙ q) }
    go false true false x true y e r = refused_13 r
    go false true false x false y false r = refused_12 r
    go false true false x false y true r = record { status = refl; address = refl; short = λ q. impossible (sym q ∙ x); long = λ q. (refl, (refl, y)) }

-- ---- what is restored

-- the bytes of a frame whose format word is w
abbrev pub bytes_for : Family → ℕ → ℕ
bytes_for F w = cond (first F) 6 (rte_bytes F (w / 0x1000))

-- RTE takes the frame at A7 of c, and leaves d
pub record Restored (F : Family) (v : Sight) (c d : Cpu) : Type 0 where
  pub status : get_sr d ≡ implemented F (word_of v (a7_of c) 0)
  pub pc : pc_of d ≡ long_of v (a7_of c) 2
  pub stacks : view (regs_of d) ≡ settle (view (regs_of c)) (bytes_for F (word_of v (a7_of c) 6)) (word_of v (a7_of c) 0)

-- one frame, or one of format 1 and the frame on the stack that its status selects
pub data Returns (F : Family) (v : Sight) (c d : Cpu) : Type 0 where
  once : (first F ≡ false → (word_of v (a7_of c) 6 / 0x1000 ≡ 1 → ⊥)) → Restored F v c d → Returns F v c d
  twice : (x : Cpu) → word_of v (a7_of c) 6 / 0x1000 ≡ 1 → Restored F v c x → Restored F v x d → Returns F v c d

take_pc : (c : Cpu) (f : Frame) → pc_of (take_frame c f) ≡ f.address
unfolding take_frame clear_prefetch set_pc pc_of
take_pc c f = refl

abbrev length_test : Option Family → ℕ → ℕ → Bool
length_test none k f = true
length_test (some F) k f = eqb (frame_length k f) 0 || eqb (rte_bytes F f) (frame_length k f)

length_is : (k : ℕ) (F : Family) (f : ℕ) → k < 12 → f < 16 → family_of k ≡ some F → eqb (frame_length k f) 0 ≡ false → rte_bytes F f ≡ frame_length k f
unfolding family_of rte_bytes frame_length takes_format format_length is040 is060
length_is k F f l h e n =
    let t : every (λ (i x : ℕ). length_test (family_of k) k i) 0 (replicate 16 0) ≡ true = at 0 (λ (j x : ℕ). every (λ (i y : ℕ). length_test (family_of j) j i) 0 (replicate 16 0)) (replicate 12 0) refl k l in
    let u : length_test (family_of k) k f ≡ true = at 0 (λ (i x : ℕ). length_test (family_of k) k i) (replicate 16 0) t f h in
    eqb-true (rte_bytes F f) (frame_length k f) (go (eqb (frame_length k f) 0) (eqb (rte_bytes F f) (frame_length k f)) (subst (λ (o : Option Family). length_test o k f ≡ true) e u) n)
  where
    go : (a b : Bool) → (a || b) ≡ true → a ≡ false → b ≡ true
    go true b x y = impossible y
    go false b x y = x

module _ (F : Family) (v : Sight) (l : v.kind < 12) (e : family_of v.kind ≡ some F) (bytes : (p : ℕ) → word_of v p 6 < 0x10000) where
  size_is : (p : ℕ) (f : Frame) → Head v p f → f.size ≡ bytes_for F (word_of v p 6)
  size_is p f h = go (eqb v.kind 1) refl (first F) (sym (first_is v.kind F l e))
    where
      go : (b : Bool) → eqb v.kind 1 ≡ b → (a : Bool) → a ≡ eqb v.kind 1 → f.size ≡ cond a 6 (rte_bytes F (word_of v p 6 / 0x1000))
      go true x true y = (h.short x).0
      go true x false y = impossible (sym (y ∙ x))
      go false x true y = impossible (y ∙ x)
      go false x false y =
          let q = h.long x in
          q.1.0 ∙ sym (length_is v.kind F (word_of v p 6 / 0x1000) l (omega (arith, bytes p)) e (ap (λ (n : ℕ). eqb n 0) (sym q.1.0) ∙ q.1.1))

  restored : (c : Cpu) → kind_of c ≡ v.kind → Fit c → Head v (a7_of c) (frame_of v (a7_of c)) → Restored F v c (take_frame c (frame_of v (a7_of c)))
  restored c k fit h =
      let f : Frame = frame_of v (a7_of c) in
      record {
        status = take_status c f ∙ ap (λ (n : ℕ). mask_status n f.status) k ∙ ap (mask_status v.kind) h.status ∙ mask_is v.kind F (word_of v (a7_of c) 0) l e;
        pc = take_pc c f ∙ h.address;
        stacks = take_view c f fit (omega (arith, k)) ∙ ap (λ (n : ℕ). settle (view (regs_of c)) n f.status) (size_is (a7_of c) f h) ∙ ap (settle (view (regs_of c)) (bytes_for F (word_of v (a7_of c) 6))) h.status;
      }

  done_cpu : (c : Cpu) (f : Frame) → Restored F v c (take_frame c f) → Restored F v c (done_back c f.format f).cpu
  unfolding done_back
  done_cpu c f h = h

  -- the frame under a frame of format 1
  seconds : (c x : Cpu) (g : Frame) → g ≡ frame_of v (a7_of x) → word_of v (a7_of c) 6 / 0x1000 ≡ 1 → Restored F v c x → kind_of x ≡ v.kind → Fit x → (second_back c x g).refused ≡ 0 → Returns F v c (second_back c x g).cpu
  unfolding second_back refused_back done_back
  seconds c x g q one h k fit r = go (eqb g.refused 0) refl (eqb g.format 1) r
    where
      go : (a : Bool) → eqb g.refused 0 ≡ a → (b : Bool) → (pick a (pick b (refused_back c 13) (done_back x 1 g)) (refused_back c g.refused)).refused ≡ 0
          → Returns F v c (pick a (pick b (refused_back c 13) (done_back x 1 g)) (refused_back c g.refused)).cpu
      go true y true s = refused_13 s
      go true y false s = twice x one h (subst (λ (f : Frame). Restored F v x (take_frame x f)) (sym q) (restored x k fit (head_of_lem v (a7_of x) (ap (λ (f : Frame). f.refused) (sym q) ∙ eqb-true g.refused 0 y))))
      go false y b s = absurd (eqb-false g.refused 0 y s)

  -- the first frame is not refused
  first_head : (c : Cpu) → (first_back v c (frame_of v (a7_of c))).refused ≡ 0 → kind_of c ≡ v.kind → Fit c → Returns F v c (first_back v c (frame_of v (a7_of c))).cpu
  unfolding first_back refused_back
  first_head c r k fit = go (eqb (frame_of v (a7_of c)).refused 0) refl r
    where
      f : Frame
      f = frame_of v (a7_of c)

      x : Cpu
      x = take_frame c (frame_of v (a7_of c))

      format_by : (b : Bool) → eqb v.kind 1 ≡ b → Head v (a7_of c) (frame_of v (a7_of c)) → (frame_of v (a7_of c)).format ≡ 1 → word_of v (a7_of c) 6 / 0x1000 ≡ 1
      format_by true y h q = let z : ◌≡◌ {A = ℕ} 0 1 = sym (h.short y).1 ∙ q in absurd (omega arith)
      format_by false y h q = sym (h.long y).0 ∙ q

      not_one : first F ≡ false → Head v (a7_of c) (frame_of v (a7_of c)) → eqb (frame_of v (a7_of c)).format 1 ≡ false → word_of v (a7_of c) 6 / 0x1000 ≡ 1 → ⊥
      not_one y h q z = eqb-false (frame_of v (a7_of c)).format 1 q ((h.long (first_is v.kind F l e ∙ y)).0 ∙ z)

      second : eqb (frame_of v (a7_of c)).format 1 ≡ true → Head v (a7_of c) (frame_of v (a7_of c)) → (second_back c x (frame_of v (a7_of x))).refused ≡ 0 → Returns F v c (second_back c x (frame_of v (a7_of x))).cpu
      second q h s = seconds c x (frame_of v (a7_of x)) refl (format_by (eqb v.kind 1) refl h (eqb-true (frame_of v (a7_of c)).format 1 q)) (restored c k fit h) (take_kind c (frame_of v (a7_of c)) ∙ k) (take_fit c (frame_of v (a7_of c)) fit) s

      by_format : (b : Bool) → eqb (frame_of v (a7_of c)).format 1 ≡ b → Head v (a7_of c) (frame_of v (a7_of c)) → (pick b (second_back c x (frame_of v (a7_of x))) (done_back c (frame_of v (a7_of c)).format (frame_of v (a7_of c)))).refused ≡ 0
          → Returns F v c (pick b (second_back c x (frame_of v (a7_of x))) (done_back c (frame_of v (a7_of c)).format (frame_of v (a7_of c)))).cpu
      by_format true q h s = second q h s
      by_format false q h s = once (λ y. not_one y h q) (done_cpu c (frame_of v (a7_of c)) (restored c k fit h))

      go : (b : Bool) → eqb (frame_of v (a7_of c)).refused 0 ≡ b
          → (pick b (pick (eqb (frame_of v (a7_of c)).format 1) (second_back c x (frame_of v (a7_of x))) (done_back c (frame_of v (a7_of c)).format (frame_of v (a7_of c)))) (refused_back c (frame_of v (a7_of c)).refused)).refused ≡ 0
          → Returns F v c (pick b (pick (eqb (frame_of v (a7_of c)).format 1) (second_back c x (frame_of v (a7_of x))) (done_back c (frame_of v (a7_of c)).format (frame_of v (a7_of c)))) (refused_back c (frame_of v (a7_of c)).refused)).cpu
      go true q s = by_format (eqb (frame_of v (a7_of c)).format 1) refl (head_of_lem v (a7_of c) (eqb-true (frame_of v (a7_of c)).refused 0 q)) s
      go false q s = absurd (eqb-false (frame_of v (a7_of c)).refused 0 q s)

-- ---- the public return

word_small : (w : Core) (s : List ℕ) → ((i : ℕ) → get_or s i 0 < 256) → (p : ℕ) → word_of (sight_of w s) p 6 < 0x10000
unfolding word_of byte_of
word_small w s h p = omega (arith, h (place_of w.bus (byte_address (kind_of w.cpu) p 6)), h (place_of w.bus (byte_address (kind_of w.cpu) p (6 + 1))))

refused_11 : {A : Type 0} (c : Cpu) → (refused_back c 11).refused ≡ 0 → A
unfolding refused_back
refused_11 c e = absurd (omega arith)

refused_is : (c : Cpu) (n : ℕ) → (refused_back c n).refused ≡ 0 → n ≡ 0
unfolding refused_back
refused_is c n e = e

-- THE RETURN: one that is accepted restores what RTE restores
pub return_holds : (w : Core) (s : List ℕ) (F : Family) → family_of (kind_of w.cpu) ≡ some F → kind_of w.cpu < 12 → Fit w.cpu → ((i : ℕ) → get_or s i 0 < 256)
    → (return_from w s).refused ≡ 0 → Returns F (sight_of w s) w.cpu (return_from w s).core.cpu
unfolding return_from returned put_cpu back
return_holds w s F e l fit small r = go (eqb (refusal w (length s)) 0) refl (in_user w.cpu) r
  where
    v : Sight
    v = sight_of w s

    words : (p : ℕ) → word_of (sight_of w s) p 6 < 0x10000
    words p = word_small w s small p

    go : (a : Bool) → eqb (refusal w (length s)) 0 ≡ a → (b : Bool)
        → (pick a (returned w (pick b (refused_back w.cpu 11) (first_back (sight_of w s) w.cpu (frame_of (sight_of w s) (a7_of w.cpu))))) (returned w (refused_back w.cpu (refusal w (length s))))).refused ≡ 0
        → Returns F (sight_of w s) w.cpu (pick a (returned w (pick b (refused_back w.cpu 11) (first_back (sight_of w s) w.cpu (frame_of (sight_of w s) (a7_of w.cpu))))) (returned w (refused_back w.cpu (refusal w (length s))))).core.cpu
    go true x true h = refused_11 w.cpu h
    go true x false h = first_head F (sight_of w s) l e words w.cpu h refl fit
    go false x b h = absurd (eqb-false (refusal w (length s)) 0 x (refused_is w.cpu (refusal w (length s)) h))
