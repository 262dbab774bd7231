-- The bridge the other way: a frame that `unwind` takes, and a return that it accepts, is one of the nest. So 11, 12 and 13 refuse exactly
-- where the nest's return is refused.
use Rattle.std.specs.Prelude.{ℕ, zero, suc, ◌+◌, ◌-◌, ◌/◌, ◌%◌, ◌<◌, ◌≡◌, Bool, ◌&&◌, List, ◌⊎◌}
use Rattle.std.proofs.Math.Path.{refl, ap}
use Rattle.std.proofs.Common.{sym, ◌∙◌, subst, arith, inl, inr, ne_eqb, eqb-true}
use Rattle.std.proofs.Math.Bool.{true, false, cond}
use Rattle.std.proofs.Math.Option.{Option, none, some}
use Rattle.std.proofs.lemmas.Bool.{eqb-false}
use Rattle.std.proofs.Math.Dec.{eqb}
use Rattle.types.specs.Kinds.{pick}
use Rattle.types.specs.Tables.{frame_length}
use Rattle.cpu.specs.declared.Cpu.{Cpu}
use Rattle.cpu.specs.Fields.{kind_of, a7_of}
use Rattle.memory.specs.declared.Bus.{Bus}
use Rattle.unwind.specs.Models.{Frame}
use Rattle.unwind.specs.Frames.{Sight, sight, byte_served, byte_of, all_served, word_of, long_of, head_of, refused_frame, taken_frame, sized_frame, format_frame, odd_pointer, frame_of}
use Rattle.unwind.specs.Returns.{in_user, take_frame, refused_back, done_back, second_back, first_back, back}
use Rattle.unwind.specs.Straight.{all_each}
use Rattle.nest.specs.View.{Bytes, peek, addr, aligned, odd, frame_len, View, top, opt, word, long, Taken, settle, sized, frame, nonzero, view, second}
use Rattle.nest.specs.View.{Back as NestBack, back as nest_back}
use Rattle.nest.specs.Reading.{view_kind, view_a7, view_s}
use Rattle.entered.specs.Pointers.{regs_of, Fit}
use Rattle.entered.proofs.Entered.{kind_regs}
use Rattle.entered.specs.Bytes.{mem_of}
use Rattle.rule3.specs.Seen.{seen, served_is, table_is, odd_is, frame_is}
use Rattle.rule3.specs.Taken.{here, there, take_kind}

module _ (k : ℕ) (bus : Bus) (store : List ℕ) where
  abbrev v : Sight
  v = sight k bus store

  abbrev b : Bytes
  b = peek (mem_of bus store)

  byte_on : (p i : ℕ) → byte_served v p i ≡ true → b (addr k p i) ≡ some (byte_of v p i)
  byte_on p i e = seen k bus store p i ∙ ap (λ (t : Bool). pick t (some (byte_of v p i)) none) e

  word_on : (p i : ℕ) → byte_served v p i ≡ true → byte_served v p (i + 1) ≡ true → word b k p i ≡ some (word_of v p i)
  unfolding word word_of
  word_on p i e f = rw (byte_on p i e, byte_on p (i + 1) f)

  long_on : (p i : ℕ) → byte_served v p i ≡ true → byte_served v p (i + 1) ≡ true → byte_served v p (i + 2) ≡ true → byte_served v p (i + 2 + 1) ≡ true → long b k p i ≡ some (long_of v p i)
  unfolding long long_of
  long_on p i e f g h = rw (word_on p i e f, word_on p (i + 2) g h)

module _ (vw : View) (bus : Bus) (store : List ℕ) (small : vw.kind < 12) where
  abbrev w : Sight
  w = sight vw.kind bus store

  abbrev d : Bytes
  d = peek (mem_of bus store)

  abbrev Result : Type 0
  Result = (t : Taken) × (frame vw d ≡ some t)

  even_is : odd_pointer vw.kind (top vw) ≡ false → (aligned vw.kind && odd (top vw)) ≡ false
  even_is e = sym (odd_is vw.kind (top vw)) ∙ e

  short_on : odd_pointer vw.kind (top vw) ≡ false → eqb vw.kind 1 ≡ true → all_served w (top vw) 6 ≡ true → Result
  unfolding frame
  short_on e k s =
      let on : (i : ℕ) → i < 6 → byte_served w (top vw) i ≡ true = all_each w (top vw) 6 s in (
        record { format = 0; status = word_of w (top vw) 0; address = long_of w (top vw) 2; offset = 0; size = 6; after = settle vw 6 (word_of w (top vw) 0) },
        rw (
          even_is e,
          k,
          word_on vw.kind bus store (top vw) 0 (on 0 (omega arith)) (on 1 (omega arith)),
          long_on vw.kind bus store (top vw) 2 (on 2 (omega arith)) (on 3 (omega arith)) (on 4 (omega arith)) (on 5 (omega arith)),
        ),
      )

  full_on : odd_pointer vw.kind (top vw) ≡ false → eqb vw.kind 1 ≡ false → all_served w (top vw) 8 ≡ true → (format_frame w (top vw)).refused ≡ 0 → Result
  unfolding frame format_frame sized_frame refused_frame
  full_on e k s h = go (frame_length vw.kind (word_of w (top vw) 6 / 0x1000)) refl h
    where
      on : (i : ℕ) → i < 8 → byte_served w (top vw) i ≡ true
      on = all_each w (top vw) 8 s

      reads : frame vw d ≡ sized vw d (word_of w (top vw) 0) (long_of w (top vw) 2) (word_of w (top vw) 6) (frame_len vw.kind (word_of w (top vw) 6 / 0x1000))
      reads =
          rw (
            even_is e,
            k,
            word_on vw.kind bus store (top vw) 0 (on 0 (omega arith)) (on 1 (omega arith)),
            long_on vw.kind bus store (top vw) 2 (on 2 (omega arith)) (on 3 (omega arith)) (on 4 (omega arith)) (on 5 (omega arith)),
            word_on vw.kind bus store (top vw) 6 (on 6 (omega arith)) (on 7 (omega arith)),
          )

      whole : (n : ℕ) → frame_length vw.kind (word_of w (top vw) 6 / 0x1000) ≡ suc n → (q : Bool) → all_served w (top vw) (suc n) ≡ q
          → (pick q (taken_frame w (top vw) (word_of w (top vw) 6) (suc n)) (refused_frame 12)).refused ≡ 0 → Result
      whole n x false y z = absurd (omega arith)
      whole n x true y z = (
        record { format = word_of w (top vw) 6 / 0x1000; status = word_of w (top vw) 0; address = long_of w (top vw) 2; offset = word_of w (top vw) 6 % 0x1000; size = suc n; after = settle vw (suc n) (word_of w (top vw) 0) },
        reads ∙ rw (sym (table_is vw.kind (word_of w (top vw) 6 / 0x1000) small) ∙ x, served_is vw.kind bus store (top vw) (suc n) ∙ y),
      )

      go : (n : ℕ) → frame_length vw.kind (word_of w (top vw) 6 / 0x1000) ≡ n
          → (pick (eqb n 0) (refused_frame 13) (pick (all_served w (top vw) n) (taken_frame w (top vw) (word_of w (top vw) 6) n) (refused_frame 12))).refused ≡ 0 → Result
      go zero x z = absurd (omega arith)
      go (suc n) x z = whole n x (all_served w (top vw) (suc n)) refl (rw (ne_eqb (suc n) 0 (λ e. omega arith)) at z)

  -- `unwind` takes the frame at the top: so does the nest
  pub frame_some : (frame_of w (top vw)).refused ≡ 0 → (t : Taken) × (frame vw d ≡ some t)
  unfolding frame_of head_of refused_frame
  frame_some = go (odd_pointer vw.kind (top vw)) refl (eqb vw.kind 1) refl
    where
      go : (o : Bool) → odd_pointer vw.kind (top vw) ≡ o → (q : Bool) → eqb vw.kind 1 ≡ q
          → (pick o (refused_frame 12) (pick (all_served w (top vw) (pick q 6 8)) (pick q (taken_frame w (top vw) 0 6) (format_frame w (top vw))) (refused_frame 12))).refused ≡ 0 → Result
      go true e q f h = absurd (omega arith)
      go false e true f h = head (all_served w (top vw) 6) refl h
        where
          head : (t : Bool) → all_served w (top vw) 6 ≡ t → (pick t (taken_frame w (top vw) 0 6) (refused_frame 12)).refused ≡ 0 → Result
          head true x y = short_on e f x
          head false x y = absurd (omega arith)
      go false e false f h = head (all_served w (top vw) 8) refl h
        where
          head : (t : Bool) → all_served w (top vw) 8 ≡ t → (pick t (format_frame w (top vw)) (refused_frame 12)).refused ≡ 0 → Result
          head true x y = full_on e f x y
          head false x y = absurd (omega arith)

-- ---- the return

flag_regs : (c : Cpu) → (regs_of c).sflag ≡ c.flags.s_flag
unfolding regs_of
flag_regs c = refl

a7_regs : (c : Cpu) → (regs_of c).a7 ≡ a7_of c
unfolding regs_of
a7_regs c = refl

s_on : (c : Cpu) → Fit c → in_user c ≡ false → (view (regs_of c)).s ≡ true
unfolding in_user
s_on c h e = view_s (regs_of c) ∙ ap nonzero (flag_regs c) ∙ go c.flags.s_flag h.s_is_lem e
  where
    go : (s : ℕ) → (s ≡ 0) ⊎ (s ≡ 4) → eqb (s / 4 % 2) 0 ≡ false → nonzero s ≡ true
    go s (inl f) g = let z : eqb (0 / 4 % 2) 0 ≡ false = ap (λ (j : ℕ). eqb (j / 4 % 2) 0) (sym f) ∙ g in let q : ◌≡◌ {A = ℕ} 0 1 = cc in absurd (omega arith)
    go s (inr f) g = ap nonzero f

refused_is : (c : Cpu) (n : ℕ) → (refused_back c n).refused ≡ n
unfolding refused_back
refused_is c n = refl

module _ (bus : Bus) (store : List ℕ) where
  abbrev byte : Bytes
  byte = peek (mem_of bus store)

  abbrev from : Cpu → Sight
  from c = sight (kind_of c) bus store

  at_top : (c : Cpu) → kind_of c < 12 → (frame_of (from c) (a7_of c)).refused ≡ 0 → (t : Taken) × (frame (view (regs_of c)) byte ≡ some t)
  at_top c l e =
      let k : (view (regs_of c)).kind ≡ kind_of c = view_kind (regs_of c) ∙ kind_regs c in
      let p : top (view (regs_of c)) ≡ a7_of c = view_a7 (regs_of c) ∙ a7_regs c in
      frame_some (view (regs_of c)) bus store (omega (arith, k)) ((λ i. (frame_of (sight (k i) bus store) (p i)).refused) ∙ e)

  abbrev Out : Cpu → Type 0
  Out c = (x : NestBack) × (nest_back (view (regs_of c)) byte ≡ some x)

  -- a number that is tested and is not 0 cannot be
  clash : {A : Type 0} (n : ℕ) → eqb n 0 ≡ false → n ≡ 0 → A
  clash n e f = absurd (eqb-false n 0 e f)

  under : (c : Cpu) (t : Taken) → Fit c → kind_of c < 12 → frame (view (regs_of c)) byte ≡ some t → (first_back (from c) c (frame_is t)).refused ≡ 0 → (x : NestBack) × (second byte t ≡ some x)
  unfolding first_back second_back
  under c t h l fe = go (eqb t.format 1) refl
    where
      d : Cpu
      d = take_frame c (frame_is t)

      kd : kind_of d ≡ kind_of c
      kd = take_kind c (frame_is t)

      frame_d : frame_of (from c) (a7_of d) ≡ frame_of (from d) (a7_of d)
      frame_d = ap (λ (j : ℕ). frame_of (sight j bus store) (a7_of d)) (sym kd)

      lastly : (u : Taken) → frame t.after byte ≡ some u → eqb t.format 1 ≡ true → (q : Bool) → eqb u.format 1 ≡ q → (pick q (refused_back c 13) (done_back d 1 (frame_is u))).refused ≡ 0 → (x : NestBack) × (second byte t ≡ some x)
      lastly u fu ft true y z = absurd (omega (arith, refused_is c 13))
      lastly u fu ft false y z = (record { row = record { format = 1; status = u.status; address = u.address; offset = u.offset }; view = u.after }, rw (ft, fu, y))

      two : eqb t.format 1 ≡ true → (q : Bool) → eqb (frame_of (from c) (a7_of d)).refused 0 ≡ q
          → (pick q (pick (eqb (frame_of (from c) (a7_of d)).format 1) (refused_back c 13) (done_back d 1 (frame_of (from c) (a7_of d)))) (refused_back c (frame_of (from c) (a7_of d)).refused)).refused ≡ 0
          → (x : NestBack) × (second byte t ≡ some x)
      two ft false y z = clash (frame_of (from c) (a7_of d)).refused y (sym (refused_is c (frame_of (from c) (a7_of d)).refused) ∙ z)
      two ft true y z =
          let r : (frame_of (from d) (a7_of d)).refused ≡ 0 = ap (λ (f : Frame). f.refused) (sym frame_d) ∙ eqb-true (frame_of (from c) (a7_of d)).refused 0 y in
          let m : (u : Taken) × (frame (view (regs_of d)) byte ≡ some u) = at_top d (omega (arith, l, kd)) r in
          let fu : frame t.after byte ≡ some m.0 = ap (λ (w : View). frame w byte) (sym (there bus store c t h l fe)) ∙ m.1 in
          let is : frame_of (from c) (a7_of d) ≡ frame_is m.0 = frame_d ∙ here bus store d m.0 (omega (arith, l, kd)) m.1 in
          lastly m.0 fu ft (eqb m.0.format 1) refl (subst (λ (f : Frame). (pick (eqb f.format 1) (refused_back c 13) (done_back d 1 f)).refused ≡ 0) is z)

      go : (q : Bool) → eqb t.format 1 ≡ q → (pick q (second_back c d (frame_of (from c) (a7_of d))) (done_back c t.format (frame_is t))).refused ≡ 0 → (x : NestBack) × (second byte t ≡ some x)
      go true ft z = two ft (eqb (frame_of (from c) (a7_of d)).refused 0) refl z
      go false ft z = (record { row = record { format = t.format; status = t.status; address = t.address; offset = t.offset }; view = t.after }, rw ft)

  -- a return that `unwind` accepts is accepted by the nest; with `back_gives` it is the same one
  pub back_some : (c : Cpu) → Fit c → kind_of c < 12 → (back (from c) c).refused ≡ 0 → (x : NestBack) × (nest_back (view (regs_of c)) byte ≡ some x)
  unfolding back nest_back first_back
  back_some c h l = go (in_user c) refl (eqb (frame_of (from c) (a7_of c)).refused 0) refl
    where
      taken : in_user c ≡ false → (t : Taken) → frame (view (regs_of c)) byte ≡ some t → (x : NestBack) × (second byte t ≡ some x) → Out c
      taken e t fe m = (m.0, ap (λ (q : Bool). cond q (opt (frame (view (regs_of c)) byte) (second byte)) none) (s_on c h e) ∙ ap (λ (o : Option Taken). opt o (second byte)) fe ∙ m.1)

      go : (o : Bool) → in_user c ≡ o → (q : Bool) → eqb (frame_of (from c) (a7_of c)).refused 0 ≡ q → (pick o (refused_back c 11) (first_back (from c) c (frame_of (from c) (a7_of c)))).refused ≡ 0 → Out c
      go true e q f z = absurd (omega (arith, refused_is c 11))
      go false e true f z =
          let m : (t : Taken) × (frame (view (regs_of c)) byte ≡ some t) = at_top c l (eqb-true (frame_of (from c) (a7_of c)).refused 0 f) in
          taken e m.0 m.1 (under c m.0 h l m.1 (subst (λ (g : Frame). (first_back (from c) c g).refused ≡ 0) (here bus store c m.0 l m.1) z))
      go false e false f z = clash (frame_of (from c) (a7_of c)).refused f (sym (refused_is c (frame_of (from c) (a7_of c)).refused) ∙ (rw f at z))
