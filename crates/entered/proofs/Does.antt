-- Theorems about what specs/Does defines, and what rests on them.
use Rattle.std.specs.Prelude.{ℕ, ◌-◌, ◌/◌, ◌%◌, ◌≤◌, ◌<◌, ◌≡◌, Bool, []}
use Rattle.std.proofs.Math.Path.{refl}
use Rattle.std.proofs.Common.{sym, ◌∙◌, arith}
use Rattle.std.proofs.Math.Bool.{true, false}
use Rattle.std.proofs.Math.Dec.{eqb}
use Rattle.types.specs.Kinds.{pick, is_pre68020, is040, is060, is_prefetch_kind}
use Rattle.cpu.specs.declared.Cpu.{Cpu}
use Rattle.cpu.specs.Fields.{kind_of, ppc_of}
use Rattle.status.specs.Status.{get_sr, clear_m}
use Rattle.memory.specs.World.{World, cpu_of}
use Rattle.frames.specs.declared.Frame.{Frame}
use Rattle.frames.specs.Frames.{frame68000, frame8, frame2, frame0, frame4, frame7, frame11}
use Rattle.formats.specs.Formats.{format_word, offset_word, short_frame, long_frame, disabled_frame}
use Rattle.forms.specs.Orders.{words6, words8}
use Rattle.forms.specs.Plans.{planned, Clean, short_of, group2_frame, interrupt_frame}
use Rattle.nest.specs.View.{Frame as NestFrame}
use Rattle.nest.specs.View.{nonzero, frame_len}
use Rattle.nest.specs.Laws.{Shape}
use Rattle.nest.specs.Banks.{with_flags}
use Rattle.entered.specs.Pointers.{stacks_of, Fit, clear_m_stacks}
use Rattle.entered.specs.Heads.{Heads}
use Rattle.entered.specs.One.{Enters, Keeps, one_of}
use Rattle.entered.proofs.One.{one_outside, one_kept, one_cleared}
use Rattle.entered.specs.Titles.{heads6, heads8, heads_short, heads_long, heads_disabled, heads_frame8, heads_frame2, heads_frame0, heads_frame4, heads_frame7, heads_frame11}
use Rattle.entered.specs.Shapes.{shape_long, shape_six, len_0, len_2, len_8, len_7, len_4, len_11}
use Rattle.entered.specs.Stacks.{frame_at, short_at, address_at, bus_at}
use Rattle.entered.specs.Does.{OneDone, Below, status_fits, offset_fits, offset_plain, format_fits, format_is, not_one, none, not_first, first_fetches, second_fetches, not_six, not_early, not_two, six_stays, group_by, address_by, bus_fields, bus_frames, bus_by}

module _ (x : World) (turn settle close : Cpu → Cpu) (v : ℕ) (fit : Fit (cpu_of x)) (kd : kind_of (cpu_of x) < 12) (en : Enters turn) (ke : Keeps close) where
  -- any frame with a format word
  general : (f : Frame) (len pc fw fm : ℕ) → Keeps settle → eqb (kind_of (cpu_of x)) 1 ≡ false → Heads (kind_of (cpu_of x)) f len (get_sr (cpu_of x)) pc fw → fw / 0x1000 ≡ fm → frame_len (kind_of (cpu_of x)) fm ≡ len
      → 8 ≤ len → len ≤ 92 → len % 2 ≡ 0 → eqb fm 1 ≡ false → Below (kind_of (cpu_of x)) (frame_at (cpu_of x) len pc fw) → Clean x (one_of turn f settle v close)
      → OneDone x (planned x (one_of turn f settle v close)) (frame_at (cpu_of x) len pc fw)
  general f len pc fw fm se e hd w t a b c u below cl =
      let n : NestFrame = frame_at (cpu_of x) len pc fw in
      let sh : Shape (kind_of (cpu_of x)) n = shape_long (kind_of (cpu_of x)) n fm e w t a b c in
      record {
        does = one_kept x turn settle close f v n fit en ke hd sh (not_one fw fm w u) refl refl below cl se;
        outside = one_outside x turn settle close f v n fit en ke hd sh (not_one fw fm w u) refl refl below cl;
      }

  -- the frame of kind 1
  sixth : (pc : ℕ) → Keeps settle → pc < 0x100000000 → eqb (kind_of (cpu_of x)) 1 ≡ true → Below (kind_of (cpu_of x)) (frame_at (cpu_of x) 6 pc 0) → Clean x (one_of turn (words6 (get_sr (cpu_of x)) pc) settle v close)
      → OneDone x (planned x (one_of turn (words6 (get_sr (cpu_of x)) pc) settle v close)) (frame_at (cpu_of x) 6 pc 0)
  sixth pc se l e below cl =
      let n : NestFrame = frame_at (cpu_of x) 6 pc 0 in
      let f : Frame = words6 (get_sr (cpu_of x)) pc in
      let hd : Heads (kind_of (cpu_of x)) f 6 (get_sr (cpu_of x)) pc 0 = heads6 (kind_of (cpu_of x)) (get_sr (cpu_of x)) pc (status_fits (cpu_of x)) l e in
      let sh : Shape (kind_of (cpu_of x)) n = shape_six (kind_of (cpu_of x)) n e refl refl in
      record {
        does = one_kept x turn settle close f v n fit en ke hd sh refl refl refl below cl se;
        outside = one_outside x turn settle close f v n fit en ke hd sh refl refl refl below cl;
      }

  -- status, address and format word of format 0: `take_exception`, its wrappers, group 2 before the 68020
  pub short_does : (pc fw : ℕ) → Keeps settle → (is_prefetch_kind (kind_of (cpu_of x)) ≡ true → pc < 0x100000000) → fw < 0x10000 → fw / 0x1000 ≡ 0 → Below (kind_of (cpu_of x)) (short_at (cpu_of x) pc fw)
      → Clean x (one_of turn (short_of (kind_of (cpu_of x)) (get_sr (cpu_of x)) pc fw) settle v close)
      → OneDone x (planned x (one_of turn (short_of (kind_of (cpu_of x)) (get_sr (cpu_of x)) pc fw) settle v close)) (short_at (cpu_of x) pc fw)
  unfolding short_of short_at
  short_does pc fw se l m w = go (eqb (kind_of (cpu_of x)) 1) refl
    where
      go : (b : Bool) → eqb (kind_of (cpu_of x)) 1 ≡ b → Below (kind_of (cpu_of x)) (pick b (frame_at (cpu_of x) 6 pc 0) (frame_at (cpu_of x) 8 pc fw))
          → Clean x (one_of turn (pick b (words6 (get_sr (cpu_of x)) pc) (short_frame (get_sr (cpu_of x)) pc fw)) settle v close)
          → OneDone x (planned x (one_of turn (pick b (words6 (get_sr (cpu_of x)) pc) (short_frame (get_sr (cpu_of x)) pc fw)) settle v close)) (pick b (frame_at (cpu_of x) 6 pc 0) (frame_at (cpu_of x) 8 pc fw))
      go true e below cl = sixth pc se (l (first_fetches (kind_of (cpu_of x)) e)) e below cl
      go false e below cl =
          general (short_frame (get_sr (cpu_of x)) pc fw) 8 pc fw 0 se e (heads_short (kind_of (cpu_of x)) (get_sr (cpu_of x)) pc (status_fits (cpu_of x)) fw m) w (len_0 (kind_of (cpu_of x)) kd e) (omega arith) (omega arith) refl refl below cl

  -- group 2 and trace
  pub group_does : (pc ppc : ℕ) (u : ℕ) → Keeps settle → (is_prefetch_kind (kind_of (cpu_of x)) ≡ true → pc < 0x100000000) → u < 256 → Below (kind_of (cpu_of x)) (group_by (cpu_of x) pc u)
      → Clean x (one_of turn (group2_frame (kind_of (cpu_of x)) (get_sr (cpu_of x)) pc ppc u) settle v close)
      → OneDone x (planned x (one_of turn (group2_frame (kind_of (cpu_of x)) (get_sr (cpu_of x)) pc ppc u) settle v close)) (group_by (cpu_of x) pc u)
  unfolding group2_frame group_by is_pre68020
  group_does pc ppc u se l m = go (is_pre68020 (kind_of (cpu_of x))) refl
    where
      F : Frame
      F = short_of (kind_of (cpu_of x)) (get_sr (cpu_of x)) pc (offset_word u)

      L : Frame
      L = long_frame (get_sr (cpu_of x)) pc (format_word 2 u) ppc

      go : (b : Bool) → is_pre68020 (kind_of (cpu_of x)) ≡ b → Below (kind_of (cpu_of x)) (pick b (short_at (cpu_of x) pc (offset_word u)) (frame_at (cpu_of x) 12 pc (format_word 2 u)))
          → Clean x (one_of turn (pick b F L) settle v close) → OneDone x (planned x (one_of turn (pick b F L) settle v close)) (pick b (short_at (cpu_of x) pc (offset_word u)) (frame_at (cpu_of x) 12 pc (format_word 2 u)))
      go true e below cl = short_does pc (offset_word u) se l (offset_fits u) (offset_plain u m) below cl
      go false e below cl =
          general L 12 pc (format_word 2 u) 2 se (not_first (kind_of (cpu_of x)) e) (heads_long (kind_of (cpu_of x)) (get_sr (cpu_of x)) pc (status_fits (cpu_of x)) (format_word 2 u) ppc (format_fits 2 u (omega arith))) (format_is 2 u)
          (len_2 (kind_of (cpu_of x)) kd e) (omega arith) (omega arith) refl refl below cl

  -- the two floating-point entries, kind 11
  pub unimp_does : (pc ea : ℕ) → Keeps settle → is060 (kind_of (cpu_of x)) ≡ true → Below (kind_of (cpu_of x)) (frame_at (cpu_of x) 12 pc (format_word 2 11)) → Clean x (one_of turn (long_frame (get_sr (cpu_of x)) pc (format_word 2 11) ea) settle v close)
      → OneDone x (planned x (one_of turn (long_frame (get_sr (cpu_of x)) pc (format_word 2 11) ea) settle v close)) (frame_at (cpu_of x) 12 pc (format_word 2 11))
  unimp_does pc ea se e below cl =
      general (long_frame (get_sr (cpu_of x)) pc (format_word 2 11) ea) 12 pc (format_word 2 11) 2 se (not_six (kind_of (cpu_of x)) e)
      (heads_long (kind_of (cpu_of x)) (get_sr (cpu_of x)) pc (status_fits (cpu_of x)) (format_word 2 11) ea (format_fits 2 11 (omega arith))) (format_is 2 11) (len_2 (kind_of (cpu_of x)) kd (not_early (kind_of (cpu_of x)) e)) (omega arith) (omega arith) refl refl below cl

  pub disabled_does : (pc ea ppc : ℕ) → Keeps settle → is060 (kind_of (cpu_of x)) ≡ true → Below (kind_of (cpu_of x)) (frame_at (cpu_of x) 16 pc (format_word 4 11)) → Clean x (one_of turn (disabled_frame (get_sr (cpu_of x)) pc (format_word 4 11) ea ppc) settle v close)
      → OneDone x (planned x (one_of turn (disabled_frame (get_sr (cpu_of x)) pc (format_word 4 11) ea ppc) settle v close)) (frame_at (cpu_of x) 16 pc (format_word 4 11))
  disabled_does pc ea ppc se e below cl =
      general (disabled_frame (get_sr (cpu_of x)) pc (format_word 4 11) ea ppc) 16 pc (format_word 4 11) 4 se (not_six (kind_of (cpu_of x)) e)
      (heads_disabled (kind_of (cpu_of x)) (get_sr (cpu_of x)) pc (status_fits (cpu_of x)) (format_word 4 11) ea ppc (format_fits 4 11 (omega arith))) (format_is 4 11) (len_4 (kind_of (cpu_of x)) kd e) (omega arith) (omega arith) refl refl below cl

  -- address error, kinds other than 1
  pub address_does : (ir a st : ℕ) → Keeps settle → eqb (kind_of (cpu_of x)) 1 ≡ false → Below (kind_of (cpu_of x)) (address_at (cpu_of x))
      → Clean x (one_of turn (address_by (kind_of (cpu_of x)) (get_sr (cpu_of x)) (ppc_of (cpu_of x)) ir st a) settle v close)
      → OneDone x (planned x (one_of turn (address_by (kind_of (cpu_of x)) (get_sr (cpu_of x)) (ppc_of (cpu_of x)) ir st a) settle v close)) (address_at (cpu_of x))
  unfolding address_by address_at
  address_does ir a st se o = go (eqb (kind_of (cpu_of x)) 1) refl (is_pre68020 (kind_of (cpu_of x))) refl (is040 (kind_of (cpu_of x))) refl
    where
      go : (b : Bool) → eqb (kind_of (cpu_of x)) 1 ≡ b → (p : Bool) → is_pre68020 (kind_of (cpu_of x)) ≡ p → (q : Bool) → is040 (kind_of (cpu_of x)) ≡ q
          → Below (kind_of (cpu_of x)) (pick b (frame_at (cpu_of x) 14 (ppc_of (cpu_of x)) 0) (pick p (frame_at (cpu_of x) 58 (ppc_of (cpu_of x)) 0x800C) (pick q (frame_at (cpu_of x) 12 (ppc_of (cpu_of x)) 0x200C) (frame_at (cpu_of x) 8 (ppc_of (cpu_of x)) 12))))
          → Clean x (one_of turn (pick b (frame68000 (get_sr (cpu_of x)) (ppc_of (cpu_of x)) ir a st) (pick p (frame8 (get_sr (cpu_of x)) (ppc_of (cpu_of x)) 0x800C) (pick q (frame2 (get_sr (cpu_of x)) (ppc_of (cpu_of x)) (a - a % 2)) (frame0 (get_sr (cpu_of x)) (ppc_of (cpu_of x)))))) settle v close)
          → OneDone x (planned x (one_of turn (pick b (frame68000 (get_sr (cpu_of x)) (ppc_of (cpu_of x)) ir a st) (pick p (frame8 (get_sr (cpu_of x)) (ppc_of (cpu_of x)) 0x800C) (pick q (frame2 (get_sr (cpu_of x)) (ppc_of (cpu_of x)) (a - a % 2)) (frame0 (get_sr (cpu_of x)) (ppc_of (cpu_of x)))))) settle v close))
          (pick b (frame_at (cpu_of x) 14 (ppc_of (cpu_of x)) 0) (pick p (frame_at (cpu_of x) 58 (ppc_of (cpu_of x)) 0x800C) (pick q (frame_at (cpu_of x) 12 (ppc_of (cpu_of x)) 0x200C) (frame_at (cpu_of x) 8 (ppc_of (cpu_of x)) 12))))
      go true e p f q g below cl = none (sym e ∙ o)
      go false e true f q g below cl =
          general (frame8 (get_sr (cpu_of x)) (ppc_of (cpu_of x)) 0x800C) 58 (ppc_of (cpu_of x)) 0x800C 8 se e (heads_frame8 (kind_of (cpu_of x)) (get_sr (cpu_of x)) (ppc_of (cpu_of x)) (status_fits (cpu_of x)) 0x800C (omega arith)) refl (len_8 (kind_of (cpu_of x)) kd e f) (omega arith) (omega arith) refl refl below cl
      go false e false f true g below cl =
          general (frame2 (get_sr (cpu_of x)) (ppc_of (cpu_of x)) (a - a % 2)) 12 (ppc_of (cpu_of x)) 0x200C 2 se e (heads_frame2 (kind_of (cpu_of x)) (get_sr (cpu_of x)) (ppc_of (cpu_of x)) (status_fits (cpu_of x)) (a - a % 2)) refl (len_2 (kind_of (cpu_of x)) kd f) (omega arith) (omega arith) refl refl below cl
      go false e false f false g below cl =
          general (frame0 (get_sr (cpu_of x)) (ppc_of (cpu_of x))) 8 (ppc_of (cpu_of x)) 12 0 se e (heads_frame0 (kind_of (cpu_of x)) (get_sr (cpu_of x)) (ppc_of (cpu_of x)) (status_fits (cpu_of x))) refl (len_0 (kind_of (cpu_of x)) kd e) (omega arith) (omega arith) refl refl below cl

  -- bus error, kinds other than 1: the longer frames' other fields are free
  pub bus_does : (ir a st l1 l2 m1 m2 m3 m4 n1 n2 n3 : ℕ) → Keeps settle → eqb (kind_of (cpu_of x)) 1 ≡ false → Below (kind_of (cpu_of x)) (bus_at (cpu_of x))
      → Clean x (one_of turn (bus_by (kind_of (cpu_of x)) (get_sr (cpu_of x)) (ppc_of (cpu_of x)) ir a st l1 m1 m2 m3 m4 n1 n2 n3 l2) settle v close)
      → OneDone x (planned x (one_of turn (bus_by (kind_of (cpu_of x)) (get_sr (cpu_of x)) (ppc_of (cpu_of x)) ir a st l1 m1 m2 m3 m4 n1 n2 n3 l2) settle v close)) (bus_at (cpu_of x))
  unfolding bus_by bus_at
  bus_does ir a st l1 l2 m1 m2 m3 m4 n1 n2 n3 se o = go (eqb (kind_of (cpu_of x)) 1) refl (is_pre68020 (kind_of (cpu_of x))) refl (is060 (kind_of (cpu_of x))) refl (is040 (kind_of (cpu_of x))) refl
    where
      go : (b : Bool) → eqb (kind_of (cpu_of x)) 1 ≡ b → (p : Bool) → is_pre68020 (kind_of (cpu_of x)) ≡ p → (s : Bool) → is060 (kind_of (cpu_of x)) ≡ s → (q : Bool) → is040 (kind_of (cpu_of x)) ≡ q
          → Below (kind_of (cpu_of x)) (bus_frames b p s q (frame_at (cpu_of x) 14 (ppc_of (cpu_of x)) 0) (frame_at (cpu_of x) 58 (ppc_of (cpu_of x)) 0x8008) (frame_at (cpu_of x) 16 (ppc_of (cpu_of x)) 0x4008) (frame_at (cpu_of x) 60 (ppc_of (cpu_of x)) 0x7008) (frame_at (cpu_of x) 92 (ppc_of (cpu_of x)) 0xB008))
          → Clean x (one_of turn (bus_fields b p s q (get_sr (cpu_of x)) (ppc_of (cpu_of x)) ir a st l1 m1 m2 m3 m4 n1 n2 n3 l2) settle v close)
          → OneDone x (planned x (one_of turn (bus_fields b p s q (get_sr (cpu_of x)) (ppc_of (cpu_of x)) ir a st l1 m1 m2 m3 m4 n1 n2 n3 l2) settle v close))
          (bus_frames b p s q (frame_at (cpu_of x) 14 (ppc_of (cpu_of x)) 0) (frame_at (cpu_of x) 58 (ppc_of (cpu_of x)) 0x8008) (frame_at (cpu_of x) 16 (ppc_of (cpu_of x)) 0x4008) (frame_at (cpu_of x) 60 (ppc_of (cpu_of x)) 0x7008) (frame_at (cpu_of x) 92 (ppc_of (cpu_of x)) 0xB008))
      go true e p f s g q h below cl = none (sym e ∙ o)
      go false e true f s g q h below cl =
          general (frame8 (get_sr (cpu_of x)) (ppc_of (cpu_of x)) 0x8008) 58 (ppc_of (cpu_of x)) 0x8008 8 se e (heads_frame8 (kind_of (cpu_of x)) (get_sr (cpu_of x)) (ppc_of (cpu_of x)) (status_fits (cpu_of x)) 0x8008 (omega arith)) refl (len_8 (kind_of (cpu_of x)) kd e f) (omega arith) (omega arith) refl refl below cl
      go false e false f true g q h below cl =
          general (frame4 (get_sr (cpu_of x)) (ppc_of (cpu_of x)) a l1) 16 (ppc_of (cpu_of x)) 0x4008 4 se e (heads_frame4 (kind_of (cpu_of x)) (get_sr (cpu_of x)) (ppc_of (cpu_of x)) (status_fits (cpu_of x)) a l1) refl (len_4 (kind_of (cpu_of x)) kd g) (omega arith) (omega arith) refl refl below cl
      go false e false f false g true h below cl =
          general (frame7 (get_sr (cpu_of x)) (ppc_of (cpu_of x)) a m1 m2 m3 m4) 60 (ppc_of (cpu_of x)) 0x7008 7 se e (heads_frame7 (kind_of (cpu_of x)) (get_sr (cpu_of x)) (ppc_of (cpu_of x)) (status_fits (cpu_of x)) a m1 m2 m3 m4) refl (len_7 (kind_of (cpu_of x)) kd h) (omega arith) (omega arith) refl refl below cl
      go false e false f false g false h below cl =
          general (frame11 (get_sr (cpu_of x)) (ppc_of (cpu_of x)) n1 n2 n3 l2) 92 (ppc_of (cpu_of x)) 0xB008 11 se e (heads_frame11 (kind_of (cpu_of x)) (get_sr (cpu_of x)) (ppc_of (cpu_of x)) (status_fits (cpu_of x)) n1 n2 n3 l2) refl (len_11 (kind_of (cpu_of x)) kd f g h) (omega arith) (omega arith) refl refl below cl

  -- the interrupt, one frame: kind 1, kind 2, the others
  pub interrupt_does : (pc u : ℕ) → Keeps settle → (is_prefetch_kind (kind_of (cpu_of x)) ≡ true → pc < 0x100000000) → u < 256 → Below (kind_of (cpu_of x)) (short_at (cpu_of x) pc (offset_word u))
      → Clean x (one_of turn (interrupt_frame (kind_of (cpu_of x)) (get_sr (cpu_of x)) pc u) settle v close)
      → OneDone x (planned x (one_of turn (interrupt_frame (kind_of (cpu_of x)) (get_sr (cpu_of x)) pc u) settle v close)) (short_at (cpu_of x) pc (offset_word u))
  unfolding interrupt_frame short_at
  interrupt_does pc u se l m = go (eqb (kind_of (cpu_of x)) 1) refl (eqb (kind_of (cpu_of x)) 2) refl
    where
      go : (b : Bool) → eqb (kind_of (cpu_of x)) 1 ≡ b → (d : Bool) → eqb (kind_of (cpu_of x)) 2 ≡ d → Below (kind_of (cpu_of x)) (pick b (frame_at (cpu_of x) 6 pc 0) (frame_at (cpu_of x) 8 pc (offset_word u)))
          → Clean x (one_of turn (pick b (words6 (get_sr (cpu_of x)) pc) (pick d (words8 (get_sr (cpu_of x)) pc (offset_word u)) (short_frame (get_sr (cpu_of x)) pc (offset_word u)))) settle v close)
          → OneDone x (planned x (one_of turn (pick b (words6 (get_sr (cpu_of x)) pc) (pick d (words8 (get_sr (cpu_of x)) pc (offset_word u)) (short_frame (get_sr (cpu_of x)) pc (offset_word u)))) settle v close))
          (pick b (frame_at (cpu_of x) 6 pc 0) (frame_at (cpu_of x) 8 pc (offset_word u)))
      go true e d f below cl = sixth pc se (l (first_fetches (kind_of (cpu_of x)) e)) e below cl
      go false e true f below cl =
          general (words8 (get_sr (cpu_of x)) pc (offset_word u)) 8 pc (offset_word u) 0 se e (heads8 (kind_of (cpu_of x)) (get_sr (cpu_of x)) pc (status_fits (cpu_of x)) (offset_word u) (offset_fits u) (l (second_fetches (kind_of (cpu_of x)) e f))) (offset_plain u m) (len_0 (kind_of (cpu_of x)) kd e) (omega arith) (omega arith) refl refl below cl
      go false e false f below cl =
          general (short_frame (get_sr (cpu_of x)) pc (offset_word u)) 8 pc (offset_word u) 0 se e (heads_short (kind_of (cpu_of x)) (get_sr (cpu_of x)) pc (status_fits (cpu_of x)) (offset_word u) (offset_fits u)) (offset_plain u m) (len_0 (kind_of (cpu_of x)) kd e) (omega arith) (omega arith) refl refl below cl

-- the interrupt of kind 11 with M set: M is cleared and the stack stays
module _ (x : World) (turn close : Cpu → Cpu) (v : ℕ) (fit : Fit (cpu_of x)) (kd : kind_of (cpu_of x) < 12) (en : Enters turn) (ke : Keeps close) where
  flags_kept : (d : Cpu) → stacks_of (clear_m d) ≡ with_flags (stacks_of d) (stacks_of d).sflag 0
  unfolding stacks_of
  flags_kept d = clear_m_stacks d

  pub cleared_does : (pc u : ℕ) → u < 256 → is060 (kind_of (cpu_of x)) ≡ true → Below (kind_of (cpu_of x)) (short_at (cpu_of x) pc (offset_word u))
      → Clean x (one_of turn (interrupt_frame (kind_of (cpu_of x)) (get_sr (cpu_of x)) pc u) clear_m v close)
      → OneDone x (planned x (one_of turn (interrupt_frame (kind_of (cpu_of x)) (get_sr (cpu_of x)) pc u) clear_m v close)) (short_at (cpu_of x) pc (offset_word u))
  unfolding interrupt_frame short_at
  cleared_does pc u m e = go (eqb (kind_of (cpu_of x)) 1) (not_six (kind_of (cpu_of x)) e) refl (eqb (kind_of (cpu_of x)) 2) (not_two (kind_of (cpu_of x)) e)
    where
      go : (b : Bool) → b ≡ false → eqb (kind_of (cpu_of x)) 1 ≡ b → (d : Bool) → d ≡ false → Below (kind_of (cpu_of x)) (pick b (frame_at (cpu_of x) 6 pc 0) (frame_at (cpu_of x) 8 pc (offset_word u)))
          → Clean x (one_of turn (pick b (words6 (get_sr (cpu_of x)) pc) (pick d (words8 (get_sr (cpu_of x)) pc (offset_word u)) (short_frame (get_sr (cpu_of x)) pc (offset_word u)))) clear_m v close)
          → OneDone x (planned x (one_of turn (pick b (words6 (get_sr (cpu_of x)) pc) (pick d (words8 (get_sr (cpu_of x)) pc (offset_word u)) (short_frame (get_sr (cpu_of x)) pc (offset_word u)))) clear_m v close))
          (pick b (frame_at (cpu_of x) 6 pc 0) (frame_at (cpu_of x) 8 pc (offset_word u)))
      go true f g d h below cl = none f
      go false f g true h below cl = none h
      go false f g false h below cl =
          let n : NestFrame = frame_at (cpu_of x) 8 pc (offset_word u) in
          let s : Frame = short_frame (get_sr (cpu_of x)) pc (offset_word u) in
          let hd : Heads (kind_of (cpu_of x)) s 8 (get_sr (cpu_of x)) pc (offset_word u) = heads_short (kind_of (cpu_of x)) (get_sr (cpu_of x)) pc (status_fits (cpu_of x)) (offset_word u) (offset_fits u) in
          let sh : Shape (kind_of (cpu_of x)) n = shape_long (kind_of (cpu_of x)) n 0 g (offset_plain u m) (len_0 (kind_of (cpu_of x)) kd g) (omega arith) (omega arith) refl in
          record {
            does = one_cleared x turn clear_m close s v n fit en ke hd sh (not_one (offset_word u) 0 (offset_plain u m) refl) refl refl below cl flags_kept (six_stays (kind_of (cpu_of x)) (nonzero (cpu_of x).flags.m_flag) e);
            outside = one_outside x turn clear_m close s v n fit en ke hd sh (not_one (offset_word u) 0 (offset_plain u m) refl) refl refl below cl;
          }
