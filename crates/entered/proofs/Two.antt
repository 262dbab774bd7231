-- Theorems about what specs/Two defines, and what rests on them.
use Rattle.std.specs.Prelude.{ℕ, ◌/◌, ◌<◌, ◌≡◌, refl, true, false, [], ◌∷◌, eqb, length}
use Rattle.std.proofs.Common.{sym, ap, ◌∙◌, subst, arith}
use Rattle.cpu.specs.declared.Cpu.{Cpu}
use Rattle.cpu.specs.Fields.{kind_of, a7_of, minus32}
use Rattle.status.specs.Status.{get_sr}
use Rattle.status.specs.Banks.{set_sm_flag}
use Rattle.memory.specs.World.{World, cpu_of}
use Rattle.frames.specs.declared.Frame.{Frame}
use Rattle.formats.specs.Formats.{format_word, offset_word, short_frame}
use Rattle.steps.specs.Steps.{with_s}
use Rattle.images.specs.Images.{Ready, Image, new_a7}
use Rattle.forms.specs.Gist.{framed_by}
use Rattle.forms.specs.Jumps.{jumped}
use Rattle.forms.specs.Plans.{turned, stack_all, planned, AllReady, Clean, same}
use Rattle.nest.specs.View.{Frame as NestFrame}
use Rattle.nest.specs.View.{Regs, Store, peek, addr, under, s_bit, m_bit, Bank, master, bank_of, View, ptr, set_ptr, top, set_top, with_sm, nonzero, view, word}
use Rattle.nest.specs.Nest.{Holds, here, there, Apart}
use Rattle.nest.specs.Laws.{lower, Pushed, Shape}
use Rattle.nest.specs.Reading.{view_a7, view_kind, view_m}
use Rattle.nest.specs.Banks.{select, with_a7, view_select, view_with_a7}
use Rattle.entered.specs.Pointers.{regs_of, stacks_of, view_of, Fit, leave_stacks, leave_fit}
use Rattle.entered.specs.Bytes.{mem, turned_mem, jumped_mem}
use Rattle.entered.specs.Heads.{Heads, framed_image, frame_pushed, frame_outside}
use Rattle.entered.specs.One.{Enters, Keeps, turned_stacks, turned_fit, turned_kind, turned_gist, jumped_stacks, framed_stacks, framed_fit, framed_kind, top_of, lowers, status_of}
use Rattle.entered.specs.Does.{Below, status_fits, offset_fits, offset_plain, format_fits, format_is}
use Rattle.entered.specs.Titles.{heads_short}
use Rattle.entered.specs.Shapes.{Master, shape_long, len_0}
use Rattle.entered.specs.Two.{with_fits, throw_s, throw_m, pushed_local, nothing, leave_kind, kind_of_lem, two_of, TwoDone}

-- ---- the pointers

module _ (g : Regs) (m : ℕ) (mset : nonzero m ≡ true) (mg : nonzero g.mflag ≡ true) (stk : bank_of g.kind true true ≡ master) where
  master_v : bank_of (view g).kind true true ≡ master
  master_v = rw (view_kind g) stk

  view_up : view (select g 4 m) ≡ with_sm (view g) true true
  view_up = view_select g 4 m ∙ ap (with_sm (view g) true) mset

  up_top : (select g 4 m).a7 ≡ (view g).msp
  up_top = sym (view_a7 (select g 4 m)) ∙ ap top view_up ∙ ap (ptr (with_sm (view g) true true)) master_v

  view_pushed : (p : ℕ) → view (with_a7 (select g 4 m) p) ≡ record { kind = (view g).kind; s = true; m = true; usp = (view g).usp; isp = (view g).isp; msp = p }
  view_pushed p = view_with_a7 (select g 4 m) p ∙ ap (λ (v : View). set_top v p) view_up ∙ ap (λ (B : Bank). set_ptr (with_sm (view g) true true) B p) master_v

  view_down : (p : ℕ) → view (select (with_a7 (select g 4 m) p) 4 0) ≡ record { kind = (view g).kind; s = true; m = false; usp = (view g).usp; isp = (view g).isp; msp = p }
  view_down p = view_select (with_a7 (select g 4 m) p) 4 0 ∙ ap (λ (v : View). with_sm v true false) (view_pushed p)

  down_top : (p : ℕ) → (select (with_a7 (select g 4 m) p) 4 0).a7 ≡ (view g).isp
  down_top p = sym (view_a7 (select (with_a7 (select g 4 m) p) 4 0)) ∙ ap top (view_down p)

  view_both : (p q : ℕ) → view (with_a7 (select (with_a7 (select g 4 m) p) 4 0) q) ≡ record { kind = (view g).kind; s = true; m = false; usp = (view g).usp; isp = q; msp = p }
  view_both p q = view_with_a7 (select (with_a7 (select g 4 m) p) 4 0) q ∙ ap (λ (v : View). set_top v q) (view_down p)

module _ (x : World) (turn close : Cpu → Cpu) (v pc u : ℕ) (fit : Fit (cpu_of x)) (kd : kind_of (cpu_of x) < 12) (en : Enters turn) (ke : Keeps close) (vl : u < 256)
    (ms : Master (kind_of (cpu_of x))) (mset : nonzero (cpu_of x).flags.m_flag ≡ true) (mb : m_bit (get_sr (cpu_of x)) ≡ true) (h n : NestFrame)
    (h_is : h ≡ record { at = lower (view (stacks_of (cpu_of x))).isp 8; len = 8; status = with_s (get_sr (cpu_of x)); address = pc; word = format_word 1 u })
    (n_is : n ≡ record { at = lower (view (stacks_of (cpu_of x))).msp 8; len = 8; status = get_sr (cpu_of x); address = pc; word = offset_word u })
    (h_below : Below (kind_of (cpu_of x)) h) (n_below : Below (kind_of (cpu_of x)) n) (part : Apart (kind_of (cpu_of x)) (h ∷ n ∷ []))
    (cl : Clean x (two_of turn (short_frame (get_sr (cpu_of x)) pc (offset_word u)) (short_frame (with_s (get_sr (cpu_of x))) pc (format_word 1 u)) v close)) where
  abbrev K : ℕ
  K = kind_of (cpu_of x)

  abbrev F : Frame
  F = short_frame (get_sr (cpu_of x)) pc (offset_word u)

  abbrev H : Frame
  H = short_frame (with_s (get_sr (cpu_of x))) pc (format_word 1 u)

  abbrev G : Regs
  G = stacks_of (cpu_of x)

  abbrev M : ℕ
  M = (cpu_of x).flags.m_flag

  abbrev Y : World
  Y = turned x turn

  abbrev X1 : World
  X1 = framed_by Y F

  abbrev Y2 : World
  Y2 = turned X1 (λ d. set_sm_flag d 4)

  abbrev X2 : World
  X2 = framed_by Y2 H

  abbrev Z : World
  Z = planned x (two_of turn F H v close)

  ready1 : Ready Y F
  unfolding AllReady
  ready1 = cl.stacks.0

  ready2 : Ready Y2 H
  unfolding AllReady
  ready2 = cl.stacks.1.0

  stk : bank_of G.kind true true ≡ master
  unfolding stacks_of
  stk = rw ms.stacks

  mg : nonzero G.mflag ≡ true
  unfolding stacks_of
  mg = mset

  fit1 : Fit (cpu_of Y)
  fit1 = turned_fit x turn (en (cpu_of x) fit).fit

  fit_x : Fit (cpu_of X1)
  fit_x = framed_fit Y F fit1

  fit2 : Fit (cpu_of Y2)
  fit2 = turned_fit X1 (λ d. set_sm_flag d 4) (leave_fit (cpu_of X1) fit_x)

  heads1 : Heads K F 8 (get_sr (cpu_of x)) pc (offset_word u)
  heads1 = heads_short K (get_sr (cpu_of x)) pc (status_fits (cpu_of x)) (offset_word u) (offset_fits u)

  heads2 : Heads K H 8 (with_s (get_sr (cpu_of x))) pc (format_word 1 u)
  heads2 = heads_short K (with_s (get_sr (cpu_of x))) pc (with_fits (get_sr (cpu_of x)) (status_fits (cpu_of x))) (format_word 1 u) (format_fits 1 u (omega arith))

  y_stacks : stacks_of (cpu_of Y) ≡ select G 4 M
  y_stacks = turned_stacks x turn ∙ (en (cpu_of x) fit).stacks

  y_top : a7_of (cpu_of Y) ≡ (view G).msp
  y_top = top_of (cpu_of Y) ∙ ap (λ (g : Regs). g.a7) y_stacks ∙ up_top G M mset mg stk

  at_n : n.at ≡ new_a7 Y F
  at_n = ap (λ (f : NestFrame). f.at) n_is ∙ sym (lowers (view G).msp 8 (omega arith)) ∙ ap (λ (q : ℕ). minus32 q 8) (sym y_top) ∙ ap (λ (l : ℕ). minus32 (a7_of (cpu_of Y)) l) (sym heads1.length)

  x1_stacks : stacks_of (cpu_of X1) ≡ with_a7 (select G 4 M) n.at
  x1_stacks = framed_stacks Y F fit1 ∙ ap (λ (g : Regs). with_a7 g (new_a7 Y F)) y_stacks ∙ ap (λ (q : ℕ). with_a7 (select G 4 M) q) (sym at_n)

  y2_stacks : stacks_of (cpu_of Y2) ≡ select (with_a7 (select G 4 M) n.at) 4 0
  y2_stacks = turned_stacks X1 (λ d. set_sm_flag d 4) ∙ leave_stacks (cpu_of X1) fit_x ∙ ap (λ (g : Regs). select g 4 0) x1_stacks

  y2_top : a7_of (cpu_of Y2) ≡ (view G).isp
  y2_top = top_of (cpu_of Y2) ∙ ap (λ (g : Regs). g.a7) y2_stacks ∙ down_top G M mset mg stk n.at

  at_h : h.at ≡ new_a7 Y2 H
  at_h = ap (λ (f : NestFrame). f.at) h_is ∙ sym (lowers (view G).isp 8 (omega arith)) ∙ ap (λ (q : ℕ). minus32 q 8) (sym y2_top) ∙ ap (λ (l : ℕ). minus32 (a7_of (cpu_of Y2)) l) (sym heads2.length)

  x2_stacks : stacks_of (cpu_of X2) ≡ with_a7 (select (with_a7 (select G 4 M) n.at) 4 0) h.at
  x2_stacks = framed_stacks Y2 H fit2 ∙ ap (λ (g : Regs). with_a7 g (new_a7 Y2 H)) y2_stacks ∙ ap (λ (q : ℕ). with_a7 (select (with_a7 (select G 4 M) n.at) 4 0) q) (sym at_h)

  z_stacks : stacks_of (cpu_of Z) ≡ stacks_of (cpu_of X2)
  unfolding planned stack_all
  z_stacks = turned_stacks (jumped (turned X2 same) v) close ∙ ke (cpu_of (jumped (turned X2 same) v)) ∙ jumped_stacks (turned X2 same) v ∙ turned_stacks X2 same

  z_mem : mem Z ≡ mem X2
  unfolding planned stack_all
  z_mem = turned_mem (jumped (turned X2 same) v) close ∙ jumped_mem (turned X2 same) v ∙ turned_mem X2 same

  kind1 : kind_of (cpu_of Y) ≡ K
  kind1 = turned_kind x turn ∙ (en (cpu_of x) fit).kind

  kind2 : kind_of (cpu_of Y2) ≡ K
  kind2 = turned_kind X1 (λ d. set_sm_flag d 4) ∙ leave_kind (cpu_of X1) ∙ framed_kind Y F ∙ kind1

  image1 : Image Y X1 F
  image1 = framed_image Y F (turned_gist x turn) heads1.shape ready1

  image2 : Image Y2 X2 H
  image2 = framed_image Y2 H (turned_gist X1 (λ d. set_sm_flag d 4)) heads2.shape ready2

  head_n : Heads K F n.len n.status n.address n.word
  head_n = subst (λ (f : NestFrame). Heads K F f.len f.status f.address f.word) (sym n_is) heads1

  head_h : Heads K H h.len h.status h.address h.word
  head_h = subst (λ (f : NestFrame). Heads K H f.len f.status f.address f.word) (sym h_is) heads2

  top_pushed : Pushed K (peek (mem X2)) h
  top_pushed = frame_pushed Y2 H ready2 X2 image2 K kind2 h head_h at_h h_below

  top_outside : (a : ℕ) → (Holds K (h ∷ []) a → ⊥) → peek (mem X2) a ≡ peek (mem X1) a
  top_outside a o = frame_outside Y2 H ready2 X2 image2 K kind2 h head_h at_h h_below a o ∙ ap (λ (s : Store). peek s a) (turned_mem X1 (λ d. set_sm_flag d 4))

  low_outside : (a : ℕ) → (Holds K (n ∷ []) a → ⊥) → peek (mem X1) a ≡ peek (mem x) a
  low_outside a o = frame_outside Y F ready1 X1 image1 K kind1 n head_n at_n n_below a o ∙ ap (λ (s : Store). peek s a) (turned_mem x turn)

  eight : (i : ℕ) → i < 8 → i < n.len
  eight i l = subst (λ (f : NestFrame). i < f.len) (sym n_is) l

  under_pushed : Pushed K (peek (mem X2)) n
  unfolding Apart
  under_pushed =
      pushed_local K (peek (mem X1)) (peek (mem X2)) n (λ i l. top_outside (addr K n.at i) (λ y. clash i l y)) (frame_pushed Y F ready1 X1 image1 K kind1 n head_n at_n n_below)
    where
      clash : (i : ℕ) → i < 8 → Holds K (h ∷ []) (addr K n.at i) → ⊥
      clash i l (here j m e) = part.0 (addr K n.at i) j m e (here i (eight i l) refl)
      clash i l (there y) = nothing y

  pub two_outside : (a : ℕ) → (Holds K (h ∷ n ∷ []) a → ⊥) → peek (mem Z) a ≡ peek (mem x) a
  two_outside a o = ap (λ (s : Store). peek s a) z_mem ∙ top_outside a (λ y. o (first y)) ∙ low_outside a (λ y. o (there y))
    where
      first : Holds K (h ∷ []) a → Holds K (h ∷ n ∷ []) a
      first (here j m e) = here j m e
      first (there y) = absurd (nothing y)

  shape_h : Shape K h
  shape_h = subst (λ (f : NestFrame). Shape K f) (sym h_is) (shape_long K _ 1 ms.long (format_is 1 u) ms.len_1 (omega arith) (omega arith) refl)

  shape_n : Shape K n
  shape_n = subst (λ (f : NestFrame). Shape K f) (sym n_is) (shape_long K _ 0 ms.long (offset_plain u vl) (len_0 K kd ms.long) (omega arith) (omega arith) refl)

  pub two_done : TwoDone x Z h n
  two_done =
      let k : (view (regs_of (cpu_of x))).kind ≡ K = ap (λ (w : View). w.kind) (view_of (cpu_of x)) ∙ kind_g in
      let w : view (regs_of (cpu_of x)) ≡ view G = view_of (cpu_of x) in
      record {
        does = record {
          pushed_top = rw k (subst (λ (s : Store). Pushed K (peek s) h) (sym z_mem) top_pushed);
          pushed_under = rw k (subst (λ (s : Store). Pushed K (peek s) n) (sym z_mem) under_pushed);
          shape_top = rw k shape_h;
          shape_under = rw k shape_n;
          not_short = rw k ms.long;
          throwaway = ap (λ (f : NestFrame). f.word / 0x1000) h_is ∙ format_is 1 u;
          plain = ap (λ (f : NestFrame). eqb (f.word / 0x1000) 1) n_is ∙ ap (λ (q : ℕ). eqb q 1) (offset_plain u vl);
          status_is = ap (λ (f : NestFrame). f.status) n_is ∙ sym (status_of (cpu_of x));
          s_top = rw k (ap (λ (f : NestFrame). s_bit (under K f.status)) h_is ∙ throw_s K (get_sr (cpu_of x)) ms.mask);
          m_top = rw k (ap (λ (f : NestFrame). m_bit (under K f.status)) h_is ∙ throw_m K (get_sr (cpu_of x)) ms.mask mb);
          two_stacks = rw k (sym (ap (λ (j : ℕ). bank_of j true true) g_kind) ∙ stk);
          m_set = ap (λ (q : View). q.m) w ∙ view_m G ∙ mg;
          top_at = ap (λ (f : NestFrame). f.at) h_is ∙ ap (λ (q : View). lower q.isp 8) (sym w) ∙ ap (λ (f : NestFrame). lower (view (regs_of (cpu_of x))).isp f.len) (sym h_is);
          under_at = ap (λ (f : NestFrame). f.at) n_is ∙ ap (λ (q : View). lower q.msp 8) (sym w) ∙ ap (λ (f : NestFrame). lower (view (regs_of (cpu_of x))).msp f.len) (sym n_is);
          view_is = view_of (cpu_of Z) ∙ ap view (z_stacks ∙ x2_stacks) ∙ view_both G M mset mg stk n.at h.at ∙ ap (λ (q : View). record { kind = q.kind; s = true; m = false; usp = q.usp; isp = h.at; msp = n.at }) (sym w);
        };
        outside = two_outside;
      }
    where
      g_kind : G.kind ≡ K
      g_kind = kind_of_lem (cpu_of x)

      kind_g : (view G).kind ≡ K
      kind_g = view_kind G ∙ g_kind
