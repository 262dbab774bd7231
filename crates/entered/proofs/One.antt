-- Theorems about what specs/One defines, and what rests on them.
use Rattle.std.specs.Prelude.{ℕ, ◌+◌, ◌/◌, ◌≤◌, ◌≡◌, Bool, [], ◌∷◌, eqb, length}
use Rattle.std.proofs.Math.Path.{refl, sym, ap}
use Rattle.std.proofs.Common.{◌∙◌, subst}
use Rattle.std.proofs.Math.Bool.{true, false}
use Rattle.cpu.specs.declared.Cpu.{Cpu}
use Rattle.cpu.specs.Fields.{kind_of, a7_of, minus32}
use Rattle.status.specs.Status.{get_sr}
use Rattle.memory.specs.World.{World, cpu_of}
use Rattle.frames.specs.declared.Frame.{Frame}
use Rattle.images.specs.Images.{Ready, Image, new_a7}
use Rattle.forms.specs.Gist.{framed_by}
use Rattle.forms.specs.Jumps.{jumped}
use Rattle.forms.specs.Plans.{turned, stack_all, planned, AllReady, Clean}
use Rattle.nest.specs.View.{Frame as NestFrame}
use Rattle.nest.specs.View.{Regs, Store, peek, addr, span, bank_of, View, top, set_top, with_sm, nonzero, view}
use Rattle.nest.specs.Nest.{Holds}
use Rattle.nest.specs.Laws.{lower, Pushed, Shape, EntryOne}
use Rattle.nest.specs.Reading.{view_kind, view_m}
use Rattle.nest.specs.Banks.{select, with_a7, with_flags, view_select, view_with_a7, up_a7}
use Rattle.entered.specs.Pointers.{regs_of, stacks_of, view_of, Fit}
use Rattle.entered.specs.Bytes.{mem, turned_mem, jumped_mem}
use Rattle.entered.specs.Heads.{Heads, framed_image, frame_pushed, frame_outside}
use Rattle.entered.specs.One.{Enters, Keeps, turned_stacks, turned_fit, turned_kind, turned_gist, jumped_stacks, framed_stacks, top_of, lowers, stack_top, status_of, cleared_view, one_of}

module _ (x : World) (turn settle close : Cpu → Cpu) (f : Frame) (v : ℕ) (n : NestFrame) (fit : Fit (cpu_of x)) (en : Enters turn) (ke : Keeps close)
    (hd : Heads (kind_of (cpu_of x)) f n.len n.status n.address n.word) (sh : Shape (kind_of (cpu_of x)) n) (pl : eqb (n.word / 0x1000) 1 ≡ false)
    (st : n.status ≡ get_sr (cpu_of x)) (at : n.at ≡ lower (stack_top (cpu_of x)) n.len) (below : addr (kind_of (cpu_of x)) n.at 0 + n.len ≤ span (kind_of (cpu_of x)))
    (cl : Clean x (one_of turn f settle v close)) where
  abbrev Y : World
  Y = turned x turn

  abbrev Z : World
  Z = planned x (one_of turn f settle v close)

  abbrev G : Regs
  G = stacks_of (cpu_of x)

  ready : Ready Y f
  unfolding AllReady
  ready = cl.stacks.0

  y_stacks : stacks_of (cpu_of Y) ≡ select G 4 (cpu_of x).flags.m_flag
  y_stacks = turned_stacks x turn ∙ (en (cpu_of x) fit).stacks

  y_top : a7_of (cpu_of Y) ≡ stack_top (cpu_of x)
  unfolding stack_top stacks_of
  y_top = top_of (cpu_of Y) ∙ ap (λ (g : Regs). g.a7) y_stacks ∙ up_a7 G

  at_new : n.at ≡ new_a7 Y f
  at_new = at ∙ sym (lowers (stack_top (cpu_of x)) n.len sh.small_len) ∙ ap (λ (q : ℕ). minus32 q n.len) (sym y_top) ∙ ap (λ (l : ℕ). minus32 (a7_of (cpu_of Y)) l) (sym hd.length)

  y_kind : kind_of (cpu_of Y) ≡ kind_of (cpu_of x)
  y_kind = turned_kind x turn ∙ (en (cpu_of x) fit).kind

  image : Image Y (framed_by Y f) f
  image = framed_image Y f (turned_gist x turn) hd.shape ready

  -- the bytes at the end are those after the frame
  z_mem : mem Z ≡ mem (framed_by Y f)
  unfolding planned stack_all
  z_mem = turned_mem (jumped (turned (framed_by Y f) settle) v) close ∙ jumped_mem (turned (framed_by Y f) settle) v ∙ turned_mem (framed_by Y f) settle

  z_pushed : Pushed (kind_of (cpu_of x)) (peek (mem Z)) n
  z_pushed = subst (λ (s : Store). Pushed (kind_of (cpu_of x)) (peek s) n) (sym z_mem) (frame_pushed Y f ready (framed_by Y f) image (kind_of (cpu_of x)) y_kind n hd at_new below)

  pub one_outside : (a : ℕ) → (Holds (kind_of (cpu_of x)) (n ∷ []) a → ⊥) → peek (mem Z) a ≡ peek (mem x) a
  one_outside a o =
      ap (λ (s : Store). peek s a) z_mem ∙ frame_outside Y f ready (framed_by Y f) image (kind_of (cpu_of x)) y_kind n hd at_new below a o
      ∙ ap (λ (s : Store). peek s a) (turned_mem x turn)

  -- the stacks at the end
  z_stacks : stacks_of (cpu_of Z) ≡ stacks_of (settle (cpu_of (framed_by Y f)))
  unfolding planned stack_all
  z_stacks = turned_stacks (jumped (turned (framed_by Y f) settle) v) close ∙ ke (cpu_of (jumped (turned (framed_by Y f) settle) v)) ∙ jumped_stacks (turned (framed_by Y f) settle) v ∙ turned_stacks (framed_by Y f) settle

  y_framed : stacks_of (cpu_of (framed_by Y f)) ≡ with_a7 (select G 4 (cpu_of x).flags.m_flag) n.at
  y_framed = framed_stacks Y f (turned_fit x turn (en (cpu_of x) fit).fit) ∙ ap (λ (g : Regs). with_a7 g (new_a7 Y f)) y_stacks ∙ ap (λ (q : ℕ). with_a7 (select G 4 (cpu_of x).flags.m_flag) q) (sym at_new)

  framed_view : view (with_a7 (select G 4 (cpu_of x).flags.m_flag) n.at) ≡ set_top (with_sm (view G) true (nonzero (cpu_of x).flags.m_flag)) n.at
  framed_view = view_with_a7 (select G 4 (cpu_of x).flags.m_flag) n.at ∙ ap (λ (u : View). set_top u n.at) (view_select G 4 (cpu_of x).flags.m_flag)

  entry : (m' : Bool) → bank_of (kind_of (cpu_of x)) true m' ≡ bank_of (kind_of (cpu_of x)) true (nonzero (cpu_of x).flags.m_flag) → view (stacks_of (cpu_of Z)) ≡ set_top (with_sm (view G) true m') n.at
      → EntryOne (regs_of (cpu_of x)).status (view (regs_of (cpu_of x))) (view (regs_of (cpu_of Z))) (peek (mem Z)) n
  unfolding stack_top stacks_of
  entry m' b w =
      let k : (view (regs_of (cpu_of x))).kind ≡ kind_of (cpu_of x) = ap (λ (u : View). u.kind) (view_of (cpu_of x)) ∙ view_kind G in
      let m : (view (regs_of (cpu_of x))).m ≡ nonzero (cpu_of x).flags.m_flag = ap (λ (u : View). u.m) (view_of (cpu_of x)) ∙ view_m G in
      record {
        pushed = rw k z_pushed;
        shape = rw k sh;
        plain = pl;
        status_is = st ∙ sym (status_of (cpu_of x));
        m' = m';
        stays = rw (k, m) b;
        at_is = at ∙ ap (λ (u : View). lower (top (with_sm u true u.m)) n.len) (sym (view_of (cpu_of x)));
        view_is = view_of (cpu_of Z) ∙ w ∙ ap (λ (u : View). set_top (with_sm u true m') n.at) (sym (view_of (cpu_of x)));
      }

  -- M as before
  pub one_kept : Keeps settle → EntryOne (regs_of (cpu_of x)).status (view (regs_of (cpu_of x))) (view (regs_of (cpu_of Z))) (peek (mem Z)) n
  one_kept s = entry (nonzero (cpu_of x).flags.m_flag) refl (ap view (z_stacks ∙ s (cpu_of (framed_by Y f)) ∙ y_framed) ∙ framed_view)

  -- M cleared where it selects no stack
  pub one_cleared : ((d : Cpu) → stacks_of (settle d) ≡ with_flags (stacks_of d) (stacks_of d).sflag 0) → bank_of (kind_of (cpu_of x)) true false ≡ bank_of (kind_of (cpu_of x)) true (nonzero (cpu_of x).flags.m_flag)
      → EntryOne (regs_of (cpu_of x)).status (view (regs_of (cpu_of x))) (view (regs_of (cpu_of Z))) (peek (mem Z)) n
  unfolding stacks_of
  one_cleared s b =
      entry false b
      (ap view (z_stacks ∙ s (cpu_of (framed_by Y f)) ∙ ap (λ (g : Regs). with_flags g g.sflag 0) y_framed)
      ∙ cleared_view G (cpu_of x).flags.m_flag n.at (kind_of (cpu_of x)) refl b)
