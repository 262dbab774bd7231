-- An interrupt in the master state: two frames. What lies at A7, A7, status and PC.
use Rattle.std.specs.Prelude.{ℕ, ◌+◌, ◌*◌, ◌%◌, ◌^◌, ◌≤◌, ◌<◌, ◌≡◌, false, cond, []}
use Rattle.std.proofs.Math.Path.{refl, sym, ap}
use Rattle.std.proofs.Common.{◌∙◌, inl, inr}
use Rattle.std.proofs.Math.Bool.{true}
use Rattle.std.proofs.Math.Option.{Option, some}
use native.Mathlib.Omega.{arith}
use Rattle.types.specs.Kinds.{mask_address}
use Rattle.cpu.specs.declared.Cpu.{Cpu}
use Rattle.cpu.specs.Fields.{kind_of, pc_of, vbr_of, a7_of, address_of, set_a7, set_pc, start_vector, minus32}
use Rattle.status.specs.Status.{get_sr}
use Rattle.status.specs.Banks.{backup_sp, restore_sp, set_sm_flag_nosp, set_sm_flag}
use Rattle.memory.specs.World.{World, put_cpu, stored, cpu_of}
use Rattle.memory.specs.Runs.{Outside}
use Rattle.frames.specs.declared.Frame.{Frame}
use Rattle.steps.specs.Steps.{vector_address}
use Rattle.images.specs.Images.{Shape, Ready, Image, frame_bytes, new_a7, bottom}
use Rattle.images.specs.Jumps.{handler, vector_place}
use Rattle.forms.specs.Gist.{gist, gist_cpu, framed_by}
use Rattle.forms.specs.Jumps.{jumped}
use Rattle.forms.specs.Plans.{turned, stack_all, planned, AllReady, Clean, same}
use Rattle.forms.specs.Kept.{planned_pc}
use Rattle.nest.specs.View.{Regs, Store, View, Bank, master, bank_of, set_ptr, set_top, top, with_sm, nonzero, view, peek}
use Rattle.nest.specs.Reading.{view_a7, view_kind}
use Rattle.nest.specs.Banks.{select, with_a7, view_select, view_with_a7}
use Rattle.nest.specs.Written.{long_at}
use Rattle.entered.specs.Pointers.{stacks_of, Fit, leave_stacks, leave_fit}
use Rattle.entered.specs.Bytes.{mem, long_read, turned_mem, jumped_mem, same_peek}
use Rattle.entered.specs.Heads.{framed_image}
use Rattle.entered.specs.One.{Enters, Keeps, turned_stacks, turned_fit, turned_kind, turned_gist, jumped_stacks, framed_stacks, framed_fit, framed_kind, top_of}
use Rattle.entered.specs.Two.{two_of}
use Rattle.manual.specs.Formats.{Field}
use Rattle.manual.specs.Cells.{part_of, read_at, in_frame, frame_back, frame_at, read_same}
use Rattle.manual.specs.Statement.{Reads, Apart}
use Rattle.manual.specs.Single.{Still}

leave_kind : (c : Cpu) → kind_of (set_sm_flag c 4) ≡ kind_of c
unfolding set_sm_flag restore_sp set_sm_flag_nosp backup_sp kind_of
leave_kind c = refl

leave_vbr : (c : Cpu) → vbr_of (set_sm_flag c 4) ≡ vbr_of c
unfolding set_sm_flag restore_sp set_sm_flag_nosp backup_sp vbr_of
leave_vbr c = refl

-- to leave the master stack for the interrupt stack
module _ (g : Regs) (m p : ℕ) (mset : nonzero m ≡ true) (stk : bank_of g.kind true true ≡ master) where
  master_bank : bank_of (view g).kind true true ≡ master
  master_bank = rw (view_kind g) stk

  view_pushed : view (with_a7 (select g 4 m) p) ≡ record { kind = (view g).kind; s = true; m = true; usp = (view g).usp; isp = (view g).isp; msp = p }
  view_pushed =
      view_with_a7 (select g 4 m) p ∙ ap (λ (v : View). set_top v p) (view_select g 4 m ∙ ap (with_sm (view g) true) mset)
      ∙ ap (λ (B : Bank). set_ptr (with_sm (view g) true true) B p) master_bank

  left_top : (select (with_a7 (select g 4 m) p) 4 0).a7 ≡ (view g).isp
  left_top =
      sym (view_a7 (select (with_a7 (select g 4 m) p) 4 0)) ∙ ap top (view_select (with_a7 (select g 4 m) p) 4 0)
      ∙ ap (λ (v : View). top (with_sm v true false)) view_pushed

module _ (x : World) (turn close : Cpu → Cpu) (f h : Frame) (v : ℕ) (fit : Fit (cpu_of x)) (en : Enters turn) (st : Still turn) (ke : Keeps close) (kp : (c : Cpu) → pc_of (close c) ≡ pc_of c)
    (kf : (c : Cpu) → get_sr (close c) ≡ get_sr c) (sf : Shape f) (sh : Shape h) (mset : nonzero (cpu_of x).flags.m_flag ≡ true) (stk : bank_of (kind_of (cpu_of x)) true true ≡ master)
    (cl : Clean x (two_of turn f h v close)) where
  abbrev Y : World
  Y = turned x turn

  abbrev X : World
  X = framed_by Y f

  abbrev R : World
  R = turned X (λ d. set_sm_flag d 4)

  abbrev Q : World
  Q = framed_by R h

  abbrev U : World
  U = turned Q same

  abbrev Z : World
  Z = planned x (two_of turn f h v close)

  ready : Ready R h
  unfolding AllReady
  ready = cl.stacks.1.0

  image : Image R Q h
  image = framed_image R h (turned_gist X (λ d. set_sm_flag d 4)) sh ready

  fit_x_lem : Fit (cpu_of X)
  fit_x_lem = framed_fit Y f (turned_fit x turn (en (cpu_of x) fit).fit)

  x_stacks : stacks_of (cpu_of X) ≡ with_a7 (select (stacks_of (cpu_of x)) 4 (cpu_of x).flags.m_flag) (new_a7 Y f)
  x_stacks = framed_stacks Y f (turned_fit x turn (en (cpu_of x) fit).fit) ∙ ap (λ (g : Regs). with_a7 g (new_a7 Y f)) (turned_stacks x turn ∙ (en (cpu_of x) fit).stacks)

  kind_of_lem : (stacks_of (cpu_of x)).kind ≡ kind_of (cpu_of x)
  unfolding stacks_of
  kind_of_lem = refl

  v_top : a7_of (cpu_of R) ≡ (view (stacks_of (cpu_of x))).isp
  v_top =
      top_of (cpu_of R) ∙ ap (λ (g : Regs). g.a7) (turned_stacks X (λ d. set_sm_flag d 4) ∙ leave_stacks (cpu_of X) fit_x_lem ∙ ap (λ (g : Regs). select g 4 0) x_stacks)
      ∙ left_top (stacks_of (cpu_of x)) (cpu_of x).flags.m_flag (new_a7 Y f) mset (ap (λ (k : ℕ). bank_of k true true) kind_of_lem ∙ stk)

  v_kind : kind_of (cpu_of R) ≡ kind_of (cpu_of x)
  v_kind = turned_kind X (λ d. set_sm_flag d 4) ∙ leave_kind (cpu_of X) ∙ framed_kind Y f ∙ turned_kind x turn ∙ (en (cpu_of x) fit).kind

  z_mem : mem Z ≡ mem Q
  unfolding planned stack_all
  z_mem = turned_mem (jumped U v) close ∙ jumped_mem U v ∙ turned_mem Q same

  z_a7 : a7_of (cpu_of Z) ≡ new_a7 R h
  unfolding planned stack_all
  z_a7 =
      top_of (cpu_of Z) ∙ ap (λ (g : Regs). g.a7) (turned_stacks (jumped U v) close ∙ ke (cpu_of (jumped U v)) ∙ jumped_stacks U v ∙ turned_stacks Q same)
      ∙ sym (top_of (cpu_of Q)) ∙ image.a7

  pub two_pointer : a7_of (cpu_of Z) ≡ minus32 (view (stacks_of (cpu_of x))).isp (frame_bytes h h.count)
  two_pointer = z_a7 ∙ ap (λ (q : ℕ). minus32 q (frame_bytes h h.count)) v_top

  pub two_reads : (t : Field) (n : ℕ) → part_of t.span (in_frame h t.offset t.long) ≡ some n → Reads (peek (mem Z)) (kind_of (cpu_of x)) (a7_of (cpu_of Z)) t n
  two_reads t n e =
      ap (λ (s : Store). part_of t.span (read_at (peek s) t.long (mask_address (kind_of (cpu_of x)) ((a7_of (cpu_of Z) + t.offset) % 0x100000000)))) z_mem
      ∙ ap (λ (q : ℕ). part_of t.span (read_at (peek (mem Q)) t.long (mask_address (kind_of (cpu_of x)) ((q + t.offset) % 0x100000000)))) z_a7
      ∙ ap (λ (k : ℕ). part_of t.span (read_at (peek (mem Q)) t.long (mask_address k ((new_a7 R h + t.offset) % 0x100000000)))) (sym v_kind)
      ∙ frame_back R h sh ready Q image t n e

  z_status : get_sr (cpu_of Z) ≡ get_sr (cpu_of (jumped U v))
  unfolding planned stack_all turned gist gist_cpu put_cpu get_sr
  z_status = kf (cpu_of (jumped U v))

  leaves : get_sr (cpu_of (jumped U v)) ≡ get_sr (set_sm_flag_nosp (turn (cpu_of x)) 4)
  unfolding jumped turned framed_by gist gist_cpu put_cpu stored set_a7 set_pc start_vector set_sm_flag restore_sp set_sm_flag_nosp backup_sp get_sr
  leaves = refl

  -- the status is that with which the frame was pushed, M cleared
  pub two_status : get_sr (cpu_of Z) ≡ get_sr (set_sm_flag_nosp (turn (cpu_of x)) 4)
  two_status = z_status ∙ leaves

  u_vbr : vbr_of (cpu_of U) ≡ vbr_of (cpu_of x)
  unfolding turned framed_by gist gist_cpu put_cpu stored set_a7 vbr_of
  u_vbr = leave_vbr _ ∙ st.vbr (cpu_of x)

  u_kind : kind_of (cpu_of U) ≡ kind_of (cpu_of x)
  u_kind = turned_kind Q same ∙ framed_kind R h ∙ v_kind

  u_place : v < 256 → vector_place U v ≡ mask_address (kind_of (cpu_of x)) ((vbr_of (cpu_of x) + 4 * v) % 0x100000000)
  unfolding address_of vector_address kind_of vbr_of
  u_place l =
      ap (λ (k : ℕ). mask_address k ((v % 0x40000000 * 4 + vbr_of (cpu_of U)) % 2 ^ 32)) u_kind ∙ ap (λ (b : ℕ). mask_address (kind_of (cpu_of x)) ((v % 0x40000000 * 4 + b) % 2 ^ 32)) u_vbr
      ∙ ap (mask_address (kind_of (cpu_of x))) (sum (vbr_of (cpu_of x)))
    where
      sum : (b : ℕ) → (v % 0x40000000 * 4 + b) % 2 ^ 32 ≡ (b + 4 * v) % 0x100000000
      sum b = omega arith

  pub two_pc : v < 256 → long_at (peek (mem Z)) (mask_address (kind_of (cpu_of x)) ((vbr_of (cpu_of x) + 4 * v) % 0x100000000)) ≡ some (pc_of (cpu_of Z))
  unfolding planned stack_all
  two_pc l =
      ap (λ (s : Store). long_at (peek s) (mask_address (kind_of (cpu_of x)) ((vbr_of (cpu_of x) + 4 * v) % 0x100000000))) (turned_mem (jumped U v) close ∙ jumped_mem U v)
      ∙ ap (long_at (peek (mem U))) (sym (u_place l)) ∙ long_read U (vector_place U v) (handler U v) cl.reach.serves refl
      ∙ ap {B = Option ℕ} some (sym (planned_pc x (two_of turn f h v close) kp))

  -- the first frame, where the second shares no byte with it
  ready_1 : Ready Y f
  unfolding AllReady
  ready_1 = cl.stacks.0

  image_1 : Image Y X f
  image_1 = framed_image Y f (turned_gist x turn) sf ready_1

  y_kind : kind_of (cpu_of Y) ≡ kind_of (cpu_of x)
  y_kind = turned_kind x turn ∙ (en (cpu_of x) fit).kind

  pub two_under : frame_bytes h h.count ≡ 8 → (p : ℕ) → p ≡ new_a7 Y f → Apart (kind_of (cpu_of x)) (a7_of (cpu_of Z)) p
      → (t : Field) (n : ℕ) → t.offset + cond t.long 4 2 ≤ 8 → part_of t.span (in_frame f t.offset t.long) ≡ some n → Reads (peek (mem Z)) (kind_of (cpu_of x)) p t n
  two_under eight p pe part t n l e =
      let v = frame_at Y f sf ready_1 X image_1 t n e in
      ap (λ (q : ℕ). part_of t.span (read_at (peek (mem Z)) t.long (mask_address (kind_of (cpu_of x)) ((q + t.offset) % 0x100000000)))) pe
      ∙ ap (λ (k : ℕ). part_of t.span (read_at (peek (mem Z)) t.long (mask_address k ((new_a7 Y f + t.offset) % 0x100000000)))) (sym y_kind)
      ∙ ap (λ (a : ℕ). part_of t.span (read_at (peek (mem Z)) t.long a)) v.1
      ∙ ap (part_of t.span) (read_same (peek (mem Z)) (peek (mem X)) t.long (bottom Y f + t.offset) same_bytes) ∙ v.0
    where
      upper : mask_address (kind_of (cpu_of x)) (a7_of (cpu_of Z)) ≡ bottom R h
      upper = ap (mask_address (kind_of (cpu_of x))) z_a7 ∙ ap (λ (k : ℕ). mask_address k (new_a7 R h)) (sym v_kind)

      lower_one : mask_address (kind_of (cpu_of x)) p ≡ bottom Y f
      lower_one = ap (mask_address (kind_of (cpu_of x))) pe ∙ ap (λ (k : ℕ). mask_address k (new_a7 Y f)) (sym y_kind)

      out : (j : ℕ) → j < cond t.long 4 2 → Apart (kind_of (cpu_of x)) (a7_of (cpu_of Z)) p → Outside (bottom R h) (frame_bytes h h.count) (bottom Y f + t.offset + j)
      out j m (inl q) = inr (omega (arith, eight, upper, lower_one))
      out j m (inr q) = inl (omega (arith, eight, upper, lower_one))

      same_bytes : (j : ℕ) → j < cond t.long 4 2 → peek (mem Z) (bottom Y f + t.offset + j) ≡ peek (mem X) (bottom Y f + t.offset + j)
      same_bytes j m =
          ap (λ (s : Store). peek s (bottom Y f + t.offset + j)) z_mem ∙ same_peek R Q (bottom Y f + t.offset + j) image.bus image.size (image.others (bottom Y f + t.offset + j) (out j m part))
          ∙ ap (λ (s : Store). peek s (bottom Y f + t.offset + j)) (turned_mem X (λ d. set_sm_flag d 4))

  fit_r : Fit (cpu_of R)
  fit_r = turned_fit X (λ d. set_sm_flag d 4) (leave_fit (cpu_of X) fit_x_lem)

  q_stacks : stacks_of (cpu_of Q) ≡ with_a7 (select (with_a7 (select (stacks_of (cpu_of x)) 4 (cpu_of x).flags.m_flag) (new_a7 Y f)) 4 0) (new_a7 R h)
  q_stacks =
      framed_stacks R h fit_r ∙ ap (λ (g : Regs). with_a7 g (new_a7 R h)) (turned_stacks X (λ d. set_sm_flag d 4) ∙ leave_stacks (cpu_of X) fit_x_lem ∙ ap (λ (g : Regs). select g 4 0) x_stacks)

  -- the three pointers
  pub two_stacks_lem : view (stacks_of (cpu_of Z)) ≡ record { kind = (view (stacks_of (cpu_of x))).kind; s = true; m = false; usp = (view (stacks_of (cpu_of x))).usp; isp = new_a7 R h; msp = new_a7 Y f }
  unfolding planned stack_all
  two_stacks_lem =
      let g : Regs = with_a7 (select (stacks_of (cpu_of x)) 4 (cpu_of x).flags.m_flag) (new_a7 Y f) in
      ap view (turned_stacks (jumped U v) close ∙ ke (cpu_of (jumped U v)) ∙ jumped_stacks U v ∙ turned_stacks Q same ∙ q_stacks)
      ∙ view_with_a7 (select (with_a7 (select (stacks_of (cpu_of x)) 4 (cpu_of x).flags.m_flag) (new_a7 Y f)) 4 0) (new_a7 R h)
      ∙ ap (λ (u : View). set_top u (new_a7 R h)) (view_select (with_a7 (select (stacks_of (cpu_of x)) 4 (cpu_of x).flags.m_flag) (new_a7 Y f)) 4 0)
      ∙ ap (λ (u : View). set_top (with_sm u true false) (new_a7 R h)) (view_pushed (stacks_of (cpu_of x)) (cpu_of x).flags.m_flag (new_a7 Y f) mset (ap (λ (k : ℕ). bank_of k true true) kind_of_lem ∙ stk))

  pub two_a7 : a7_of (cpu_of Z) ≡ new_a7 R h
  two_a7 = z_a7
