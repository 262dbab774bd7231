-- An entry of one frame, whatever its frame: what lies in the store, A7, status and PC.
use Rattle.std.specs.Prelude.{ℕ, ◌+◌, ◌*◌, ◌%◌, ◌^◌, ◌≤◌, ◌<◌, ◌≡◌, Bool, false, cond, List, [], ◌∷◌}
use Rattle.std.proofs.Math.Path.{refl, sym, ap}
use Rattle.std.proofs.Common.{◌∙◌}
use Rattle.std.proofs.Math.Bool.{true}
use Rattle.std.proofs.Math.Option.{Option, none, some}
use native.Mathlib.Omega.{arith}
use Rattle.types.specs.Kinds.{mask_address}
use Rattle.cpu.specs.declared.Cpu.{Cpu}
use Rattle.cpu.specs.Fields.{kind_of, pc_of, vbr_of, a7_of, address_of, set_a7, set_pc, start_vector, minus32}
use Rattle.status.specs.Status.{get_sr}
use Rattle.memory.specs.World.{World, put_cpu, stored, cpu_of}
use Rattle.frames.specs.declared.Frame.{Frame}
use Rattle.steps.specs.Steps.{vector_address}
use Rattle.images.specs.Images.{Shape, Ready, Image, frame_bytes, new_a7}
use Rattle.images.specs.Jumps.{handler, vector_place}
use Rattle.forms.specs.Gist.{gist, gist_cpu, framed_by}
use Rattle.forms.specs.Jumps.{jumped}
use Rattle.forms.specs.Plans.{turned, stack_all, planned, AllReady, Clean}
use Rattle.forms.specs.Kept.{planned_pc}
use Rattle.nest.specs.View.{Regs, Store, View, set_top, with_sm, nonzero, view, peek}
use Rattle.nest.specs.Banks.{select, with_a7, up_a7, view_select, view_with_a7}
use Rattle.nest.specs.Laws.{lower}
use Rattle.nest.specs.Written.{long_at}
use Rattle.entered.specs.Pointers.{stacks_of, Fit}
use Rattle.entered.specs.Bytes.{mem, long_read, turned_mem, jumped_mem}
use Rattle.entered.specs.Heads.{framed_image}
use Rattle.entered.specs.One.{Enters, Keeps, one_of, turned_stacks, turned_fit, turned_kind, turned_gist, jumped_stacks, framed_stacks, framed_kind, top_of, lowers, stack_top}
use Rattle.manual.specs.Formats.{Field}
use Rattle.manual.specs.Cells.{part_of, read_at, in_frame, Cell, Holding, frame_back}
use Rattle.manual.specs.Statement.{Reads, Each}

no_some : {A : Type 0} (y : ℕ) → ◌≡◌ {A = Option ℕ} none (some y) → A
no_some y e = let z : ◌≡◌ {A = ℕ} 0 1 = cc in absurd (omega arith)

-- a cell that is not excluded
cell_value : (f : Frame) (t : Field) (b : Bool) (v : Option ℕ) (x : ℕ) → Cell f b v t → v ≡ some x → b ≡ false → part_of t.span (in_frame f t.offset t.long) ≡ some x
cell_value f t true v x c e h = let z : ◌≡◌ {A = ℕ} 0 1 = cc in absurd (omega arith)
cell_value f t false none x c e h = no_some x e
cell_value f t false (some y) x c e h = c ∙ e

-- what a frame holds is found, where what it holds is read
pub holding_found : (f : Frame) (out : Field → Bool) (P : Field → ℕ → Type 0) → ((t : Field) (x : ℕ) → part_of t.span (in_frame f t.offset t.long) ≡ some x → P t x)
    → (ts : List Field) → Holding f out ts → Each (λ t. (x : ℕ) → t.value ≡ some x → out t ≡ false → P t x) ts
holding_found f out P h [] c = tt
holding_found f out P h (t ∷ ts) c = (λ x e b. h t x (cell_value f t (out t) t.value x c.0 e b), holding_found f out P h ts c.1)

-- fields of a frame of 8 bytes
abbrev pub Within : List Field → Type 0
Within [] = Unit {0}
Within (t ∷ ts) = (t.offset + cond t.long 4 2 ≤ 8) × Within ts

pub holding_within : (f : Frame) (out : Field → Bool) (P : Field → ℕ → Type 0) → ((t : Field) (x : ℕ) → t.offset + cond t.long 4 2 ≤ 8 → part_of t.span (in_frame f t.offset t.long) ≡ some x → P t x)
    → (ts : List Field) → Holding f out ts → Within ts → Each (λ t. (x : ℕ) → t.value ≡ some x → out t ≡ false → P t x) ts
holding_within f out P h [] c w = tt
holding_within f out P h (t ∷ ts) c w = (λ x e b. h t x w.0 (cell_value f t (out t) t.value x c.0 e b), holding_within f out P h ts c.1 w.1)

-- a change that leaves the vector base and the kind
pub record Still (f : Cpu → Cpu) : Type 0 where
  pub vbr : (c : Cpu) → vbr_of (f c) ≡ vbr_of c
  pub kind : (c : Cpu) → kind_of (f c) ≡ kind_of c

-- the same three pointers
pub record Same3 (v u : View) : Type 0 where
  pub usp : v.usp ≡ u.usp
  pub isp : v.isp ≡ u.isp
  pub msp : v.msp ≡ u.msp

pub same_3 : (v u : View) → v ≡ u → Same3 v u
same_3 v u e = record { usp = ap (λ (z : View). z.usp) e; isp = ap (λ (z : View). z.isp) e; msp = ap (λ (z : View). z.msp) e }

pub trans_3 : (v u z : View) → Same3 v u → Same3 u z → Same3 v z
trans_3 v u z a b = record { usp = a.usp ∙ b.usp; isp = a.isp ∙ b.isp; msp = a.msp ∙ b.msp }

module _ (x : World) (turn settle close : Cpu → Cpu) (f : Frame) (v : ℕ) (fit : Fit (cpu_of x)) (en : Enters turn) (st : Still turn) (ss : Still settle)
    (sa : (c : Cpu) → (stacks_of (settle c)).a7 ≡ (stacks_of c).a7) (ke : Keeps close) (kp : (c : Cpu) → pc_of (close c) ≡ pc_of c) (kf : (c : Cpu) → get_sr (close c) ≡ get_sr c)
    (sh : Shape f) (cl : Clean x (one_of turn f settle v close)) where
  abbrev Y : World
  Y = turned x turn

  abbrev Z : World
  Z = planned x (one_of turn f settle v close)

  abbrev U : World
  U = turned (framed_by Y f) settle

  ready : Ready Y f
  unfolding AllReady
  ready = cl.stacks.0

  image : Image Y (framed_by Y f) f
  image = framed_image Y f (turned_gist x turn) sh ready

  y_stacks : stacks_of (cpu_of Y) ≡ select (stacks_of (cpu_of x)) 4 (cpu_of x).flags.m_flag
  y_stacks = turned_stacks x turn ∙ (en (cpu_of x) fit).stacks

  y_top : a7_of (cpu_of Y) ≡ stack_top (cpu_of x)
  unfolding stack_top stacks_of
  y_top = top_of (cpu_of Y) ∙ ap (λ (g : Regs). g.a7) y_stacks ∙ up_a7 (stacks_of (cpu_of x))

  y_kind : kind_of (cpu_of Y) ≡ kind_of (cpu_of x)
  y_kind = turned_kind x turn ∙ (en (cpu_of x) fit).kind

  z_mem : mem Z ≡ mem (framed_by Y f)
  unfolding planned stack_all
  z_mem = turned_mem (jumped U v) close ∙ jumped_mem U v ∙ turned_mem (framed_by Y f) settle

  z_a7 : a7_of (cpu_of Z) ≡ new_a7 Y f
  unfolding planned stack_all
  z_a7 =
      top_of (cpu_of Z) ∙ ap (λ (g : Regs). g.a7) (turned_stacks (jumped U v) close ∙ ke (cpu_of (jumped U v)) ∙ jumped_stacks U v ∙ turned_stacks (framed_by Y f) settle)
      ∙ sa (cpu_of (framed_by Y f)) ∙ sym (top_of (cpu_of (framed_by Y f))) ∙ image.a7

  -- A7
  pub one_pointer : frame_bytes f f.count ≤ 92 → a7_of (cpu_of Z) ≡ lower (stack_top (cpu_of x)) (frame_bytes f f.count)
  one_pointer l = z_a7 ∙ ap (λ (q : ℕ). minus32 q (frame_bytes f f.count)) y_top ∙ lowers (stack_top (cpu_of x)) (frame_bytes f f.count) l

  -- what the frame holds lies in the store
  pub one_reads : (t : Field) (n : ℕ) → part_of t.span (in_frame f t.offset t.long) ≡ some n → Reads (peek (mem Z)) (kind_of (cpu_of x)) (a7_of (cpu_of Z)) t n
  one_reads t n e =
      ap (λ (s : Store). part_of t.span (read_at (peek s) t.long (mask_address (kind_of (cpu_of x)) ((a7_of (cpu_of Z) + t.offset) % 0x100000000)))) z_mem
      ∙ ap (λ (q : ℕ). part_of t.span (read_at (peek (mem (framed_by Y f))) t.long (mask_address (kind_of (cpu_of x)) ((q + t.offset) % 0x100000000)))) z_a7
      ∙ ap (λ (k : ℕ). part_of t.span (read_at (peek (mem (framed_by Y f))) t.long (mask_address k ((new_a7 Y f + t.offset) % 0x100000000)))) (sym y_kind)
      ∙ frame_back Y f sh ready (framed_by Y f) image t n e

  -- the status is that with which the frame was pushed
  gist_status : (y : World) → get_sr (cpu_of (gist y)) ≡ get_sr (cpu_of y)
  unfolding gist gist_cpu get_sr
  gist_status y = refl

  jumped_status : (y : World) → get_sr (cpu_of (jumped y v)) ≡ get_sr (cpu_of y)
  unfolding jumped gist gist_cpu put_cpu set_pc start_vector get_sr
  jumped_status y = refl

  turned_status : (y : World) (g : Cpu → Cpu) → get_sr (cpu_of (turned y g)) ≡ get_sr (g (cpu_of y))
  unfolding turned gist gist_cpu put_cpu get_sr
  turned_status y g = refl

  framed_flags : (cpu_of (framed_by Y f)).flags ≡ (turn (cpu_of x)).flags
  unfolding framed_by stored put_cpu set_a7 turned gist gist_cpu
  framed_flags = refl

  pub one_status : ((c d : Cpu) → c.flags ≡ d.flags → get_sr (settle c) ≡ get_sr (settle d)) → get_sr (cpu_of Z) ≡ get_sr (settle (turn (cpu_of x)))
  unfolding planned stack_all
  one_status sf = turned_status (jumped U v) close ∙ kf (cpu_of (jumped U v)) ∙ jumped_status U ∙ turned_status (framed_by Y f) settle ∙ sf (cpu_of (framed_by Y f)) (turn (cpu_of x)) framed_flags

  u_vbr : vbr_of (cpu_of U) ≡ vbr_of (cpu_of x)
  unfolding turned framed_by gist gist_cpu put_cpu stored set_a7 vbr_of
  u_vbr = ss.vbr _ ∙ st.vbr (cpu_of x)

  u_kind : kind_of (cpu_of U) ≡ kind_of (cpu_of x)
  u_kind = turned_kind (framed_by Y f) settle ∙ ss.kind (cpu_of (framed_by Y f)) ∙ framed_kind Y f ∙ y_kind

  u_place : v < 256 → vector_place U v ≡ mask_address (kind_of (cpu_of x)) ((vbr_of (cpu_of x) + 4 * v) % 0x100000000)
  unfolding address_of vector_address kind_of vbr_of
  u_place l =
      ap (λ (k : ℕ). mask_address k ((v % 0x40000000 * 4 + vbr_of (cpu_of U)) % 2 ^ 32)) u_kind ∙ ap (λ (b : ℕ). mask_address (kind_of (cpu_of x)) ((v % 0x40000000 * 4 + b) % 2 ^ 32)) u_vbr
      ∙ ap (mask_address (kind_of (cpu_of x))) (sum (vbr_of (cpu_of x)))
    where
      sum : (b : ℕ) → (v % 0x40000000 * 4 + b) % 2 ^ 32 ≡ (b + 4 * v) % 0x100000000
      sum b = omega arith

  -- PC is the vector
  pub one_pc : v < 256 → long_at (peek (mem Z)) (mask_address (kind_of (cpu_of x)) ((vbr_of (cpu_of x) + 4 * v) % 0x100000000)) ≡ some (pc_of (cpu_of Z))
  unfolding planned stack_all
  one_pc l =
      ap (λ (s : Store). long_at (peek s) (mask_address (kind_of (cpu_of x)) ((vbr_of (cpu_of x) + 4 * v) % 0x100000000))) (turned_mem (jumped U v) close ∙ jumped_mem U v)
      ∙ ap (long_at (peek (mem U))) (sym (u_place l)) ∙ long_read U (vector_place U v) (handler U v) cl.reach.serves refl
      ∙ ap {B = Option ℕ} some (sym (planned_pc x (one_of turn f settle v close) kp))

  framed_all : stacks_of (cpu_of (framed_by Y f)) ≡ with_a7 (select (stacks_of (cpu_of x)) 4 (cpu_of x).flags.m_flag) (new_a7 Y f)
  framed_all = framed_stacks Y f (turned_fit x turn (en (cpu_of x) fit).fit) ∙ ap (λ (g : Regs). with_a7 g (new_a7 Y f)) y_stacks

  -- the three pointers: A7 on the stack selected
  pub one_stacks : ((c : Cpu) → stacks_of c ≡ with_a7 (select (stacks_of (cpu_of x)) 4 (cpu_of x).flags.m_flag) (new_a7 Y f) → kind_of c ≡ kind_of (cpu_of x) → Same3 (view (stacks_of (settle c))) (view (stacks_of c)))
      → Same3 (view (stacks_of (cpu_of Z))) (set_top (with_sm (view (stacks_of (cpu_of x))) true (nonzero (cpu_of x).flags.m_flag)) (a7_of (cpu_of Z)))
  unfolding planned stack_all
  one_stacks sv =
      trans_3 _ _ _
      (same_3 _ _ (ap view (turned_stacks (jumped U v) close ∙ ke (cpu_of (jumped U v)) ∙ jumped_stacks U v ∙ turned_stacks (framed_by Y f) settle)))
      (trans_3 _ _ _ (sv (cpu_of (framed_by Y f)) framed_all (framed_kind Y f ∙ y_kind))
      (same_3 _ _ (ap view framed_all ∙ view_with_a7 (select (stacks_of (cpu_of x)) 4 (cpu_of x).flags.m_flag) (new_a7 Y f)
      ∙ ap (λ (g : View). set_top g (new_a7 Y f)) (view_select (stacks_of (cpu_of x)) 4 (cpu_of x).flags.m_flag)
      ∙ ap (λ (q : ℕ). set_top (with_sm (view (stacks_of (cpu_of x))) true (nonzero (cpu_of x).flags.m_flag)) q) (sym z_a7))))
