-- A return on the record, as `unwind` has it (`take_frame`, `back`), and as the nest sees it (`settle`, `back`); and what it leaves.
use Prim.Native.Nat.{ℕ, ◌+◌, ◌-◌, ◌/◌, ◌%◌, ◌^◌, ◌<◌}
use Rattle.std.proofs.Math.Path.{◌≡◌, refl, sym, ap}
use Rattle.std.proofs.Common.{◌∙◌, subst, inl, inr, length-set, get_or-set_same}
use Rattle.std.specs.Prelude.{◌⊎◌, Bool, List, get_or}
use Rattle.std.proofs.Math.Bool.{true, false, cond}
use Rattle.std.proofs.Math.Option.{Option, none, some}
use native.Mathlib.Omega.{arith}
use Rattle.std.proofs.Math.Dec.{eqb}
use Rattle.types.specs.Kinds.{pick, mask_status, is_prefetch_kind}
use Rattle.types.specs.Tables.{frame_length}
use Rattle.cpu.specs.declared.Cpu.{Cpu}
use Rattle.cpu.specs.Fields.{kind_of, pc_of, ppc_of, vbr_of, a7_of, checks_alignment, has_fc_override, fc_override_of, set_a7, set_pc}
use Rattle.cpu.specs.Clocks.{clear_prefetch}
use Rattle.status.specs.Status.{get_sr, decompose, s_of, m_of, put_back_sr}
use Rattle.status.specs.Banks.{sp_index, backup_sp, restore_sp}
use Rattle.refusals.specs.Refusals.{odd_base, bad_code}
use Rattle.memory.specs.declared.Bus.{Bus}
use Rattle.memory.specs.ByteLaws.{AllBytes}
use Rattle.unwind.specs.Models.{Frame}
use Rattle.unwind.specs.declared.returns.Row.{Row}
use Rattle.unwind.specs.Models.{Back}
use Rattle.unwind.specs.Frames.{Sight, sight, byte_of, word_of, long_of, head_of, refused_frame, taken_frame, sized_frame, format_frame, odd_pointer, all_served, frame_of}
use Rattle.unwind.specs.Returns.{in_user, raise_a7, swap_sr, take_frame, row_of, refused_back, done_back, second_back, first_back, back}
use Rattle.unwind.proofs.Laws.{take_status}
use Rattle.nest.specs.View.{Regs, Bytes, peek, wrap, under, s_bit, m_bit, nonzero, View, view, top, opt, Taken, settle, frame, last, second}
use Rattle.nest.specs.View.{Row as NestRow, Back as NestBack, back as nest_back}
use Rattle.nest.specs.Reading.{view_kind, view_a7, view_s}
use Rattle.nest.specs.Banks.{bank_g, save, loaded, select, with_a7, with_flags, view_settle}
use Rattle.nest.specs.Settled.{frame_settled}
use Rattle.entered.specs.Pointers.{regs_of, stacks_of, view_of, Fit, backup_stacks, restore_stacks, backup_fit, restore_fit, top_of, move_stacks, move_fit}
use Rattle.entered.specs.Bytes.{mem_of}
use Rattle.entered.specs.Machines.{Room, Passes, flags_accepted}
use Rattle.entered.specs.Entered.{Inside}
use Rattle.entered.proofs.Entered.{kind_regs}
use Rattle.entered.specs.Flags.{masked, flag_s, flag_m, bit_flag}
use Rattle.forms.specs.Tests.{set_small}
use Rattle.rule3.specs.Seen.{frame_is, frame_of_lem}

never : {A B : Type 0} (t : B) → ◌≡◌ {A = Option B} none (some t) → A
never t e = let z : ◌≡◌ {A = ℕ} 0 1 = cc in absurd (omega arith)

-- ---- one frame taken, and the stacks

put_fit : (c : Cpu) (sr : ℕ) → Fit c → Fit (put_back_sr c sr)
unfolding put_back_sr decompose
put_fit c sr h =
    record {
      registers = h.registers;
      pointers = h.pointers;
      s_is_lem = bit_flag (mask_status (kind_of c) sr / 0x2000 % 2) 4 (omega arith);
      m_is_lem = bit_flag (mask_status (kind_of c) sr / 0x1000 % 2) 2 (omega arith);
    }

put_stacks : (c : Cpu) (sr : ℕ) → stacks_of (put_back_sr (backup_sp c) sr) ≡ with_flags (stacks_of (backup_sp c)) (s_of (mask_status (kind_of c) sr)) (m_of (mask_status (kind_of c) sr))
unfolding put_back_sr decompose stacks_of kind_of a7_of backup_sp
put_stacks c sr = refl

swap_stacks : (c : Cpu) (sr : ℕ) → Fit c → stacks_of (swap_sr c sr) ≡ select (stacks_of c) (s_of (mask_status (kind_of c) sr)) (m_of (mask_status (kind_of c) sr))
unfolding swap_sr select
swap_stacks c sr h =
    restore_stacks (put_back_sr (backup_sp c) sr) (put_fit (backup_sp c) sr (backup_fit c h))
    ∙ ap loaded (put_stacks c sr ∙ ap (λ (g : Regs). with_flags g (s_of (mask_status (kind_of c) sr)) (m_of (mask_status (kind_of c) sr))) (backup_stacks c h ∙ ap (λ (q : ℕ). save (stacks_of c) (bank_g (stacks_of c)) q) (sym (top_of c))))

rest_stacks : (c : Cpu) (pc : ℕ) → stacks_of (clear_prefetch (set_pc c pc)) ≡ stacks_of c
unfolding clear_prefetch set_pc stacks_of kind_of a7_of
rest_stacks c pc = refl

raise_kind : (c : Cpu) (n : ℕ) → kind_of (raise_a7 c n) ≡ kind_of c
unfolding raise_a7 set_a7 kind_of
raise_kind c n = refl

kind_stacks : (c : Cpu) → (stacks_of c).kind ≡ kind_of c
unfolding stacks_of
kind_stacks c = refl

raise_stacks : (c : Cpu) (n : ℕ) → Fit c → stacks_of (raise_a7 c n) ≡ with_a7 (stacks_of c) (wrap ((stacks_of c).a7 + n))
unfolding raise_a7
raise_stacks c n h = move_stacks c ((a7_of c + n) % 2 ^ 32) h ∙ ap (λ (q : ℕ). with_a7 (stacks_of c) (wrap (q + n))) (sym (top_of c))

raise_fit : (c : Cpu) (n : ℕ) → Fit c → Fit (raise_a7 c n)
unfolding raise_a7
raise_fit c n h = move_fit c ((a7_of c + n) % 2 ^ 32) h

take_stacks : (c : Cpu) (f : Frame) → Fit c → stacks_of (take_frame c f) ≡ select (with_a7 (stacks_of c) (wrap ((stacks_of c).a7 + f.size))) (s_of (mask_status (kind_of c) f.status)) (m_of (mask_status (kind_of c) f.status))
unfolding take_frame
take_stacks c f h =
    rest_stacks (swap_sr (raise_a7 c f.size) f.status) f.address
    ∙ swap_stacks (raise_a7 c f.size) f.status (raise_fit c f.size h)
    ∙ (λ i. select (raise_stacks c f.size h i) (s_of (mask_status (raise_kind c f.size i) f.status)) (m_of (mask_status (raise_kind c f.size i) f.status)))

-- the view after it
pub take_view : (c : Cpu) (f : Frame) → Fit c → kind_of c < 12 → view (regs_of (take_frame c f)) ≡ settle (view (regs_of c)) f.size f.status
take_view c f h l =
    let m : mask_status (kind_of c) f.status ≡ under (stacks_of c).kind f.status = masked (kind_of c) f.status l ∙ ap (λ (k : ℕ). under k f.status) (sym (kind_stacks c)) in
    let z : ℕ = mask_status (kind_of c) f.status in
    view_of (take_frame c f) ∙ ap view (take_stacks c f h)
    ∙ view_settle (stacks_of c) f.size f.status (s_of z) (m_of z) (flag_s z ∙ ap s_bit m) (flag_m z ∙ ap m_bit m)
    ∙ ap (λ (v : View). settle v f.size f.status) (sym (view_of c))

clear_fit : (c : Cpu) (pc : ℕ) → Fit c → Fit (clear_prefetch (set_pc c pc))
unfolding clear_prefetch set_pc
clear_fit c pc h = record { registers = h.registers; pointers = h.pointers; s_is_lem = h.s_is_lem; m_is_lem = h.m_is_lem }

pub take_fit : (c : Cpu) (f : Frame) → Fit c → Fit (take_frame c f)
unfolding take_frame swap_sr
take_fit c f h =
    clear_fit (restore_sp (put_back_sr (backup_sp (raise_a7 c f.size)) f.status)) f.address
    (restore_fit (put_back_sr (backup_sp (raise_a7 c f.size)) f.status) (put_fit (backup_sp (raise_a7 c f.size)) f.status (backup_fit (raise_a7 c f.size) (raise_fit c f.size h))))

pub take_kind : (c : Cpu) (f : Frame) → kind_of (take_frame c f) ≡ kind_of c
unfolding take_frame swap_sr clear_prefetch set_pc restore_sp put_back_sr backup_sp raise_a7 set_a7 kind_of
take_kind c f = refl

take_pc : (c : Cpu) (f : Frame) → pc_of (take_frame c f) ≡ f.address
unfolding take_frame clear_prefetch set_pc pc_of
take_pc c f = refl

-- ---- what it leaves is accepted and inside the domain

pub take_passes : (c : Cpu) (f : Frame) (s : Room) → Passes c s → Fit c → Passes (take_frame c f) s
unfolding take_frame swap_sr clear_prefetch set_pc restore_sp put_back_sr decompose backup_sp raise_a7 set_a7 kind_of odd_base checks_alignment vbr_of bad_code has_fc_override fc_override_of
take_passes c f s p h =
    record {
      flags = flags_accepted (take_frame c f) (take_fit c f h).s_is_lem (take_fit c f h).m_is_lem;
      base = p.base;
      code = p.code;
      store = p.store;
      windows = p.windows;
      kind = p.kind;
    }

raise_inside : (c : Cpu) (n : ℕ) → Inside c → Inside (raise_a7 c n)
unfolding raise_a7 set_a7 a7_of kind_of pc_of ppc_of
raise_inside c n h =
    record {
      registers = simp length-set h.registers;
      pointers = h.pointers;
      a7 = rw (get_or-set_same c.regs.dar 15 ((get_or c.regs.dar 15 0 + n) % 2 ^ 32) 0 (omega (arith, h.registers))) (omega arith);
      saved = h.saved;
      pc = h.pc;
      ppc = h.ppc;
    }

backup_inside : (c : Cpu) → Inside c → Inside (backup_sp c)
unfolding backup_sp a7_of kind_of pc_of ppc_of
backup_inside c h =
    record {
      registers = h.registers;
      pointers = simp length-set h.pointers;
      a7 = h.a7;
      saved = set_small c.regs.sp (sp_index c) (get_or c.regs.dar 15 0) h.a7 h.saved;
      pc = h.pc;
      ppc = h.ppc;
    }

put_inside : (c : Cpu) (sr : ℕ) → Inside c → Inside (put_back_sr c sr)
unfolding put_back_sr a7_of kind_of pc_of ppc_of
put_inside c sr h = record { registers = h.registers; pointers = h.pointers; a7 = h.a7; saved = h.saved; pc = h.pc; ppc = h.ppc }

restore_inside : (c : Cpu) → Inside c → Inside (restore_sp c)
unfolding restore_sp a7_of kind_of pc_of ppc_of
restore_inside c h =
    record {
      registers = simp length-set h.registers;
      pointers = h.pointers;
      a7 = rw (get_or-set_same c.regs.dar 15 (get_or c.regs.sp (sp_index c) 0) 0 (omega (arith, h.registers))) (h.saved (sp_index c));
      saved = h.saved;
      pc = h.pc;
      ppc = h.ppc;
    }

jump_inside : (c : Cpu) (pc : ℕ) → (is_prefetch_kind (kind_of c) ≡ true → pc < 0x100000000) → Inside c → Inside (clear_prefetch (set_pc c pc))
unfolding clear_prefetch set_pc a7_of kind_of pc_of ppc_of
jump_inside c pc q h = record { registers = h.registers; pointers = h.pointers; a7 = h.a7; saved = h.saved; pc = q; ppc = h.ppc }

kind_swap : (c : Cpu) (n sr : ℕ) → kind_of (restore_sp (put_back_sr (backup_sp (raise_a7 c n)) sr)) ≡ kind_of c
unfolding restore_sp put_back_sr backup_sp raise_a7 set_a7 kind_of
kind_swap c n sr = refl

take_inside : (c : Cpu) (f : Frame) → (is_prefetch_kind (kind_of c) ≡ true → f.address < 0x100000000) → Inside c → Inside (take_frame c f)
unfolding take_frame swap_sr
take_inside c f q h =
    jump_inside (restore_sp (put_back_sr (backup_sp (raise_a7 c f.size)) f.status)) f.address (λ e. q (sym (ap is_prefetch_kind kinds) ∙ e))
    (restore_inside (put_back_sr (backup_sp (raise_a7 c f.size)) f.status) (put_inside (backup_sp (raise_a7 c f.size)) f.status (backup_inside (raise_a7 c f.size) (raise_inside c f.size h))))
  where
    kinds : kind_of (restore_sp (put_back_sr (backup_sp (raise_a7 c f.size)) f.status)) ≡ kind_of c
    kinds = kind_swap c f.size f.status

-- ---- the address of a frame is a long

module _ {A : Type 0} (P : A → Type 0) where
  by_pick : (b : Bool) (x y : A) → P x → P y → P (pick b x y)
  by_pick true x y p q = p
  by_pick false x y p q = q

abbrev Low : Frame → Type 0
Low f = f.address < 0x100000000

module _ (v : Sight) (p : ℕ) (h : AllBytes v.store) where
  byte_low : (i : ℕ) → byte_of v p i < 256
  unfolding byte_of
  byte_low i = h _

  word_low : (i : ℕ) → word_of v p i < 0x10000
  unfolding word_of
  word_low i = omega (arith, byte_low i, byte_low (i + 1))

  long_low : (i : ℕ) → long_of v p i < 0x100000000
  unfolding long_of
  long_low i = omega (arith, word_low i, word_low (i + 2))

  taken_low : (w n : ℕ) → Low (taken_frame v p w n)
  unfolding taken_frame
  taken_low w n = long_low 2

  refused_low : (n : ℕ) → Low (refused_frame n)
  unfolding refused_frame
  refused_low n = omega arith

  pub frame_low : (frame_of v p).address < 0x100000000
  unfolding frame_of format_frame sized_frame
  frame_low =
      by_pick Low (odd_pointer v.kind p) _ _ (refused_low 12)
      (by_pick Low (all_served v p (head_of v.kind)) _ _
      (by_pick Low (eqb v.kind 1) _ _ (taken_low 0 6)
      (by_pick Low (eqb (frame_length v.kind (word_of v p 6 / 0x1000)) 0) _ _ (refused_low 13)
      (by_pick Low (all_served v p (frame_length v.kind (word_of v p 6 / 0x1000))) _ _ (taken_low (word_of v p 6) (frame_length v.kind (word_of v p 6 / 0x1000))) (refused_low 12))))
      (refused_low 12))

-- the record that a return leaves, accepted or not, is inside the domain
module _ (k : ℕ) (bus : Bus) (store : List ℕ) (bytes : is_prefetch_kind k ≡ true → AllBytes store) where
  abbrev sees : Sight
  sees = sight k bus store

  abbrev In : Back → Type 0
  In x = Inside x.cpu

  in_refused : (c : Cpu) (n : ℕ) → Inside c → In (refused_back c n)
  unfolding refused_back
  in_refused c n h = h

  in_done : (c : Cpu) (n : ℕ) (f : Frame) → Inside (take_frame c f) → In (done_back c n f)
  unfolding done_back
  in_done c n f h = h

  in_taken : (c : Cpu) (p : ℕ) → kind_of c ≡ k → Inside c → Inside (take_frame c (frame_of sees p))
  in_taken c p e h = take_inside c (frame_of sees p) (λ q. frame_low sees p (bytes (sym (ap is_prefetch_kind e) ∙ q))) h

  pub back_inside : (c : Cpu) → kind_of c ≡ k → Inside c → Inside (back sees c).cpu
  unfolding back first_back second_back
  back_inside c e h =
      let f : Frame = frame_of sees (a7_of c) in
      let d : Cpu = take_frame c f in
      let g : Frame = frame_of sees (a7_of d) in
      let i : Inside d = in_taken c (a7_of c) e h in
      by_pick In (in_user c) _ _ (in_refused c 11 h)
      (by_pick In (eqb f.refused 0) _ _
      (by_pick In (eqb f.format 1) _ _
      (by_pick In (eqb g.refused 0) _ _
      (by_pick In (eqb g.format 1) _ _ (in_refused c 13 h) (in_done d 1 g (in_taken d (a7_of d) (take_kind c f ∙ e) i)))
      (in_refused c g.refused h))
      (in_done c f.format f i))
      (in_refused c f.refused h))

-- and has its kind
module _ (v : Sight) where
  abbrev Kind : ℕ → Back → Type 0
  Kind k x = kind_of x.cpu ≡ k

  kind_refused : (c : Cpu) (n : ℕ) → Kind (kind_of c) (refused_back c n)
  unfolding refused_back
  kind_refused c n = refl

  kind_done : (c : Cpu) (n : ℕ) (f : Frame) → Kind (kind_of c) (done_back c n f)
  unfolding done_back
  kind_done c n f = take_kind c f

  pub back_kind : (c : Cpu) → kind_of (back v c).cpu ≡ kind_of c
  unfolding back first_back second_back
  back_kind c =
      let f : Frame = frame_of v (a7_of c) in
      let d : Cpu = take_frame c f in
      let g : Frame = frame_of v (a7_of d) in
      let k : ℕ = kind_of c in
      by_pick (Kind k) (in_user c) _ _ (kind_refused c 11)
      (by_pick (Kind k) (eqb f.refused 0) _ _
      (by_pick (Kind k) (eqb f.format 1) _ _
      (by_pick (Kind k) (eqb g.refused 0) _ _
      (by_pick (Kind k) (eqb g.format 1) _ _ (kind_refused c 13) (kind_done d 1 g ∙ take_kind c f))
      (kind_refused c g.refused))
      (kind_done c f.format f))
      (kind_refused c f.refused))

-- ---- one return

abbrev pub row_here : Row → NestRow
row_here r = record { format = r.format; status = r.status; address = r.address; offset = r.offset }

-- the answer y of a return from c where the nest says x
pub record Gives (c : Cpu) (y : Back) (x : NestBack) : Type 0 where
  pub accepted : y.refused ≡ 0
  pub row : row_here y.row ≡ x.row
  pub views : view (regs_of y.cpu) ≡ x.view
  pub status : get_sr y.cpu ≡ mask_status (kind_of c) x.row.status
  pub pc : pc_of y.cpu ≡ x.row.address
  pub kind : kind_of y.cpu ≡ kind_of c
  pub fit : Fit y.cpu
  pub passes : (s : Room) → Passes c s → Passes y.cpu s

module _ (bus : Bus) (store : List ℕ) where
  abbrev byte : Bytes
  byte = peek (mem_of bus store)

  a7_regs : (c : Cpu) → (regs_of c).a7 ≡ a7_of c
  unfolding regs_of
  a7_regs c = refl

  -- the frame at A7
  pub here : (c : Cpu) (t : Taken) → kind_of c < 12 → frame (view (regs_of c)) byte ≡ some t → frame_of (sight (kind_of c) bus store) (a7_of c) ≡ frame_is t
  here c t l e =
      let k : (view (regs_of c)).kind ≡ kind_of c = view_kind (regs_of c) ∙ kind_regs c in
      (λ i. frame_of (sight (sym k i) bus store) (sym (tops c) i)) ∙ frame_of_lem (view (regs_of c)) bus store t (omega (arith, k)) e
    where
      tops : (c : Cpu) → top (view (regs_of c)) ≡ a7_of c
      tops c = view_a7 (regs_of c) ∙ a7_regs c

  -- the view after the frame that the nest takes
  pub there : (c : Cpu) (t : Taken) → Fit c → kind_of c < 12 → frame (view (regs_of c)) byte ≡ some t → view (regs_of (take_frame c (frame_is t))) ≡ t.after
  there c t h l e = take_view c (frame_is t) h l ∙ sym (frame_settled (view (regs_of c)) byte t e)

  one_gives : (c : Cpu) (t : Taken) (x : NestBack) → Fit c → kind_of c < 12 → frame (view (regs_of c)) byte ≡ some t
      → record { row = record { format = t.format; status = t.status; address = t.address; offset = t.offset }; view = t.after } ≡ x → Gives c (done_back c t.format (frame_is t)) x
  unfolding done_back row_of
  one_gives c t x h l e z =
      record {
        accepted = refl;
        row = ap (λ (b : NestBack). b.row) z;
        views = there c t h l e ∙ ap (λ (b : NestBack). b.view) z;
        status = take_status c (frame_is t) ∙ ap (λ (b : NestBack). mask_status (kind_of c) b.row.status) z;
        pc = take_pc c (frame_is t) ∙ ap (λ (b : NestBack). b.row.address) z;
        kind = take_kind c (frame_is t);
        fit = take_fit c (frame_is t) h;
        passes = λ s p. take_passes c (frame_is t) s p h;
      }

  two_gives : (c : Cpu) (t u : Taken) (x : NestBack) → Fit c → kind_of c < 12 → frame (view (regs_of c)) byte ≡ some t → frame (view (regs_of (take_frame c (frame_is t)))) byte ≡ some u
      → record { row = record { format = 1; status = u.status; address = u.address; offset = u.offset }; view = u.after } ≡ x → Gives c (done_back (take_frame c (frame_is t)) 1 (frame_is u)) x
  unfolding done_back row_of
  two_gives c t u x h l e f z =
      let d : Cpu = take_frame c (frame_is t) in
      let k : kind_of d ≡ kind_of c = take_kind c (frame_is t) in
      let g : Fit d = take_fit c (frame_is t) h in
      record {
        accepted = refl;
        row = ap (λ (b : NestBack). b.row) z;
        views = there d u g (omega (arith, k)) f ∙ ap (λ (b : NestBack). b.view) z;
        status = take_status d (frame_is u) ∙ ap (λ (j : ℕ). mask_status j u.status) k ∙ ap (λ (b : NestBack). mask_status (kind_of c) b.row.status) z;
        pc = take_pc d (frame_is u) ∙ ap (λ (b : NestBack). b.row.address) z;
        kind = take_kind d (frame_is u) ∙ k;
        fit = take_fit d (frame_is u) g;
        passes = λ s p. take_passes d (frame_is u) s (take_passes c (frame_is t) s p h) g;
      }

  user_is : (c : Cpu) → Fit c → nonzero c.flags.s_flag ≡ true → in_user c ≡ false
  unfolding in_user
  user_is c h = go c.flags.s_flag h.s_is_lem
    where
      go : (s : ℕ) → (s ≡ 0) ⊎ (s ≡ 4) → nonzero s ≡ true → eqb (s / 4 % 2) 0 ≡ false
      go s (inl e) f = let z : nonzero 0 ≡ true = ap nonzero (sym e) ∙ f in let q : ◌≡◌ {A = ℕ} 0 1 = cc in absurd (omega arith)
      go s (inr e) f = rw e

  flag_regs : (c : Cpu) → (regs_of c).sflag ≡ c.flags.s_flag
  unfolding regs_of
  flag_regs c = refl

  abbrev from : Cpu → Sight
  from c = sight (kind_of c) bus store

  second_gives : (c : Cpu) (t : Taken) (x : NestBack) → Fit c → kind_of c < 12 → frame (view (regs_of c)) byte ≡ some t → second byte t ≡ some x → Gives c (first_back (from c) c (frame_is t)) x
  unfolding first_back second_back
  second_gives c t x h l e = go (eqb t.format 1) refl
    where
      d : Cpu
      d = take_frame c (frame_is t)

      after : (o : Option Taken) → frame (view (regs_of d)) byte ≡ o → opt o last ≡ some x → Gives c (second_back c d (frame_of (from c) (a7_of d))) x
      after none f g = never x g
      after (some u) f g =
          subst (λ (q : Frame). Gives c (second_back c d q) x) (sym (ap (λ (j : ℕ). frame_of (sight j bus store) (a7_of d)) (sym (take_kind c (frame_is t))) ∙ here d u (omega (arith, l, take_kind c (frame_is t))) f))
          (under_go (eqb u.format 1) refl g)
        where
          under_go : (q : Bool) → eqb u.format 1 ≡ q → cond q none (some (record { row = record { format = 1; status = u.status; address = u.address; offset = u.offset }; view = u.after })) ≡ some x
              → Gives c (pick q (refused_back c 13) (done_back d 1 (frame_is u))) x
          under_go true y z = never x z
          under_go false y z = two_gives c t u x h l e f (cc)

      go : (q : Bool) → eqb t.format 1 ≡ q
          → cond q (opt (frame t.after byte) last) (some (record { row = record { format = t.format; status = t.status; address = t.address; offset = t.offset }; view = t.after })) ≡ some x
          → Gives c (pick q (second_back c d (frame_of (from c) (a7_of d))) (done_back c t.format (frame_is t))) x
      go true f g = after (frame (view (regs_of d)) byte) refl (ap (λ (w : View). opt (frame w byte) last) (there c t h l e) ∙ g)
      go false f g = one_gives c t x h l e (cc)

  -- where the nest's return is accepted, so is `unwind`'s, with the same row, view and values
  pub back_gives : (c : Cpu) (x : NestBack) → Fit c → kind_of c < 12 → nest_back (view (regs_of c)) byte ≡ some x → Gives c (back (from c) c) x
  unfolding nest_back back
  back_gives c x h l = go (view (regs_of c)).s refl (frame (view (regs_of c)) byte) refl
    where
      go : (q : Bool) → (view (regs_of c)).s ≡ q → (o : Option Taken) → frame (view (regs_of c)) byte ≡ o → cond q (opt o (second byte)) none ≡ some x
          → Gives c (pick (in_user c) (refused_back c 11) (first_back (from c) c (frame_of (from c) (a7_of c)))) x
      go false e o f g = never x g
      go true e none f g = never x g
      go true e (some t) f g =
          rw (user_is c h (ap nonzero (sym (flag_regs c)) ∙ sym (view_s (regs_of c)) ∙ e), here c t l f) (second_gives c t x h l f g)
