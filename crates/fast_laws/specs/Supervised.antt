-- The record of an entry: the change to the supervisor's stack with M clear, and what the patch leaves.
use Rattle.std.specs.Prelude.{ℕ, ◌%◌, ◌<◌, ◌≡◌, ◌⊎◌, Bool, List, eqb, length, set, get_or}
use Rattle.std.proofs.Math.Path.{refl}
use Rattle.std.proofs.Common.{◌∙◌, inl, inr, arith}
use Rattle.std.proofs.Math.Bool.{true, false}
use Rattle.std.proofs.Math.Seq.{set-get_or, get_or-set_same, get_or-set_other}
use Rattle.types.specs.Kinds.{pick, is060}
use Rattle.cpu.specs.declared.Cpu.{Cpu}
use Rattle.cpu.specs.Setters.{with_dar, with_sp, with_t1_flag, with_t0_flag, with_sflag}
use Rattle.cpu.specs.Fields.{a7_of, set_pc, start_vector, leave_stop, note_fpiar}
use Rattle.cpu.specs.Clocks.{first_word, second_word}
use Rattle.status.specs.Status.{clear_trace}
use Rattle.status.specs.Banks.{enter_supervisor, set_sflag, restore_sp, put_s, backup_sp, sp_index}
use Rattle.unfaulted.specs.Closed.{jumped}
use Rattle.fast_plans.specs.declared.Patch.{Patch}
use Rattle.fast_laws.specs.Patched.{fpiar_after, patch_cpu}

-- the two stack pointers once S is set, M being clear
unfoldable pub top_at : Cpu → ℕ
top_at c = pick (eqb c.flags.s_flag 0) (get_or c.regs.sp 4 0) (get_or c.regs.dar 15 0)

unfoldable pub user_at : Cpu → ℕ
user_at c = pick (eqb c.flags.s_flag 0) (get_or c.regs.dar 15 0) (get_or c.regs.sp 0 0)

-- both saved, A7 the supervisor's
abbrev pub stacked : Cpu → Cpu
stacked c = with_dar (with_sp c (set (set c.regs.sp 0 (user_at c)) 4 (top_at c))) (set c.regs.dar 15 (top_at c))

abbrev pub supervised : Cpu → Cpu
supervised c = with_t0_flag (with_t1_flag (with_sflag (stacked c) 4) 0) 0

-- a record whose M is clear and whose S is 0 or 4
pub record Clear (c : Cpu) : Type 0 where
  pub supervisor : (c.flags.s_flag ≡ 0) ⊎ (c.flags.s_flag ≡ 4)
  pub master : c.flags.m_flag ≡ 0
  pub pointers : 7 < length c.regs.sp

user_pointers : (sp : List ℕ) (v : ℕ) → set (set sp 0 v) 4 (get_or sp 4 0) ≡ set sp 0 v
user_pointers sp v = rw (← (get_or-set_other sp 0 4 v 0 (omega arith))) (set-get_or (set sp 0 v) 4 0)

index_after : (c : Cpu) → c.flags.m_flag ≡ 0 → sp_index (put_s (backup_sp c) 4) ≡ 4
unfolding sp_index put_s backup_sp
index_after c e = rw e (go (is060 c.flow.cpu_type))
  where
    go : (t : Bool) → pick {A = ℕ} t 4 4 ≡ 4
    go true = refl
    go false = refl

index_user : (c : Cpu) → c.flags.s_flag ≡ 0 → sp_index c ≡ 0
unfolding sp_index
index_user c e = rw e

index_supervisor : (c : Cpu) → c.flags.m_flag ≡ 0 → c.flags.s_flag ≡ 4 → sp_index c ≡ 4
unfolding sp_index
index_supervisor c e f = rw (e, f) (go (is060 c.flow.cpu_type))
  where
    go : (t : Bool) → pick {A = ℕ} t 4 4 ≡ 4
    go true = refl
    go false = refl

-- with the index of the stack in use written out
indexed : (c : Cpu) (i : ℕ) → sp_index c ≡ i → sp_index (put_s (backup_sp c) 4) ≡ 4
    → enter_supervisor c ≡ with_t0_flag (with_t1_flag (with_sflag (with_dar (with_sp c (set c.regs.sp i (get_or c.regs.dar 15 0))) (set c.regs.dar 15 (get_or (set c.regs.sp i (get_or c.regs.dar 15 0)) 4 0))) 4) 0) 0
unfolding enter_supervisor set_sflag restore_sp clear_trace put_s backup_sp
indexed c i e f = rw (f, e)

module _ (c : Cpu) (h : Clear c) where
  in_user_lem : c.flags.s_flag ≡ 0 → enter_supervisor c ≡ supervised c
  unfolding top_at user_at
  in_user_lem e =
      indexed c 0 (index_user c e) (index_after c h.master)
      ∙ rw (e, get_or-set_other c.regs.sp 0 4 (get_or c.regs.dar 15 0) 0 (omega arith), user_pointers c.regs.sp (get_or c.regs.dar 15 0))

  in_supervisor : c.flags.s_flag ≡ 4 → enter_supervisor c ≡ supervised c
  unfolding top_at user_at
  in_supervisor e =
      indexed c 4 (index_supervisor c h.master e) (index_after c h.master)
      ∙ rw (e, get_or-set_same c.regs.sp 4 (get_or c.regs.dar 15 0) 0 (let u = h.pointers in omega arith), set-get_or c.regs.sp 0 0)

  pub supervised_law : enter_supervisor c ≡ supervised c
  supervised_law = go h.supervisor
    where
      go : (c.flags.s_flag ≡ 0) ⊎ (c.flags.s_flag ≡ 4) → enter_supervisor c ≡ supervised c
      go (inl e) = in_user_lem e
      go (inr e) = in_supervisor e

  -- A7 is then the supervisor's pointer
  pub supervised_a7 : 15 < length c.regs.dar → a7_of (enter_supervisor c) ≡ top_at c
  unfolding a7_of
  supervised_a7 g = rw supervised_law (get_or-set_same c.regs.dar 15 (top_at c) 0 g)

-- ---- the patch of an entry

-- a patch that fits an entry: the pointers of the record, the words below 2^16
pub record Fitting (c : Cpu) (p : Patch) : Type 0 where
  pub user : p.user ≡ user_at c
  pub top : p.top ≡ top_at c
  pub first : p.first < 0x10000
  pub second : p.second < 0x10000

-- no interrupt: stopped, mask, level and FPIAR as they were, and no cycles taken off
pub record Plain (c : Cpu) (p : Patch) : Type 0 where
  pub stopped : p.stopped ≡ c.flow.stopped
  pub mask : p.mask ≡ c.flags.int_mask
  pub level : p.level ≡ c.flags.int_level
  pub cycles : p.serviced ≡ false
  pub fpiar : fpiar_after c p ≡ c.flow.fpiar

-- the words as they are queued
pub queued : (f : Bool) (c : Cpu) (v to x y : ℕ) → x < 0x10000 → y < 0x10000
    → jumped f c v to x y ≡ pick f (second_word (first_word (set_pc (start_vector c v) to) x) y) (set_pc (start_vector c v) to)
unfolding jumped
queued f c v to x y g h =
    let a : x % 0x10000 ≡ x = omega arith in
    let b : y % 0x10000 ≡ y = omega arith in
    rw (a, b)

-- a trace ends a STOP before
pub stop_clear : (c : Cpu) → Clear c → Clear (leave_stop c)
unfolding leave_stop
stop_clear c h = record { supervisor = h.supervisor; master = h.master; pointers = h.pointers }

pub stop_fitting : (c : Cpu) (p : Patch) → Fitting c p → Fitting (leave_stop c) p
unfolding leave_stop top_at user_at
stop_fitting c p h = record { user = h.user; top = h.top; first = h.first; second = h.second }

pub stop_patched : (c : Cpu) (p : Patch) → patch_cpu (leave_stop c) p ≡ patch_cpu c p
unfolding patch_cpu leave_stop
stop_patched c p = refl

-- an entry that notes the instruction in FPIAR does so before
pub note_clear : (c : Cpu) → Clear c → Clear (note_fpiar c)
unfolding note_fpiar
note_clear c h = record { supervisor = h.supervisor; master = h.master; pointers = h.pointers }

pub note_fitting : (c : Cpu) (p : Patch) → Fitting c p → Fitting (note_fpiar c) p
unfolding note_fpiar top_at user_at
note_fitting c p h = record { user = h.user; top = h.top; first = h.first; second = h.second }

pub note_patched : (c : Cpu) (p : Patch) → p.noted ≡ true → patch_cpu (note_fpiar c) p ≡ patch_cpu c p
unfolding patch_cpu note_fpiar
note_patched c p e = rw e
