-- The record as the nest sees it, and its stack pointers: to enter supervisor state, to leave the master stack, to lower A7.
use Rattle.std.specs.Prelude.{ℕ, ◌/◌, ◌%◌, ◌≡◌, refl, ◌⊎◌, Bool, true, false, cond, List, eqb, length, get_or, set}
use Rattle.std.proofs.Common.{sym, ap, ◌∙◌, inl, inr, arith, length-set, get_or-set_same, get_or-set_other}
use Rattle.types.specs.Kinds.{pick, is060}
use Rattle.cpu.specs.declared.Cpu.{Cpu}
use Rattle.cpu.specs.Fields.{kind_of, pc_of, a7_of, in_exception, set_a7}
use Rattle.status.specs.Status.{get_sr, clear_trace, clear_m}
use Rattle.status.specs.Banks.{sp_index, backup_sp, restore_sp, put_s, set_sm_flag_nosp, set_sflag, set_sm_flag, enter_supervisor}
use Rattle.nest.specs.View.{Regs, Bank, user, interrupt, master, bank_of, nonzero, view}
use Rattle.nest.specs.Banks.{bank_g, save, saved, loaded, select, with_a7, with_flags}

-- the fields that rule 3 names
unfoldable pub regs_of : Cpu → Regs
regs_of c =
    record {
      kind = kind_of c;
      a7 = a7_of c;
      usp = get_or c.regs.sp 0 0;
      isp = get_or c.regs.sp 4 0;
      msp = get_or c.regs.sp 6 0;
      sflag = c.flags.s_flag;
      mflag = c.flags.m_flag;
      status = get_sr c;
      pc = pc_of c;
      runmode = c.flow.run_mode;
      processing = in_exception c;
    }

-- those of the stacks alone
abbrev pub mk : ℕ → ℕ → List ℕ → ℕ → ℕ → Regs
mk k a7 sp s m =
    record { kind = k; a7 = a7; usp = get_or sp 0 0; isp = get_or sp 4 0; msp = get_or sp 6 0; sflag = s; mflag = m; status = 0; pc = 0; runmode = 0; processing = false }

unfoldable pub stacks_of : Cpu → Regs
stacks_of c = mk (kind_of c) (a7_of c) c.regs.sp c.flags.s_flag c.flags.m_flag

-- they are all that a view sees
pub view_of : (c : Cpu) → view (regs_of c) ≡ view (stacks_of c)
unfolding view regs_of stacks_of
view_of c = refl

-- a record of the right lengths that number 1 accepts
pub record Fit (c : Cpu) : Type 0 where
  pub registers : length c.regs.dar ≡ 16
  pub pointers : length c.regs.sp ≡ 8
  pub s_is_lem : (c.flags.s_flag ≡ 0) ⊎ (c.flags.s_flag ≡ 4)
  pub m_is_lem : (c.flags.m_flag ≡ 0) ⊎ (c.flags.m_flag ≡ 2)

-- ---- the banks

abbrev pub idx : Bank → ℕ
idx user = 0
idx interrupt = 4
idx master = 6

index : (k s m : ℕ) → (s ≡ 0) ⊎ (s ≡ 4) → (m ≡ 0) ⊎ (m ≡ 2)
    → pick (eqb (s / 4 % 2) 0) 0 (pick (is060 k) 4 (pick (eqb (m / 2 % 2) 0) 4 6)) ≡ idx (bank_of k (nonzero s) (nonzero m))
unfolding is060
index k s m (inl e) f = rw e
index k s m (inr e) (inl f) = rw (e, f) (go (eqb k 11))
  where
    go : (b : Bool) → ◌≡◌ {A = ℕ} (pick b 4 4) 4
    go true = refl
    go false = refl
index k s m (inr e) (inr f) = rw (e, f) (go (eqb k 11))
  where
    go : (b : Bool) → pick b 4 6 ≡ idx (cond b interrupt master)
    go true = refl
    go false = refl

pub bank_index : (c : Cpu) → Fit c → sp_index c ≡ idx (bank_g (stacks_of c))
unfolding sp_index stacks_of kind_of
bank_index c h = index c.flow.cpu_type c.flags.s_flag c.flags.m_flag h.s_is_lem h.m_is_lem

save_mk : (k a7 : ℕ) (sp : List ℕ) (s m a : ℕ) (B : Bank) → length sp ≡ 8 → mk k a7 (set sp (idx B) a) s m ≡ save (mk k a7 sp s m) B a
save_mk k a7 sp s m a user l =
    rw (get_or-set_same sp 0 a 0 (omega arith), get_or-set_other sp 0 4 a 0 (omega arith), get_or-set_other sp 0 6 a 0 (omega arith))
save_mk k a7 sp s m a interrupt l =
    rw (get_or-set_same sp 4 a 0 (omega arith), get_or-set_other sp 4 0 a 0 (omega arith), get_or-set_other sp 4 6 a 0 (omega arith))
save_mk k a7 sp s m a master l =
    rw (get_or-set_same sp 6 a 0 (omega arith), get_or-set_other sp 6 0 a 0 (omega arith), get_or-set_other sp 6 4 a 0 (omega arith))

saved_mk : (k a7 : ℕ) (sp : List ℕ) (s m : ℕ) (B : Bank) → get_or sp (idx B) 0 ≡ saved (mk k a7 sp s m) B
saved_mk k a7 sp s m user = refl
saved_mk k a7 sp s m interrupt = refl
saved_mk k a7 sp s m master = refl

pub backup_stacks : (c : Cpu) → Fit c → stacks_of (backup_sp c) ≡ save (stacks_of c) (bank_g (stacks_of c)) (a7_of c)
unfolding backup_sp stacks_of kind_of a7_of
backup_stacks c h =
    ap (λ (i : ℕ). mk c.flow.cpu_type (get_or c.regs.dar 15 0) (set c.regs.sp i (get_or c.regs.dar 15 0)) c.flags.s_flag c.flags.m_flag) (bank_index c h)
    ∙ save_mk c.flow.cpu_type (get_or c.regs.dar 15 0) c.regs.sp c.flags.s_flag c.flags.m_flag (get_or c.regs.dar 15 0) (bank_g (stacks_of c)) h.pointers

pub restore_stacks : (c : Cpu) → Fit c → stacks_of (restore_sp c) ≡ loaded (stacks_of c)
unfolding restore_sp stacks_of kind_of a7_of
restore_stacks c h =
    ap (λ (q : ℕ). mk c.flow.cpu_type q c.regs.sp c.flags.s_flag c.flags.m_flag)
    (get_or-set_same c.regs.dar 15 (get_or c.regs.sp (sp_index c) 0) 0 (omega (arith, h.registers)) ∙ ap (λ (i : ℕ). get_or c.regs.sp i 0) (bank_index c h)
    ∙ saved_mk c.flow.cpu_type (get_or c.regs.dar 15 0) c.regs.sp c.flags.s_flag c.flags.m_flag (bank_g (stacks_of c)))

pub backup_fit : (c : Cpu) → Fit c → Fit (backup_sp c)
unfolding backup_sp
backup_fit c h = record { registers = h.registers; pointers = simp length-set h.pointers; s_is_lem = h.s_is_lem; m_is_lem = h.m_is_lem }

pub restore_fit : (c : Cpu) → Fit c → Fit (restore_sp c)
unfolding restore_sp
restore_fit c h = record { registers = simp length-set h.registers; pointers = h.pointers; s_is_lem = h.s_is_lem; m_is_lem = h.m_is_lem }

put_s_fit : (c : Cpu) → Fit c → Fit (put_s c 4)
unfolding put_s
put_s_fit c h = record { registers = h.registers; pointers = h.pointers; s_is_lem = inr refl; m_is_lem = h.m_is_lem }

put_sm_fit : (c : Cpu) → Fit c → Fit (set_sm_flag_nosp c 4)
unfolding set_sm_flag_nosp
put_sm_fit c h = record { registers = h.registers; pointers = h.pointers; s_is_lem = inr refl; m_is_lem = inl refl }

put_s_stacks : (c : Cpu) → stacks_of (put_s (backup_sp c) 4) ≡ with_flags (stacks_of (backup_sp c)) 4 c.flags.m_flag
unfolding put_s stacks_of kind_of a7_of backup_sp
put_s_stacks c = refl

put_sm_stacks : (c : Cpu) → stacks_of (set_sm_flag_nosp (backup_sp c) 4) ≡ with_flags (stacks_of (backup_sp c)) 4 0
unfolding set_sm_flag_nosp stacks_of kind_of a7_of backup_sp
put_sm_stacks c = refl

clear_stacks : (c : Cpu) → stacks_of (clear_trace c) ≡ stacks_of c
unfolding clear_trace stacks_of kind_of a7_of
clear_stacks c = refl

clear_fit : (c : Cpu) → Fit c → Fit (clear_trace c)
unfolding clear_trace
clear_fit c h = record { registers = h.registers; pointers = h.pointers; s_is_lem = h.s_is_lem; m_is_lem = h.m_is_lem }

pub top_of : (c : Cpu) → (stacks_of c).a7 ≡ a7_of c
unfolding stacks_of
top_of c = refl

-- supervisor state: S is set and its stack selected
pub enter_stacks : (c : Cpu) → Fit c → stacks_of (enter_supervisor c) ≡ select (stacks_of c) 4 c.flags.m_flag
unfolding enter_supervisor set_sflag select
enter_stacks c h =
    clear_stacks (restore_sp (put_s (backup_sp c) 4))
    ∙ restore_stacks (put_s (backup_sp c) 4) (put_s_fit (backup_sp c) (backup_fit c h))
    ∙ ap loaded (put_s_stacks c ∙ ap (λ (g : Regs). with_flags g 4 c.flags.m_flag) (backup_stacks c h ∙ ap (λ (q : ℕ). save (stacks_of c) (bank_g (stacks_of c)) q) (sym (top_of c))))

pub enter_fit : (c : Cpu) → Fit c → Fit (enter_supervisor c)
unfolding enter_supervisor set_sflag
enter_fit c h = clear_fit (restore_sp (put_s (backup_sp c) 4)) (restore_fit (put_s (backup_sp c) 4) (put_s_fit (backup_sp c) (backup_fit c h)))

-- M is cleared with its stack
pub leave_stacks : (c : Cpu) → Fit c → stacks_of (set_sm_flag c 4) ≡ select (stacks_of c) 4 0
unfolding set_sm_flag select
leave_stacks c h =
    restore_stacks (set_sm_flag_nosp (backup_sp c) 4) (put_sm_fit (backup_sp c) (backup_fit c h))
    ∙ ap loaded (put_sm_stacks c ∙ ap (λ (g : Regs). with_flags g 4 0) (backup_stacks c h ∙ ap (λ (q : ℕ). save (stacks_of c) (bank_g (stacks_of c)) q) (sym (top_of c))))

pub leave_fit : (c : Cpu) → Fit c → Fit (set_sm_flag c 4)
unfolding set_sm_flag
leave_fit c h = restore_fit (set_sm_flag_nosp (backup_sp c) 4) (put_sm_fit (backup_sp c) (backup_fit c h))

-- A7 is moved
pub move_stacks : (c : Cpu) (q : ℕ) → Fit c → stacks_of (set_a7 c q) ≡ with_a7 (stacks_of c) q
unfolding set_a7 stacks_of kind_of a7_of
move_stacks c q h = rw (get_or-set_same c.regs.dar 15 q 0 (omega (arith, h.registers)))

pub move_fit : (c : Cpu) (q : ℕ) → Fit c → Fit (set_a7 c q)
unfolding set_a7
move_fit c q h = record { registers = simp length-set h.registers; pointers = h.pointers; s_is_lem = h.s_is_lem; m_is_lem = h.m_is_lem }

-- M is cleared and the stack stays
pub clear_m_stacks : (c : Cpu) → stacks_of (clear_m c) ≡ with_flags (stacks_of c) c.flags.s_flag 0
unfolding clear_m stacks_of kind_of a7_of
clear_m_stacks c = refl
