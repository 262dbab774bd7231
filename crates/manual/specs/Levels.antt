-- The interrupt call agrees with the manuals: one frame, or two in the master state. No row but the vector base and the pins stands for it.
use Rattle.std.specs.Prelude.{ℕ, zero, suc, ◌+◌, ◌-◌, ◌*◌, ◌/◌, ◌%◌, ◌^◌, ◌<◌, ◌≡◌, Bool, not, ◌||◌, [], ltb, get_or}
use Rattle.std.proofs.Math.Path.{refl, sym, ap, subst}
use Rattle.std.proofs.Common.{◌∙◌, eqb-true}
use Rattle.std.proofs.Math.Bool.{true, false, cond}
use Rattle.std.proofs.Math.Option.{none, some}
use native.Mathlib.Omega.{arith}
use Rattle.std.proofs.lemmas.Bool.{eqb-false}
use Rattle.std.proofs.Math.Dec.{eqb}
use Rattle.types.specs.Kinds.{pick}
use Rattle.cpu.specs.declared.Cpu.{Cpu}
use Rattle.cpu.specs.Fields.{kind_of, pc_of, vbr_of, a7_of, clear_stopped}
use Rattle.status.specs.Status.{get_sr, compose, clear_trace, clear_m, set_int_mask}
use Rattle.status.specs.Banks.{backup_sp, restore_sp, put_s, set_sflag, set_sm_flag_nosp, enter_supervisor}
use Rattle.pending.specs.Interrupts.{pending_level, mask_level, takes_interrupt, clear_level, charge_interrupt, charged}
use Rattle.memory.specs.declared.Bus.{Bus}
use Rattle.memory.specs.World.{World, response_of, cpu_of}
use Rattle.frames.specs.Frames.{field_at, is_counted}
use Rattle.steps.specs.Steps.{iack_vector, enter_level}
use Rattle.steps.specs.Steps.{with_s as engine_s}
use Rattle.images.specs.Images.{frame_bytes}
use Rattle.forms.specs.Orders.{words8}
use Rattle.forms.specs.Plans.{interrupt_vector}
use Rattle.nest.specs.View.{Regs, set_ptr, bank_of, nonzero, view}
use Rattle.nest.specs.Banks.{select, with_flags}
use Rattle.nest.specs.Laws.{lower}
use Rattle.entered.specs.Pointers.{stacks_of, clear_m_stacks}
use Rattle.entered.specs.Turns.{keeps_close}
use Rattle.manual.specs.Parts.{Family, mc68000, mc68010, mc68020, mc68030, mc68040, mc68060}
use Rattle.manual.specs.State.{Fault, down, mask}
use Rattle.manual.specs.Vectors.{acknowledged, takes_level}
use Rattle.manual.specs.Calls.{state_by, response_for}
use Rattle.manual.specs.Single.{Still, Same3}
use Rattle.manual.specs.Plain.{first, level}
use Rattle.manual.specs.PartLaws.{impossible, mask_bits}
use Rattle.manual.specs.Lengths.{plain_bytes}
use Rattle.manual.specs.Entries.{Sized, End, still_supervisor, size6, size8}

-- ---- the vector, and when an interrupt is taken

pub level_small : (c : Cpu) → pending_level c < 8
unfolding pending_level
level_small c = omega arith

pub vector_same : (c : Cpu) (b : Bus) → interrupt_vector c b ≡ acknowledged (response_for b (c.flags.int_level % 8)) (c.flags.int_level % 8)
unfolding interrupt_vector iack_vector response_of pending_level
vector_same c b =
    let e : c.flags.int_level % 8 % 8 ≡ c.flags.int_level % 8 = omega arith in
    rw e (go (eqb (get_or b.responses (c.flags.int_level % 8) 0) 0xFFFFFFFF))
  where
    go : (q : Bool) → pick q (24 + c.flags.int_level % 8) (get_or b.responses (c.flags.int_level % 8) 0 % 256)
        ≡ acknowledged (cond q none (some (get_or b.responses (c.flags.int_level % 8) 0 % 256))) (c.flags.int_level % 8)
    go true = refl
    go false = refl

pub vector_small : (c : Cpu) (b : Bus) → interrupt_vector c b < 256
unfolding interrupt_vector iack_vector
vector_small c b = go (eqb (response_of b (pending_level c)) 0xFFFFFFFF)
  where
    go : (q : Bool) → pick q (24 + pending_level c % 8) (response_of b (pending_level c) % 256) < 256
    go true = omega arith
    go false = omega arith

-- ---- what the record does

pub end_level : End (λ d. clear_level (charge_interrupt (clear_stopped d)))
unfolding clear_level charge_interrupt charged clear_stopped pc_of get_sr compose
end_level = record { keeps = keeps_close; pc = λ c. refl; status = λ c. refl }

pub still_level : (n : ℕ) → Still (λ d. enter_level d n)
unfolding enter_level set_int_mask vbr_of kind_of
still_level n = record { vbr = λ c. still_supervisor.vbr c; kind = λ c. still_supervisor.kind c }

pub still_clear : Still clear_m
unfolding clear_m vbr_of kind_of
still_clear = record { vbr = λ c. refl; kind = λ c. refl }

pub clear_top : (c : Cpu) → (stacks_of (clear_m c)).a7 ≡ (stacks_of c).a7
unfolding clear_m stacks_of a7_of kind_of
clear_top c = refl

pub clear_flags : (c d : Cpu) → c.flags ≡ d.flags → get_sr (clear_m c) ≡ get_sr (clear_m d)
unfolding get_sr compose clear_m
clear_flags c d e = rw e

pub none_set : (n : ℕ) → not (eqb n 0) ≡ false → n ≡ 0
none_set n e = go (eqb n 0) refl e
  where
    go : (b : Bool) → eqb n 0 ≡ b → not b ≡ false → n ≡ 0
    go true h k = eqb-true n 0 h
    go false h k = impossible k

pub set_nonzero : (n : ℕ) → not (eqb n 0) ≡ true → nonzero n ≡ true
set_nonzero zero e = e
set_nonzero (suc n) e = refl

pub level_m : (c : Cpu) (n : ℕ) → (enter_level c n).flags.m_flag ≡ c.flags.m_flag
unfolding enter_level set_int_mask enter_supervisor clear_trace set_sflag restore_sp put_s backup_sp
level_m c n = refl

pub leave_same : (c : Cpu) (n : ℕ) → get_sr (set_sm_flag_nosp (enter_level c n) 4) ≡ get_sr (clear_m (enter_level c n))
unfolding get_sr compose set_sm_flag_nosp clear_m enter_level set_int_mask enter_supervisor clear_trace set_sflag restore_sp put_s backup_sp
leave_same c n = refl

words_size : (sr pc fw : ℕ) → Sized (words8 sr pc fw) 8
unfolding words8 field_at is_counted frame_bytes
words_size sr pc fw = record { shape = record { some = omega arith; first = refl; short = omega arith }; size = refl; small = omega arith }

pub level_size : (f : Family) (sr pc fw : ℕ) → Sized (level f sr pc fw) (plain_bytes f)
level_size mc68000 sr pc fw = size6 sr pc
level_size mc68010 sr pc fw = words_size sr pc fw
level_size mc68020 sr pc fw = size8 sr pc fw
level_size mc68030 sr pc fw = size8 sr pc fw
level_size mc68040 sr pc fw = size8 sr pc fw
level_size mc68060 sr pc fw = size8 sr pc fw

pub with_s_lem : (st : ℕ) → cond (eqb (st / 2 ^ 13 % 2) 1) st (st + 0x2000) ≡ engine_s st
unfolding engine_s
with_s_lem st = go (eqb (st / 2 ^ 13 % 2) 1) refl
  where
    go : (b : Bool) → eqb (st / 2 ^ 13 % 2) 1 ≡ b → cond b st (st + 0x2000) ≡ st - st / 0x2000 % 2 * 0x2000 + 0x2000
    go true e = omega (arith, eqb-true (st / 2 ^ 13 % 2) 1 e)
    go false e = let h : st / 2 ^ 13 % 2 ≡ 1 → ⊥ = eqb-false (st / 2 ^ 13 % 2) 1 e in let z : st / 2 ^ 13 % 2 ≡ 0 = omega arith in omega arith

pub s_fits : (st : ℕ) → st < 0x10000 → engine_s st < 0x10000
unfolding engine_s
s_fits st l = omega arith

pub select_s : (g : Regs) (s m : ℕ) → (select g s m).sflag ≡ s
unfolding select
select_s g s m = refl

-- on the 68060 M selects no stack
clear_view : (g : Regs) → eqb g.kind 11 ≡ true → g.sflag ≡ 4 → Same3 (view (with_flags g g.sflag 0)) (view g)
unfolding view
clear_view g k s = rw s (go (nonzero g.mflag))
  where
    go : (b : Bool) → Same3 (set_ptr (record { kind = g.kind; s = true; m = false; usp = g.usp; isp = g.isp; msp = g.msp }) (bank_of g.kind true false) g.a7)
        (set_ptr (record { kind = g.kind; s = true; m = b; usp = g.usp; isp = g.isp; msp = g.msp }) (bank_of g.kind true b) g.a7)
    go true = rw k (record { usp = refl; isp = refl; msp = refl })
    go false = record { usp = refl; isp = refl; msp = refl }

stacks_kind : (c : Cpu) → (stacks_of c).kind ≡ kind_of c
unfolding stacks_of
stacks_kind c = refl

flags_same : (c : Cpu) → with_flags (stacks_of c) c.flags.s_flag 0 ≡ with_flags (stacks_of c) (stacks_of c).sflag 0
unfolding stacks_of
flags_same c = refl

pub clear_three : (c : Cpu) → eqb (kind_of c) 11 ≡ true → (stacks_of c).sflag ≡ 4 → Same3 (view (stacks_of (clear_m c))) (view (stacks_of c))
clear_three c k s = subst (λ (g : Regs). Same3 (view g) (view (stacks_of c))) (sym (clear_m_stacks c ∙ flags_same c)) (clear_view (stacks_of c) (ap (λ (n : ℕ). eqb n 11) (stacks_kind c) ∙ k) s)

pub lower_eight : (p : ℕ) → lower p 8 ≡ down p 8
lower_eight p = omega arith

-- it is taken when the manual says so
pub taken_is : (w : World) (F : Family) (fa : Fault) → takes_interrupt (cpu_of w) ≡ takes_level (state_by w F fa none)
unfolding takes_interrupt pending_level mask_level takes_level state_by
taken_is w F fa = go (eqb ((cpu_of w).flags.int_level % 8) 7)
  where
    go : (b : Bool) → pick b true (ltb ((cpu_of w).flags.int_mask / 256 % 8) ((cpu_of w).flags.int_level % 8)) ≡ (b || ltb (mask (get_sr (cpu_of w))) ((cpu_of w).flags.int_level % 8))
    go true = refl
    go false = ap (λ (n : ℕ). ltb n ((cpu_of w).flags.int_level % 8)) (sym (mask_bits (cpu_of w)))
