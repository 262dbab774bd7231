-- What follows from the part: the engine's tests of the kind, the stack in use, the status, the vector's address and the pins.
use Rattle.std.specs.Prelude.{ℕ, zero, suc, ◌+◌, ◌-◌, ◌*◌, ◌/◌, ◌%◌, ◌^◌, ◌<◌, ◌≡◌, refl, Bool, true, false, cond, not, ◌&&◌, ◌||◌, [], eqb, ltb, leb, replicate}
use Rattle.std.proofs.Common.{sym, ap, ◌∙◌, subst, arith, eqb-true, leb-false}
use Rattle.std.proofs.Math.Option.{Option, none, some}
use Rattle.std.specs.Int.Bits.{bit_and}
use Rattle.std.proofs.lemmas.Nat.{and_shr, and_mod}
use Rattle.types.specs.Kinds.{pick, is_pre68020, is_ec020_plus, is040, is060, mask_address}
use Rattle.types.specs.Every.{at}
use Rattle.cpu.specs.declared.Cpu.{Cpu}
use Rattle.cpu.specs.Fields.{kind_of}
use Rattle.status.specs.Status.{get_sr, compose, clear_trace, clear_m}
use Rattle.status.specs.Banks.{backup_sp, restore_sp, put_s, set_sflag, enter_supervisor}
use Rattle.steps.specs.Steps.{enter_bus_error}
use Rattle.cpu.specs.Fields.{clear_fc_override}
use Rattle.nest.specs.View.{View, sr_mask, under, m_bit, bank_of, ptr, set_ptr, top, set_top, with_sm, nonzero, view}
use Rattle.nest.specs.Nest.{Sound}
use Rattle.nest.specs.Reading.{view_kind, view_m}
use Rattle.entered.specs.Pointers.{regs_of, stacks_of, view_of}
use Rattle.entered.specs.One.{stack_top}
use Rattle.manual.specs.Parts.{Family, mc68000, mc68010, mc68020, mc68030, mc68040, mc68060, family_of, lines_of, has_master}
use Rattle.manual.specs.State.{State, is_set, entered, interrupted, on_pins}
use Rattle.manual.specs.Vectors.{Class, instruction, trap, group2, interrupt, bus_error, address_error, protocol, configuration, fp_unimplemented, fp_disabled, vector_at}
use Rattle.manual.specs.Differences.{Via, by_vector, own, differences, pc_differs, pins_differ}
use Rattle.manual.specs.Plain.{of, first, early, second}

pub impossible : {A : Type 0} → true ≡ false → A
impossible e = let z : ◌≡◌ {A = ℕ} 0 1 = cc in absurd (omega arith)

-- ---- the engine's tests

abbrev pub forty : Family → Bool
forty mc68000 = false
forty mc68010 = false
forty mc68020 = false
forty mc68030 = false
forty mc68040 = true
forty mc68060 = false

abbrev pub sixty : Family → Bool
sixty mc68000 = false
sixty mc68010 = false
sixty mc68020 = false
sixty mc68030 = false
sixty mc68040 = false
sixty mc68060 = true

abbrev twenty : Family → Bool
twenty mc68000 = false
twenty mc68010 = false
twenty mc68020 = true
twenty mc68030 = false
twenty mc68040 = false
twenty mc68060 = false

abbrev pub same : Bool → Bool → Bool
same true b = b
same false b = not b

pub same_is : (a b : Bool) → same a b ≡ true → a ≡ b
same_is true b e = sym e
same_is false true e = e
same_is false false e = refl

pub both_true : (a b : Bool) → (a && b) ≡ true → (a ≡ true) × (b ≡ true)
both_true true b e = (refl, e)
both_true false b e = impossible (sym e)

-- the tests of kind k are those of its part
abbrev tests : Option Family → ℕ → Bool
tests none k = true
tests (some f) k =
    same (eqb k 1) (first f) && (same (eqb k 2) (second f) && (same (is_pre68020 k) (early f) && (same (is040 k) (forty f) && (same (is060 k) (sixty f)
    && (same (is_ec020_plus k) (has_master f) && (same (eqb (sr_mask k) 0xA71F) (early f) && (same (ltb k 3) (early f) && (twenty f || same (eqb (lines_of k) 24) (ltb k 3)))))))))

pub record Tests (f : Family) (k : ℕ) : Type 0 where
  pub one : eqb k 1 ≡ first f
  pub two : eqb k 2 ≡ second f
  pub pre : is_pre68020 k ≡ early f
  pub is4 : is040 k ≡ forty f
  pub is6 : is060 k ≡ sixty f
  pub plus : is_ec020_plus k ≡ has_master f
  pub mask : eqb (sr_mask k) 0xA71F ≡ early f
  pub pins : (twenty f || same (eqb (lines_of k) 24) (ltb k 3)) ≡ true
  pub three : ltb k 3 ≡ early f

pub tests_of_lem : (f : Family) (k : ℕ) → k < 12 → family_of k ≡ some f → Tests f k
unfolding family_of is_pre68020 is040 is060 is_ec020_plus sr_mask
tests_of_lem f k l e =
    let t : tests (some f) k ≡ true = subst (λ (o : Option Family). tests o k ≡ true) e (at 0 (λ (i x : ℕ). tests (family_of i) i) (replicate 12 0) refl k l) in
    let a = both_true _ _ t in
    let b = both_true _ _ a.1 in
    let c = both_true _ _ b.1 in
    let d = both_true _ _ c.1 in
    let g = both_true _ _ d.1 in
    let h = both_true _ _ g.1 in
    let i = both_true _ _ h.1 in
    let j = both_true _ _ i.1 in
    record {
      one = same_is _ _ a.0;
      two = same_is _ _ b.0;
      pre = same_is _ _ c.0;
      is4 = same_is _ _ d.0;
      is6 = same_is _ _ g.0;
      plus = same_is _ _ h.0;
      mask = same_is _ _ i.0;
      three = same_is _ _ j.0;
      pins = j.1;
    }

-- ---- the stack

and_bit : (a b j : ℕ) → bit_and a b / 2 ^ j % 2 ≡ bit_and (a / 2 ^ j % 2) (b / 2 ^ j % 2)
and_bit a b j = ap (λ (x : ℕ). x % 2) (and_shr a b j) ∙ and_mod (a / 2 ^ j) (b / 2 ^ j) 1

and_zero : (b : ℕ) → b < 2 → bit_and b 0 ≡ 0
and_zero zero l = refl
and_zero (suc zero) l = refl
and_zero (suc (suc b)) l = absurd (omega arith)

-- a sound record of the 68000 or 68010 has no M
pub no_m : (k st : ℕ) → sr_mask k ≡ 0xA71F → under k st ≡ st → st / 0x1000 % 2 ≡ 0
unfolding under
no_m k st e h =
    ap (λ (n : ℕ). n / 0x1000 % 2) (sym h) ∙ ap (λ (m : ℕ). bit_and st m / 0x1000 % 2) e ∙ and_bit st 0xA71F 12 ∙ and_zero (st / 2 ^ 12 % 2) (omega arith)

pointer_by : (f : Family) (k : ℕ) (b : Bool) (usp isp msp : ℕ) → eqb k 11 ≡ sixty f → (early f ≡ true → b ≡ false)
    → ptr (record { kind = k; s = true; m = b; usp = usp; isp = isp; msp = msp }) (bank_of k true b) ≡ cond (has_master f && b) msp isp
pointer_by mc68000 k true usp isp msp e h = impossible (h refl)
pointer_by mc68000 k false usp isp msp e h = refl
pointer_by mc68010 k true usp isp msp e h = impossible (h refl)
pointer_by mc68010 k false usp isp msp e h = refl
pointer_by mc68020 k true usp isp msp e h = rw e
pointer_by mc68020 k false usp isp msp e h = refl
pointer_by mc68030 k true usp isp msp e h = rw e
pointer_by mc68030 k false usp isp msp e h = refl
pointer_by mc68040 k true usp isp msp e h = rw e
pointer_by mc68040 k false usp isp msp e h = refl
pointer_by mc68060 k true usp isp msp e h = rw e
pointer_by mc68060 k false usp isp msp e h = refl

pub sound_m : (c : Cpu) → Sound (regs_of c) → is_set 12 (get_sr c) ≡ nonzero (regs_of c).mflag
unfolding regs_of m_bit
sound_m c s = s.m_is

pub sound_mask : (c : Cpu) → Sound (regs_of c) → under (kind_of c) (get_sr c) ≡ get_sr c
unfolding regs_of
sound_mask c s = s.in_mask

flag_regs : (c : Cpu) → nonzero (regs_of c).mflag ≡ nonzero c.flags.m_flag
unfolding regs_of
flag_regs c = refl

kind_regs : (c : Cpu) → (regs_of c).kind ≡ kind_of c
unfolding regs_of
kind_regs c = refl

pub sixty_is : {b : Bool} (k : ℕ) → is060 k ≡ b → eqb k 11 ≡ b
unfolding is060
sixty_is k e = e

pub pointer_is : (f : Family) (c : Cpu) → Tests f (kind_of c) → Sound (regs_of c)
    → stack_top c ≡ cond (has_master f && is_set 12 (get_sr c)) (view (regs_of c)).msp (view (regs_of c)).isp
unfolding stack_top
pointer_is f c t s =
    ap (λ (v : View). top (with_sm v true v.m)) (sym (view_of c))
    ∙ ap (λ (j : ℕ). ptr (record { kind = j; s = true; m = (view (regs_of c)).m; usp = (view (regs_of c)).usp; isp = (view (regs_of c)).isp; msp = (view (regs_of c)).msp }) (bank_of j true (view (regs_of c)).m)) (view_kind (regs_of c) ∙ kind_regs c)
    ∙ pointer_by f (kind_of c) (view (regs_of c)).m (view (regs_of c)).usp (view (regs_of c)).isp (view (regs_of c)).msp (sixty_is (kind_of c) t.is6) (λ e. m_is_lem ∙ clear e)
    ∙ ap (λ (b : Bool). cond (has_master f && b) (view (regs_of c)).msp (view (regs_of c)).isp) m_is_lem
  where
    m_is_lem : (view (regs_of c)).m ≡ is_set 12 (get_sr c)
    m_is_lem = view_m (regs_of c) ∙ sym (sound_m c s)

    clear : early f ≡ true → is_set 12 (get_sr c) ≡ false
    clear e = ap (λ (n : ℕ). eqb n 1) (no_m (kind_of c) (get_sr c) (eqb-true (sr_mask (kind_of c)) 0xA71F (t.mask ∙ e)) (sound_mask c s))

-- the pointers once A7 is q, on the stack that S and M select
pub record Three (v : View) (usp isp msp : ℕ) : Type 0 where
  pub usp_is : v.usp ≡ usp
  pub isp_is : v.isp ≡ isp
  pub msp_is : v.msp ≡ msp

three_by : (f : Family) (k : ℕ) (b : Bool) (usp isp msp q : ℕ) → eqb k 11 ≡ sixty f → (early f ≡ true → b ≡ false)
    → Three (set_ptr (record { kind = k; s = true; m = b; usp = usp; isp = isp; msp = msp }) (bank_of k true b) q) usp (cond (has_master f && b) isp q) (cond (has_master f && b) q msp)
three_by mc68000 k true usp isp msp q e h = impossible (h refl)
three_by mc68000 k false usp isp msp q e h = record { usp_is = refl; isp_is = refl; msp_is = refl }
three_by mc68010 k true usp isp msp q e h = impossible (h refl)
three_by mc68010 k false usp isp msp q e h = record { usp_is = refl; isp_is = refl; msp_is = refl }
three_by mc68020 k true usp isp msp q e h = rw e (record { usp_is = refl; isp_is = refl; msp_is = refl })
three_by mc68020 k false usp isp msp q e h = record { usp_is = refl; isp_is = refl; msp_is = refl }
three_by mc68030 k true usp isp msp q e h = rw e (record { usp_is = refl; isp_is = refl; msp_is = refl })
three_by mc68030 k false usp isp msp q e h = record { usp_is = refl; isp_is = refl; msp_is = refl }
three_by mc68040 k true usp isp msp q e h = rw e (record { usp_is = refl; isp_is = refl; msp_is = refl })
three_by mc68040 k false usp isp msp q e h = record { usp_is = refl; isp_is = refl; msp_is = refl }
three_by mc68060 k true usp isp msp q e h = rw e (record { usp_is = refl; isp_is = refl; msp_is = refl })
three_by mc68060 k false usp isp msp q e h = record { usp_is = refl; isp_is = refl; msp_is = refl }

pub three_are : (f : Family) (c : Cpu) → Tests f (kind_of c) → Sound (regs_of c) → (q : ℕ)
    → Three (set_top (with_sm (view (stacks_of c)) true (nonzero c.flags.m_flag)) q) (view (regs_of c)).usp (cond (has_master f && is_set 12 (get_sr c)) (view (regs_of c)).isp q) (cond (has_master f && is_set 12 (get_sr c)) q (view (regs_of c)).msp)
three_are f c t s q =
    subst (λ (v : View). Three (set_top (with_sm v true (nonzero c.flags.m_flag)) q) (view (regs_of c)).usp (cond (has_master f && is_set 12 (get_sr c)) (view (regs_of c)).isp q) (cond (has_master f && is_set 12 (get_sr c)) q (view (regs_of c)).msp)) (view_of c)
    (subst (λ (b : Bool). Three (set_top (with_sm (view (regs_of c)) true b) q) (view (regs_of c)).usp (cond (has_master f && is_set 12 (get_sr c)) (view (regs_of c)).isp q) (cond (has_master f && is_set 12 (get_sr c)) q (view (regs_of c)).msp)) m_is_lem
    (subst (λ (j : ℕ). Three (set_ptr (record { kind = j; s = true; m = is_set 12 (get_sr c); usp = (view (regs_of c)).usp; isp = (view (regs_of c)).isp; msp = (view (regs_of c)).msp }) (bank_of j true (is_set 12 (get_sr c))) q) (view (regs_of c)).usp (cond (has_master f && is_set 12 (get_sr c)) (view (regs_of c)).isp q) (cond (has_master f && is_set 12 (get_sr c)) q (view (regs_of c)).msp))
    (sym (view_kind (regs_of c) ∙ kind_regs c))
    (three_by f (kind_of c) (is_set 12 (get_sr c)) (view (regs_of c)).usp (view (regs_of c)).isp (view (regs_of c)).msp q (sixty_is (kind_of c) t.is6) clear)))
  where
    m_is_lem : is_set 12 (get_sr c) ≡ nonzero c.flags.m_flag
    m_is_lem = sound_m c s ∙ flag_regs c

    clear : early f ≡ true → is_set 12 (get_sr c) ≡ false
    clear e = ap (λ (n : ℕ). eqb n 1) (no_m (kind_of c) (get_sr c) (eqb-true (sr_mask (kind_of c)) 0xA71F (t.mask ∙ e)) (sound_mask c s))

-- ---- the status

core : (t m k r : ℕ) → m < 2 → k < 8 → r < 32 → entered (t * 0x2000 + m * 0x1000 + k * 256 + r) ≡ 0x2000 + m * 0x1000 + k * 256 + r
unfolding entered
core t m k r a b c =
    let p : (t * 0x2000 + m * 0x1000 + k * 256 + r) / 2 ^ 12 % 2 ≡ m = omega arith in
    let q : (t * 0x2000 + m * 0x1000 + k * 256 + r) / 0x100 % 8 ≡ k = omega arith in
    let o : (t * 0x2000 + m * 0x1000 + k * 256 + r) % 0x20 ≡ r = omega arith in
    rw (p, q, o)

-- the sum of a status, by what an entry clears and what it keeps
pub split : (a b u m k r : ℕ) → a * 0x8000 + b * 0x4000 + u * 0x2000 + m * 0x1000 + k * 256 + r ≡ (a * 4 + b * 2 + u) * 0x2000 + m * 0x1000 + k * 256 + r
split a b u m k r = omega arith

pub low : (x n v c : ℕ) (z : Bool) → (x % 2 * 16 + n % 2 * 8 + v % 2 * 2 + c % 2) + pick z 4 0 < 32
low x n v c true = omega arith
low x n v c false = omega arith

sums : (a b u m k r q : ℕ) → a * 0x8000 + b * 0x4000 + u * 0x2000 + m * 0x1000 + k * 256 + r + q ≡ a * 0x8000 + b * 0x4000 + u * 0x2000 + m * 0x1000 + k * 256 + (r + q)
sums a b u m k r q = omega arith

entered_by_lem : (a b u m k r q : ℕ) → m < 2 → k < 8 → r + q < 32
    → 0 + 0 + 0x2000 + m * 0x1000 + k * 256 + r + q ≡ entered (a * 0x8000 + b * 0x4000 + u * 0x2000 + m * 0x1000 + k * 256 + r + q)
entered_by_lem a b u m k r q h l n =
    let e : 0 + 0 + 0x2000 + m * 0x1000 + k * 256 + r + q ≡ 0x2000 + m * 0x1000 + k * 256 + (r + q) = omega arith in
    e ∙ sym (core (a * 4 + b * 2 + u) m k (r + q) h l n) ∙ ap entered (sym (sums a b u m k r q ∙ split a b u m k (r + q)))

pub entered_status : (c : Cpu) → get_sr (enter_supervisor c) ≡ entered (get_sr c)
unfolding get_sr compose enter_supervisor clear_trace set_sflag restore_sp put_s backup_sp
entered_status c =
    entered_by_lem (c.flags.t1_flag / 0x8000 % 2) (c.flags.t0_flag / 0x4000 % 2) (c.flags.s_flag / 4 % 2) (c.flags.m_flag / 2 % 2) (c.flags.int_mask / 256 % 8)
    (c.flags.x_flag / 256 % 2 * 16 + c.flags.n_flag / 128 % 2 * 8 + c.flags.v_flag / 128 % 2 * 2 + c.flags.c_flag / 256 % 2) (pick (eqb c.flags.not_z_flag 0) 4 0)
    (omega arith) (omega arith) (low (c.flags.x_flag / 256) (c.flags.n_flag / 128) (c.flags.v_flag / 128) (c.flags.c_flag / 256) (eqb c.flags.not_z_flag 0))

pub bus_status : (c : Cpu) → get_sr (enter_bus_error c) ≡ entered (get_sr c)
unfolding enter_bus_error clear_fc_override get_sr
bus_status c = entered_status c

s_core : (a b u m k r q : ℕ) → u < 2 → m < 2 → k < 8 → r + q < 32 → (a * 0x8000 + b * 0x4000 + u * 0x2000 + m * 0x1000 + k * 256 + r + q) / 2 ^ 13 % 2 ≡ u
s_core a b u m k r q g h l n =
    let e : (a * 0x8000 + b * 0x4000 + u * 0x2000 + m * 0x1000 + k * 256 + r + q) / 2 ^ 13 ≡ a * 4 + b * 2 + u = omega arith in
    rw e (omega arith)

-- S of the status is the flag
pub s_bit_lem : (c : Cpu) → get_sr c / 2 ^ 13 % 2 ≡ c.flags.s_flag / 4 % 2
unfolding get_sr compose
s_bit_lem c =
    s_core (c.flags.t1_flag / 0x8000 % 2) (c.flags.t0_flag / 0x4000 % 2) (c.flags.s_flag / 4 % 2) (c.flags.m_flag / 2 % 2) (c.flags.int_mask / 256 % 8)
    (c.flags.x_flag / 256 % 2 * 16 + c.flags.n_flag / 128 % 2 * 8 + c.flags.v_flag / 128 % 2 * 2 + c.flags.c_flag / 256 % 2) (pick (eqb c.flags.not_z_flag 0) 4 0)
    (omega arith) (omega arith) (omega arith) (low (c.flags.x_flag / 256) (c.flags.n_flag / 128) (c.flags.v_flag / 128) (c.flags.c_flag / 256) (eqb c.flags.not_z_flag 0))

mask_core : (a b u m k r q : ℕ) → m < 2 → k < 8 → r + q < 32 → (a * 0x8000 + b * 0x4000 + u * 0x2000 + m * 0x1000 + k * 256 + r + q) / 0x100 % 8 ≡ k
mask_core a b u m k r q h l n =
    let e : (a * 0x8000 + b * 0x4000 + u * 0x2000 + m * 0x1000 + k * 256 + r + q) / 0x100 ≡ a * 128 + b * 64 + u * 32 + m * 16 + k = omega arith in
    rw e (omega arith)

-- the mask of the status is the field
pub mask_bits : (c : Cpu) → get_sr c / 0x100 % 8 ≡ c.flags.int_mask / 256 % 8
unfolding get_sr compose
mask_bits c =
    mask_core (c.flags.t1_flag / 0x8000 % 2) (c.flags.t0_flag / 0x4000 % 2) (c.flags.s_flag / 4 % 2) (c.flags.m_flag / 2 % 2) (c.flags.int_mask / 256 % 8)
    (c.flags.x_flag / 256 % 2 * 16 + c.flags.n_flag / 128 % 2 * 8 + c.flags.v_flag / 128 % 2 * 2 + c.flags.c_flag / 256 % 2) (pick (eqb c.flags.not_z_flag 0) 4 0)
    (omega arith) (omega arith) (low (c.flags.x_flag / 256) (c.flags.n_flag / 128) (c.flags.v_flag / 128) (c.flags.c_flag / 256) (eqb c.flags.not_z_flag 0))

-- an interrupt: the mask is its level, and M is clear, in whatever way it became so
pub levels : (a b u m k r q level : ℕ) → m < 2 → k < 8 → r + q < 32 → level < 8
    → 0 + 0 + 0x2000 + 0 + level * 256 + r + q ≡ interrupted level (a * 0x8000 + b * 0x4000 + u * 0x2000 + m * 0x1000 + k * 256 + r + q)
unfolding interrupted
levels a b u m k r q level h l n g =
    let o : (a * 0x8000 + b * 0x4000 + u * 0x2000 + m * 0x1000 + k * 256 + r + q) % 0x20 ≡ r + q = omega arith in
    rw o (omega arith)

-- where M was clear, to clear it is nothing
pub clear_none : (c : Cpu) → c.flags.m_flag ≡ 0 → get_sr (clear_m c) ≡ get_sr c
unfolding get_sr compose clear_m
clear_none c e = rw e

-- ---- the vector's address

based : (n v : ℕ) → not (eqb n 0) ≡ false → (0 + 4 * v) % 0x100000000 ≡ (n + 4 * v) % 0x100000000
based n v e = go (eqb n 0) refl e
  where
    go : (b : Bool) → eqb n 0 ≡ b → not b ≡ false → (0 + 4 * v) % 0x100000000 ≡ (n + 4 * v) % 0x100000000
    go true h k = ap (λ (m : ℕ). (m + 4 * v) % 0x100000000) (sym (eqb-true n 0 h))
    go false h k = impossible k

or_false : (a : Bool) → (a || false) ≡ false → a ≡ false
or_false true e = e
or_false false e = refl

pub vector_is : (f : Family) (w : Via) (c : Class) (s : State) (v : ℕ) → pc_differs differences (of f s) w c v ≡ false → vector_at (of f s) v ≡ (s.vbr + 4 * v) % 0x100000000
unfolding differences pc_differs vector_at
vector_is mc68000 by_vector instruction s v e = based s.vbr v (or_false (not (eqb s.vbr 0)) e)
vector_is mc68000 by_vector trap s v e = based s.vbr v (or_false (not (eqb s.vbr 0)) e)
vector_is mc68000 by_vector group2 s v e = based s.vbr v (or_false (not (eqb s.vbr 0)) e)
vector_is mc68000 by_vector interrupt s v e = based s.vbr v (or_false (not (eqb s.vbr 0)) e)
vector_is mc68000 by_vector bus_error s v e = based s.vbr v (or_false (not (eqb s.vbr 0)) e)
vector_is mc68000 by_vector address_error s v e = based s.vbr v (or_false (not (eqb s.vbr 0)) e)
vector_is mc68000 by_vector protocol s v e = based s.vbr v (or_false (not (eqb s.vbr 0)) e)
vector_is mc68000 by_vector configuration s v e = based s.vbr v (or_false (not (eqb s.vbr 0)) e)
vector_is mc68000 by_vector fp_unimplemented s v e = based s.vbr v (or_false (not (eqb s.vbr 0)) e)
vector_is mc68000 by_vector fp_disabled s v e = based s.vbr v (or_false (not (eqb s.vbr 0)) e)
vector_is mc68000 own instruction s v e = based s.vbr v (or_false (not (eqb s.vbr 0)) e)
vector_is mc68000 own trap s v e = based s.vbr v (or_false (not (eqb s.vbr 0)) e)
vector_is mc68000 own group2 s v e = based s.vbr v (or_false (not (eqb s.vbr 0)) e)
vector_is mc68000 own interrupt s v e = based s.vbr v (or_false (not (eqb s.vbr 0)) e)
vector_is mc68000 own bus_error s v e = based s.vbr v (or_false (not (eqb s.vbr 0)) e)
vector_is mc68000 own address_error s v e = based s.vbr v (or_false (not (eqb s.vbr 0)) e)
vector_is mc68000 own protocol s v e = based s.vbr v (or_false (not (eqb s.vbr 0)) e)
vector_is mc68000 own configuration s v e = based s.vbr v (or_false (not (eqb s.vbr 0)) e)
vector_is mc68000 own fp_unimplemented s v e = based s.vbr v (or_false (not (eqb s.vbr 0)) e)
vector_is mc68000 own fp_disabled s v e = based s.vbr v (or_false (not (eqb s.vbr 0)) e)
vector_is mc68010 w c s v e = refl
vector_is mc68020 w c s v e = refl
vector_is mc68030 w c s v e = refl
vector_is mc68040 w c s v e = refl
vector_is mc68060 w c s v e = refl

-- ---- the pins

below24 : (lines a : ℕ) → (eqb lines 24 && leb 0x1000000 a) ≡ false → on_pins lines a ≡ a
below24 lines a e = go (eqb lines 24) (leb 0x1000000 a) refl e
  where
    go : (b c : Bool) → leb 0x1000000 a ≡ c → (b && c) ≡ false → cond b (a % 0x1000000) a ≡ a
    go true true h k = impossible k
    go true false h k = omega (arith, leb-false 0x1000000 a h)
    go false c h k = refl

like_pins : (b d : Bool) (a : ℕ) → b ≡ d → cond b (a % 0x1000000) a ≡ pick d (a % 0x1000000) a
like_pins true d a e = rw (← e)
like_pins false d a e = rw (← e)

pub pins_are : (f : Family) (w : Via) (c : Class) (s : State) (v k : ℕ) → Tests f k → s.lines ≡ lines_of k → (a : ℕ) → pins_differ differences (of f s) w c v a ≡ false → on_pins s.lines a ≡ mask_address k a
unfolding differences pins_differ mask_address
pins_are mc68020 by_vector instruction s v k t n a e = below24 s.lines a (or_false (eqb s.lines 24 && leb 0x1000000 a) e) ∙ rw t.three
pins_are mc68020 by_vector trap s v k t n a e = below24 s.lines a (or_false (eqb s.lines 24 && leb 0x1000000 a) e) ∙ rw t.three
pins_are mc68020 by_vector group2 s v k t n a e = below24 s.lines a (or_false (eqb s.lines 24 && leb 0x1000000 a) e) ∙ rw t.three
pins_are mc68020 by_vector interrupt s v k t n a e = below24 s.lines a (or_false (eqb s.lines 24 && leb 0x1000000 a) e) ∙ rw t.three
pins_are mc68020 by_vector bus_error s v k t n a e = below24 s.lines a (or_false (eqb s.lines 24 && leb 0x1000000 a) e) ∙ rw t.three
pins_are mc68020 by_vector address_error s v k t n a e = below24 s.lines a (or_false (eqb s.lines 24 && leb 0x1000000 a) e) ∙ rw t.three
pins_are mc68020 by_vector protocol s v k t n a e = below24 s.lines a (or_false (eqb s.lines 24 && leb 0x1000000 a) e) ∙ rw t.three
pins_are mc68020 by_vector configuration s v k t n a e = below24 s.lines a (or_false (eqb s.lines 24 && leb 0x1000000 a) e) ∙ rw t.three
pins_are mc68020 by_vector fp_unimplemented s v k t n a e = below24 s.lines a (or_false (eqb s.lines 24 && leb 0x1000000 a) e) ∙ rw t.three
pins_are mc68020 by_vector fp_disabled s v k t n a e = below24 s.lines a (or_false (eqb s.lines 24 && leb 0x1000000 a) e) ∙ rw t.three
pins_are mc68020 own instruction s v k t n a e = below24 s.lines a (or_false (eqb s.lines 24 && leb 0x1000000 a) e) ∙ rw t.three
pins_are mc68020 own trap s v k t n a e = below24 s.lines a (or_false (eqb s.lines 24 && leb 0x1000000 a) e) ∙ rw t.three
pins_are mc68020 own group2 s v k t n a e = below24 s.lines a (or_false (eqb s.lines 24 && leb 0x1000000 a) e) ∙ rw t.three
pins_are mc68020 own interrupt s v k t n a e = below24 s.lines a (or_false (eqb s.lines 24 && leb 0x1000000 a) e) ∙ rw t.three
pins_are mc68020 own bus_error s v k t n a e = below24 s.lines a (or_false (eqb s.lines 24 && leb 0x1000000 a) e) ∙ rw t.three
pins_are mc68020 own address_error s v k t n a e = below24 s.lines a (or_false (eqb s.lines 24 && leb 0x1000000 a) e) ∙ rw t.three
pins_are mc68020 own protocol s v k t n a e = below24 s.lines a (or_false (eqb s.lines 24 && leb 0x1000000 a) e) ∙ rw t.three
pins_are mc68020 own configuration s v k t n a e = below24 s.lines a (or_false (eqb s.lines 24 && leb 0x1000000 a) e) ∙ rw t.three
pins_are mc68020 own fp_unimplemented s v k t n a e = below24 s.lines a (or_false (eqb s.lines 24 && leb 0x1000000 a) e) ∙ rw t.three
pins_are mc68020 own fp_disabled s v k t n a e = below24 s.lines a (or_false (eqb s.lines 24 && leb 0x1000000 a) e) ∙ rw t.three
pins_are mc68000 w c s v k t n a e = ap (λ (q : ℕ). on_pins q a) n ∙ like_pins (eqb (lines_of k) 24) (ltb k 3) a (same_is _ _ t.pins)
pins_are mc68010 w c s v k t n a e = ap (λ (q : ℕ). on_pins q a) n ∙ like_pins (eqb (lines_of k) 24) (ltb k 3) a (same_is _ _ t.pins)
pins_are mc68030 w c s v k t n a e = ap (λ (q : ℕ). on_pins q a) n ∙ like_pins (eqb (lines_of k) 24) (ltb k 3) a (same_is _ _ t.pins)
pins_are mc68040 w c s v k t n a e = ap (λ (q : ℕ). on_pins q a) n ∙ like_pins (eqb (lines_of k) 24) (ltb k 3) a (same_is _ _ t.pins)
pins_are mc68060 w c s v k t n a e = ap (λ (q : ℕ). on_pins q a) n ∙ like_pins (eqb (lines_of k) 24) (ltb k 3) a (same_is _ _ t.pins)
