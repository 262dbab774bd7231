-- What the tests of the fast way tell.
use Rattle.std.specs.Prelude.{ℕ, ◌+◌, ◌%◌, ◌^◌, ◌≤◌, ◌≡◌, ◌⊎◌, Bool, not, eqb, ltb}
use Rattle.std.proofs.Math.Path.{refl}
use Rattle.std.proofs.Common.{sym, inl, inr, arith}
use Rattle.std.proofs.Math.Bool.{true, false}
use borrow.Author.Tests.{ltb-false, eqb-true, eqb-false, not-true, not-false, le-ltb}
use Rattle.types.specs.Kinds.{pick, both, is060}
use Rattle.cpu.specs.Fields.{kind_of, vbr_of, checks_alignment, has_fc_override}
use Rattle.memory.specs.declared.Core.{Core}
use Rattle.refusals.specs.Matters.{Matter}
use Rattle.answers.specs.Matters.{of_lent, of_floating}
use Rattle.refusals.specs.Refusals.{bad_flags, odd_base, bad_cycles, bad_code, bad_store, any_past, bad_windows, short_log, bad_vector, bad_kind, tests_of, first_number, refusal_of}
use Rattle.fast_plans.specs.Views.{view_of, span_of, is_other, accepts_of}

-- ---- tests

pub false_true : (R : Type 0) → false ≡ true → R
false_true R e = absurd (eqb-false 0 0 (sym e) refl)

-- the other way: a pick that is true
pub pick_false : (b : Bool) (y : Bool) → pick b false y ≡ true → (b ≡ false) × (y ≡ true)
pick_false true y e = false_true _ e
pick_false false y e = (refl, e)

-- a test that is false although one of two may hold
other_of : (a b : Bool) → pick a false (not b) ≡ false → (a ≡ true) ⊎ (b ≡ true)
other_of true b e = inl refl
other_of false b e = inr (not-false b e)

-- ---- what `accepts` tells

pub record Accepted (m : Core) (stored logged : ℕ) : Type 0 where
  pub supervisor : (m.cpu.flags.s_flag ≡ 0) ⊎ (m.cpu.flags.s_flag ≡ 4)
  pub master : m.cpu.flags.m_flag ≡ 0
  pub base : eqb (m.cpu.flow.vbr % 2) 1 ≡ false
  pub code : m.cpu.fault.mmu_fc_override.some ≡ false
  pub windows : m.bus.windows ≡ 0
  pub bytes : stored ≤ 65536
  pub span : m.bus.base + stored ≤ span_of m.cpu.flow.cpu_type
  pub log : 192 ≤ logged
  pub kind : m.cpu.flow.cpu_type ≤ 11
  pub running : eqb m.cpu.flow.run_mode 1 ≡ false

other_flag : (s : ℕ) → is_other s ≡ false → (s ≡ 0) ⊎ (s ≡ 4)
unfolding is_other
other_flag s e = go (other_of (eqb s 0) (eqb s 4) e)
  where
    go : (eqb s 0 ≡ true) ⊎ (eqb s 4 ≡ true) → (s ≡ 0) ⊎ (s ≡ 4)
    go (inl h) = inl (eqb-true s 0 h)
    go (inr h) = inr (eqb-true s 4 h)

pub accepted : (m : Core) (stored logged : ℕ) → accepts_of (view_of m) stored logged ≡ true → Accepted m stored logged
unfolding accepts_of view_of
accepted m stored logged e =
    let c = m.cpu in
    let t1 = pick_false (is_other c.flags.s_flag) _ e in
    let t2 = pick_false (not (eqb c.flags.m_flag 0)) _ t1.1 in
    let t3 = pick_false (eqb (c.flow.vbr % 2) 1) _ t2.1 in
    let t4 = pick_false c.fault.mmu_fc_override.some _ t3.1 in
    let t5 = pick_false (not (eqb m.bus.windows 0)) _ t4.1 in
    let t6 = pick_false (ltb 65536 stored) _ t5.1 in
    let t7 = pick_false (ltb (span_of c.flow.cpu_type) (m.bus.base + stored)) _ t6.1 in
    let t8 = pick_false (ltb logged 192) _ t7.1 in
    let t9 = pick_false (ltb 11 c.flow.cpu_type) _ t8.1 in
    record {
      supervisor = other_flag c.flags.s_flag t1.0;
      master = eqb-true c.flags.m_flag 0 (not-false (eqb c.flags.m_flag 0) t2.0);
      base = t3.0;
      code = t4.0;
      windows = eqb-true m.bus.windows 0 (not-false (eqb m.bus.windows 0) t5.0);
      bytes = ltb-false 65536 stored t6.0;
      span = ltb-false (span_of c.flow.cpu_type) (m.bus.base + stored) t7.0;
      log = ltb-false logged 192 t8.0;
      kind = ltb-false 11 c.flow.cpu_type t9.0;
      running = not-true (eqb c.flow.run_mode 1) t9.1;
    }

-- ---- so nothing refuses the call

span_top : (k : ℕ) → span_of k ≤ 2 ^ 32
unfolding span_of
span_top k = go (ltb k 3)
  where
    go : (t : Bool) → pick t 0x1000000 0x100000000 ≤ 2 ^ 32
    go true = omega arith
    go false = omega arith

module _ (m : Core) (stored logged : ℕ) (h : Accepted m stored logged) where
  flags_fine : bad_flags m.cpu ≡ false
  unfolding bad_flags
  flags_fine = go h.supervisor
    where
      go : (m.cpu.flags.s_flag ≡ 0) ⊎ (m.cpu.flags.s_flag ≡ 4) → bad_flags m.cpu ≡ false
      go (inl e) = rw (e, h.master)
      go (inr e) = rw (e, h.master)

  base_fine : odd_base m.cpu ≡ false
  unfolding odd_base vbr_of
  base_fine = rw h.base (go (checks_alignment m.cpu))
    where
      go : (t : Bool) → both t false ≡ false
      go true = refl
      go false = refl

  code_fine : bad_code m.cpu ≡ false
  unfolding bad_code has_fc_override
  code_fine = rw h.code

  store_fine : (lent : Bool) → bad_store lent m.bus stored ≡ false
  unfolding bad_store
  store_fine true =
      rw (le-ltb 65536 stored h.bytes, le-ltb (2 ^ 32) (m.bus.base + stored) (let u = h.span in let v = span_top m.cpu.flow.cpu_type in omega arith))
  store_fine false = refl

  windows_fine : (lent : Bool) → bad_windows lent m.bus ≡ false
  unfolding bad_windows any_past
  windows_fine true = rw h.windows
  windows_fine false = refl

  log_fine : (lent : Bool) → short_log lent logged ≡ false
  unfolding short_log
  log_fine true = le-ltb logged 192 h.log
  log_fine false = refl

  kind_fine : bad_kind false m.cpu ≡ false
  unfolding bad_kind kind_of
  kind_fine = rw (le-ltb 11 m.cpu.flow.cpu_type h.kind)

  pub not_refused : (x : Matter) → x.floating ≡ false → x.vector ≤ 255 → bad_cycles x.interrupt m.cpu ≡ false → refusal_of m stored logged x ≡ 0
  unfolding refusal_of tests_of first_number bad_vector
  not_refused x f v i =
      rw (f, flags_fine, base_fine, i, code_fine, store_fine x.store, windows_fine x.store, log_fine x.log, le-ltb 255 x.vector v, kind_fine)

-- on the 68060 number 9 refuses a floating-point entry no more than another
pub floating_fine : (m : Core) (stored logged : ℕ) → is060 m.cpu.flow.cpu_type ≡ true → refusal_of m stored logged of_floating ≡ refusal_of m stored logged of_lent
unfolding refusal_of tests_of first_number bad_kind is060 kind_of
floating_fine m stored logged e = rw e
