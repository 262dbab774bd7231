-- Theorems about what specs/Refusals defines, and what rests on them.
use Prim.Native.Nat.{ℕ, zero, suc, ◌+◌, ◌%◌, ◌^◌, ◌≤◌, ◌<◌}
use Rattle.std.specs.Prelude.{◌≡◌, Bool, ◌⊎◌, ◌↔◌, ltb, negsuc, ◌<ℤ◌, length}
use Rattle.std.proofs.Math.Path.{refl}
use Rattle.std.proofs.Common.{arith, eq-eqb, ne_eqb, ltb-true, ltb-false}
use Rattle.std.proofs.Math.Bool.{true, false}
use Rattle.std.proofs.Math.Dec.{eqb}
use Rattle.std.proofs.Math.ListN.{get_or-eq_default}
use Rattle.types.specs.Kinds.{both, is_pre68020}
use Rattle.cpu.specs.Fields.{kind_of, vbr_of, checks_alignment, has_fc_override, fc_override_of}
use Rattle.pending.specs.Interrupts.{has_cycles}
use Rattle.memory.specs.World.{World, cpu_of}
use Rattle.bounds.specs.Levels.{Domain, clash}
use Rattle.refusals.specs.Refusals.{bad_flags, odd_base, bad_cycles, bad_code, bad_store, bad_windows, short_log, bad_vector, bad_kind, tests_of}
use Rattle.refusals.specs.Laws.{outcomes}
use Rattle.answers.specs.declared.Call.{Call}
use Rattle.answers.specs.Answer.{Refused}
use Rattle.answers.specs.Matters.{matter_of}
use Rattle.answers.specs.Answers.{answered}
use Rattle.calls.specs.Calls.{restarted, begun, run, refusal, perform}
use Rattle.promises.specs.Refusals.{numbered, holds, refusal_exact, refusal_none, self_is, eqb_is, ltb_is, not_is, both_is, either_is, below_is, Past, any_is}

module _ (w : World) (c : Call) where
  -- 1: `s_flag` is not 0 or 4, or `m_flag` not 0 or 2
  pub condition_1 : (holds w c 1 ≡ true) ↔ ((((cpu_of w).flags.s_flag ≡ 0) ⊎ ((cpu_of w).flags.s_flag ≡ 4)) × (((cpu_of w).flags.m_flag ≡ 0) ⊎ ((cpu_of w).flags.m_flag ≡ 2)) → ⊥)
  unfolding outcomes tests_of bad_flags
  condition_1 = not_is _ (both_is _ _ (either_is _ _ (eqb_is _ 0) (eqb_is _ 4)) (either_is _ _ (eqb_is _ 0) (eqb_is _ 2)))

  -- 2: the vector base is odd on kinds 1, 2, 10
  pub condition_2 : (holds w c 2 ≡ true) ↔ (((kind_of (cpu_of w) ≡ 1) ⊎ ((kind_of (cpu_of w) ≡ 2) ⊎ (kind_of (cpu_of w) ≡ 10))) × (vbr_of (cpu_of w) % 2 ≡ 1))
  unfolding outcomes tests_of odd_base checks_alignment kind_of is_pre68020
  condition_2 = both_is _ _ (either_is _ _ (eqb_is _ 1) (either_is _ _ (eqb_is _ 2) (eqb_is _ 10))) (eqb_is _ 1)

  -- 3: the interrupt call, with `cycles_remaining` below -2,147,483,602
  pub condition_3 : (holds w c 3 ≡ true) ↔ (((matter_of c).interrupt ≡ true) × ((cpu_of w).flow.cycles_remaining <ℤ negsuc 2147483601))
  unfolding outcomes tests_of bad_cycles has_cycles
  condition_3 = both_is _ _ (self_is _) (below_is (cpu_of w).flow.cycles_remaining)

  -- 4: a function code above 7 stands in
  pub condition_4 : (holds w c 4 ≡ true) ↔ ((has_fc_override (cpu_of w) ≡ true) × (7 < fc_override_of (cpu_of w)))
  unfolding outcomes tests_of bad_code
  condition_4 = both_is _ _ (self_is _) (ltb_is 7 _)

  -- 5: a store is lent, of more than 65,536 bytes or past 2^32
  pub condition_5 : (holds w c 5 ≡ true) ↔ (((matter_of c).store ≡ true) × ((65536 < length w.store) ⊎ (2 ^ 32 < w.core.bus.base + length w.store)))
  unfolding outcomes tests_of bad_store
  condition_5 = both_is _ _ (self_is _) (either_is _ _ (ltb_is 0x10000 _) (ltb_is (2 ^ 32) _))

  -- 6: a store is lent, and there are more than 8 windows or one ends past 2^32
  pub condition_6 : (holds w c 6 ≡ true) ↔ (((matter_of c).store ≡ true) × ((8 < w.core.bus.windows) ⊎ Past w.core.bus w.core.bus.windows))
  unfolding outcomes tests_of bad_windows
  condition_6 = both_is _ _ (self_is _) (either_is _ _ (ltb_is 8 _) (any_is w.core.bus w.core.bus.windows))

  -- 7: a log is lent, of fewer than 192 words
  pub condition_7 : (holds w c 7 ≡ true) ↔ (((matter_of c).log ≡ true) × (length w.log < 192))
  unfolding outcomes tests_of short_log
  condition_7 = both_is _ _ (self_is _) (ltb_is _ 192)

  -- 8: a vector above 255
  pub condition_8 : (holds w c 8 ≡ true) ↔ (255 < (matter_of c).vector)
  unfolding outcomes tests_of bad_vector
  condition_8 = ltb_is 255 _

  -- 9: a kind above 11, or a floating-point entry on a kind other than 11
  pub condition_9 : (holds w c 9 ≡ true) ↔ ((11 < kind_of (cpu_of w)) ⊎ (((matter_of c).floating ≡ true) × (kind_of (cpu_of w) ≡ 11 → ⊥)))
  unfolding outcomes tests_of bad_kind
  condition_9 = either_is _ _ (ltb_is 11 _) (both_is _ _ (self_is _) (not_is _ (eqb_is _ 11)))

  -- there is no tenth
  pub nine_conditions : (n : ℕ) → 9 < n → holds w c n ≡ false
  unfolding outcomes tests_of
  nine_conditions n h = get_or-eq_default (numbered w c) false {n = n} (omega arith)

  -- so no number is above 9
  pub refusal_9 : refusal w c ≤ 9
  refusal_9 = go (ltb 9 (refusal w c)) refl
    where
      go : (b : Bool) → ltb 9 (refusal w c) ≡ b → refusal w c ≤ 9
      go true e = let h : 9 < refusal w c = ltb-true 9 (refusal w c) e in clash ((refusal_exact w c (refusal w c) (omega arith)).0 refl).0 (nine_conditions (refusal w c) h)
      go false e = ltb-false 9 (refusal w c) e

  -- ---- what a refusal leaves

  -- A REFUSED CALL answers its number, and the world after it is the one before it
  pub refused_unchanged : (refusal w c ≡ 0 → ⊥) → perform w c ≡ answered w (Refused (refusal w c))
  unfolding perform
  refused_unchanged h = rw (ne_eqb (refusal w c) 0 h)

  -- an accepted call runs from an empty log
  pub accepted_runs : refusal w c ≡ 0 → perform w c ≡ run (begun w) c
  unfolding perform
  accepted_runs h = rw (eq-eqb (refusal w c) 0 h)

  -- so a call that is accepted is inside the domain
  pub accepted_domain : refusal w c ≡ 0 → Domain (begun w)
  unfolding begun restarted outcomes tests_of odd_base checks_alignment kind_of vbr_of
  accepted_domain h k = even (vbr_of (cpu_of w) % 2) (omega arith) (go (is_pre68020 (kind_of (cpu_of w))) k ((refusal_none w c).0 h 2))
    where
      go : (b : Bool) → b ≡ true → both b (eqb (vbr_of (cpu_of w) % 2) 1) ≡ false → eqb (vbr_of (cpu_of w) % 2) 1 ≡ false
      go true e f = f
      go false e f = clash {b = false} e refl

      even : (n : ℕ) → n < 2 → eqb n 1 ≡ false → n ≡ 0
      even zero l e = refl
      even (suc zero) l e = clash {b = true} refl e
      even (suc (suc n)) l e = absurd (omega arith)
