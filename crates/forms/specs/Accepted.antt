-- What a call that no number refuses is known to be: flags, kind, vector, floating point.
use Rattle.std.specs.Prelude.{ℕ, ◌+◌, ◌^◌, ◌≤◌, ◌<◌, ◌≡◌, ◌⊎◌, Bool, not, eqb, ltb, get_or}
use Rattle.std.proofs.Math.Path.{refl}
use Rattle.std.proofs.Common.{sym, ◌∙◌, inl, inr, arith}
use Rattle.std.proofs.Math.Bool.{true, false}
use borrow.Author.Tests.{ltb-false, eqb-true}
use Rattle.std.proofs.Math.ListN.{length}
use Rattle.types.specs.Kinds.{either, both, is060}
use Rattle.cpu.specs.Fields.{kind_of}
use Rattle.memory.specs.World.{World, cpu_of}
use Rattle.refusals.specs.Refusals.{bad_flags, odd_base, bad_code, bad_vector, bad_kind, tests_of, bad_store, bad_windows, short_log}
use Rattle.refusals.specs.Laws.{outcomes, refusal_place, place_none}
use Rattle.answers.specs.declared.Call.{Call}
use Rattle.answers.specs.Matters.{matter_of}
use Rattle.calls.specs.Calls.{refusal}

none : {A : Type 0} → true ≡ false → A
none e = let z : ◌≡◌ {A = ℕ} 0 1 = cc in absurd (omega arith)

both_true : (a b : Bool) → not (both a b) ≡ false → (a ≡ true) × (b ≡ true)
both_true true true e = (refl, refl)
both_true true false e = none e
both_true false b e = none e

either_true : (a b : Bool) → either a b ≡ true → (a ≡ true) ⊎ (b ≡ true)
either_true true b e = inl refl
either_true false b e = inr e

pub either_false : (a b : Bool) → either a b ≡ false → (a ≡ false) × (b ≡ false)
either_false true b e = none e
either_false false b e = (refl, e)

-- a test of what is lent, where it is lent
lent_fails : (a b : Bool) → a ≡ true → both a b ≡ false → b ≡ false
lent_fails true b e f = f
lent_fails false b e f = none (sym e)

value_of : (n a b : ℕ) → (eqb n a ≡ true) ⊎ (eqb n b ≡ true) → (n ≡ a) ⊎ (n ≡ b)
value_of n a b (inl e) = inl (eqb-true n a e)
value_of n a b (inr e) = inr (eqb-true n b e)

module _ (w : World) (c : Call) (r : refusal w c ≡ 0) where
  tests : (i : ℕ) → get_or (outcomes (tests_of w.core (length w.store) (length w.log) (matter_of c))) i false ≡ false
  unfolding refusal
  tests i =
      place_none 0 (outcomes (tests_of w.core (length w.store) (length w.log) (matter_of c))) i
      (sym (refusal_place w.core (length w.store) (length w.log) (matter_of c)) ∙ r)

  flags : bad_flags (cpu_of w) ≡ false
  unfolding outcomes tests_of
  flags = tests 0

  pub accepted_s : ((cpu_of w).flags.s_flag ≡ 0) ⊎ ((cpu_of w).flags.s_flag ≡ 4)
  unfolding bad_flags
  accepted_s = value_of (cpu_of w).flags.s_flag 0 4 (either_true _ _ (both_true (either (eqb (cpu_of w).flags.s_flag 0) (eqb (cpu_of w).flags.s_flag 4)) (either (eqb (cpu_of w).flags.m_flag 0) (eqb (cpu_of w).flags.m_flag 2)) flags).0)

  pub accepted_m : ((cpu_of w).flags.m_flag ≡ 0) ⊎ ((cpu_of w).flags.m_flag ≡ 2)
  unfolding bad_flags
  accepted_m = value_of (cpu_of w).flags.m_flag 0 2 (either_true _ _ (both_true (either (eqb (cpu_of w).flags.s_flag 0) (eqb (cpu_of w).flags.s_flag 4)) (either (eqb (cpu_of w).flags.m_flag 0) (eqb (cpu_of w).flags.m_flag 2)) flags).1)

  pub accepted_vector : (matter_of c).vector < 256
  unfolding outcomes tests_of bad_vector
  accepted_vector = omega (arith, ltb-false 255 (matter_of c).vector (tests 7))

  kind_test : bad_kind (matter_of c).floating (cpu_of w) ≡ false
  unfolding outcomes tests_of
  kind_test = tests 8

  pub accepted_kind : kind_of (cpu_of w) < 12
  unfolding bad_kind
  accepted_kind = omega (arith, ltb-false 11 (kind_of (cpu_of w)) (either_false (ltb 11 (kind_of (cpu_of w))) (both (matter_of c).floating (not (eqb (kind_of (cpu_of w)) 11))) kind_test).0)

  pub accepted_floating : (matter_of c).floating ≡ true → is060 (kind_of (cpu_of w)) ≡ true
  unfolding bad_kind is060
  accepted_floating e = go (matter_of c).floating (eqb (kind_of (cpu_of w)) 11) e (either_false (ltb 11 (kind_of (cpu_of w))) (both (matter_of c).floating (not (eqb (kind_of (cpu_of w)) 11))) kind_test).1
    where
      go : (f b : Bool) → f ≡ true → both f (not b) ≡ false → b ≡ true
      go true true x y = refl
      go true false x y = none y
      go false b x y = none (sym x)

  -- number 5
  pub accepted_store : (matter_of c).store ≡ true → length w.store ≤ 0x10000
  unfolding outcomes tests_of bad_store
  accepted_store e = omega (arith, ltb-false 0x10000 (length w.store) (either_false (ltb 0x10000 (length w.store)) (ltb (2 ^ 32) (w.core.bus.base + length w.store)) (lent_fails (matter_of c).store _ e (tests 4))).0)

  -- number 7
  pub accepted_log : (matter_of c).log ≡ true → 192 ≤ length w.log
  unfolding outcomes tests_of short_log
  accepted_log e = omega (arith, ltb-false (length w.log) 192 (lent_fails (matter_of c).log _ e (tests 6)))

  -- numbers 2, 4, 5 and 6
  pub accepted_base : odd_base (cpu_of w) ≡ false
  unfolding outcomes tests_of
  accepted_base = tests 1

  pub accepted_code : bad_code (cpu_of w) ≡ false
  unfolding outcomes tests_of
  accepted_code = tests 3

  pub accepted_room : bad_store (matter_of c).store w.core.bus (length w.store) ≡ false
  unfolding outcomes tests_of
  accepted_room = tests 4

  pub accepted_windows : bad_windows (matter_of c).store w.core.bus ≡ false
  unfolding outcomes tests_of
  accepted_windows = tests 5
