-- The bytes of a frame, tested one by one or as one run.
use Rattle.std.proofs.Common.{◌≡◌, ℕ, zero, suc, ◌+◌, ◌<◌, Bool, true, false, length, nat_lt, refl, ◌∙◌, arith, ltb-true, ltb-false}
use Rattle.types.specs.Kinds.{both}
use Rattle.memory.specs.Served.{served_of}
use Rattle.unwind.specs.Straight.{straight, straight_served}
use Rattle.unwind.specs.Frames.{Sight, byte_address, byte_served, all_served}

-- a run that does not wrap
pub run_served : (v : Sight) (p n a : ℕ) (b : Bool) → (n ≡ 0 → ⊥) → a ≡ byte_address v.kind p 0 → straight v.kind a n ≡ true → b ≡ served_of v.bus (length v.store) a n → b ≡ all_served v p n
run_served v p zero a b z e s h = absurd (z refl)
run_served v p (suc n) a b z e s h = h ∙ rw e (straight_served v p (suc n) (omega arith) (rw e at s))

-- one byte that is not served is enough
pub one_missing : (v : Sight) (p n i : ℕ) → i < n → byte_served v p i ≡ false → all_served v p n ≡ false
unfolding all_served
one_missing v p zero i l e = absurd (omega arith)
one_missing v p (suc n) i l e = go (nat_lt i n) refl (byte_served v p n) refl (λ (h : i < n). one_missing v p n i h e)
  where
    go : (t : Bool) → nat_lt i n ≡ t → (u : Bool) → byte_served v p n ≡ u → (i < n → all_served v p n ≡ false) → both u (all_served v p n) ≡ false
    go t h false q r = refl
    go true h true q r = r (ltb-true i n h)
    go false h true q r = let k : i ≡ n = omega (arith, ltb-false i n h) in cc

pub one_more : (v : Sight) (p i : ℕ) → all_served v p i ≡ true → byte_served v p i ≡ true → all_served v p (i + 1) ≡ true
unfolding all_served
one_more v p i h q = let s : i + 1 ≡ suc i = omega arith in rw (s, q) h
