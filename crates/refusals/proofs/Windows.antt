-- One window that ends past 2^32 is enough, whichever it is.
use Rattle.std.proofs.Common.{◌≡◌, ℕ, zero, suc, ◌+◌, ◌<◌, Bool, true, false, refl, arith}
use Rattle.std.proofs.Common.{nat_lt, ltb-true, ltb-false}
use Rattle.types.specs.Kinds.{either}
use Rattle.memory.specs.declared.Bus.{Bus}
use Rattle.refusals.specs.Refusals.{past_top, any_past}

pub past_more : (b : Bus) (k n : ℕ) → k < n → past_top b k ≡ true → any_past b n ≡ true
unfolding any_past
past_more b k zero l e = absurd (omega arith)
past_more b k (suc n) l e = go (nat_lt k n) refl (past_top b n) refl (λ (h : k < n). past_more b k n h e)
  where
    go : (t : Bool) → nat_lt k n ≡ t → (u : Bool) → past_top b n ≡ u → (k < n → any_past b n ≡ true) → either u (any_past b n) ≡ true
    go t h true p r = refl
    go true h false p r = r (ltb-true k n h)
    go false h false p r = let q : k ≡ n = omega (arith, ltb-false k n h) in cc

pub none_more : (b : Bus) (k : ℕ) → any_past b k ≡ false → past_top b k ≡ false → any_past b (k + 1) ≡ false
unfolding any_past
none_more b k h p = let s : k + 1 ≡ suc k = omega arith in rw (s, p) h
