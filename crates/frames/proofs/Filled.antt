-- A frame of the fields of a list: the array that is filled from the front.
use Rattle.std.specs.Prelude.{◌≡◌, refl, ℕ, zero, suc, List, [], ◌∷◌, ◌++◌, length, take, drop, replicate, min}
use Rattle.std.proofs.Common.{arith, sym, ap, ◌∙◌}
use Rattle.std.proofs.lemmas.List.{drop-replicate, length-take, take_all}
use Rattle.frames.specs.declared.Field.{Field}
use Rattle.frames.specs.Frames.{framed, gap_word}

-- so many fields, or all there are
taken : (k n : ℕ) (fs : List Field) → n ≡ min (length fs) k → take n fs ≡ take k fs
taken k n [] h = rw h (take_all _ _ (omega arith) ∙ sym (take_all _ _ (omega arith)))
taken zero n (x ∷ fs) h = let e : n ≡ 0 = omega (arith, h) in rw e refl
taken (suc k) zero (x ∷ fs) h = absurd (omega (arith, h))
taken (suc k) (suc n) (x ∷ fs) h = ap (λ (ys : List Field). x ∷ ys) (taken k n fs (omega (arith, h)))

pub filled : (fs xs : List Field) (n : ℕ) → n ≡ min (length fs) 28 → xs ≡ take n fs → record { fields = xs ++ drop n (replicate 28 gap_word); count = n } ≡ framed (take 28 fs)
filled fs xs n h0 h1 =
    let e : take n fs ≡ take 28 fs = taken 28 n fs h0 in
    let l : n ≡ length (take 28 fs) = omega (arith, h0, length-take 28 fs) in
    rw (h1, e, drop-replicate n 28 gap_word, l) refl
