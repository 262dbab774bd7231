-- A rule of a whole table: a test that antt computes entry by entry, and one law that turns it into the rule at each entry.
-- The entries may be rows of numbers themselves.
use Rattle.std.specs.Prelude.{◌≡◌, refl, Bool, true, false, List, [], ◌∷◌, ℕ, zero, suc, ◌+◌, ◌<◌, length, get_or}
use Rattle.std.proofs.Common.{add-zero, add-suc, suc-add, zero-add, arith}
use Rattle.types.specs.Kinds.{both}

-- the test passes at each entry and its place, counted from i
abbrev pub every : {A : Type 0} → (ℕ → A → Bool) → ℕ → List A → Bool
every f i [] = true
every f i (x ∷ xs) = both (f i x) (every f (suc i) xs)

pub both_left : (b r : Bool) → both b r ≡ true → b ≡ true
both_left true r h = refl
both_left false r h = h

pub both_right : (b r : Bool) → both b r ≡ true → r ≡ true
both_right true r h = h
both_right false r h = let z : ◌≡◌ {A = ℕ} 0 1 = cc in absurd (omega arith)

from : {A : Type 0} (d : A) (f : ℕ → A → Bool) (xs : List A) (i k : ℕ) → every f i xs ≡ true → k < length xs → f (i + k) (get_or xs k d) ≡ true
from d f [] i k t h = absurd (omega arith)
from d f (x ∷ xs) i zero t h = rw (add-zero i) (both_left (f i x) (every f (suc i) xs) t)
from d f (x ∷ xs) i (suc k) t h = rw (add-suc i k, ← suc-add i k) (from d f xs (suc i) k (both_right (f i x) (every f (suc i) xs) t) (omega arith))

pub at : {A : Type 0} (d : A) (f : ℕ → A → Bool) (xs : List A) → every f 0 xs ≡ true → (k : ℕ) → k < length xs → f k (get_or xs k d) ≡ true
at d f xs t k h = rw (zero-add k) at (from d f xs 0 k t h)
