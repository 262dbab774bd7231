-- How a field is pushed, by number: 1 is raw, 2 only counted, any other guarded. A mode says of each number what the numbers said.
use Rattle.std.specs.Prelude.{ℕ, Bool, true, false, eqb, ◌≡◌}
use Rattle.std.proofs.Math.Path.{refl}
use Rattle.std.proofs.Common.{sym, ap, ◌∙◌}
use borrow.Author.Tests.{eqb-true}
use Rattle.types.specs.Kinds.{pick}
use Rattle.frames.specs.declared.Mode.{Mode}
use Rattle.frames.specs.declared.Mode.TheVariants.{Guarded, Raw, Counted}
use Rattle.frames.specs.Frames.{counts, goes_raw}

unfoldable pub mode_of : ℕ → Mode
mode_of n = pick (eqb n 2) Counted (pick (eqb n 1) Raw Guarded)

pub counted_is_2 : (n : ℕ) → counts (mode_of n) ≡ eqb n 2
unfolding mode_of
counted_is_2 n = go (eqb n 2) (eqb n 1)
  where
    go : (a b : Bool) → counts (pick a Counted (pick b Raw Guarded)) ≡ a
    go true b = refl
    go false true = refl
    go false false = refl

pub raw_is_1 : (n : ℕ) → goes_raw (mode_of n) ≡ eqb n 1
unfolding mode_of
raw_is_1 n = go (eqb n 2) refl (eqb n 1) refl
  where
    go : (a : Bool) → eqb n 2 ≡ a → (b : Bool) → eqb n 1 ≡ b → goes_raw (pick a Counted (pick b Raw Guarded)) ≡ b
    go true e b f = ap (λ i. eqb i 1) (sym (eqb-true n 2 e)) ∙ f
    go false e true f = refl
    go false e false f = refl
