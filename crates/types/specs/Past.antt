-- Past the ends of the two tables: what a vector, a kind or a format beyond them is answered.
use Rattle.std.specs.Prelude.{ℕ, ◌≤◌, Bool, true, false, ◌≡◌, refl}
use Rattle.std.proofs.Common.{arith, le-ltb, le-leb, ne_eqb}
use Rattle.std.proofs.lemmas.Bool.{lt-leb}
use Rattle.types.specs.Kinds.{pick, is040, is060}
use Rattle.types.specs.Tables.{exception_cycles, format_length, takes_format, frame_length}

-- vectors past the table cost what user vectors do
pub cycles_past : (v : ℕ) → 256 ≤ v → exception_cycles v ≡ 34
unfolding exception_cycles
cycles_past v h =
    simp (
      le-ltb v 2 (omega arith),
      ne_eqb v 6 (λ e. omega arith),
      ne_eqb v 2 (λ e. omega arith),
      ne_eqb v 3 (λ e. omega arith),
      ne_eqb v 5 (λ e. omega arith),
      le-leb 24 v (omega arith),
      lt-leb v 31 (omega arith),
    )

same : (b : Bool) → ◌≡◌ {A = ℕ} (pick b 0 0) 0
same true = refl
same false = refl

-- outside the table no frame is taken
pub length_past_kinds : (k f : ℕ) → 12 ≤ k → frame_length k f ≡ 0
unfolding frame_length takes_format is040 is060
length_past_kinds k f h =
    simp (
      ne_eqb k 2 (λ e. omega arith),
      ne_eqb k 10 (λ e. omega arith),
      le-leb 3 k (omega arith),
      lt-leb k 6 (omega arith),
      le-leb 7 k (omega arith),
      lt-leb k 9 (omega arith),
      ne_eqb k 11 (λ e. omega arith),
      ne_eqb k 0 (λ e. omega arith),
    )

pub length_past_formats : (k f : ℕ) → 16 ≤ f → frame_length k f ≡ 0
unfolding frame_length format_length
length_past_formats k f h =
    simp (
      ne_eqb f 0 (λ e. omega arith),
      ne_eqb f 1 (λ e. omega arith),
      ne_eqb f 2 (λ e. omega arith),
      ne_eqb f 4 (λ e. omega arith),
      ne_eqb f 7 (λ e. omega arith),
      ne_eqb f 8 (λ e. omega arith),
      ne_eqb f 11 (λ e. omega arith),
    ) (same (takes_format k f))
