-- The bytes of a plan's shape are there, and an interrupt of the 68000 in one equation.
use Rattle.std.proofs.Common.{◌≡◌, ℕ, ◌+◌, ◌/◌, ◌%◌, ◌≤◌, Bool, true, false, List, refl, arith}
use Rattle.types.specs.Kinds.{pick}
use Rattle.memory.specs.Log.{note_log}
use Rattle.fast_plans.specs.declared.plans.Plan.{Plan}
use Rattle.fast_plans.specs.declared.plans.Shape.{Shape}
use Rattle.fast_plans.specs.declared.plans.Shape.TheVariants.{Three, Short, Long, Old, Four, Late}
use Rattle.fast_plans.specs.declared.places.Spot.{Spot}
use Rattle.fast_plans.specs.Plans.{Shaped, bytes_of, shape_number}
use Rattle.fast.specs.Stacks.{Tape, tape, Fits, word_at, sync_count, sync_at, old_from, old_at}

module _ (s : Spot) (p : Plan) (m : List ℕ) (f : Fits s p.bytes m) (h : Shaped p) where
  fits_in : (n : ℕ) (k : Shape) → p.shape ≡ k → n ≤ bytes_of (shape_number k) → Fits s n m
  fits_in n k e l =
      let r : bytes_of (shape_number k) ≤ p.bytes = rw e at h.room in
      record { place = omega (arith, f.place); address = omega (arith, f.address) }

  pub short_fits : p.shape ≡ Short → Fits s 8 m
  unfolding bytes_of
  short_fits e = fits_in 8 Short e (omega arith)

  pub late_fits : p.shape ≡ Late → Fits s 8 m
  unfolding bytes_of
  late_fits e = fits_in 8 Late e (omega arith)

  pub four_fits : p.shape ≡ Four → Fits s 8 m
  unfolding bytes_of
  four_fits e = fits_in 8 Four e (omega arith)

  pub long_fits : p.shape ≡ Long → Fits s 12 m
  unfolding bytes_of
  long_fits e = fits_in 12 Long e (omega arith)

  pub any_fits : Fits s 6 m
  unfolding bytes_of
  any_fits = go p.shape refl
    where
      go : (k : Shape) → p.shape ≡ k → Fits s 6 m
      go Three e = fits_in 6 Three e (omega arith)
      go Short e = fits_in 6 Short e (omega arith)
      go Long e = fits_in 6 Long e (omega arith)
      go Old e = fits_in 6 Old e (omega arith)
      go Four e = fits_in 6 Four e (omega arith)
      go Late e = fits_in 6 Late e (omega arith)

-- an interrupt of the 68000
old_count : (n : ℕ) (precise : Bool) → sync_count (sync_count (n + 1) precise + 1) precise + 2 ≡ pick precise (n + 6) (n + 4)
unfolding sync_count
old_count n true = omega arith
old_count n false = omega arith

pub old_way : (s : Spot) (n a b : ℕ) (p : Plan) (precise : Bool) (t : Tape) (m1 l1 l2 l3 l4 : List ℕ) (t5 t6 : Tape) → tape m1 l1 ≡ word_at s 4 n (p.pc % 0x10000) t
    → (a ≡ sync_count (n + 1) precise) × (l2 ≡ sync_at (n + 1) precise l1) → l3 ≡ note_log a l2 6 p.level p.response
    → (b ≡ sync_count (a + 1) precise) × (l4 ≡ sync_at (a + 1) precise l3) → t5 ≡ word_at s 0 b p.sr (tape m1 l4) → t6 ≡ word_at s 2 (b + 1) (p.pc / 0x10000) t5
    → (b + 2 ≡ pick precise (n + 6) (n + 4)) × (t6 ≡ old_at s n p precise t)
unfolding old_at old_from
old_way s n a b p precise t m1 l1 l2 l3 l4 t5 t6 e1 e2 e3 e4 e5 e6 =
    (rw (e4.0, e2.0) (old_count n precise), rw (← e1, e6, e5, e4.1, e4.0, e3, e2.1, e2.0) refl)
