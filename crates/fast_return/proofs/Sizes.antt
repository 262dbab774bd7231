-- The length of a frame of format 0.
use Rattle.std.proofs.Common.{◌≡◌, ℕ, Bool, eqb, zero, suc, ◌/◌, ◌<◌, ◌≤◌, sym, refl, arith, ne_eqb, le-leb}
use borrow.Author.Tests.{lt-leb}
use Rattle.types.specs.Kinds.{either, is040, is060}
use Rattle.types.specs.Tables.{frame_length, takes_format, format_length}
use Rattle.fast_return.specs.Quick.{size_of}

-- kind 0
pub takes_none : (k f : ℕ) (b : Bool) → k ≡ 0 → b ≡ either (eqb f 0) (either (eqb f 2) (eqb f 11)) → b ≡ takes_format k f
unfolding takes_format is040 is060
takes_none k f b z h = rw z h

-- every kind but 1 takes format 0
no_format : (k : ℕ) → 12 ≤ k → frame_length k 0 ≡ 0
unfolding frame_length takes_format format_length is040 is060
no_format k l =
    rw (
      ne_eqb k 2 (λ e. omega arith),
      ne_eqb k 10 (λ e. omega arith),
      le-leb 3 k (omega arith),
      lt-leb k 6 (omega arith),
      le-leb 7 k (omega arith),
      lt-leb k 9 (omega arith),
      ne_eqb k 11 (λ e. omega arith),
      ne_eqb k 0 (λ e. omega arith),
    )

format_zero : (k : ℕ) → k < 12 → (k ≡ 1 → ⊥) → frame_length k 0 ≡ 8
unfolding frame_length takes_format format_length is040 is060
format_zero zero l h = refl
format_zero (suc zero) l h = absurd (h refl)
format_zero (suc (suc zero)) l h = refl
format_zero (suc (suc (suc zero))) l h = refl
format_zero (suc (suc (suc (suc zero)))) l h = refl
format_zero (suc (suc (suc (suc (suc zero))))) l h = refl
format_zero (suc (suc (suc (suc (suc (suc zero)))))) l h = refl
format_zero (suc (suc (suc (suc (suc (suc (suc zero))))))) l h = refl
format_zero (suc (suc (suc (suc (suc (suc (suc (suc zero)))))))) l h = refl
format_zero (suc (suc (suc (suc (suc (suc (suc (suc (suc zero))))))))) l h = refl
format_zero (suc (suc (suc (suc (suc (suc (suc (suc (suc (suc zero)))))))))) l h = refl
format_zero (suc (suc (suc (suc (suc (suc (suc (suc (suc (suc (suc zero))))))))))) l h = refl
format_zero (suc (suc (suc (suc (suc (suc (suc (suc (suc (suc (suc (suc k)))))))))))) l h = absurd (omega arith)

pub size_eight : (k w : ℕ) → (k ≡ 1 → ⊥) → w < 4096 → k < 12 → 8 ≡ size_of k w
unfolding size_of
size_eight k w h l m = let z : w / 0x1000 ≡ 0 = omega arith in rw (ne_eqb k 1 h, z) (sym (format_zero k m h))

pub size_none : (k w : ℕ) → (k ≡ 1 → ⊥) → w < 4096 → 12 ≤ k → 0 ≡ size_of k w
unfolding size_of
size_none k w h l m = let z : w / 0x1000 ≡ 0 = omega arith in rw (ne_eqb k 1 h, z) (sym (no_format k m))
