-- The status of the engine's record as the nest reads it: the kind's mask, S and M as flags.
use Rattle.std.specs.Prelude.{ℕ, zero, suc, ◌*◌, ◌/◌, ◌%◌, ◌<◌, ◌≡◌, refl, ◌⊎◌, eqb, replicate}
use Rattle.std.proofs.Common.{ap, ◌∙◌, inl, inr, arith, eqb-true}
use Rattle.std.specs.Int.Bits.{bit_and}
use Rattle.types.specs.Kinds.{has_m, has_t0, status_mask, mask_status}
use Rattle.types.proofs.Laws.{masked_status_bits}
use Rattle.types.specs.Every.{at}
use Rattle.cpu.specs.declared.Cpu.{Cpu}
use Rattle.status.specs.Status.{get_sr, s_of, m_of}
use Rattle.nest.specs.View.{sr_mask, under, s_bit, m_bit, nonzero}
use Rattle.entered.specs.Pointers.{regs_of}

-- the two masks are one
mask_is : (k : ℕ) → k < 12 → status_mask k ≡ sr_mask k
unfolding status_mask has_m has_t0 sr_mask
mask_is k l = eqb-true _ _ (at 0 (λ (i x : ℕ). eqb (status_mask i) (sr_mask i)) (replicate 12 0) refl k l)

pub masked : (k w : ℕ) → k < 12 → mask_status k w ≡ under k w
unfolding under
masked k w l = masked_status_bits k w ∙ ap (bit_and w) (mask_is k l)

-- S and M of a masked status, as flags
pub flag_s : (w : ℕ) → nonzero (s_of w) ≡ s_bit w
unfolding s_bit
flag_s w = go (w / 0x2000 % 2) (omega arith)
  where
    go : (b : ℕ) → b < 2 → nonzero (b * 4) ≡ eqb b 1
    go zero l = refl
    go (suc zero) l = refl
    go (suc (suc b)) l = absurd (omega arith)

pub flag_m : (w : ℕ) → nonzero (m_of w) ≡ m_bit w
unfolding m_bit
flag_m w = go (w / 0x1000 % 2) (omega arith)
  where
    go : (b : ℕ) → b < 2 → nonzero (b * 2) ≡ eqb b 1
    go zero l = refl
    go (suc zero) l = refl
    go (suc (suc b)) l = absurd (omega arith)

pub bit_flag : (b w : ℕ) → b < 2 → (b * w ≡ 0) ⊎ (b * w ≡ w)
bit_flag zero w l = inl (omega arith)
bit_flag (suc zero) w l = inr (omega arith)
bit_flag (suc (suc b)) w l = absurd (omega arith)

pub status_regs : (c : Cpu) → (regs_of c).status ≡ get_sr c
unfolding regs_of
status_regs c = refl
