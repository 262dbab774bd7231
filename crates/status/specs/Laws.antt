-- Laws of the status register, taken apart and put together, and of the stacks.
use Rattle.std.specs.Prelude.{◌≡◌, ℕ, ◌-◌, ◌*◌, ◌/◌, ◌%◌, ◌≤◌, eqb}
use Rattle.types.specs.Kinds.{pick}
use Rattle.cpu.specs.declared.Flags.{Flags}

-- a status whose M is cleared where its S is clear
unfoldable pub drop_m : ℕ → ℕ
drop_m w = pick (eqb (w / 0x2000 % 2) 0) (w - w / 0x1000 % 2 * 0x1000) w

-- ---- tidy flags

-- each flag is 0 or the bit that `get_sr` tests, and the opposite of Z is 0 or 1
pub record Tidy (f : Flags) : Type 0 where
  pub t1_bit : f.t1_flag / 0x8000 % 2 * 0x8000 ≡ f.t1_flag
  pub t0_bit : f.t0_flag / 0x4000 % 2 * 0x4000 ≡ f.t0_flag
  pub s_bit_lem : f.s_flag / 4 % 2 * 4 ≡ f.s_flag
  pub m_bit_lem : f.m_flag / 2 % 2 * 2 ≡ f.m_flag
  pub level : f.int_mask / 256 % 8 * 256 ≡ f.int_mask
  pub x_bit : f.x_flag / 256 % 2 * 256 ≡ f.x_flag
  pub n_bit : f.n_flag / 128 % 2 * 128 ≡ f.n_flag
  pub z_bit : f.not_z_flag ≤ 1
  pub v_bit : f.v_flag / 128 % 2 * 128 ≡ f.v_flag
  pub c_bit : f.c_flag / 256 % 2 * 256 ≡ f.c_flag

-- the five condition codes of a status, from its low five bits
pub record Codes (w x n z v c : ℕ) : Type 0 where
  pub x_bit : w / 16 % 2 ≡ x
  pub n_bit : w / 8 % 2 ≡ n
  pub z_bit : w / 4 % 2 ≡ z
  pub v_bit : w / 2 % 2 ≡ v
  pub c_bit : w % 2 ≡ c
