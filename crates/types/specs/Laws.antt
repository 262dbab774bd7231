-- Laws of what follows from the kind: the masks, the causes and the two tables.
use Rattle.std.specs.Prelude.{◌≡◌, ℕ, ◌/◌, ◌%◌}

-- the parts of a status v: T1, T0, S, M, the interrupt level, the condition codes
pub record Parts (v t1 t0 s m i x : ℕ) : Type 0 where
  pub t1_bit : v / 0x8000 % 2 ≡ t1
  pub t0_bit : v / 0x4000 % 2 ≡ t0
  pub s_bit_lem : v / 0x2000 % 2 ≡ s
  pub m_bit_lem : v / 0x1000 % 2 ≡ m
  pub level : v / 256 % 8 ≡ i
  pub codes : v % 32 ≡ x
