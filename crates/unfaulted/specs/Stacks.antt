-- The frames of exceptions that are no errors, in closed form, and the jump after a frame.
use Rattle.std.specs.Prelude.{ℕ, ◌+◌, ◌-◌, ◌%◌, ◌^◌, ◌≤◌, ◌≡◌, List, [], ◌∷◌}
use Rattle.std.proofs.Math.Path.{refl}
use Rattle.std.proofs.Common.{◌∙◌, inl, inr, arith}
use Rattle.cpu.specs.declared.Cpu.{Cpu}
use Rattle.cpu.specs.Fields.{kind_of, vbr_of, a7_of, is_faulted, set_wdata, set_a7, lower_a7}
use Rattle.cpu.specs.Clocks.{clocks_of, set_clocks, prefetch_enabled}
use Rattle.memory.specs.declared.Bus.{Bus}
use Rattle.memory.specs.Runs.{Apart}
use Rattle.memory.specs.World.{World, put_cpu}
use Rattle.access.specs.Access.{Raise, short_writes, push_exception_frame68000}
use Rattle.unfaulted.specs.Closed.{closed, Piece, last_of, last_value, three_pieces, Within}
use Rattle.unfaulted.specs.Pushes.{write_all}

over : (c : Cpu) (v u : ℕ) → set_wdata (set_wdata c v) u ≡ set_wdata c u
unfolding set_wdata
over c v u = refl

-- the record keeps the value of the last piece
pub last_kept : (c : Cpu) (x : Piece) (xs : List Piece) → last_of c (x ∷ xs) ≡ set_wdata c (last_value (x ∷ xs))
unfolding last_of last_value
last_kept c x [] = refl
last_kept c x (y ∷ ys) = last_kept (set_wdata c x.value) y ys ∙ over c x.value (last_value (y ∷ ys))

pub a7_wdata : (c : Cpu) (q v : ℕ) → set_a7 (set_wdata c v) q ≡ set_wdata (set_a7 c q) v
unfolding set_a7 set_wdata
a7_wdata c q v = refl

pub lower_step : (t : Raise) (b : Bus) (c : Cpu) (e : ℕ) (s l : List ℕ) (pc sr : ℕ) → push_exception_frame68000 t (closed b c e s l) pc sr ≡ short_writes t (closed b (lower_a7 c 6) e s l) (a7_of (lower_a7 c 6)) pc sr
unfolding push_exception_frame68000 closed put_cpu
lower_step t b c e s l pc sr = refl

pub three_writes : (t : Raise) (w : World) (q sr pc : ℕ) → q + 6 ≤ 2 ^ 32 → short_writes t w q pc sr ≡ write_all t w q (three_pieces sr pc)
unfolding short_writes write_all three_pieces
three_writes t w q sr pc h =
    let x : (q + 4) % 2 ^ 32 ≡ q + 4 = omega arith in
    let y : (q + 2) % 2 ^ 32 ≡ q + 2 = omega arith in
    let z : q + 0 ≡ q = omega arith in
    rw (x, y, z)

pub three_within : (sr pc : ℕ) → Within 6 (three_pieces sr pc)
unfolding Within three_pieces
three_within sr pc = (refl, omega arith, (refl, omega arith, (refl, omega arith, tt)))

module _ (c : Cpu) (q : ℕ) where
  pub at_clocks : clocks_of (set_a7 c q) ≡ clocks_of c
  unfolding clocks_of set_a7
  at_clocks = refl

  pub at_calm : set_clocks (set_a7 c q) 0 ≡ set_a7 (set_clocks c 0) q
  unfolding set_clocks set_a7
  at_calm = refl

-- ---- the jump after a frame

pub apart_places : (base q n a m : ℕ) → base ≤ q → base ≤ a → Apart q n a m → Apart (q - base) n (a - base) m
apart_places base q n a m l k (inl h) = inl (omega arith)
apart_places base q n a m l k (inr h) = inr (omega arith)

pub halves : (p n a : ℕ) → Apart p n a 4 → (Apart p n a 2) × (Apart p n (a + 2) 2)
halves p n a (inl h) = (inl (omega arith), inl (omega arith))
halves p n a (inr h) = (inr (omega arith), inr (omega arith))

module _ (c : Cpu) (q m : ℕ) where
  -- the record after a frame
  abbrev pub framed : Cpu
  framed = set_wdata (set_a7 (set_clocks c 0) q) m

  pub framed_running : is_faulted framed ≡ is_faulted c
  unfolding is_faulted set_wdata set_a7 set_clocks
  framed_running = refl

  pub framed_clocks : clocks_of framed ≡ 0
  unfolding clocks_of set_wdata set_a7 set_clocks
  framed_clocks = refl

  pub framed_kind : kind_of framed ≡ kind_of c
  unfolding kind_of set_wdata set_a7 set_clocks
  framed_kind = refl

  pub framed_vbr : vbr_of framed ≡ vbr_of c
  unfolding vbr_of set_wdata set_a7 set_clocks
  framed_vbr = refl

  pub framed_on : prefetch_enabled framed ≡ prefetch_enabled c
  unfolding prefetch_enabled set_wdata set_a7 set_clocks
  framed_on = refl
