-- Inside an error entry only bus faults are raised: whatever else an address fault were to do there, the entry is the same.
-- So the case that the prefetch of an address error entry raises an address error does not occur, nor does the vector read.
use Prim.Native.Nat.{ℕ}
use Rattle.std.specs.Prelude.{◌≡◌, Bool, true, false}
use Rattle.std.proofs.Math.Path.{refl}
use Rattle.cpu.specs.Fields.{kind_of, address_of}
use Rattle.memory.specs.World.{World, cpu_of}
use Rattle.steps.specs.Steps.{refuses_odd, vector_address}
use Rattle.access.specs.Access.{bus_error, address_error, Raise, read_or, prefetch_read, first_from, prefetch_first, second_from, prefetch_second, Fault}
use Rattle.bounds.specs.Levels.{Domain, refused, vector_safe}

-- a bus fault as t raises it, an address fault as s does
unfoldable pub bus_or : Raise → Raise → World → Fault → World
bus_or t s w (bus_error a wr i z) = t w (bus_error a wr i z)
bus_or t s w (address_error a wr i) = s w (address_error a wr i)

-- a prefetch raises bus faults only, in any world
module _ (t s : Raise) (w : World) where
  -- the read of a word for the queue
  pub read_only_bus : (a : ℕ) → prefetch_read t w a ≡ prefetch_read (bus_or t s) w a
  unfolding prefetch_read read_or bus_or
  read_only_bus a = refl

  -- the first word
  pub first_only_bus : prefetch_first t w ≡ prefetch_first (bus_or t s) w
  unfolding prefetch_first first_from prefetch_read read_or bus_or
  first_only_bus = refl

  -- the second word
  pub second_only_bus : prefetch_second t w ≡ prefetch_second (bus_or t s) w
  unfolding prefetch_second second_from prefetch_read read_or bus_or
  second_only_bus = refl

-- the vector read is not refused
pub vector_even : (w : World) (v : ℕ) → Domain w → refuses_odd (cpu_of w) (address_of (cpu_of w) (vector_address (cpu_of w) v)) ≡ false
vector_even w v d = go (refuses_odd (cpu_of w) (address_of (cpu_of w) (vector_address (cpu_of w) v))) (refused (kind_of (cpu_of w)) (cpu_of w) (vector_address (cpu_of w) v) refl (vector_safe (kind_of (cpu_of w)) (cpu_of w) v d))
  where
    go : (b : Bool) → (b ≡ true → ⊥) → b ≡ false
    go true h = absurd (h refl)
    go false h = refl
