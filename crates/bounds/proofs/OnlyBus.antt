-- Theorems about what specs/OnlyBus defines, and what rests on them.
use Prim.Native.Nat.{ℕ, zero, suc}
use Rattle.std.specs.Prelude.{◌≡◌, Bool}
use Rattle.std.proofs.Math.Path.{refl, ap}
use Rattle.types.specs.Kinds.{is_prefetch_kind}
use Rattle.cpu.specs.Fields.{kind_of, is_faulted, in_exception, cause_number_of}
use Rattle.memory.specs.World.{World, cpu_of, step}
use Rattle.steps.specs.Steps.{begin_bus, begin_address, close_bus}
use Rattle.status.specs.Status.{keep_resume}
use Rattle.access.specs.Access.{bus_error, address_error, Raise, jump_vector, exception_address_error, exception_bus_error, raise_bus, raise_address, trigger}
use Rattle.bounds.specs.Skeleton.{Raises, pick_one, jump_good}
use Rattle.bounds.specs.Levels.{Domain, Safe, Kept, Either, Set, inside, domain, steps, halted_kept, bus_kept, address_kept, entry_address_good, entry_bus_good}
use Rattle.bounds.proofs.Levels.{raises_of, level_bus}
use Rattle.bounds.specs.OnlyBus.{bus_or}

module _ (k n : ℕ) (s : Raise) where
  keeps : (n : ℕ) (w : World) (a : ℕ) (wr i : Bool) (z : ℕ) → Kept k Either 0 w → Kept k Either 0 (trigger n w (bus_error a wr i z))
  unfolding trigger raise_bus
  keeps zero w a wr i z p = pick_one (Kept k Either 0) (is_faulted (cpu_of w)) p (pick_one (Kept k Either 0) (in_exception (cpu_of w)) (halted_kept k Either w p) (halted_kept k Either w p))
  keeps (suc n) w a wr i z p = ((level_bus k n n).bus 0 w a wr i z p).1

  raises : Raises (Kept k Either) (Safe k) (is_prefetch_kind k) (trigger n) (bus_or (trigger n) s)
  unfolding bus_or
  raises = raises_of k Either (trigger n) (bus_or (trigger n) s) (λ w a wr i z p. (refl, keeps n w a wr i z p))

module _ (n : ℕ) (s : Raise) (w : World) (d : Domain w) where
  -- the jump to a vector raises bus faults only
  pub jump_only_bus : (v : ℕ) → jump_vector (trigger n) w v ≡ jump_vector (bus_or (trigger n) s) w v
  jump_only_bus v = (jump_good (Kept (kind_of (cpu_of w)) Either) (Safe (kind_of (cpu_of w))) (is_prefetch_kind (kind_of (cpu_of w))) (trigger n) (bus_or (trigger n) s) (steps (kind_of (cpu_of w)) Either) (raises (kind_of (cpu_of w)) n s) 0 w v (inside w d)).0

  -- an address error entry that is called raises bus faults only
  pub entry_address_only_bus : (a : ℕ) (wr i : Bool) → exception_address_error (trigger n) w a wr i ≡ exception_address_error (bus_or (trigger n) s) w a wr i
  entry_address_only_bus a wr i = (entry_address_good (kind_of (cpu_of w)) Either (trigger n) (bus_or (trigger n) s) (raises (kind_of (cpu_of w)) n s) w a wr i (inside w d)).0

  -- so does a bus error entry
  pub entry_bus_only_bus : (a : ℕ) (wr i : Bool) (z cause : ℕ) → exception_bus_error (trigger n) w a wr i z cause ≡ exception_bus_error (bus_or (trigger n) s) w a wr i z cause
  entry_bus_only_bus a wr i z cause = (entry_bus_good (kind_of (cpu_of w)) Either (trigger n) (bus_or (trigger n) s) (raises (kind_of (cpu_of w)) n s) w a wr i z cause (inside w d)).0

-- and so does the entry of a trigger
module _ (n : ℕ) (s : Raise) (w : World) (d : Domain w) where
  -- the entry of an address fault
  pub address_only_bus : (a : ℕ) (wr i : Bool) → trigger (suc n) w (address_error a wr i) ≡ raise_address w (step keep_resume (exception_address_error (bus_or (trigger n) s) (step begin_address w) a wr i))
  unfolding trigger
  address_only_bus a wr i =
      ap (λ x. raise_address w (step keep_resume x)) (entry_address_only_bus n s (step begin_address w) (domain (kind_of (cpu_of w)) Either (step begin_address w) (address_kept (kind_of (cpu_of w)) Either w (inside w d))) a wr i)

  -- the entry of a bus fault
  pub bus_only_bus : (a : ℕ) (wr i : Bool) (z : ℕ) → trigger (suc n) w (bus_error a wr i z) ≡ raise_bus w (step close_bus (exception_bus_error (bus_or (trigger n) s) (step begin_bus w) a wr i z (cause_number_of (cpu_of w))))
  unfolding trigger
  bus_only_bus a wr i z =
      ap (λ x. raise_bus w (step close_bus x)) (entry_bus_only_bus n s (step begin_bus w) (domain (kind_of (cpu_of w)) Set (step begin_bus w) (bus_kept (kind_of (cpu_of w)) Either w (inside w d))) a wr i z (cause_number_of (cpu_of w)))
