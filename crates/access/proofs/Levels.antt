-- A trigger with a level left: the entry that it makes raises with one level less.
use Rattle.std.proofs.Common.{◌≡◌, ℕ, zero, suc, ◌-◌, ◌<◌, arith, Bool, true, false, List, refl, sub-one, ne_eqb}
use Rattle.cpu.specs.declared.Cpu.{Cpu}
use Rattle.cpu.specs.Fields.{is_faulted, in_exception, cause_number_of, halted}
use Rattle.status.specs.Status.{keep_resume}
use Rattle.steps.specs.Steps.{begin_address, begin_bus, close_bus}
use Rattle.memory.specs.declared.Core.{Core}
use Rattle.frames.specs.declared.Field.{Field}
use Rattle.frames.specs.declared.Frame.{Frame}
use Rattle.frames.specs.Frames.{field_at}
use Rattle.memory.specs.World.{World, put_cpu, world}
use Rattle.access.specs.Access.{Raise, trigger, push_field, push_fields, raise_bus, raise_address, bus_error, address_error, exception_bus_error, exception_address_error}

module _ (m r1 r2 r4 : Core) (s l s1 l1 : List ℕ) (levels a : ℕ) (write instruction : Bool) (r r3 : Cpu) (h0 : m.cpu.flow.run_mode ≡ 1 → ⊥) (h1 : levels ≡ 0 → ⊥) (h2 : r1 ≡ put_cpu m r) (h3 : r4 ≡ put_cpu r2 r3) where
  pub bus_raised : (size : ℕ) → m.cpu.flow.exception_processing ≡ false → r ≡ begin_bus m.cpu → world r2 s1 l1 ≡ exception_bus_error (trigger (levels - 1)) (world r1 s l) a write instruction size m.cpu.fault.pending_fault_cause → r3 ≡ close_bus r2.cpu → world r4 s1 l1 ≡ trigger levels (world m s l) (bus_error a write instruction size)
  unfolding trigger raise_bus is_faulted in_exception cause_number_of
  bus_raised size h4 h5 h6 h7 = by_level levels h1 h6
    where
      by_level : (n : ℕ) → (n ≡ 0 → ⊥) → world r2 s1 l1 ≡ exception_bus_error (trigger (n - 1)) (world r1 s l) a write instruction size m.cpu.fault.pending_fault_cause → world r4 s1 l1 ≡ trigger n (world m s l) (bus_error a write instruction size)
      by_level zero e h = absurd (e refl)
      by_level (suc n) e h = cc (sub-one (suc n), ne_eqb _ _ h0)

  pub address_raised : r ≡ begin_address m.cpu → world r2 s1 l1 ≡ exception_address_error (trigger (levels - 1)) (world r1 s l) a write instruction → r3 ≡ keep_resume r2.cpu → world r4 s1 l1 ≡ trigger levels (world m s l) (address_error a write instruction)
  unfolding trigger raise_address is_faulted
  address_raised h5 h6 h7 = by_level levels h1 h6
    where
      by_level : (n : ℕ) → (n ≡ 0 → ⊥) → world r2 s1 l1 ≡ exception_address_error (trigger (n - 1)) (world r1 s l) a write instruction → world r4 s1 l1 ≡ trigger n (world m s l) (address_error a write instruction)
      by_level zero e h = absurd (e refl)
      by_level (suc n) e h = cc (sub-one (suc n), ne_eqb _ _ h0)

-- a bus error while an entry is under way halts, whatever levels are left
pub bus_halted : (m : Core) (s l : List ℕ) (levels a : ℕ) (write instruction : Bool) (size : ℕ) (r : Cpu) (r1 : Core) → (m.cpu.flow.run_mode ≡ 1 → ⊥) → m.cpu.flow.exception_processing ≡ true → r ≡ halted m.cpu → r1 ≡ put_cpu m r → world r1 s l ≡ trigger levels (world m s l) (bus_error a write instruction size)
unfolding trigger raise_bus is_faulted in_exception
bus_halted m s l zero a write instruction size r r1 h0 h1 h2 h3 = cc (ne_eqb _ _ h0)
bus_halted m s l (suc levels) a write instruction size r r1 h0 h1 h2 h3 = cc (ne_eqb _ _ h0)

-- the last of k fields pushed, those below it are left
pub field_pushed : (t : Raise) (w w1 w2 : World) (f : Frame) (x : Field) (k : ℕ) → 0 < k → x ≡ field_at f (k - 1) → w1 ≡ push_field t w x → push_fields t w f k ≡ w2 → push_fields t w1 f (k - 1) ≡ w2
unfolding push_fields
field_pushed t w w1 w2 f x zero h0 h1 h2 h3 = absurd (omega arith)
field_pushed t w w1 w2 f x (suc k) h0 h1 h2 h3 = cc (sub-one (suc k))
