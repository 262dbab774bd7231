-- Theorems about what specs/Values defines, and what rests on them.
use Rattle.std.specs.Prelude.{ℕ, ◌+◌, ◌^◌, ◌<◌, ◌≡◌, Bool, false}
use Rattle.cpu.specs.Fields.{ppc_of, wdata_of}
use Rattle.status.specs.Banks.{enter_supervisor}
use Rattle.memory.specs.World.{World, read_value, cpu_of, step}
use Rattle.frames.specs.Frames.{field_at, address_frame, bus_frame, is_counted}
use Rattle.steps.specs.Steps.{enter_bus_error}
use Rattle.access.specs.Access.{Raise, push_frame, exception_bus_error, exception_address_error}
use Rattle.images.specs.Images.{frame_bytes, bottom, Ready, field_value}
use Rattle.images.specs.Jumps.{Reachable}
use Rattle.images.proofs.Jumps.{bus_image, address_image}
use Rattle.images.specs.Values.{bus_fits, address_fits}

module _ (t : Raise) (w : World) (a : ℕ) (write instruction : Bool) (hp : ppc_of (cpu_of w) < 2 ^ 32) (ha : a < 2 ^ 32) where
  -- after a bus error entry whose accesses are all served, each written field of its frame is read at its offset above the new A7
  pub bus_fields_lem : (z cause : ℕ) → wdata_of (cpu_of w) < 2 ^ 32 → Ready (step enter_bus_error w) (bus_frame (cpu_of w) a write instruction z cause)
      → Reachable (push_frame t (step enter_bus_error w) (bus_frame (cpu_of w) a write instruction z cause)) 2
      → (i : ℕ) → i < (bus_frame (cpu_of w) a write instruction z cause).count → is_counted (field_at (bus_frame (cpu_of w) a write instruction z cause) i) ≡ false
      → read_value (exception_bus_error t w a write instruction z cause) (bottom (step enter_bus_error w) (bus_frame (cpu_of w) a write instruction z cause) + frame_bytes (bus_frame (cpu_of w) a write instruction z cause) i) (field_at (bus_frame (cpu_of w) a write instruction z cause) i).long
      ≡ (field_at (bus_frame (cpu_of w) a write instruction z cause) i).value
  bus_fields_lem z cause hw h r i l c =
      field_value (step enter_bus_error w) (exception_bus_error t w a write instruction z cause) (bus_frame (cpu_of w) a write instruction z cause) (bus_image t w a write instruction z cause h r) i l c
      (bus_fits (cpu_of w) a write instruction hp ha z cause hw i l)

  -- the same after an address error entry
  pub address_fields : Ready (step enter_supervisor w) (address_frame (cpu_of w) a write instruction)
      → Reachable (push_frame t (step enter_supervisor w) (address_frame (cpu_of w) a write instruction)) 3
      → (i : ℕ) → i < (address_frame (cpu_of w) a write instruction).count → is_counted (field_at (address_frame (cpu_of w) a write instruction) i) ≡ false
      → read_value (exception_address_error t w a write instruction) (bottom (step enter_supervisor w) (address_frame (cpu_of w) a write instruction) + frame_bytes (address_frame (cpu_of w) a write instruction) i) (field_at (address_frame (cpu_of w) a write instruction) i).long
      ≡ (field_at (address_frame (cpu_of w) a write instruction) i).value
  address_fields h r i l c =
      field_value (step enter_supervisor w) (exception_address_error t w a write instruction) (address_frame (cpu_of w) a write instruction) (address_image t w a write instruction h r) i l c
      (address_fits (cpu_of w) a write instruction hp ha i l)
