-- Theorems about what specs/Jumps defines, and what rests on them.
use Rattle.std.specs.Prelude.{ℕ, suc, ◌+◌, ◌%◌, ◌^◌, ◌<◌, ◌≡◌, Bool, true, false, eqb}
use Rattle.std.proofs.Common.{sym, ◌∙◌}
use Rattle.std.proofs.Math.Path.{ap}
use Rattle.types.specs.Kinds.{mask_address}
use Rattle.cpu.specs.declared.Cpu.{Cpu}
use Rattle.cpu.specs.declared.Flow.{Flow}
use Rattle.cpu.specs.Fields.{kind_of, a7_of, address_of, is_faulted, in_exception, cause_number_of, checks_alignment, minus32}
use Rattle.status.specs.Status.{keep_resume}
use Rattle.status.specs.Banks.{enter_supervisor}
use Rattle.cpu.specs.Clocks.{prefetch_enabled}
use Rattle.memory.specs.Runs.{Apart}
use Rattle.memory.specs.World.{World, put_cpu, served, read_value, cpu_of, with_cpu, step}
use Rattle.frames.specs.declared.Frame.{Frame}
use Rattle.frames.specs.Frames.{bus_frame, address_frame}
use Rattle.steps.specs.Steps.{refuses_odd, begin_bus, begin_address, enter_bus_error, close_bus}
use Rattle.access.specs.Access.{Raise, bus_error, address_error, jump_vector, push_frame, exception_bus_error, exception_address_error, raise_bus, raise_address, trigger}
use Rattle.images.specs.Images.{Shape, Ready, Image, image_still, bottom}
use Rattle.images.proofs.Images.{stacked_image, stacked_runs, stacked_framed, stacked_serves, read_apart}
use Rattle.images.specs.Lengths.{length_of, error_length, bus_format, address_format}
use Rattle.images.proofs.Lengths.{bus_length, address_length}
use Rattle.images.proofs.Shapes.{bus_shape, address_shape}
use Rattle.images.specs.Jumps.{vector_place, handler, Reachable, jump_still, flow_vector, close_bus_still, close_address_still}

-- the reads of the jump by what is served before the frame: the handler's address is read after it
pub reachable_after : (t : Raise) (w : World) (f : Frame) (v pc : ℕ) → Ready w f → handler (push_frame t w f) v ≡ pc → refuses_odd (cpu_of w) (vector_place w v) ≡ false → served w (vector_place w v) true ≡ true
    → (prefetch_enabled (cpu_of w) ≡ true → eqb (pc % 2) 1 ≡ false → (served w (address_of (cpu_of w) pc) false ≡ true) × (served w (address_of (cpu_of w) ((pc + 2) % 2 ^ 32)) false ≡ true))
    → Reachable (push_frame t w f) v
unfolding refuses_odd checks_alignment prefetch_enabled address_of
reachable_after t w f v pc h e o s p =
    let x : World = push_frame t w f in
    let r = stacked_framed t w f h.sound h.allowed in
    let m : vector_place x v ≡ vector_place w v = flow_vector w x v r.flow in
    let k : (cpu_of x).flow.cpu_type ≡ (cpu_of w).flow.cpu_type = ap (λ (y : Flow). y.cpu_type) r.flow in
    let n : prefetch_enabled (cpu_of x) ≡ prefetch_enabled (cpu_of w) = rw (r.precise, k) in
    record {
      running = stacked_runs t w f h;
      even = rw (m, k) o;
      serves = rw m (stacked_serves w f h t (vector_place w v) true ∙ s);
      first = λ q z. rw e (ap (λ (y : ℕ). served x (mask_address y pc) false) k ∙ stacked_serves w f h t (mask_address (cpu_of w).flow.cpu_type pc) false ∙ (p (sym n ∙ q) (rw e at z)).0);
      second = λ q z. rw e (ap (λ (y : ℕ). served x (mask_address y ((pc + 2) % 2 ^ 32)) false) k ∙ stacked_serves w f h t (mask_address (cpu_of w).flow.cpu_type ((pc + 2) % 2 ^ 32)) false ∙ (p (sym n ∙ q) (rw e at z)).1);
    }

-- where the frame does not lie over the vector, the handler's address is the one that stood there before it
pub handler_before : (t : Raise) (w : World) (f : Frame) (v : ℕ) → Shape f → Ready w f → served w (vector_place w v) true ≡ true → Apart (bottom w f) (length_of f) (vector_place w v) 4 → handler (push_frame t w f) v ≡ handler w v
handler_before t w f v k h s d =
    ap (λ (a : ℕ). read_value (push_frame t w f) a true) (flow_vector w (push_frame t w f) v (stacked_framed t w f h.sound h.allowed).flow) ∙ read_apart w f k h t (vector_place w v) true s d

-- an entry whose accesses are all served, frame and jump, leaves the image of its frame
pub entry_image : (t : Raise) (w : World) (f : Frame) (v : ℕ) → Shape f → Ready w f → Reachable (push_frame t w f) v → Image w (jump_vector t (push_frame t w f) v) f
entry_image t w f v s h r = image_still w (push_frame t w f) (jump_vector t (push_frame t w f) v) f (stacked_image w f s h t) (jump_still t (push_frame t w f) v r)

module _ (t : Raise) (w : World) (a : ℕ) (write instruction : Bool) where
  -- a bus error entry whose accesses are all served leaves the image of its frame on the supervisor stack
  pub bus_image : (z cause : ℕ) → Ready (step enter_bus_error w) (bus_frame (cpu_of w) a write instruction z cause)
      → Reachable (push_frame t (step enter_bus_error w) (bus_frame (cpu_of w) a write instruction z cause)) 2
      → Image (step enter_bus_error w) (exception_bus_error t w a write instruction z cause) (bus_frame (cpu_of w) a write instruction z cause)
  unfolding exception_bus_error
  bus_image z cause h r = entry_image t (step enter_bus_error w) (bus_frame (cpu_of w) a write instruction z cause) 2 (bus_shape (cpu_of w) a write instruction z cause) h r

  -- and lowers the supervisor's A7 by the length of the table, 14 on kind 1
  pub bus_a7 : (z cause : ℕ) → kind_of (cpu_of w) < 12 → Ready (step enter_bus_error w) (bus_frame (cpu_of w) a write instruction z cause)
      → Reachable (push_frame t (step enter_bus_error w) (bus_frame (cpu_of w) a write instruction z cause)) 2
      → a7_of (cpu_of (exception_bus_error t w a write instruction z cause)) ≡ minus32 (a7_of (enter_bus_error (cpu_of w))) (error_length (kind_of (cpu_of w)) (bus_format (kind_of (cpu_of w))))
  unfolding put_cpu
  bus_a7 z cause k h r = (bus_image z cause h r).a7 ∙ ap (λ (n : ℕ). minus32 (a7_of (enter_bus_error (cpu_of w))) n) (bus_length (cpu_of w) a write instruction z cause k)

  -- an address error entry whose accesses are all served leaves the image of its frame on the supervisor stack
  pub address_image : Ready (step enter_supervisor w) (address_frame (cpu_of w) a write instruction)
      → Reachable (push_frame t (step enter_supervisor w) (address_frame (cpu_of w) a write instruction)) 3
      → Image (step enter_supervisor w) (exception_address_error t w a write instruction) (address_frame (cpu_of w) a write instruction)
  unfolding exception_address_error
  address_image h r = entry_image t (step enter_supervisor w) (address_frame (cpu_of w) a write instruction) 3 (address_shape (cpu_of w) a write instruction) h r

  -- and lowers the supervisor's A7 by the length of the table, 14 on kind 1
  pub address_a7 : kind_of (cpu_of w) < 12 → Ready (step enter_supervisor w) (address_frame (cpu_of w) a write instruction)
      → Reachable (push_frame t (step enter_supervisor w) (address_frame (cpu_of w) a write instruction)) 3
      → a7_of (cpu_of (exception_address_error t w a write instruction)) ≡ minus32 (a7_of (enter_supervisor (cpu_of w))) (error_length (kind_of (cpu_of w)) (address_format (kind_of (cpu_of w))))
  unfolding put_cpu
  address_a7 k h r = (address_image h r).a7 ∙ ap (λ (n : ℕ). minus32 (a7_of (enter_supervisor (cpu_of w))) n) (address_length (cpu_of w) a write instruction k)

module _ (n : ℕ) (w : World) (a : ℕ) (write instruction : Bool) (h : is_faulted (cpu_of w) ≡ false) where
  -- the record with status and registers as saved, on which a bus or an address error is stacked
  abbrev bus_begun : Cpu
  bus_begun = begin_bus (cpu_of w)

  abbrev address_begun : Cpu
  address_begun = begin_address (cpu_of w)

  -- a bus error that is raised while none is under way, its accesses all served, leaves the image of its frame
  pub bus_raised : (z : ℕ) → in_exception (cpu_of w) ≡ false → Ready (with_cpu w (enter_bus_error bus_begun)) (bus_frame bus_begun a write instruction z (cause_number_of (cpu_of w)))
      → Reachable (push_frame (trigger n) (with_cpu w (enter_bus_error bus_begun)) (bus_frame bus_begun a write instruction z (cause_number_of (cpu_of w)))) 2
      → Image (with_cpu w (enter_bus_error bus_begun)) (trigger (suc n) w (bus_error a write instruction z)) (bus_frame bus_begun a write instruction z (cause_number_of (cpu_of w)))
  unfolding trigger raise_bus put_cpu
  bus_raised z e r l =
      rw (h, e)
      (image_still (with_cpu w (enter_bus_error bus_begun)) (exception_bus_error (trigger n) (with_cpu w bus_begun) a write instruction z (cause_number_of (cpu_of w))) (step close_bus (exception_bus_error (trigger n) (with_cpu w bus_begun) a write instruction z (cause_number_of (cpu_of w)))) (bus_frame bus_begun a write instruction z (cause_number_of (cpu_of w)))
      (bus_image (trigger n) (with_cpu w bus_begun) a write instruction z (cause_number_of (cpu_of w)) r l)
      (close_bus_still (exception_bus_error (trigger n) (with_cpu w bus_begun) a write instruction z (cause_number_of (cpu_of w)))))

  -- an address error that is raised, its accesses all served, leaves the image of its frame
  pub address_raised : Ready (with_cpu w (enter_supervisor address_begun)) (address_frame address_begun a write instruction)
      → Reachable (push_frame (trigger n) (with_cpu w (enter_supervisor address_begun)) (address_frame address_begun a write instruction)) 3
      → Image (with_cpu w (enter_supervisor address_begun)) (trigger (suc n) w (address_error a write instruction)) (address_frame address_begun a write instruction)
  unfolding trigger raise_address put_cpu
  address_raised r l =
      rw h
      (image_still (with_cpu w (enter_supervisor address_begun)) (exception_address_error (trigger n) (with_cpu w address_begun) a write instruction) (step keep_resume (exception_address_error (trigger n) (with_cpu w address_begun) a write instruction)) (address_frame address_begun a write instruction)
      (address_image (trigger n) (with_cpu w address_begun) a write instruction r l) (close_address_still (exception_address_error (trigger n) (with_cpu w address_begun) a write instruction)))
