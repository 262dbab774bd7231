-- What a bus error entry leaves on a store of 65,536 bytes, whatever they are: a field of its frame, by the theorems of `images`.
use Rattle.std.specs.Prelude.{Option}
use Rattle.std.specs.Prelude.{ℕ, suc, ◌+◌, ◌%◌, ◌^◌, ◌<◌, ◌≡◌, Bool, true, false, List, length}
use Rattle.std.proofs.Math.Path.{refl}
use Rattle.std.proofs.Common.{arith}
use Rattle.types.specs.declared.FaultCause.{FaultCause}
use Rattle.types.specs.Kinds.{address_bits}
use Rattle.types.specs.Causes.{cause_number}
use Rattle.cpu.specs.declared.Cpu.{Cpu}
use Rattle.cpu.specs.Fields.{kind_of, ppc_of, wdata_of}
use Rattle.cpu.specs.Clocks.{prefetch_enabled}
use Rattle.memory.specs.Served.{served_of}
use Rattle.memory.specs.World.{World, put_cpu, served, read_value, with_cpu}
use Rattle.frames.specs.declared.Frame.{Frame}
use Rattle.frames.specs.Frames.{field_at, bus_frame, is_counted}
use Rattle.steps.specs.Steps.{refuses_odd, enter_bus_error}
use Rattle.access.specs.Access.{raised, push_frame, exception_bus_error}
use Rattle.images.specs.Images.{frame_bytes, bottom, Ready, Sound, ready_whole}
use Rattle.images.specs.Jumps.{Reachable, vector_place, handler}
use Rattle.images.proofs.Jumps.{reachable_after}
use Rattle.images.proofs.Values.{bus_fields_lem}
use Rattle.answers.specs.declared.Call.TheVariants.{ExceptionBusError}
use Rattle.answers.specs.Answers.{cycles}
use Rattle.calls.specs.Calls.{restarted, perform, run, begun, refusal}
use Rattle.instances.specs.Start.{holding, auto}

no : {A : Type 0} → false ≡ true → A
no e = let z : ◌≡◌ {A = ℕ} 0 1 = cc in absurd (omega arith)

module _ (s : List ℕ) (h : length s ≡ 0x10000) (c : Cpu) (write instruction : Bool) (z : ℕ) (cause : Option FaultCause) where
  -- the world of the call, a bus error at address 0x1234; where its frame is stacked; and the frame
  abbrev called : World
  called = holding s auto 192 c

  abbrev stacking : World
  stacking = with_cpu called (enter_bus_error c)

  abbrev frame : Frame
  frame = bus_frame c 0x1234 write instruction z (cause_number cause)

  -- a call that is not refused is the entry
  performed : refusal called (ExceptionBusError 0x1234 write instruction z cause) ≡ 0 → (perform called (ExceptionBusError 0x1234 write instruction z cause)).after ≡ exception_bus_error raised called 0x1234 write instruction z (cause_number cause)
  unfolding perform run cycles begun restarted holding
  performed e = rw e

  -- `images` asks for the length of the store alone, not for its bytes
  ready : (k : ℕ) → frame.count ≡ suc k → Sound (enter_bus_error c) → bottom stacking frame + frame_bytes frame k < 2 ^ address_bits (kind_of (enter_bus_error c))
      → served_of called.core.bus 0x10000 (bottom stacking frame) (frame_bytes frame (suc k)) ≡ true → bottom stacking frame % 2 ≡ 0 → Ready stacking frame
  unfolding put_cpu holding
  ready k n so top sv e = ready_whole stacking frame k (λ j l. absurd (omega arith)) so (omega arith) top (rw h sv) (λ p. e)

  -- what is left to compute for a record: it is not refused, frame and vector are served, and there is no queue to refill
  pub record Fine : Type 0 where
    pub accepted : refusal called (ExceptionBusError 0x1234 write instruction z cause) ≡ 0
    pub ppc_fits : ppc_of c < 2 ^ 32
    pub data_fits : wdata_of c < 2 ^ 32
    pub sound : Sound (enter_bus_error c)
    pub last : ℕ
    pub ends : frame.count ≡ suc last
    pub top : bottom stacking frame + frame_bytes frame last < 2 ^ address_bits (kind_of (enter_bus_error c))
    pub serves : served_of called.core.bus 0x10000 (bottom stacking frame) (frame_bytes frame (suc last)) ≡ true
    pub even : bottom stacking frame % 2 ≡ 0
    pub vector_even : refuses_odd (enter_bus_error c) (vector_place stacking 2) ≡ false
    pub vector : served_of called.core.bus 0x10000 (vector_place stacking 2) 4 ≡ true
    pub no_queue : prefetch_enabled (enter_bus_error c) ≡ false

  reachable : Fine → Ready stacking frame → Reachable (push_frame raised stacking frame) 2
  unfolding put_cpu holding served
  reachable x r = reachable_after raised stacking frame 2 (handler (push_frame raised stacking frame) 2) r refl x.vector_even (rw h x.vector) (λ p q. no (cc (x.no_queue, p)))

  -- a written field is read at its place after the call
  pub field : Fine → (i : ℕ) → i < frame.count → is_counted (field_at frame i) ≡ false
      → read_value (perform called (ExceptionBusError 0x1234 write instruction z cause)).after (bottom stacking frame + frame_bytes frame i) (field_at frame i).long ≡ (field_at frame i).value
  unfolding holding
  field x i l e =
      let r : Ready stacking frame = ready x.last x.ends x.sound x.top x.serves x.even in
      rw (performed x.accepted) (bus_fields_lem raised called 0x1234 write instruction x.ppc_fits (omega arith) z (cause_number cause) x.data_fits r (reachable x r) i l e)
