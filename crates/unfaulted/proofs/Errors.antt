-- Theorems about what specs/Errors defines, and what rests on them.
use Rattle.std.specs.Prelude.{ℕ, suc, ◌+◌, ◌^◌, ◌<◌, ◌≡◌, Bool, false, List, length}
use Rattle.std.proofs.Math.Path.{refl}
use Rattle.std.proofs.Common.{ap, ◌∙◌, arith}
use Rattle.types.specs.Vectors.{bus_error_vector}
use Rattle.cpu.specs.declared.Cpu.{Cpu}
use Rattle.cpu.specs.Fields.{kind_of, a7_of, is_faulted}
use Rattle.cpu.specs.Clocks.{clocks_of, prefetch_enabled}
use Rattle.memory.specs.declared.Bus.{Bus}
use Rattle.memory.specs.World.{World}
use Rattle.frames.specs.declared.Frame.{Frame}
use Rattle.frames.specs.Frames.{field_at, bus_frame}
use Rattle.steps.specs.Steps.{enter_bus_error}
use Rattle.status.specs.Banks.{enter_supervisor}
use Rattle.access.specs.Access.{Raise, push_fields, push_frame, jump_vector, exception_bus_error}
use Rattle.unfaulted.specs.Closed.{closed, Piece, Room, stacked, Entering, arrived}
use Rattle.unfaulted.specs.Pushes.{offset_of, pieces_of, Guarded, pieces_within, length_pieces}
use Rattle.unfaulted.proofs.Stacks.{frame_stacked, jump_stacked}
use Rattle.unfaulted.specs.Entries.{alike_entering, supervisor_clocks, supervisor_fetches}
use Rattle.unfaulted.specs.Errors.{error_alike, error_clocks, error_fetches, bus_step}

-- ---- any frame of guarded fields, and the jump

stacks : (t : Raise) (b : Bus) (c : Cpu) (e : ℕ) (s l : List ℕ) (f : Frame) (k q : ℕ) → Guarded f (suc k) → 15 < length c.regs.dar → is_faulted c ≡ false → a7_of c ≡ q + offset_of f (suc k)
    → Room b (kind_of c) (length s) q (offset_of f (suc k)) → e + 1 + suc k < 2 ^ 32 → push_fields t (closed b c e s l) f (suc k) ≡ stacked b c e s l q (pieces_of f (suc k))
unfolding pieces_of
stacks t b c e s l f k q g h j a r u = frame_stacked t b c e s l f k q (record { offset = offset_of f k; long = (field_at f k).long; value = (field_at f k).value }) (pieces_of f k) refl g h j a r u

pub frame_arrived : (t : Raise) (b : Bus) (c : Cpu) (e : ℕ) (s l : List ℕ) (f : Frame) (k v q a to at x y : ℕ) → f.count ≡ suc k → Guarded f (suc k)
    → Entering b c s (offset_of f (suc k)) v q a to at x y → e + k + 8 < 2 ^ 32
    → jump_vector t (push_frame t (closed b c e s l) f) v ≡ arrived b c (clocks_of c) e s l q (pieces_of f (suc k)) (prefetch_enabled c) v a to at x y
unfolding push_frame
frame_arrived t b c e s l f k v q a to at x y n g h u =
    let ps : List Piece = pieces_of f (suc k) in
    let m : length ps ≡ suc k = length_pieces f (suc k) in
    ap (λ (i : ℕ). jump_vector t (push_fields t (closed b c e s l) f i) v) n
    ∙ ap (λ (w : World). jump_vector t w v) (stacks t b c e s l f k q g h.registers h.running h.stack h.room (omega arith))
    ∙ jump_stacked t b c e s l (offset_of f (suc k)) v q a to at x y ps h (pieces_within f (suc k) (offset_of f (suc k)) (omega arith)) (omega arith)

-- a bus error entry with a frame of k + 1 guarded fields
pub bus_closed : (t : Raise) (b : Bus) (c : Cpu) (e : ℕ) (s l : List ℕ) (i : ℕ) (write instruction : Bool) (z cause k q a to at x y : ℕ) → (bus_frame c i write instruction z cause).count ≡ suc k
    → Guarded (bus_frame c i write instruction z cause) (suc k) → Entering b (enter_supervisor c) s (offset_of (bus_frame c i write instruction z cause) (suc k)) bus_error_vector q a to at x y → e + k + 8 < 2 ^ 32
    → exception_bus_error t (closed b c e s l) i write instruction z cause
    ≡ arrived b (enter_bus_error c) (clocks_of c) e s l q (pieces_of (bus_frame c i write instruction z cause) (suc k)) (prefetch_enabled c) bus_error_vector a to at x y
bus_closed t b c e s l i write instruction z cause k q a to at x y n g h u =
    let f : Frame = bus_frame c i write instruction z cause in
    bus_step t b c e s l i write instruction z cause
    ∙ frame_arrived t b (enter_bus_error c) e s l f k bus_error_vector q a to at x y n g (alike_entering b (enter_supervisor c) (enter_bus_error c) s (offset_of f (suc k)) bus_error_vector q a to at x y (error_alike c) h) u
    ∙ rw (error_clocks c, supervisor_clocks c, error_fetches c, supervisor_fetches c)
