-- Error entries whose frames are written by guarded accesses: bus errors on all kinds but 1, 2 and 10. The other error frames are written raw
-- and are not treated here.
use Rattle.std.specs.Prelude.{ℕ, zero, suc, ◌%◌, ◌≡◌, Bool, true, false, List, eqb}
use Rattle.std.proofs.Math.Path.{refl}
use Rattle.std.proofs.Common.{sym, arith}
use Rattle.types.specs.Kinds.{pick, either, is_pre68020, is040, is060}
use Rattle.types.specs.Vectors.{bus_error_vector}
use Rattle.cpu.specs.declared.Cpu.{Cpu}
use Rattle.cpu.specs.Fields.{kind_of, ppc_of, ir_of, vbr_of, is_faulted, in_exception, cause_number_of, clear_fc_override}
use Rattle.cpu.specs.Clocks.{clocks_of, prefetch_enabled}
use Rattle.memory.specs.declared.Bus.{Bus}
use Rattle.memory.specs.World.{World, put_cpu, step}
use Rattle.frames.specs.declared.Frame.{Frame}
use Rattle.frames.specs.Frames.{is_guarded, field_at, bus_frame, frame68000, frame8, frame4, frame7, frame11, write_data}
use Rattle.frames.specs.Codes.{fault_code, fault_word, ssw020, ssw040, wb3s, fslw060}
use Rattle.status.specs.Status.{get_sr}
use Rattle.steps.specs.Steps.{enter_bus_error, begin_bus, close_bus}
use Rattle.status.specs.Banks.{enter_supervisor}
use Rattle.access.specs.Access.{Raise, bus_error, push_frame, jump_vector, exception_bus_error, raise_bus, trigger}
use Rattle.unfaulted.specs.Closed.{closed}
use Rattle.unfaulted.specs.Pushes.{Guarded}
use Rattle.unfaulted.specs.Entries.{Alike}

-- ---- which frames are guarded

-- the same by a test
unfoldable pub all_guarded : Frame → ℕ → Bool
all_guarded f zero = true
all_guarded f (suc k) = pick (is_guarded (field_at f k)) (all_guarded f k) false

no : {A : Type 0} → false ≡ true → A
no e = let z : ◌≡◌ {A = ℕ} 0 1 = cc in absurd (omega arith)

pub guarded_if : (f : Frame) (k : ℕ) → all_guarded f k ≡ true → Guarded f k
unfolding all_guarded Guarded
guarded_if f zero h = tt
guarded_if f (suc k) h = go (is_guarded (field_at f k)) refl h (λ x. guarded_if f k x)
  where
    go : (t : Bool) → is_guarded (field_at f k) ≡ t → pick t (all_guarded f k) false ≡ true → (all_guarded f k ≡ true → Guarded f k) → (is_guarded (field_at f k) ≡ true) × Guarded f k
    go true x y r = (x, r y)
    go false x y r = no y

-- the frame of a bus error on a kind other than 1, 2 and 10
pub bus_guarded : (c : Cpu) (a : ℕ) (write instruction : Bool) (z cause : ℕ) → is_pre68020 (kind_of c) ≡ false
    → all_guarded (bus_frame c a write instruction z cause) (bus_frame c a write instruction z cause).count ≡ true
unfolding bus_frame all_guarded field_at frame4 frame7 frame11 is_pre68020
bus_guarded c a write instruction z cause h = go (eqb (kind_of c) 1) (either (eqb (kind_of c) 2) (eqb (kind_of c) 10)) (is060 (kind_of c)) (is040 (kind_of c)) h
  where
    frame : Bool → Bool → Bool → Bool → Frame
    frame t u v w =
        pick t (frame68000 (get_sr c) (ppc_of c) (ir_of c % 0x10000) a (fault_word (fault_code c instruction) write instruction))
        (pick (either t u) (frame8 (get_sr c) (ppc_of c) 0x8008)
        (pick v (frame4 (get_sr c) (ppc_of c) a (fslw060 write instruction z (fault_code c instruction) cause))
        (pick w
        (frame7 (get_sr c) (ppc_of c) a (ssw040 (fault_code c instruction) write z cause) (wb3s (fault_code c instruction) write z) (pick write a 0)
        (write_data c write))
        (frame11 (get_sr c) (ppc_of c) (ssw020 (fault_code c instruction) write instruction z) (pick instruction 0 a) (write_data c write) (pick instruction a 0)))))

    go : (t u v w : Bool) → either t u ≡ false → all_guarded (frame t u v w) (frame t u v w).count ≡ true
    go true u v w x = no (sym x)
    go false true v w x = no (sym x)
    go false false true w x = refl
    go false false false true x = refl
    go false false false false x = refl

-- ---- `exception_bus_error`

module _ (c : Cpu) where
  pub error_alike : Alike (enter_supervisor c) (enter_bus_error c)
  unfolding enter_bus_error clear_fc_override is_faulted kind_of vbr_of prefetch_enabled
  error_alike = record { running = refl; registers = refl; kind = refl; vbr = refl; fetches = refl }

  pub error_clocks : clocks_of (enter_bus_error c) ≡ clocks_of (enter_supervisor c)
  unfolding enter_bus_error clear_fc_override clocks_of
  error_clocks = refl

  pub error_fetches : prefetch_enabled (enter_bus_error c) ≡ prefetch_enabled (enter_supervisor c)
  unfolding enter_bus_error clear_fc_override prefetch_enabled
  error_fetches = refl

pub bus_step : (t : Raise) (b : Bus) (c : Cpu) (e : ℕ) (s l : List ℕ) (i : ℕ) (write instruction : Bool) (z cause : ℕ)
    → exception_bus_error t (closed b c e s l) i write instruction z cause ≡ jump_vector t (push_frame t (closed b (enter_bus_error c) e s l) (bus_frame c i write instruction z cause)) bus_error_vector
unfolding exception_bus_error closed put_cpu
bus_step t b c e s l i write instruction z cause = refl

-- `trigger_bus_error` while none is under way: status and registers as saved, the entry, and what the end of the instruction needs
pub trigger_closed : (n : ℕ) (b : Bus) (c : Cpu) (e : ℕ) (s l : List ℕ) (i : ℕ) (write instruction : Bool) (z : ℕ) (w : World) → is_faulted c ≡ false → in_exception c ≡ false
    → exception_bus_error (trigger n) (closed b (begin_bus c) e s l) i write instruction z (cause_number_of c) ≡ w
    → trigger (suc n) (closed b c e s l) (bus_error i write instruction z) ≡ step close_bus w
unfolding trigger raise_bus closed put_cpu
trigger_closed n b c e s l i write instruction z w h k m = rw (h, k, m)
