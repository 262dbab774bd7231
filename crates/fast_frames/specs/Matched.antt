-- AN ENTRY WHOSE FRAME IS DATA SAYS BY THE FAST WAY WHAT THE PLAIN CALL SAYS: record, bus, store, log and answer after it are those of the call by
-- number; and where it is not made neither store nor log is touched.
use Rattle.std.specs.Prelude.{ℕ, ◌%◌, ◌<◌, ◌≡◌, refl, ◌⊎◌, Bool, true, false, not, List, eqb, length, Some, None, Option}
use Rattle.std.proofs.Common.{sym, ap, ◌∙◌, inl, inr, eqb-true, lit≤, lit<}
use Rattle.types.specs.Kinds.{pick}
use Rattle.types.specs.Vectors.{bus_error_vector}
use Rattle.types.specs.Tables.{exception_cycles}
use Rattle.types.specs.Causes.{cause_number, cause_of}
use Rattle.cpu.specs.declared.Cpu.{Cpu}
use Rattle.cpu.specs.declared.OptionalCode.{OptionalCode}
use Rattle.cpu.specs.Fields.{kind_of, ppc_of, wdata_of, clear_fc_override}
use Rattle.status.specs.Banks.{enter_supervisor, set_sflag, restore_sp, put_s, backup_sp}
use Rattle.status.specs.Status.{compose, get_sr, clear_trace}
use Rattle.steps.specs.Steps.{enter_bus_error}
use Rattle.memory.specs.declared.Core.{Core}
use Rattle.memory.specs.World.{World, world, put_cpu}
use Rattle.frames.specs.declared.Frame.{Frame}
use Rattle.frames.specs.Frames.{bus_frame}
use Rattle.access.specs.Access.{raised, push_frame, jump_vector, exception_bus_error}
use Rattle.formats.specs.Formats.{format_word, disabled_frame}
use Rattle.exceptions.specs.Exceptions.{stack_disabled, take_fp_disabled060}
use Rattle.refusals.specs.Refusals.{bad_cycles}
use Rattle.answers.specs.declared.Call.TheVariants.{ExceptionBusError, TakeFpDisabled060}
use Rattle.answers.specs.Matters.{of_lent, matter_of}
use Rattle.answers.specs.Answers.{cycles, of_entry}
use Rattle.calls.specs.Calls.{run, refusal}
use Rattle.numbers.specs.declared.RawCall.{RawCall}
use Rattle.numbers.specs.Numbers.{flag}
use Rattle.boundary.specs.Calls.{outcome, decode, of_performed, raw_call}
use Rattle.unfaulted.specs.Closed.{closed}
use Rattle.fast_plans.specs.declared.View.{View}
use Rattle.fast_plans.specs.declared.places.Spot.{Spot}
use Rattle.fast.specs.declared.landings.Landing.{Landing}
use Rattle.fast_plans.specs.Views.{view_of, accepts_of}
use Rattle.fast_plans.specs.Places.{spot_of}
use Rattle.fast.specs.Landings.{landing_of}
use Rattle.fast_plans.specs.Quiet.{no_patch, is_entry, is_calm, is_idle}
use Rattle.fast.specs.Patches.{Ended, ended}
use Rattle.fast_laws.specs.Patched.{patch_of, Words, Fetched}
use Rattle.fast_laws.specs.Accepts.{false_true, Accepted, accepted, not_refused, floating_fine}
use Rattle.fast_laws.specs.Ways.{raw_known}
use Rattle.fast_frames.specs.declared.rows.FrameRow.{FrameRow}
use Rattle.fast_frames.specs.Rows.{bus_frame_of, frame_of}
use Rattle.fast_frames.specs.Entries.{patch_for, written_of, land_of, place_of, enter_of, enter_by, entry_of, go_of}
use Rattle.fast_frames.specs.Laws.{Bussed, Disabled, rowed, frame_fits, frame_some, bare_frame}
use Rattle.fast_frames.specs.Ways.{Entered, entered_by_lem, said}
use Rattle.std.proofs.lemmas.Option.{same_Some}

-- ---- what holds of the call not made and of the entry made holds of the call

module _ (P : Ended → Type 0) (x : View) (wdata code : ℕ) (call : RawCall) (s l : List ℕ) (none : P (ended no_patch s l)) (made : (r : FrameRow) (f : Frame) (p : Spot) (j : Landing) → P (written_of x r f p j s l)) where
  land_way : (r : FrameRow) (f : Frame) (p : Spot) (j : Option Landing) → P (land_of x r f p j s l)
  unfolding land_of
  land_way r f p None = none
  land_way r f p (Some j) = made r f p j

  place_way : (r : FrameRow) (f : Frame) (p : Option Spot) → P (place_of x r f p s l)
  unfolding place_of
  place_way r f None = none
  place_way r f (Some p) = land_way r f p (landing_of x s r.vector p.place r.bytes)

  entry_way : (r : Option FrameRow) (f : Frame) → P (enter_by x r f s l)
  unfolding enter_by enter_of
  entry_way None f = none
  entry_way (Some r) f = place_way r f (spot_of x (length s) r.bytes)

  call_way : P (go_of x wdata code call s l)
  unfolding go_of
  call_way = go (accepts_of x (length s) (length l))
    where
      go : (b : Bool) → P (pick b (enter_by x (entry_of x code call) (frame_of x wdata call) s l) (ended no_patch s l))
      go true = entry_way (entry_of x code call) (frame_of x wdata call)
      go false = none

-- where no entry is made, nothing is touched
pub kept : (x : View) (wdata code : ℕ) (call : RawCall) (s l : List ℕ) → is_entry (go_of x wdata code call s l).patch.way ≡ false → ((go_of x wdata code call s l).store ≡ s) × ((go_of x wdata code call s l).log ≡ l)
unfolding written_of patch_for
kept x wdata code call s l =
    call_way (λ (g : Ended). is_entry g.patch.way ≡ false → (g.store ≡ s) × (g.log ≡ l)) x wdata code call s l (λ e. (refl, refl)) (λ r f p j. λ e. false_true _ (sym e))

-- a call of this crate is an entry or is not made
pub never_calm : (x : View) (wdata code : ℕ) (call : RawCall) (s l : List ℕ) → is_calm (go_of x wdata code call s l).patch.way ≡ false
unfolding written_of patch_for no_patch
never_calm x wdata code call s l = call_way (λ (g : Ended). is_calm g.patch.way ≡ false) x wdata code call s l refl (λ r f p j. refl)

pub never_idle : (x : View) (wdata code : ℕ) (call : RawCall) (s l : List ℕ) → is_idle (go_of x wdata code call s l).patch.way ≡ false
unfolding written_of patch_for no_patch
never_idle x wdata code call s l = call_way (λ (g : Ended). is_idle g.patch.way ≡ false) x wdata code call s l refl (λ r f p j. refl)

-- ---- what the tests told

pub record Went (x : View) (wdata code : ℕ) (call : RawCall) (s l : List ℕ) : Type 0 where
  pub accepts : accepts_of x (length s) (length l) ≡ true
  pub entry : FrameRow
  pub there : entry_of x code call ≡ Some entry
  pub same : go_of x wdata code call s l ≡ enter_of x entry (frame_of x wdata call) s l

went : (x : View) (wdata code : ℕ) (call : RawCall) (s l : List ℕ) → is_entry (go_of x wdata code call s l).patch.way ≡ true → Went x wdata code call s l
unfolding go_of enter_by no_patch
went x wdata code call s l e = go (accepts_of x (length s) (length l)) (entry_of x code call) refl refl e
  where
    go : (i : Bool) (k : Option FrameRow) → accepts_of x (length s) (length l) ≡ i → entry_of x code call ≡ k
        → is_entry (pick i (enter_by x k (frame_of x wdata call) s l) (ended no_patch s l)).patch.way ≡ true → Went x wdata code call s l
    go false k f g z = false_true _ z
    go true None f g z = false_true _ z
    go true (Some r) f g z = record { accepts = f; entry = r; there = g; same = rw (f, g) }

-- ---- a bus error

-- where the record keeps no function code, none is consumed
consumed : (c : Cpu) → c.fault.mmu_fc_override ≡ record { some = false; value = 0 } → clear_fc_override (enter_supervisor c) ≡ enter_supervisor c
unfolding clear_fc_override enter_supervisor set_sflag restore_sp put_s backup_sp clear_trace
consumed c e = rw e

code_none : (o : OptionalCode) → o.some ≡ false → o.value ≡ 0 → o ≡ record { some = false; value = 0 }
code_none o e f = rw (← e, ← f)

entered_plain : (c : Cpu) → clear_fc_override (enter_supervisor c) ≡ enter_supervisor c → enter_bus_error c ≡ enter_supervisor c
unfolding enter_bus_error
entered_plain c e = e

bus_step : (m : Core) (s l : List ℕ) (a : ℕ) (write instruction : Bool) (z cause : ℕ) → enter_bus_error m.cpu ≡ enter_supervisor m.cpu
    → exception_bus_error raised (closed m.bus m.cpu 0 s l) a write instruction z cause
    ≡ jump_vector raised (push_frame raised (closed m.bus (enter_supervisor m.cpu) 0 s l) (bus_frame m.cpu a write instruction z cause)) bus_error_vector
unfolding exception_bus_error closed put_cpu
bus_step m s l a write instruction z cause e = rw (← e)

-- what the record keeps
abbrev pub code_of : Cpu → ℕ
code_of c = c.fault.mmu_fc_override.value

frame_bus : (x : View) (wdata : ℕ) (c : RawCall) → eqb c.number 9 ≡ true → frame_of x wdata c ≡ bus_frame_of x wdata c
unfolding frame_of
frame_bus x wdata c e = rw e

-- the plain call is the frame of its row, and the jump
plain_bus_lem : (m : Core) (c : RawCall) (s l : List ℕ) → Accepted m (length s) (length l) → Bussed (view_of m) (code_of m.cpu) c
    → raw_call (world m s l) c ≡ of_performed (cycles (jump_vector raised (push_frame raised (closed m.bus (enter_supervisor m.cpu) 0 s l) (frame_of (view_of m) (wdata_of m.cpu) c)) 2) 50)
unfolding decode run matter_of frame_of bus_frame_of refusal bad_cycles flag view_of kind_of
plain_bus_lem m c s l a b =
    let n : c.number ≡ 9 = eqb-true c.number 9 b.number in
    let write : Bool = not (eqb c.b 0) in
    let instruction : Bool = not (eqb c.c 0) in
    let cause = cause_of (c.e % 256) in
    let o : m.cpu.fault.mmu_fc_override ≡ record { some = false; value = 0 } = code_none m.cpu.fault.mmu_fc_override a.code (eqb-true (code_of m.cpu) 0 b.clear) in
    raw_known m s l c (ExceptionBusError c.a write instruction c.d cause) (rw n)
    (not_refused m (length s) (length l) a (matter_of (ExceptionBusError c.a write instruction c.d cause)) refl (lit≤ tt) refl)
    ∙ ap (λ (w : World). of_performed (cycles w 50)) (bus_step m s l c.a write instruction c.d (cause_number cause) (entered_plain m.cpu (consumed m.cpu o)))
    ∙ ap (λ (f : Frame). of_performed (cycles (jump_vector raised (push_frame raised (closed m.bus (enter_supervisor m.cpu) 0 s l) f) 2) 50)) (sym (bare_frame m c.a write instruction c.d (cause_number cause) b.count a.code b.bytes) ∙ sym (frame_bus (view_of m) (wdata_of m.cpu) c b.number))

-- ---- a disabled floating-point unit

disabled_step : (m : Core) (s l : List ℕ) → of_entry (take_fp_disabled060 (closed m.bus m.cpu 0 s l))
    ≡ cycles (jump_vector raised (push_frame raised (closed m.bus (enter_supervisor m.cpu) 0 s l) (disabled_frame (compose m.cpu.flags) m.cpu.flow.ppc 0x402C 0 m.cpu.flow.ppc)) 11) 34
unfolding of_entry take_fp_disabled060 stack_disabled closed put_cpu get_sr ppc_of format_word exception_cycles
disabled_step m s l = refl

plain_disabled : (m : Core) (c : RawCall) (s l : List ℕ) → Accepted m (length s) (length l) → Disabled (view_of m) (code_of m.cpu) c
    → raw_call (world m s l) c ≡ of_performed (cycles (jump_vector raised (push_frame raised (closed m.bus (enter_supervisor m.cpu) 0 s l) (frame_of (view_of m) (wdata_of m.cpu) c)) 11) 34)
unfolding decode run matter_of frame_of refusal bad_cycles view_of
plain_disabled m c s l a b =
    let n : c.number ≡ 11 = eqb-true c.number 11 b.number in
    raw_known m s l c TakeFpDisabled060 (rw n) (floating_fine m (length s) (length l) b.kind ∙ not_refused m (length s) (length l) a of_lent refl (lit≤ tt) refl)
    ∙ ap of_performed (disabled_step m s l)
    ∙ rw b.other

-- the fast way of a call on the record m
abbrev pub went_by : Core → RawCall → List ℕ → List ℕ → Ended
went_by m c s l = go_of (view_of m) (wdata_of m.cpu) (code_of m.cpu) c s l

-- what the plain call is, for each row
abbrev Plainly : Core → RawCall → List ℕ → List ℕ → FrameRow → Type 0
Plainly m c s l r = (r.vector < 256) × (raw_call (world m s l) c ≡ of_performed (cycles (jump_vector raised (push_frame raised (closed m.bus (enter_supervisor m.cpu) 0 s l) (frame_of (view_of m) (wdata_of m.cpu) c)) r.vector) r.answer))

plainly : (m : Core) (c : RawCall) (s l : List ℕ) (r : FrameRow) → Accepted m (length s) (length l) → entry_of (view_of m) (code_of m.cpu) c ≡ Some r → Plainly m c s l r
plainly m c s l r a e = go (rowed (view_of m) (code_of m.cpu) c r e)
  where
    go : Bussed (view_of m) (code_of m.cpu) c ⊎ Disabled (view_of m) (code_of m.cpu) c → Plainly m c s l r
    go (inl b) = rw (← same_Some _ r (sym b.same ∙ e)) (lit< tt, plain_bus_lem m c s l a b)
    go (inr d) = rw (← same_Some _ r (sym d.same ∙ e)) (lit< tt, plain_disabled m c s l a d)

-- AN ENTRY: where the fast way makes one, the patched record and bus, store, log, answer and events are those of the plain call
pub framed_same : (m : Core) (c : RawCall) (s l : List ℕ) → Words m → Fetched (went_by m c s l).patch → is_entry (went_by m c s l).patch.way ≡ true
    → outcome (world (patch_of m (went_by m c s l).patch) (went_by m c s l).store (went_by m c s l).log) 0 (went_by m c s l).patch.answer (went_by m c s l).patch.events ≡ raw_call (world m s l) c
framed_same m c s l w h e =
    let x : View = view_of m in
    let k : ℕ = code_of m.cpu in
    let f : Frame = frame_of x (wdata_of m.cpu) c in
    let t : Went x (wdata_of m.cpu) k c s l = went x (wdata_of m.cpu) k c s l e in
    let r : FrameRow = t.entry in
    let a : Accepted m (length s) (length l) = accepted m (length s) (length l) t.accepts in
    let p : Plainly m c s l r = plainly m c s l r a t.there in
    let g : Entered x r f s l = entered_by_lem x r f s l (rw t.same at h) (ap (λ (i : Ended). is_entry i.patch.way) (sym t.same) ∙ e) in
    said m s l w a r f p.0 (frame_some x k c r t.there) (frame_fits x (wdata_of m.cpu) k c r t.there) g c (went_by m c s l) t.same p.1
