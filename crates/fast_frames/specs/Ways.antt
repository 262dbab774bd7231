-- An entry whose frame is data: where the fast way makes it, it says what the frame and the jump of the plain call leave.
use Rattle.std.specs.Prelude.{ℕ, zero, suc, ◌+◌, ◌-◌, ◌^◌, ◌<◌, ◌≡◌, Bool, true, ltb, Some, None, Option}
use Rattle.std.proofs.Math.Path.{refl, ap}
use Rattle.std.proofs.Common.{sym, ◌∙◌, arith}
use mathlib.Core.List.{List}
use Rattle.std.proofs.Math.ListN.{length}
use Rattle.types.specs.Kinds.{pick}
use Rattle.cpu.specs.declared.Cpu.{Cpu}
use Rattle.cpu.specs.Fields.{set_wdata, set_a7}
use Rattle.cpu.specs.Clocks.{clocks_of, set_clocks, prefetch_enabled}
use Rattle.status.specs.Banks.{enter_supervisor}
use Rattle.memory.specs.declared.Bus.{Bus}
use Rattle.memory.specs.declared.Core.{Core}
use Rattle.memory.specs.World.{World, world}
use Rattle.memory.specs.LogLaws.{Event}
use Rattle.frames.specs.declared.Frame.{Frame}
use Rattle.frames.specs.Frames.{field_at}
use Rattle.access.specs.Access.{raised, push_frame, jump_vector}
use Rattle.answers.specs.Answers.{cycles, refused_by, value_of, count_of}
use Rattle.numbers.specs.declared.RawCall.{RawCall}
use Rattle.boundary.specs.Calls.{outcome, of_performed, raw_call}
use Rattle.unfaulted.specs.Closed.{closed, told, Piece, laid, last_value, clock_events, Entering, jumped, entry_events, arrived}
use Rattle.unfaulted.specs.Pushes.{offset_of, pieces_of, length_pieces}
use Rattle.unfaulted.specs.Written.{clocks_count_lem}
use Rattle.unfaulted.proofs.Written.{entry_log, entry_count}
use Rattle.unfaulted.specs.Entries.{supervisor_clocks, supervisor_fetches}
use Rattle.unfaulted.specs.Errors.{all_guarded, guarded_if}
use Rattle.unfaulted.proofs.Errors.{frame_arrived}
use Rattle.fast_plans.specs.declared.View.{View}
use Rattle.fast_plans.specs.declared.Patch.{Patch}
use Rattle.fast_plans.specs.declared.places.Spot.{Spot}
use Rattle.fast.specs.declared.landings.Landing.{Landing}
use Rattle.fast_plans.specs.Views.{view_of}
use Rattle.fast_plans.specs.Places.{fetches_of, top_of, user_of, spot, spot_of}
use Rattle.fast.specs.Landings.{landing_of}
use Rattle.fast.specs.Stacks.{jump_at, jump_count}
use Rattle.fast_plans.specs.Quiet.{no_patch, is_entry}
use Rattle.fast.specs.Patches.{Ended}
use Rattle.fast_laws.specs.Patched.{patch_cpu, Words, Fetched}
use Rattle.fast_laws.specs.Accepts.{false_true, Accepted}
use Rattle.fast_laws.specs.Supervised.{top_at, user_at, Fitting, Plain}
use Rattle.fast_laws.proofs.Supervised.{plain_patched}
use Rattle.fast_laws.specs.Placed.{Spotted, spotted, Landed, landed_by, landing_at, enters}
use Rattle.fast_laws.specs.Tapes.{clocks_told, clocks_counted, jump_told, jump_counted}
use Rattle.fast_laws.specs.Ways.{same_world, Says, clear_of_lem}
use Rattle.fast_frames.specs.declared.rows.FrameRow.{FrameRow}
use Rattle.fast_frames.specs.Entries.{patch_for, first_number, framed_of, frame_log, written_of, land_of, place_of, enter_of}
use Rattle.fast_frames.specs.Laws.{Fitted}
use Rattle.std.proofs.lemmas.Option.{same_Some}

-- ---- where the fast way makes an entry, it writes it

abbrev pub place_at : View → FrameRow → ℕ
place_at x r = top_of x - r.bytes - x.base

abbrev pub spot_for : View → FrameRow → Spot
spot_for x r = spot (top_of x - r.bytes) (place_at x r)

abbrev pub landing_for : View → FrameRow → List ℕ → Landing
landing_for x r s = landing_at x s r.vector (place_at x r) r.bytes

pub record Entered (x : View) (r : FrameRow) (f : Frame) (s l : List ℕ) : Type 0 where
  pub spot : Spotted x (length s) r.bytes
  pub landing : Landed x s r.vector (place_at x r) r.bytes
  pub same : enter_of x r f s l ≡ written_of x r f (spot_for x r) (landing_for x r s) s l

fetched_in : (a b : Ended) → a ≡ b → Fetched a.patch → Fetched b.patch
fetched_in a b e h = rw e at h

written_fetched : (x : View) (r : FrameRow) (f : Frame) (s : Spot) (j : Landing) (m l : List ℕ) → Fetched (written_of x r f s j m l).patch → (j.first < 0x10000) × (j.second < 0x10000)
unfolding written_of patch_for
written_fetched x r f s j m l h = h

pub entered_by_lem : (x : View) (r : FrameRow) (f : Frame) (s l : List ℕ) → Fetched (enter_of x r f s l).patch → is_entry (enter_of x r f s l).patch.way ≡ true → Entered x r f s l
unfolding enter_of place_of land_of no_patch
entered_by_lem x r f s l w e = go (spot_of x (length s) r.bytes) refl e
  where
    made : (y : Spot) → spot_of x (length s) r.bytes ≡ Some y → (o : Option Landing) → landing_of x s r.vector y.place r.bytes ≡ o → is_entry (land_of x r f y o s l).patch.way ≡ true → Entered x r f s l
    made y d None k z = false_true _ z
    made y d (Some j) k z =
        let g : Spotted x (length s) r.bytes = spotted x (length s) r.bytes y d in
        let i : y ≡ spot_for x r = same_Some _ _ (sym d ∙ g.same) in
        let q : enter_of x r f s l ≡ written_of x r f y j s l = rw (d, k) refl in
        let v : (j.first < 0x10000) × (j.second < 0x10000) = written_fetched x r f y j s l (fetched_in (enter_of x r f s l) (written_of x r f y j s l) q w) in
        let h : Landed x s r.vector (place_at x r) r.bytes = landed_by x s r.vector (place_at x r) r.bytes j v (rw i at k) in
        let u : j ≡ landing_for x r s = same_Some _ _ (sym (rw i at k) ∙ h.same) in
        record { spot = g; landing = h; same = q ∙ rw (i, u) refl }

    go : (o : Option Spot) → spot_of x (length s) r.bytes ≡ o → is_entry (place_of x r f o s l).patch.way ≡ true → Entered x r f s l
    go None d z = false_true _ z
    go (Some y) d z = made y d (landing_of x s r.vector y.place r.bytes) refl z

-- ---- the frame and the jump where nothing faults

last_first : (f : Frame) (k : ℕ) → last_value (pieces_of f (suc k)) ≡ (field_at f 0).value
unfolding last_value pieces_of
last_first f zero = refl
last_first f (suc k) = last_first f k

pub fitted_last : (f : Frame) (n : ℕ) → Fitted f n → last_value (pieces_of f f.count) ≡ (field_at f 0).value
fitted_last f n h = let z : f.count ≡ suc (f.count - 1) = (let u = h.some in omega arith) in ap (λ (i : ℕ). last_value (pieces_of f i)) z ∙ last_first f (f.count - 1)

pub fitted_arrived : (b : Bus) (c : Cpu) (s l : List ℕ) (f : Frame) (n v q a to at x y : ℕ) → Fitted f n → Entering b c s n v q a to at x y
    → jump_vector raised (push_frame raised (closed b c 0 s l) f) v ≡ arrived b c (clocks_of c) 0 s l q (pieces_of f f.count) (prefetch_enabled c) v a to at x y
fitted_arrived b c s l f n v q a to at x y h e =
    let k : ℕ = f.count - 1 in
    let z : f.count ≡ suc k = (let u = h.some in omega arith) in
    let o : n ≡ offset_of f (suc k) = sym h.sized.bytes ∙ ap (λ (i : ℕ). offset_of f i) z in
    let g = guarded_if f (suc k) (ap (λ (i : ℕ). all_guarded f i) (sym z) ∙ h.guarded) in
    let u : 0 + k + 8 < 2 ^ 32 = (let w = h.sized.few in omega arith) in
    frame_arrived raised b c 0 s l f k v q a to at x y z g (rw o at e) u ∙ ap (λ (i : ℕ). arrived b c (clocks_of c) 0 s l q (pieces_of f i) (prefetch_enabled c) v a to at x y) (sym z)

cycles_said : (b : Bus) (c : Cpu) (e : ℕ) (s l : List ℕ) (n : ℕ) → of_performed (cycles (closed b c e s l) n) ≡ outcome (closed b c e s l) 0 n e
unfolding of_performed cycles closed refused_by value_of count_of
cycles_said b c e s l n = refl

-- ---- the fast way says so

module _ (x : View) (r : FrameRow) (f : Frame) (s : Spot) (j : Landing) (l : List ℕ) where
  abbrev events : List Event
  events = entry_events x.clocks s.a7 (pieces_of f f.count) (fetches_of x) j.from j.pc j.pc j.first j.second

  log_told : jump_at (framed_of x f) j (fetches_of x) (frame_log x f s l) ≡ told 0 l events
  log_told =
      let ps : List Piece = pieces_of f f.count in
      let a : first_number x ≡ 0 + length (clock_events x.clocks) = clocks_counted 0 x.clocks in
      let b : framed_of x f ≡ first_number x + length ps = ap (λ (i : ℕ). first_number x + i) (sym (length_pieces f f.count)) in
      jump_told (framed_of x f) j (fetches_of x) (frame_log x f s l)
      ∙ rw (clocks_told 0 x.clocks l) (sym (entry_log 0 l x.clocks s.a7 ps (fetches_of x) j.from j.pc j.pc j.first j.second (first_number x) (framed_of x f) a b))

  events_counted : jump_count (framed_of x f) (fetches_of x) ≡ 0 + length events
  events_counted =
      let ps : List Piece = pieces_of f f.count in
      let a : first_number x ≡ 0 + length (clock_events x.clocks) = clocks_counted 0 x.clocks in
      let b : length (clock_events x.clocks) ≡ pick (ltb 0 x.clocks) 1 0 = clocks_count_lem x.clocks in
      let c : length ps ≡ f.count = length_pieces f f.count in
      let d = entry_count 0 l x.clocks s.a7 ps (fetches_of x) j.from j.pc j.pc j.first j.second in
      jump_counted (framed_of x f) (fetches_of x) ∙ rw d (omega arith)

fetches_same : (m : Core) → fetches_of (view_of m) ≡ prefetch_enabled m.cpu
unfolding fetches_of view_of prefetch_enabled
fetches_same m = refl

clocks_same : (m : Core) → (view_of m).clocks ≡ clocks_of m.cpu
unfolding view_of clocks_of
clocks_same m = refl

module _ (m : Core) (s l : List ℕ) (w : Words m) (a : Accepted m (length s) (length l)) (r : FrameRow) (f : Frame) (small : r.vector < 256) (some : 0 < r.bytes) (fit : Fitted f r.bytes) (g : Entered (view_of m) r f s l) where
  abbrev landing : Landing
  landing = landing_for (view_of m) r s

  abbrev patch : Patch
  patch = patch_for (view_of m) r (spot_for (view_of m) r) (landing_for (view_of m) r s) (field_at f 0).value (jump_count (framed_of (view_of m) f) (fetches_of (view_of m)))

  entering : Entering m.bus (enter_supervisor m.cpu) s r.bytes r.vector (top_of (view_of m) - r.bytes) landing.from landing.pc landing.pc landing.first landing.second
  unfolding view_of
  entering = rw (g.landing.from, g.landing.pc) (enters m s (length l) r.bytes r.vector w a small some g.spot g.landing)

  fitting : Fitting m.cpu patch
  unfolding patch_for user_of user_at top_of top_at view_of
  fitting = record { user = refl; top = refl; first = g.landing.first_word; second = g.landing.second_word }

  plain : Plain m.cpu patch
  unfolding patch_for view_of
  plain = record { stopped = refl; mask = refl; level = refl; cycles = refl; fpiar = refl }

  -- the record after it
  left : jumped (fetches_of (view_of m)) (set_wdata (set_a7 (set_clocks (enter_supervisor m.cpu) 0) (top_of (view_of m) - r.bytes)) (field_at f 0).value) r.vector landing.pc landing.first landing.second ≡ patch_cpu m.cpu patch
  unfolding patch_for
  left = plain_patched m.cpu patch (clear_of_lem m s l w a) fitting plain

  abbrev told_as : ℕ → Bool → World
  told_as k b = arrived m.bus (enter_supervisor m.cpu) k 0 s l (top_of (view_of m) - r.bytes) (pieces_of f f.count) b r.vector landing.from landing.pc landing.pc landing.first landing.second

  came : jump_vector raised (push_frame raised (closed m.bus (enter_supervisor m.cpu) 0 s l) f) r.vector ≡ told_as (view_of m).clocks (fetches_of (view_of m))
  came =
      fitted_arrived m.bus (enter_supervisor m.cpu) s l f r.bytes r.vector (top_of (view_of m) - r.bytes) landing.from landing.pc landing.pc landing.first landing.second fit entering
      ∙ ap (λ (i : ℕ). told_as i (prefetch_enabled (enter_supervisor m.cpu))) (supervisor_clocks m.cpu ∙ sym (clocks_same m))
      ∙ ap (λ (b : Bool). told_as (view_of m).clocks b) (supervisor_fetches m.cpu ∙ sym (fetches_same m))

  pub said : (c : RawCall) (e : Ended) → e ≡ enter_of (view_of m) r f s l
      → raw_call (world m s l) c ≡ of_performed (cycles (jump_vector raised (push_frame raised (closed m.bus (enter_supervisor m.cpu) 0 s l) f) r.vector) r.answer) → Says m c s l e
  unfolding arrived written_of patch_for view_of
  said c e z p =
      let x : View = view_of m in
      let S : Spot = spot_for x r in
      let j : Landing = landing in
      let es : List Event = events x r f S j l in
      let d : Cpu = jumped (fetches_of x) (set_wdata (set_a7 (set_clocks (enter_supervisor m.cpu) 0) (top_of x - r.bytes)) (last_value (pieces_of f f.count))) r.vector j.pc j.first j.second in
      let k : d ≡ patch_cpu m.cpu patch = rw (fitted_last f r.bytes fit) left in
      let n = events_counted x r f S j l in
      let b = same_world m patch d (0 + length es) (laid s (place_at x r) (pieces_of f f.count)) (laid s (place_at x r) (pieces_of f f.count)) (jump_at (framed_of x f) j (fetches_of x) (frame_log x f S l)) (told 0 l es) k n refl (log_told x r f S j l) in
      rw (z ∙ g.same)
      (rw (b, n) (sym (p ∙ ap (λ (i : World). of_performed (cycles i r.answer)) came ∙ cycles_said m.bus d (0 + length es) (laid s (place_at x r) (pieces_of f f.count)) (told 0 l es) r.answer)))
