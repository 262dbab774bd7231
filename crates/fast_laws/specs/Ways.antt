-- The plain call, entry by entry, where the fast way makes an entry.
use Rattle.std.specs.Prelude.{ℕ, ◌+◌, ◌-◌, ◌%◌, ◌^◌, ◌<◌, ◌≡◌, refl, Bool, true, false, List, length, Option, Some, None}
use Rattle.std.proofs.Common.{sym, ap, ◌∙◌, arith}
use Rattle.std.proofs.lemmas.Option.{same_Some}
use Rattle.types.specs.Kinds.{pick}
use Rattle.cpu.specs.declared.Cpu.{Cpu}
use Rattle.cpu.specs.Clocks.{clocks_of}
use Rattle.status.specs.Banks.{enter_supervisor}
use Rattle.memory.specs.declared.Bus.{Bus}
use Rattle.memory.specs.declared.Core.{Core}
use Rattle.memory.specs.World.{World, world}
use Rattle.exceptions.specs.Exceptions.{entry}
use Rattle.answers.specs.declared.Call.{Call}
use Rattle.answers.specs.Answers.{cycles, of_entry, refused_by, value_of, count_of}
use Rattle.calls.specs.Calls.{run, restarted, begun, refusal, perform}
use Rattle.numbers.specs.declared.RawCall.{RawCall}
use Rattle.std.specs.Prelude.{Some}
use Rattle.boundary.specs.Calls.{outcome, decode, of_performed, raw_of, raw_call}
use Rattle.unfaulted.specs.Closed.{closed, told, Piece, laid, Entering, entry_events}
use Rattle.fast_plans.specs.declared.View.{View}
use Rattle.fast_plans.specs.declared.Patch.{Patch}
use Rattle.fast_plans.specs.declared.places.Spot.{Spot}
use Rattle.fast.specs.declared.landings.Landing.{Landing}
use Rattle.fast_plans.specs.declared.plans.Plan.{Plan}
use Rattle.fast_plans.specs.Views.{view_of}
use Rattle.fast_plans.specs.Places.{fetches_of, top_of, user_of, spot, spot_of}
use Rattle.fast.specs.Landings.{landing_of}
use Rattle.fast.specs.Stacks.{Tape, tape, waiting_of, lay_at, lay_count, jump_at, jump_count}
use Rattle.fast_plans.specs.Quiet.{is_entry, no_patch}
use Rattle.fast.specs.Patches.{patch_by, Ended, ended, written_of, land_of, place_of, enter_of}
use Rattle.fast_laws.specs.Patched.{patch_cpu, patch_of, Words, Fetched}
use Rattle.fast_laws.specs.Accepts.{false_true, Accepted}
use Rattle.fast_laws.specs.Supervised.{top_at, user_at, Clear, Fitting}
use Rattle.fast_laws.specs.Placed.{Spotted, spotted, Landed, landed_by, landing_at, enters}
use Rattle.fast_laws.specs.Tapes.{Framed, entry_told, entry_counted}

-- ---- where the fast way makes an entry, it writes it

pub ended_step : (b : Bool) (y z : Ended) → is_entry z.patch.way ≡ false → is_entry (pick b y z).patch.way ≡ true → (b ≡ true) × (is_entry y.patch.way ≡ true) × (pick b y z ≡ y)
ended_step true y z n e = (refl, e, refl)
ended_step false y z n e = false_true _ (sym n ∙ e)

-- the frame's place and the landing of a plan
abbrev pub place_at : View → Plan → ℕ
place_at x p = top_of x - p.bytes - x.base

abbrev pub spot_for : View → Plan → Spot
spot_for x p = spot (top_of x - p.bytes) (place_at x p)

abbrev pub landing_for : View → Plan → List ℕ → Landing
landing_for x p s = landing_at x s p.vector (place_at x p) p.bytes

pub record Entered (x : View) (p : Plan) (s l : List ℕ) : Type 0 where
  pub spot : Spotted x (length s) p.bytes
  pub landing : Landed x s p.vector (place_at x p) p.bytes
  pub same : enter_of x p s l ≡ written_of x p (spot_for x p) (landing_for x p s) (tape s l)

none_fast : (s l : List ℕ) → is_entry (ended no_patch s l).patch.way ≡ false
unfolding no_patch
none_fast s l = refl

-- the same words in an entry that is the whole call
pub fetched_in : (a b : Ended) → a ≡ b → Fetched a.patch → Fetched b.patch
fetched_in a b e h = rw e at h

written_fetched : (x : View) (p : Plan) (s : Spot) (j : Landing) (t : Tape) → Fetched (written_of x p s j t).patch → (j.first < 0x10000) × (j.second < 0x10000)
unfolding written_of patch_by
written_fetched x p s j t h = h

pub entered_by_lem : (x : View) (p : Plan) (s l : List ℕ) → Fetched (enter_of x p s l).patch → is_entry (enter_of x p s l).patch.way ≡ true → Entered x p s l
unfolding enter_of place_of land_of no_patch
entered_by_lem x p s l w e = go (spot_of x (length s) p.bytes) refl e
  where
    t : Tape
    t = tape s l

    made : (y : Spot) → spot_of x (length s) p.bytes ≡ Some y → (o : Option Landing) → landing_of x s p.vector y.place p.bytes ≡ o → is_entry (land_of x p y o t).patch.way ≡ true → Entered x p s l
    made y f None k z = false_true _ z
    made y f (Some j) k z =
        let g : Spotted x (length s) p.bytes = spotted x (length s) p.bytes y f in
        let i : y ≡ spot_for x p = same_Some _ _ (sym f ∙ g.same) in
        let q : enter_of x p s l ≡ written_of x p y j t = rw (f, k) refl in
        let v : (j.first < 0x10000) × (j.second < 0x10000) = written_fetched x p y j t (fetched_in (enter_of x p s l) (written_of x p y j t) q w) in
        let h : Landed x s p.vector (place_at x p) p.bytes = landed_by x s p.vector (place_at x p) p.bytes j v (rw i at k) in
        let u : j ≡ landing_for x p s = same_Some _ _ (sym (rw i at k) ∙ h.same) in
        record { spot = g; landing = h; same = q ∙ rw (i, u) refl }

    go : (o : Option Spot) → spot_of x (length s) p.bytes ≡ o → is_entry (place_of x p o t).patch.way ≡ true → Entered x p s l
    go None f z = false_true _ z
    go (Some y) f z = made y f (landing_of x s p.vector y.place p.bytes) refl z

-- ---- the plain call

begun_closed : (m : Core) (s l : List ℕ) → begun (world m s l) ≡ closed m.bus m.cpu 0 s l
unfolding begun restarted closed
begun_closed m s l = refl

pub raw_known : (m : Core) (s l : List ℕ) (c : RawCall) (call : Call) → decode c ≡ Some call → refusal (world m s l) call ≡ 0
    → raw_call (world m s l) c ≡ of_performed (run (closed m.bus m.cpu 0 s l) call)
unfolding raw_call raw_of perform
raw_known m s l c call d h = rw (d, h) (ap (λ (w : World). of_performed (run w call)) (begun_closed m s l))

entry_said : (b : Bus) (c : Cpu) (e : ℕ) (s l : List ℕ) (n : ℕ) → of_performed (of_entry (entry (closed b c e s l) n)) ≡ outcome (closed b c e s l) 0 n e
unfolding of_performed of_entry cycles closed refused_by value_of count_of
entry_said b c e s l n = refl

pub same_world : (m : Core) (q : Patch) (c : Cpu) (e : ℕ) (s t l k : List ℕ) → c ≡ patch_cpu m.cpu q → q.events ≡ e → s ≡ t → l ≡ k → world (patch_of m q) s l ≡ closed m.bus c e t k
unfolding patch_of closed
same_world m q c e s t l k f g h i = rw (f, g, h, i)

-- what the fast way leaves, as the outcome of a call
abbrev pub Says : Core → RawCall → List ℕ → List ℕ → Ended → Type 0
Says m c s l g = outcome (world (patch_of m g.patch) g.store g.log) 0 g.patch.answer g.patch.events ≡ raw_call (world m s l) c

-- an entry that ends at cpu d with frame ps and answers n, said by a plan
pub said : (m : Core) (c : RawCall) (s l : List ℕ) (p : Plan) (g : Ended) (ps : List Piece) (d : Cpu) (n : ℕ)
    → g ≡ written_of (view_of m) p (spot_for (view_of m) p) (landing_for (view_of m) p s) (tape s l)
    → Framed (view_of m) (spot_for (view_of m) p) p (tape s l) ps
    → d ≡ patch_cpu m.cpu (patch_by (view_of m) p (spot_for (view_of m) p) (landing_for (view_of m) p s) (jump_count (lay_count (view_of m) p) (fetches_of (view_of m))))
    → p.answer ≡ n
    → (let x : View = view_of m in let j : Landing = landing_for x p s in let q : ℕ = top_of x - p.bytes in
    let es = entry_events (waiting_of x p.clocks) q ps (fetches_of x) j.from j.pc j.pc j.first j.second in
    raw_call (world m s l) c ≡ of_performed (of_entry (entry (closed m.bus d (0 + length es) (laid s (place_at x p) ps) (told 0 l es)) n)))
    → Says m c s l g
unfolding written_of patch_by
said m c s l p g ps d n z f k a r =
    let x : View = view_of m in
    let j : Landing = landing_for x p s in
    let q : Patch = patch_by x p (spot_for x p) j (jump_count (lay_count x p) (fetches_of x)) in
    let es = entry_events (waiting_of x p.clocks) (top_of x - p.bytes) ps (fetches_of x) j.from j.pc j.pc j.first j.second in
    let e : jump_count (lay_count x p) (fetches_of x) ≡ 0 + length es = entry_counted x (spot_for x p) p (tape s l) ps j f in
    let w = same_world m q d (0 + length es) (lay_at x (spot_for x p) p (tape s l)).store (laid s (place_at x p) ps) (jump_at (lay_count x p) j (fetches_of x) (lay_at x (spot_for x p) p (tape s l)).log) (told 0 l es) k e f.store (entry_told x (spot_for x p) p (tape s l) ps j f) in
    rw z (rw (w, e, a) (sym (r ∙ entry_said m.bus d (0 + length es) (laid s (place_at x p) ps) (told 0 l es) n)))

-- ---- what is said of every entry

module _ (m : Core) (s l : List ℕ) (w : Words m) (a : Accepted m (length s) (length l)) where
  pub clear_of_lem : Clear m.cpu
  clear_of_lem = record { supervisor = a.supervisor; master = a.master; pointers = w.pointers }

  -- the premises of unfaulted, in the words of the landing
  pub entering_of : (p : Plan) (n v : ℕ) → p.bytes ≡ n → p.vector ≡ v → v < 256 → 0 < n → Entered (view_of m) p s l
      → (let x : View = view_of m in let j : Landing = landing_for x p s in Entering m.bus (enter_supervisor m.cpu) s n v (top_of x - p.bytes) j.from j.pc j.pc j.first j.second)
  unfolding view_of
  entering_of p n v e f h z g =
      rw (← e, ← f)
      (rw (g.landing.from, g.landing.pc) (enters m s (length l) p.bytes p.vector w a (rw f h) (rw e z) g.spot g.landing))

  pub fitting_of : (p : Plan) (e : ℕ) → Entered (view_of m) p s l → Fitting m.cpu (patch_by (view_of m) p (spot_for (view_of m) p) (landing_for (view_of m) p s) e)
  unfolding patch_by user_of user_at top_of top_at view_of
  fitting_of p e g = record { user = refl; top = refl; first = g.landing.first_word; second = g.landing.second_word }

-- the clocks that wait where none is added
pub waiting_none : (m : Core) → Words m → waiting_of (view_of m) 0 ≡ clocks_of m.cpu
unfolding waiting_of view_of clocks_of
waiting_none m w = go (fetches_of (view_of m))
  where
    go : (f : Bool) → pick f ((m.cpu.queue.pending_sync_clocks + 0) % 2 ^ 32) m.cpu.queue.pending_sync_clocks ≡ m.cpu.queue.pending_sync_clocks
    go true = let z = w.clocks in omega arith
    go false = refl
