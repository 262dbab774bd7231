-- THE FAST WAY SAYS WHAT THE PLAIN CALL SAYS: record, bus, store, log and answer after it are those of the call by number; and where it makes no
-- entry it has touched neither store nor log.
use Prim.Native.Nat.{ℕ, ◌%◌, ◌≤◌}
use Rattle.std.proofs.Math.Path.{◌≡◌, refl, ap}
use Rattle.std.proofs.Common.{sym, ◌∙◌, ltb-false, eqb-true}
use Rattle.std.specs.Prelude.{Bool, List, ltb, length, Option, Some, None}
use Rattle.std.proofs.lemmas.Option.{same_Some}
use Rattle.std.proofs.Math.Bool.{true, false}
use Rattle.std.proofs.Math.Dec.{eqb}
use Rattle.types.specs.Kinds.{pick}
use Rattle.memory.specs.declared.Core.{Core}
use Rattle.memory.specs.World.{world}
use Rattle.refusals.specs.Refusals.{bad_cycles}
use Rattle.answers.specs.declared.Call.{Call}
use Rattle.answers.specs.Matters.{matter_of}
use Rattle.numbers.specs.Numbers.{bit}
use Rattle.calls.specs.Calls.{run, refusal}
use Rattle.numbers.specs.declared.RawCall.{RawCall}
use Rattle.std.specs.Prelude.{Some}
use Rattle.boundary.specs.Calls.{outcome, decode, of_performed, raw_call}
use Rattle.unfaulted.specs.Closed.{closed}
use Rattle.fast_plans.specs.declared.View.{View}
use Rattle.fast_plans.specs.declared.Patch.{Patch}
use Rattle.fast_plans.specs.declared.Way.TheVariants.{Idle, Calm}
use Rattle.fast_plans.specs.declared.places.Spot.{Spot}
use Rattle.fast.specs.declared.landings.Landing.{Landing}
use Rattle.fast_plans.specs.declared.plans.EntryRow.{EntryRow}
use Rattle.fast_plans.specs.declared.plans.Plan.{Plan}
use Rattle.fast_plans.specs.Views.{accepts_of}
use Rattle.fast_plans.specs.Places.{spot_of}
use Rattle.fast.specs.Landings.{landing_of}
use Rattle.fast_plans.specs.Plans.{row_of, halts, entry_plan, entry_of, entry_by, plan_of}
use Rattle.fast.specs.Stacks.{tape}
use Rattle.fast_plans.specs.Quiet.{is_entry, is_calm, is_idle, is_quiet, quiet, calm_patch, still_patch, asks, checks, quiet_of}
use Rattle.fast_plans.specs.Quiet.{no_patch}
use Rattle.fast.specs.Patches.{patch_by, Ended, ended, written_of, land_of, place_of, enter_of, enter_by, go_of}
use Rattle.fast.specs.Laws.{found_step}
use Rattle.fast_laws.specs.Patched.{calm_of}
use Rattle.fast_laws.specs.Accepts.{false_true, Accepted, not_refused}
use Rattle.fast_laws.specs.Ways.{raw_known}

-- ---- where no entry is made, nothing is touched

abbrev Kept : List ℕ → List ℕ → Ended → Type 0
Kept s l g = is_entry g.patch.way ≡ false → (g.store ≡ s) × (g.log ≡ l)

kept_pick : (s l : List ℕ) (b : Bool) (y z : Ended) → Kept s l y → Kept s l z → Kept s l (pick b y z)
kept_pick s l true y z f g = f
kept_pick s l false y z f g = g

kept_ended : (s l : List ℕ) (q : Patch) → Kept s l (ended q s l)
kept_ended s l q e = (refl, refl)

kept_written : (x : View) (p : Plan) (r : Spot) (j : Landing) (s l : List ℕ) → Kept s l (written_of x p r j (tape s l))
unfolding written_of patch_by
kept_written x p r j s l e = false_true _ (sym e)

kept_landed : (x : View) (p : Plan) (r : Spot) (j : Option Landing) (s l : List ℕ) → Kept s l (land_of x p r j (tape s l))
unfolding land_of
kept_landed x p r None s l = kept_ended s l no_patch
kept_landed x p r (Some j) s l = kept_written x p r j s l

kept_placed : (x : View) (p : Plan) (r : Option Spot) (s l : List ℕ) → Kept s l (place_of x p r (tape s l))
unfolding place_of
kept_placed x p None s l = kept_ended s l no_patch
kept_placed x p (Some r) s l = kept_landed x p r (landing_of x s p.vector r.place p.bytes) s l

kept_entered : (x : View) (p : Option Plan) (s l : List ℕ) → Kept s l (enter_by x p s l)
unfolding enter_by enter_of
kept_entered x None s l = kept_ended s l no_patch
kept_entered x (Some p) s l = kept_placed x p (spot_of x (length s) p.bytes) s l

pub kept : (x : View) (c : RawCall) (s l : List ℕ) → is_entry (go_of x c s l).patch.way ≡ false → ((go_of x c s l).store ≡ s) × ((go_of x c s l).log ≡ l)
unfolding go_of
kept x c s l =
    let n : Ended = ended no_patch s l in
    let e : Ended = enter_by x (plan_of x c) s l in
    let q : Ended = ended (quiet_of x c) s l in
    kept_pick s l (accepts_of x (length s) (length l)) (pick (is_quiet x c) q e) n
    (kept_pick s l (is_quiet x c) q e (kept_ended s l (quiet_of x c)) (kept_entered x (plan_of x c) s l)) (kept_ended s l no_patch)

-- ---- what a call that is an entry told by its tests

pub record Went (x : View) (c : RawCall) (s l : List ℕ) : Type 0 where
  pub accepts : accepts_of x (length s) (length l) ≡ true
  pub loud : is_quiet x c ≡ false
  pub plan : Plan
  pub planned : plan_of x c ≡ Some plan
  pub same : go_of x c s l ≡ enter_of x plan s l
  pub made : is_entry (enter_of x plan s l).patch.way ≡ true

still_fast : (x : View) (n : ℕ) → is_entry (still_patch x n).way ≡ false
unfolding still_patch calm_patch
still_fast x n = go (eqb x.events 0)
  where
    go : (b : Bool) → is_entry (pick b (quiet Idle n 0 false) (quiet Calm n x.flags.int_level x.change_of_flow)).way ≡ false
    go true = refl
    go false = refl

quiet_fast : (x : View) (c : RawCall) → is_entry (quiet_of x c).way ≡ false
unfolding quiet_of calm_patch
quiet_fast x c = go (eqb c.number 22) (eqb c.number 21) (eqb c.number 20)
  where
    go : (h i j : Bool) → is_entry (pick h (still_patch x 0) (pick i (still_patch x (bit (checks x))) (pick j (quiet Calm 0 (c.a % 8) x.change_of_flow) (quiet Calm (bit (asks x)) x.flags.int_level false)))).way ≡ false
    go true i j = still_fast x 0
    go false true j = still_fast x (bit (checks x))
    go false false true = refl
    go false false false = refl

pub went : (x : View) (c : RawCall) (s l : List ℕ) → is_entry (go_of x c s l).patch.way ≡ true → Went x c s l
unfolding go_of no_patch enter_by
went x c s l e = go (accepts_of x (length s) (length l)) (is_quiet x c) (plan_of x c) refl refl refl e
  where
    go : (i j : Bool) (k : Option Plan) → accepts_of x (length s) (length l) ≡ i → is_quiet x c ≡ j → plan_of x c ≡ k
        → is_entry (pick i (pick j (ended (quiet_of x c) s l) (enter_by x k s l)) (ended no_patch s l)).patch.way ≡ true → Went x c s l
    go false j k f g h z = false_true _ z
    go true true k f g h z = false_true _ (sym (quiet_fast x c) ∙ z)
    go true false None f g h z = false_true _ z
    go true false (Some p) f g h z = record { accepts = f; loud = g; plan = p; planned = h; same = rw (f, g, h); made = z }

-- ---- the plan of an entry

pub record Planned (x : View) (r : EntryRow) (p : Plan) : Type 0 where
  pub vector : r.vector ≤ 255
  pub running : halts x r ≡ false
  pub same : p ≡ entry_plan x r

planned : (x : View) (r : EntryRow) (p : Plan) → entry_of x r ≡ Some p → Planned x r p
unfolding entry_of
planned x r p e =
    let t1 = found_step (ltb 255 r.vector) _ p e in
    let t2 = found_step (halts x r) _ p t1.1 in
    record { vector = ltb-false 255 r.vector t1.0; running = t2.0; same = sym (same_Some _ _ t2.1) }

-- the plan of a call by a row of the table
pub plan_entry : (x : View) (c : RawCall) → eqb c.number 22 ≡ false → eqb c.number 10 ≡ false → plan_of x c ≡ entry_by x (row_of c)
unfolding plan_of
plan_entry x c e f = rw (e, f)

-- ---- the plain call where nothing refuses it

module _ (m : Core) (c : RawCall) (s l : List ℕ) (a : Accepted m (length s) (length l)) where
  pub raw_run : (call : Call) → decode c ≡ Some call → (matter_of call).floating ≡ false → (matter_of call).vector ≤ 255 → bad_cycles (matter_of call).interrupt m.cpu ≡ false
      → raw_call (world m s l) c ≡ of_performed (run (closed m.bus m.cpu 0 s l) call)
  unfolding refusal
  raw_run call d f v i = raw_known m s l c call d (not_refused m (length s) (length l) a (matter_of call) f v i)

-- a number is k or it is not
pub split : (n k : ℕ) (R : Type 0) → (n ≡ k → R) → (eqb n k ≡ false → R) → R
split n k R f g = go (eqb n k) refl
  where
    go : (b : Bool) → eqb n k ≡ b → R
    go true e = f (eqb-true n k e)
    go false e = g e

-- an entry by a row of the table
pub record Rowed (x : View) (c : RawCall) (s l : List ℕ) (r : EntryRow) : Type 0 where
  pub vector : r.vector ≤ 255
  pub running : halts x r ≡ false
  pub same : go_of x c s l ≡ enter_of x (entry_plan x r) s l
  pub made : is_entry (enter_of x (entry_plan x r) s l).patch.way ≡ true

pub rowed : (x : View) (c : RawCall) (s l : List ℕ) (r : EntryRow) → Went x c s l → eqb c.number 22 ≡ false → eqb c.number 10 ≡ false → row_of c ≡ Some r → Rowed x c s l r
rowed x c s l r g e d f =
    let z : plan_of x c ≡ entry_of x r = plan_entry x c e d ∙ ap (λ (i : Option EntryRow). entry_by x i) f in
    let p : Planned x r g.plan = planned x r g.plan (sym z ∙ g.planned) in
    record { vector = p.vector; running = p.running; same = g.same ∙ ap (λ (i : Plan). enter_of x i s l) p.same; made = ap (λ (i : Plan). is_entry (enter_of x i s l).patch.way) (sym p.same) ∙ g.made }

-- the call of a number: what it is given, and no interrupt
pub record Given (c : RawCall) (call : Call) (n : ℕ) : Type 0 where
  pub known : decode c ≡ Some call
  pub floating : (matter_of call).floating ≡ false
  pub vector : n ≤ 255 → (matter_of call).vector ≤ 255
  pub interrupt : (matter_of call).interrupt ≡ false

-- ---- calls that make no access

-- what a patch of no entry must say
pub record Quietly (m : Core) (c : RawCall) (s l : List ℕ) (q : Patch) : Type 0 where
  pub calm : is_calm q.way ≡ true → outcome (world (calm_of m q) s l) 0 q.answer q.events ≡ raw_call (world m s l) c
  pub idle : is_idle q.way ≡ true → outcome (world m s l) 0 q.answer q.events ≡ raw_call (world m s l) c

-- the tests of a call that makes no access
pub record Silent (x : View) (c : RawCall) (s l : List ℕ) : Type 0 where
  pub accepts : accepts_of x (length s) (length l) ≡ true
  pub silent : is_quiet x c ≡ true
  pub same : go_of x c s l ≡ ended (quiet_of x c) s l

-- f is a mark that neither an entry nor a call that is not taken has
module _ (f : Patch → Bool) (none : f no_patch ≡ false) (entered : (x : View) (p : Plan) (r : Spot) (j : Landing) (e : ℕ) → f (patch_by x p r j e) ≡ false) where
  land_unmarked : (x : View) (p : Plan) (r : Spot) (j : Option Landing) (s l : List ℕ) → f (land_of x p r j (tape s l)).patch ≡ false
  unfolding land_of written_of
  land_unmarked x p r None s l = none
  land_unmarked x p r (Some j) s l = entered x p _ _ _

  place_unmarked : (x : View) (p : Plan) (r : Option Spot) (s l : List ℕ) → f (place_of x p r (tape s l)).patch ≡ false
  unfolding place_of
  place_unmarked x p None s l = none
  place_unmarked x p (Some r) s l = land_unmarked x p r (landing_of x s p.vector r.place p.bytes) s l

  enter_unmarked : (x : View) (p : Option Plan) (s l : List ℕ) → f (enter_by x p s l).patch ≡ false
  unfolding enter_by enter_of
  enter_unmarked x None s l = none
  enter_unmarked x (Some p) s l = place_unmarked x p (spot_of x (length s) p.bytes) s l

  pub silent_by : (x : View) (c : RawCall) (s l : List ℕ) → f (go_of x c s l).patch ≡ true → Silent x c s l
  unfolding go_of
  silent_by x c s l e = go (accepts_of x (length s) (length l)) (is_quiet x c) refl refl e
    where
      go : (i j : Bool) → accepts_of x (length s) (length l) ≡ i → is_quiet x c ≡ j
          → f (pick i (pick j (ended (quiet_of x c) s l) (enter_by x (plan_of x c) s l)) (ended no_patch s l)).patch ≡ true → Silent x c s l
      go false j g h z = false_true _ (sym none ∙ z)
      go true true g h z = record { accepts = g; silent = h; same = rw (g, h) }
      go true false g h z = false_true _ (sym (enter_unmarked x (plan_of x c) s l) ∙ z)

pub quietly_as : (m : Core) (c : RawCall) (s l : List ℕ) (q r : Patch) → q ≡ r → Quietly m c s l r → Quietly m c s l q
quietly_as m c s l q r e h = rw e h

pub none_calm : is_calm no_patch.way ≡ false
unfolding no_patch
none_calm = refl

pub none_idle : is_idle no_patch.way ≡ false
unfolding no_patch
none_idle = refl

pub entry_calm : (x : View) (p : Plan) (r : Spot) (j : Landing) (e : ℕ) → is_calm (patch_by x p r j e).way ≡ false
unfolding patch_by
entry_calm x p r j e = refl

pub entry_idle : (x : View) (p : Plan) (r : Spot) (j : Landing) (e : ℕ) → is_idle (patch_by x p r j e).way ≡ false
unfolding patch_by
entry_idle x p r j e = refl
