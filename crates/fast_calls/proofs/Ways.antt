-- The call by the fast way or the plain one, from what each step ensures.
use Prim.Native.Nat.{ℕ}
use mathlib.Core.Path.{◌≡◌, sym, ap, ◌∙◌}
use mathlib.Core.Bool.{true, false}
use mathlib.Core.List.{List}
use Rattle.memory.specs.declared.Core.{Core}
use Rattle.memory.specs.World.{world}
use Rattle.boundary.specs.declared.RawAnswer.{RawAnswer}
use Rattle.numbers.specs.declared.RawCall.{RawCall}
use Rattle.boundary.specs.Calls.{Outcome, outcome, raw_call}
use Rattle.fast_plans.specs.declared.View.{View}
use Rattle.fast_plans.specs.declared.Patch.{Patch}
use Rattle.fast_plans.specs.Views.{view_of}
use Rattle.fast_laws.specs.Patched.{patch_of, calm_of, Words, Fetched}
use Rattle.fast.specs.Patches.{Ended, ended, go_of}
use Rattle.fast_laws.specs.Matched.{kept}
use Rattle.fast_laws.proofs.Matched.{entry_same, calm_same, idle_same}
use Rattle.fast_plans.specs.Quiet.{is_entry, is_calm, is_idle}
use Rattle.fast_plans.specs.declared.Way.TheVariants.{Idle, Calm, Entry, Plain}

module _ (m : Core) (call : RawCall) (s l : List ℕ) {x : View} {q : Patch} {s1 l1 : List ℕ} (v : x ≡ view_of m) (g : ended q s1 l1 ≡ go_of x call s l) where
  went : ended q s1 l1 ≡ go_of (view_of m) call s l
  went = g ∙ ap (λ (y : View). go_of y call s l) v

  pub fast_way : {d : Core} (r : RawAnswer) → Words m → Fetched q → q.way ≡ Entry → d ≡ patch_of m q → r ≡ record { core = d; refused = 0; answer = q.answer; events = q.events } → outcome (world r.core s1 l1) r.refused r.answer r.events ≡ raw_call (world m s l) call
  fast_way r f w h e i =
      rw (i, e) (by (ended q s1 l1) went w (ap is_entry h))
    where
      by : (z : Ended) → z ≡ go_of (view_of m) call s l → Fetched z.patch → is_entry z.patch.way ≡ true → outcome (world (patch_of m z.patch) z.store z.log) 0 z.patch.answer z.patch.events ≡ raw_call (world m s l) call
      by z k w h = rw (← k) at (entry_same m call s l f (rw k at w) (rw k at h))

  pub calm_way : {d : Core} (r : RawAnswer) → q.way ≡ Calm → d ≡ calm_of m q → r ≡ record { core = d; refused = 0; answer = q.answer; events = q.events } → outcome (world r.core s1 l1) r.refused r.answer r.events ≡ raw_call (world m s l) call
  calm_way r h e i = rw (i, e) (by (ended q s1 l1) went (ap is_calm h))
    where
      by : (z : Ended) → z ≡ go_of (view_of m) call s l → is_calm z.patch.way ≡ true → outcome (world (calm_of m z.patch) z.store z.log) 0 z.patch.answer z.patch.events ≡ raw_call (world m s l) call
      by z k h = rw (← k) at (calm_same m call s l (rw k at h))

  pub idle_way : (r : RawAnswer) → q.way ≡ Idle → r ≡ record { core = m; refused = 0; answer = q.answer; events = q.events } → outcome (world r.core s1 l1) r.refused r.answer r.events ≡ raw_call (world m s l) call
  idle_way r h i = rw i (by (ended q s1 l1) went (ap is_idle h))
    where
      by : (z : Ended) → z ≡ go_of (view_of m) call s l → is_idle z.patch.way ≡ true → outcome (world m z.store z.log) 0 z.patch.answer z.patch.events ≡ raw_call (world m s l) call
      by z k h = rw (← k) at (idle_same m call s l (rw k at h))

  -- what was not taken was not touched
  pub plain_way : {o : Outcome} → q.way ≡ Plain → o ≡ raw_call (world m s1 l1) call → o ≡ raw_call (world m s l) call
  plain_way h e = e ∙ by (ended q s1 l1) went (ap is_entry h)
    where
      by : (z : Ended) → z ≡ go_of (view_of m) call s l → is_entry z.patch.way ≡ false → raw_call (world m z.store z.log) call ≡ raw_call (world m s l) call
      by z k h =
          let t : (z.store ≡ s) × (z.log ≡ l) = rw (← k) at (kept (view_of m) call s l (rw k at h)) in
          rw (t.0, t.1)
