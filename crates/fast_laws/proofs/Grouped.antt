-- Theorems about what specs/Grouped defines, and what rests on them.
use Prim.Native.Nat.{ℕ, ◌-◌, ◌<◌}
use Rattle.std.specs.Prelude.{◌≡◌, length}
use Rattle.std.proofs.Math.Path.{refl}
use Rattle.std.proofs.Common.{ap, ◌∙◌, lit<}
use Rattle.std.proofs.Math.Bool.{true, false}
use mathlib.Core.List.{List}
use Rattle.cpu.specs.Fields.{kind_of, pc_of, ppc_of, leave_stop}
use Rattle.cpu.specs.Clocks.{clocks_of, prefetch_enabled}
use Rattle.status.specs.Status.{get_sr}
use Rattle.memory.specs.declared.Core.{Core}
use Rattle.memory.specs.World.{world}
use Rattle.exceptions.specs.Exceptions.{Entry, take_group2, exception_trace}
use Rattle.answers.specs.Answers.{of_entry}
use Rattle.numbers.specs.declared.RawCall.{RawCall}
use Rattle.boundary.specs.Calls.{of_performed, raw_call}
use Rattle.unfaulted.specs.Closed.{closed, clocks_after}
use Rattle.unfaulted.proofs.Entries.{group2_closed, trace_closed}
use Rattle.fast_plans.specs.declared.View.{View}
use Rattle.fast_plans.specs.declared.Patch.{Patch}
use Rattle.fast.specs.declared.landings.Landing.{Landing}
use Rattle.fast_plans.specs.declared.plans.Plan.{Plan}
use Rattle.fast_plans.specs.Views.{view_of}
use Rattle.fast_plans.specs.Places.{fetches_of, top_of}
use Rattle.fast_plans.specs.Plans.{row, is_long, address_of, entry_plan}
use Rattle.fast.specs.Stacks.{waiting_of, lay_count, jump_count}
use Rattle.fast.specs.Patches.{patch_by, enter_of, go_of}
use Rattle.fast_laws.specs.Patched.{Words, Fetched}
use Rattle.fast_laws.specs.Accepts.{Accepted}
use Rattle.fast_laws.specs.Supervised.{Plain, stop_clear, stop_fitting, stop_patched}
use Rattle.fast_laws.proofs.Supervised.{plain_patched}
use Rattle.fast_laws.specs.Ways.{waiting_none, fetched_in, spot_for, landing_for, Entered, entered_by_lem, Says, clear_of_lem, fitting_of}
use Rattle.fast_laws.specs.Grouped.{Group, group_entering, group_same}
use Rattle.fast_plans.specs.Quiet.{is_entry}
use Rattle.fast_plans.specs.declared.plans.Maker.TheVariants.{Group2, Trace}

-- ---- group 2

module _ (m : Core) (s l : List ℕ) (w : Words m) (a : Accepted m (length s) (length l)) (c : RawCall) (bs : Fetched (go_of (view_of m) c s l).patch) where
  abbrev way2 : ℕ → Plan
  way2 v = entry_plan (view_of m) (row Group2 v false)

  group2_plan_lem : (v : ℕ) → Group m (way2 v) v
  unfolding entry_plan is_long address_of view_of kind_of get_sr pc_of ppc_of
  group2_plan_lem v = record { shape = refl; bytes = refl; sr = refl; pc = refl; extra = refl; format = refl; vector = refl; answer = refl; last = refl }

  group2_plain : (v e : ℕ) → Plain m.cpu (patch_by (view_of m) (way2 v) (spot_for (view_of m) (way2 v)) (landing_for (view_of m) (way2 v) s) e)
  unfolding patch_by entry_plan view_of
  group2_plain v e = record { stopped = refl; mask = refl; level = refl; cycles = refl; fpiar = refl }

  group2_clocks : (v : ℕ) → waiting_of (view_of m) (way2 v).clocks ≡ clocks_of m.cpu
  unfolding entry_plan
  group2_clocks v = waiting_none m w

  pub group2_same : (v : ℕ) → v < 256 → go_of (view_of m) c s l ≡ enter_of (view_of m) (way2 v) s l → is_entry (enter_of (view_of m) (way2 v) s l).patch.way ≡ true
      → raw_call (world m s l) c ≡ of_performed (of_entry (take_group2 (closed m.bus m.cpu 0 s l) v)) → Says m c s l (go_of (view_of m) c s l)
  group2_same v h e f r =
      let x : View = view_of m in
      let p : Plan = way2 v in
      let j : Landing = landing_for x p s in
      let i : ℕ = jump_count (lay_count x p) (fetches_of x) in
      let g : Entered x p s l = entered_by_lem x p s l (fetched_in (go_of x c s l) (enter_of x p s l) e bs) f in
      let t = group2_closed m.bus m.cpu 0 s l v (top_of x - p.bytes) j.from j.pc j.pc j.first j.second (group_entering m s l w a c p v h (group2_plan_lem v) e g) (lit< tt) in
      group_same m s l w a c p v h (group2_plan_lem v) e g m.cpu (clocks_of m.cpu) (group2_clocks v)
      (plain_patched m.cpu (patch_by x p (spot_for x p) j i) (clear_of_lem m s l w a) (fitting_of m s l w a p i g) (group2_plain v i))
      (r ∙ ap (λ (z : Entry). of_performed (of_entry z)) t)

  -- ---- the trace

  abbrev way3 : Plan
  way3 = entry_plan (view_of m) (row Trace 9 false)

  trace_plan_lem : Group m way3 9
  unfolding entry_plan is_long address_of view_of kind_of get_sr pc_of ppc_of
  trace_plan_lem = record { shape = refl; bytes = refl; sr = refl; pc = refl; extra = refl; format = refl; vector = refl; answer = refl; last = refl }

  trace_plain : (e : ℕ) → Plain (leave_stop m.cpu) (patch_by (view_of m) way3 (spot_for (view_of m) way3) (landing_for (view_of m) way3 s) e)
  unfolding patch_by entry_plan view_of leave_stop
  trace_plain e = record { stopped = refl; mask = refl; level = refl; cycles = refl; fpiar = refl }

  trace_clocks : waiting_of (view_of m) way3.clocks ≡ clocks_after m.cpu 4
  unfolding entry_plan waiting_of clocks_after fetches_of view_of prefetch_enabled clocks_of
  trace_clocks = refl

  pub trace_same : go_of (view_of m) c s l ≡ enter_of (view_of m) way3 s l → is_entry (enter_of (view_of m) way3 s l).patch.way ≡ true
      → raw_call (world m s l) c ≡ of_performed (of_entry (exception_trace (closed m.bus m.cpu 0 s l))) → Says m c s l (go_of (view_of m) c s l)
  trace_same e f r =
      let x : View = view_of m in
      let p : Plan = way3 in
      let j : Landing = landing_for x p s in
      let i : ℕ = jump_count (lay_count x p) (fetches_of x) in
      let q : Patch = patch_by x p (spot_for x p) j i in
      let g : Entered x p s l = entered_by_lem x p s l (fetched_in (go_of x c s l) (enter_of x p s l) e bs) f in
      let t = trace_closed m.bus m.cpu 0 s l (top_of x - p.bytes) j.from j.pc j.pc j.first j.second (group_entering m s l w a c p 9 (lit< tt) trace_plan_lem e g) (lit< tt) in
      group_same m s l w a c p 9 (lit< tt) trace_plan_lem e g (leave_stop m.cpu) (clocks_after m.cpu 4) trace_clocks
      (plain_patched (leave_stop m.cpu) q (stop_clear m.cpu (clear_of_lem m s l w a)) (stop_fitting m.cpu q (fitting_of m s l w a p i g)) (trace_plain i) ∙ stop_patched m.cpu q)
      (r ∙ ap (λ (z : Entry). of_performed (of_entry z)) t)
