-- The 68060's entry for an instruction that its floating-point unit lacks: it says what the fast way says.
use Rattle.std.specs.Prelude.{ℕ, ◌-◌, ◌≡◌, true, List, length}
use Rattle.std.proofs.Math.Path.{refl}
use Rattle.std.proofs.Common.{ap, ◌∙◌, lit<}
use Rattle.types.specs.Vectors.{line1111}
use Rattle.types.specs.Tables.{exception_cycles}
use Rattle.cpu.specs.Fields.{pc_of, set_wdata, set_a7, note_fpiar}
use Rattle.cpu.specs.Clocks.{clocks_of, set_clocks, prefetch_enabled}
use Rattle.status.specs.Status.{get_sr}
use Rattle.status.specs.Banks.{enter_supervisor}
use Rattle.memory.specs.declared.Core.{Core}
use Rattle.memory.specs.World.{world}
use Rattle.formats.specs.Formats.{format_word}
use Rattle.exceptions.specs.Exceptions.{Entry, entry, take_fp_unimp060}
use Rattle.answers.specs.Answers.{of_entry}
use Rattle.numbers.specs.declared.RawCall.{RawCall}
use Rattle.boundary.specs.Calls.{of_performed, raw_call}
use Rattle.unfaulted.specs.Closed.{closed, Piece, last_value, short_pieces, long_pieces, jumped, arrived}
use Rattle.unfaulted.proofs.Entries.{unimp_closed}
use Rattle.fast_plans.specs.declared.View.{View}
use Rattle.fast_plans.specs.declared.Patch.{Patch}
use Rattle.fast_plans.specs.declared.places.Spot.{Spot}
use Rattle.fast.specs.declared.landings.Landing.{Landing}
use Rattle.fast_plans.specs.declared.plans.Plan.{Plan}
use Rattle.fast_plans.specs.Views.{view_of}
use Rattle.fast_plans.specs.Places.{fetches_of, top_of}
use Rattle.fast_plans.specs.Plans.{unimp_plan}
use Rattle.fast_plans.specs.Laws.{compose_fits}
use Rattle.fast.specs.Stacks.{Tape, tape, waiting_of, lay_count, jump_count}
use Rattle.fast.specs.Patches.{patch_by, enter_of, go_of}
use Rattle.fast_laws.specs.Patched.{patch_cpu, Words, Fetched}
use Rattle.fast_laws.specs.Accepts.{Accepted}
use Rattle.fast_laws.specs.Supervised.{Plain, note_clear, note_fitting, note_patched}
use Rattle.fast_laws.proofs.Supervised.{plain_patched}
use Rattle.fast_laws.specs.Tapes.{Framed, framed_long}
use Rattle.fast_laws.specs.Ways.{waiting_none, fetched_in, spot_for, landing_for, Entered, entered_by_lem, Says, said, clear_of_lem, entering_of, fitting_of}
use Rattle.fast_plans.specs.Quiet.{is_entry}

module _ (m : Core) (s l : List ℕ) (w : Words m) (a : Accepted m (length s) (length l)) (c : RawCall) (bs : Fetched (go_of (view_of m) c s l).patch) (ea : ℕ) where
  abbrev plan : Plan
  plan = unimp_plan (view_of m) ea

  abbrev pieces : List Piece
  pieces = long_pieces (get_sr m.cpu) (pc_of m.cpu) (format_word 2 line1111) ea

  plan_framed : (r : Spot) (t : Tape) → Framed (view_of m) r plan t pieces
  unfolding unimp_plan view_of get_sr pc_of format_word
  plan_framed r t = framed_long (view_of m) r plan t refl (compose_fits m.cpu.flags) (lit< tt)

  plan_last : last_value pieces ≡ plan.last
  unfolding last_value long_pieces short_pieces unimp_plan view_of get_sr
  plan_last = refl

  plan_plain : (e : ℕ) → Plain (note_fpiar m.cpu) (patch_by (view_of m) plan (spot_for (view_of m) plan) (landing_for (view_of m) plan s) e)
  unfolding patch_by unimp_plan view_of note_fpiar
  plan_plain e = record { stopped = refl; mask = refl; level = refl; cycles = refl; fpiar = refl }

  plan_noted : (e : ℕ) → (patch_by (view_of m) plan (spot_for (view_of m) plan) (landing_for (view_of m) plan s) e).noted ≡ true
  unfolding patch_by unimp_plan
  plan_noted e = refl

  plan_clocks : waiting_of (view_of m) plan.clocks ≡ clocks_of m.cpu
  unfolding unimp_plan
  plan_clocks = waiting_none m w

  plan_bytes : plan.bytes ≡ 12
  unfolding unimp_plan
  plan_bytes = refl

  plan_vector : plan.vector ≡ line1111
  unfolding unimp_plan
  plan_vector = refl

  plan_answer : plan.answer ≡ exception_cycles line1111
  unfolding unimp_plan exception_cycles
  plan_answer = refl

  unimp_said : (let x : View = view_of m in let j : Landing = landing_for x plan s in let q : Patch = patch_by x plan (spot_for x plan) j (jump_count (lay_count x plan) (fetches_of x)) in
      jumped q.fetches (set_wdata (set_a7 (set_clocks (enter_supervisor (note_fpiar m.cpu)) 0) q.a7) q.last) q.vector q.pc q.first q.second ≡ patch_cpu m.cpu q)
      → go_of (view_of m) c s l ≡ enter_of (view_of m) plan s l → Entered (view_of m) plan s l
      → (let x : View = view_of m in let j : Landing = landing_for x plan s in
      raw_call (world m s l) c ≡ of_performed (of_entry (entry (arrived m.bus (enter_supervisor (note_fpiar m.cpu)) (clocks_of m.cpu) 0 s l (top_of x - plan.bytes) pieces (prefetch_enabled m.cpu) line1111 j.from j.pc j.pc j.first j.second) (exception_cycles line1111))))
      → Says m c s l (go_of (view_of m) c s l)
  unfolding arrived view_of fetches_of prefetch_enabled patch_by
  unimp_said u e g r =
      let x : View = view_of m in
      let j : Landing = landing_for x plan s in
      said m c s l plan (go_of x c s l) pieces
      (jumped (prefetch_enabled m.cpu) (set_wdata (set_a7 (set_clocks (enter_supervisor (note_fpiar m.cpu)) 0) (top_of x - plan.bytes)) (last_value pieces)) line1111 j.pc j.first j.second) (exception_cycles line1111)
      (e ∙ g.same) (plan_framed (spot_for x plan) (tape s l)) (rw (plan_last, ← plan_vector) u) plan_answer (rw plan_clocks r)

  pub unimp_same : go_of (view_of m) c s l ≡ enter_of (view_of m) plan s l → is_entry (enter_of (view_of m) plan s l).patch.way ≡ true
      → raw_call (world m s l) c ≡ of_performed (of_entry (take_fp_unimp060 (closed m.bus m.cpu 0 s l) ea)) → Says m c s l (go_of (view_of m) c s l)
  unimp_same e f r =
      let x : View = view_of m in
      let j : Landing = landing_for x plan s in
      let i : ℕ = jump_count (lay_count x plan) (fetches_of x) in
      let q : Patch = patch_by x plan (spot_for x plan) j i in
      let g : Entered x plan s l = entered_by_lem x plan s l (fetched_in (go_of x c s l) (enter_of x plan s l) e bs) f in
      let t = unimp_closed m.bus m.cpu 0 s l ea (top_of x - plan.bytes) j.from j.pc j.pc j.first j.second (entering_of m s l w a plan 12 line1111 plan_bytes plan_vector (lit< tt) (lit< tt) g) (lit< tt) in
      unimp_said
      (plain_patched (note_fpiar m.cpu) q (note_clear m.cpu (clear_of_lem m s l w a)) (note_fitting m.cpu q (fitting_of m s l w a plan i g)) (plan_plain i) ∙ note_patched m.cpu q (plan_noted i))
      e g (r ∙ ap (λ (z : Entry). of_performed (of_entry z)) t)
