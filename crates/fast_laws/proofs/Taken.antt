-- Theorems about what specs/Taken defines, and what rests on them.
use Prim.Native.Nat.{ℕ, ◌-◌, ◌<◌}
use Rattle.std.specs.Prelude.{◌≡◌, Bool, eqb, length}
use Rattle.std.proofs.Math.Path.{refl}
use Rattle.std.proofs.Common.{ap, ◌∙◌, lit<}
use Rattle.std.proofs.Math.Bool.{true, false}
use mathlib.Core.List.{List}
use native.Mathlib.Omega.{arith}
use Rattle.types.specs.Kinds.{pick}
use Rattle.types.specs.Tables.{exception_cycles}
use Rattle.cpu.specs.Fields.{kind_of, pc_of, ppc_of, in_exception, set_wdata, set_a7}
use Rattle.cpu.specs.Clocks.{clocks_of, set_clocks, prefetch_enabled}
use Rattle.status.specs.Status.{get_sr}
use Rattle.status.specs.Banks.{enter_supervisor}
use Rattle.memory.specs.declared.Core.{Core}
use Rattle.memory.specs.World.{world}
use Rattle.steps.specs.Steps.{stacked_address}
use Rattle.formats.specs.Formats.{offset_word}
use Rattle.exceptions.specs.Exceptions.{Entry, entry, take_exception, take_rewound}
use Rattle.answers.specs.Answers.{of_entry}
use Rattle.numbers.specs.declared.RawCall.{RawCall}
use Rattle.boundary.specs.Calls.{of_performed, raw_call}
use Rattle.unfaulted.specs.Closed.{closed, Piece, last_value, Entering, jumped, arrived, clocks_after, short_bytes, short_of}
use Rattle.unfaulted.proofs.Entries.{take_closed, rewound_closed}
use Rattle.fast_plans.specs.declared.View.{View}
use Rattle.fast.specs.declared.landings.Landing.{Landing}
use Rattle.fast_plans.specs.declared.plans.Plan.{Plan}
use Rattle.fast_plans.specs.Views.{view_of}
use Rattle.fast_plans.specs.Places.{fetches_of, top_of}
use Rattle.fast_plans.specs.Plans.{row, address_of, entry_plan}
use Rattle.fast.specs.Stacks.{tape, waiting_of, lay_count, jump_count}
use Rattle.fast.specs.Patches.{patch_by, enter_of, go_of}
use Rattle.fast_laws.specs.Patched.{patch_cpu, Words, Fetched}
use Rattle.fast_laws.specs.Accepts.{Accepted}
use Rattle.fast_laws.specs.Supervised.{Plain}
use Rattle.fast_laws.proofs.Supervised.{plain_patched}
use Rattle.fast_laws.specs.Ways.{fetched_in, spot_for, landing_for, Entered, entered_by_lem, Says, said, clear_of_lem, entering_of, fitting_of}
use Rattle.fast_laws.specs.Taken.{take_bytes, take_framed, take_last}
use Rattle.fast_plans.specs.Quiet.{is_entry}
use Rattle.fast_plans.specs.declared.plans.Maker.TheVariants.{Exception}

-- ---- `take_exception`

module _ (m : Core) (s l : List ℕ) (w : Words m) (a : Accepted m (length s) (length l)) where
  abbrev way1 : ℕ → Bool → Plan
  way1 v b = entry_plan (view_of m) (row Exception v b)

  take_plain : (v : ℕ) (b : Bool) (e : ℕ) → Plain m.cpu (patch_by (view_of m) (way1 v b) (spot_for (view_of m) (way1 v b)) (landing_for (view_of m) (way1 v b) s) e)
  unfolding patch_by entry_plan view_of
  take_plain v b e = record { stopped = refl; mask = refl; level = refl; cycles = refl; fpiar = refl }

  take_cpu : (v : ℕ) (b : Bool) → v < 256 → (g : Entered (view_of m) (way1 v b) s l)
      → (let x : View = view_of m in let p : Plan = way1 v b in let j : Landing = landing_for x p s in
      jumped (prefetch_enabled m.cpu) (set_wdata (set_a7 (set_clocks (enter_supervisor m.cpu) 0) (top_of x - p.bytes)) (last_value (short_of (kind_of m.cpu) (get_sr m.cpu) (address_of x (row Exception v b)) (offset_word v)))) v j.pc j.first j.second
      ≡ patch_cpu m.cpu (patch_by x p (spot_for x p) j (jump_count (lay_count x p) (fetches_of x))))
  unfolding fetches_of view_of prefetch_enabled patch_by entry_plan
  take_cpu v b h g =
      let x : View = view_of m in
      let p : Plan = way1 v b in
      let e : ℕ = jump_count (lay_count x p) (fetches_of x) in
      rw (take_last m (tape s l) v b w h)
      (plain_patched m.cpu (patch_by x p (spot_for x p) (landing_for x p s) e) (clear_of_lem m s l w a) (fitting_of m s l w a p e g) (take_plain v b e))

  some_bytes : (k : ℕ) → 0 < short_bytes k
  unfolding short_bytes
  some_bytes k = go (eqb k 1)
    where
      go : (i : Bool) → 0 < pick i 6 8
      go true = omega arith
      go false = omega arith

  -- the address that is stacked by a plain take
  take_address : (v : ℕ) → address_of (view_of m) (row Exception v false) ≡ stacked_address m.cpu v
  unfolding address_of stacked_address view_of pc_of ppc_of
  take_address v = refl

  rewound_address : (v : ℕ) → address_of (view_of m) (row Exception v true) ≡ ppc_of m.cpu
  unfolding address_of view_of ppc_of
  rewound_address v = refl

  short_entering : (v : ℕ) (b : Bool) → v < 256 → Entered (view_of m) (way1 v b) s l
      → (let x : View = view_of m in let p : Plan = way1 v b in let j : Landing = landing_for x p s in Entering m.bus (enter_supervisor m.cpu) s (short_bytes (kind_of m.cpu)) v (top_of x - p.bytes) j.from j.pc j.pc j.first j.second)
  unfolding entry_plan
  short_entering v b h g = entering_of m s l w a (way1 v b) (short_bytes (kind_of m.cpu)) v (take_bytes m (tape s l) v b w h) refl h (some_bytes (kind_of m.cpu)) g

  short_same : (c : RawCall) (v : ℕ) (b : Bool) → v < 256 → go_of (view_of m) c s l ≡ enter_of (view_of m) (way1 v b) s l → Entered (view_of m) (way1 v b) s l
      → (let x : View = view_of m in let p : Plan = way1 v b in let j : Landing = landing_for x p s in
      raw_call (world m s l) c ≡ of_performed (of_entry (entry (arrived m.bus (enter_supervisor m.cpu) (clocks_after m.cpu 4) 0 s l (top_of x - p.bytes) (short_of (kind_of m.cpu) (get_sr m.cpu) (address_of x (row Exception v b)) (offset_word v)) (prefetch_enabled m.cpu) v j.from j.pc j.pc j.first j.second) (exception_cycles v))))
      → Says m c s l (go_of (view_of m) c s l)
  unfolding arrived entry_plan view_of waiting_of clocks_after fetches_of prefetch_enabled clocks_of
  short_same c v b h e g r =
      let x : View = view_of m in
      let p : Plan = way1 v b in
      let j : Landing = landing_for x p s in
      let ps : List Piece = short_of (kind_of m.cpu) (get_sr m.cpu) (address_of x (row Exception v b)) (offset_word v) in
      said m c s l p (go_of x c s l) ps
      (jumped (prefetch_enabled m.cpu) (set_wdata (set_a7 (set_clocks (enter_supervisor m.cpu) 0) (top_of x - p.bytes)) (last_value ps)) v j.pc j.first j.second) (exception_cycles v)
      (e ∙ g.same) (take_framed m (tape s l) v b w h) (take_cpu v b h g) refl r

  pub taken_same : (c : RawCall) (v : ℕ) → Fetched (go_of (view_of m) c s l).patch → v < 256 → in_exception m.cpu ≡ false → go_of (view_of m) c s l ≡ enter_of (view_of m) (way1 v false) s l
      → is_entry (enter_of (view_of m) (way1 v false) s l).patch.way ≡ true → raw_call (world m s l) c ≡ of_performed (of_entry (take_exception (closed m.bus m.cpu 0 s l) v)) → Says m c s l (go_of (view_of m) c s l)
  taken_same c v bs h i e f r =
      let x : View = view_of m in
      let p : Plan = way1 v false in
      let j : Landing = landing_for x p s in
      let g : Entered x p s l = entered_by_lem x p s l (fetched_in (go_of x c s l) (enter_of x p s l) e bs) f in
      let t = take_closed m.bus m.cpu 0 s l v (top_of x - p.bytes) j.from j.pc j.pc j.first j.second i (short_entering v false h g) (lit< tt) in
      short_same c v false h e g (rw (take_address v) (r ∙ ap (λ (z : Entry). of_performed (of_entry z)) t))

  pub rewound_same : (c : RawCall) (v : ℕ) → Fetched (go_of (view_of m) c s l).patch → v < 256 → in_exception m.cpu ≡ false → go_of (view_of m) c s l ≡ enter_of (view_of m) (way1 v true) s l
      → is_entry (enter_of (view_of m) (way1 v true) s l).patch.way ≡ true → raw_call (world m s l) c ≡ of_performed (of_entry (take_rewound (closed m.bus m.cpu 0 s l) v)) → Says m c s l (go_of (view_of m) c s l)
  rewound_same c v bs h i e f r =
      let x : View = view_of m in
      let p : Plan = way1 v true in
      let j : Landing = landing_for x p s in
      let g : Entered x p s l = entered_by_lem x p s l (fetched_in (go_of x c s l) (enter_of x p s l) e bs) f in
      let t = rewound_closed m.bus m.cpu 0 s l v (top_of x - p.bytes) j.from j.pc j.pc j.first j.second i (short_entering v true h g) (lit< tt) in
      short_same c v true h e g (rw (rewound_address v) (r ∙ ap (λ (z : Entry). of_performed (of_entry z)) t))
