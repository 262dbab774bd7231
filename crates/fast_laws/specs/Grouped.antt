-- Group 2 exceptions and the trace: each says what the fast way says.
use Prim.Native.Nat.{ℕ, ◌+◌, ◌-◌, ◌*◌, ◌/◌, ◌^◌, ◌<◌}
use Rattle.std.specs.Prelude.{◌≡◌, Bool, not, length}
use Rattle.std.proofs.Math.Path.{refl, sym}
use Rattle.std.proofs.Common.{ap, ◌∙◌, arith}
use Rattle.std.proofs.Math.Bool.{true, false}
use mathlib.Core.List.{List}
use Rattle.std.proofs.Math.Dec.{eqb}
use Rattle.types.specs.Kinds.{pick, is_pre68020}
use Rattle.types.specs.Tables.{exception_cycles}
use Rattle.cpu.specs.declared.Cpu.{Cpu}
use Rattle.cpu.specs.Fields.{kind_of, pc_of, ppc_of, set_wdata, set_a7}
use Rattle.cpu.specs.Clocks.{set_clocks, prefetch_enabled}
use Rattle.status.specs.Status.{get_sr}
use Rattle.status.specs.Banks.{enter_supervisor}
use Rattle.memory.specs.declared.Core.{Core}
use Rattle.memory.specs.World.{world}
use Rattle.formats.specs.Formats.{format_word, offset_word}
use Rattle.exceptions.specs.Exceptions.{entry}
use Rattle.answers.specs.Answers.{of_entry}
use Rattle.numbers.specs.declared.RawCall.{RawCall}
use Rattle.boundary.specs.Calls.{of_performed, raw_call}
use Rattle.unfaulted.specs.Closed.{Piece, last_value, short_pieces, long_pieces, three_pieces, Entering, jumped, arrived, short_bytes, short_of, group2_bytes, group2_of}
use Rattle.fast_plans.specs.declared.View.{View}
use Rattle.fast_plans.specs.declared.Patch.{Patch}
use Rattle.fast_plans.specs.declared.places.Spot.{Spot}
use Rattle.fast.specs.declared.landings.Landing.{Landing}
use Rattle.fast_plans.specs.declared.plans.Plan.{Plan}
use Rattle.fast_plans.specs.declared.plans.Shape.TheVariants.{Three, Short, Long}
use Rattle.fast_plans.specs.Views.{view_of}
use Rattle.fast_plans.specs.Places.{fetches_of, top_of}
use Rattle.fast.specs.Stacks.{Tape, tape, waiting_of, lay_count, jump_count}
use Rattle.fast.specs.Patches.{patch_by, enter_of, go_of}
use Rattle.fast_plans.specs.Laws.{compose_fits}
use Rattle.fast_laws.specs.Patched.{patch_cpu, Words}
use Rattle.fast_laws.specs.Accepts.{false_true, Accepted}
use Rattle.fast_laws.specs.Tapes.{Framed, framed_short, framed_three, framed_long}
use Rattle.fast_laws.specs.Ways.{spot_for, landing_for, Entered, Says, said, entering_of}
use Rattle.fast_plans.specs.Plans.{shape_number}

-- what the plan of a group 2 exception by vector v says
pub record Group (m : Core) (p : Plan) (v : ℕ) : Type 0 where
  pub shape : p.shape ≡ pick (eqb (kind_of m.cpu) 1) Three (pick (not (is_pre68020 (kind_of m.cpu))) Long Short)
  pub bytes : p.bytes ≡ pick (eqb (kind_of m.cpu) 1) 6 (pick (not (is_pre68020 (kind_of m.cpu))) 12 8)
  pub sr : p.sr ≡ get_sr m.cpu
  pub pc : p.pc ≡ pc_of m.cpu
  pub extra : p.extra ≡ ppc_of m.cpu
  pub format : p.format ≡ pick (not (is_pre68020 (kind_of m.cpu))) 0x2000 0 + v * 4
  pub vector : p.vector ≡ v
  pub answer : p.answer ≡ exception_cycles v
  pub last : p.last ≡ pick (eqb (kind_of m.cpu) 1) (pc_of m.cpu / 0x10000) (get_sr m.cpu)

first_old : (k : ℕ) → eqb k 1 ≡ true → is_pre68020 k ≡ true
unfolding is_pre68020
first_old k e = rw e

offset_plain : (v : ℕ) → v < 256 → 0 + v * 4 ≡ offset_word v
unfolding offset_word
offset_plain v h = omega arith

format_plain : (v : ℕ) → v < 256 → 0x2000 + v * 4 ≡ format_word 2 v
unfolding format_word
format_plain v h = omega arith

status_fits : (c : Cpu) → get_sr c < 0x10000
unfolding get_sr
status_fits c = compose_fits c.flags

offset_small : (v : ℕ) → v < 256 → offset_word v < 0x10000
unfolding offset_word
offset_small v h = omega arith

format_small : (v : ℕ) → v < 256 → format_word 2 v < 0x10000
unfolding format_word
format_small v h = omega arith

framed_as : (x : View) (s : Spot) (p : Plan) (t : Tape) (ps qs : List Piece) → ps ≡ qs → Framed x s p t ps → Framed x s p t qs
framed_as x s p t ps qs e h = rw e at h

pc_small : (c : Cpu) → c.flow.pc < 2 ^ 32 → pc_of c < 2 ^ 32
unfolding pc_of
pc_small c z = z

module _ (m : Core) (p : Plan) (v : ℕ) (h : v < 256) (g : Group m p v) where
  group_bytes : p.bytes ≡ group2_bytes (kind_of m.cpu)
  unfolding group2_bytes short_bytes
  group_bytes = g.bytes ∙ go (eqb (kind_of m.cpu) 1) (is_pre68020 (kind_of m.cpu)) refl refl
    where
      go : (i j : Bool) → eqb (kind_of m.cpu) 1 ≡ i → is_pre68020 (kind_of m.cpu) ≡ j → pick {A = ℕ} i 6 (pick (not j) 12 8) ≡ pick j (pick i 6 8) 12
      go true true e f = refl
      go true false e f = false_true _ (sym f ∙ first_old (kind_of m.cpu) e)
      go false true e f = refl
      go false false e f = refl

  group_last : last_value (group2_of (kind_of m.cpu) (get_sr m.cpu) (pc_of m.cpu) (ppc_of m.cpu) v) ≡ p.last
  unfolding group2_of short_of last_value three_pieces short_pieces long_pieces
  group_last = go (eqb (kind_of m.cpu) 1) (is_pre68020 (kind_of m.cpu)) refl refl ∙ sym g.last
    where
      go : (i j : Bool) → eqb (kind_of m.cpu) 1 ≡ i → is_pre68020 (kind_of m.cpu) ≡ j
          → last_value (pick j (pick i (three_pieces (get_sr m.cpu) (pc_of m.cpu)) (short_pieces (get_sr m.cpu) (pc_of m.cpu) (offset_word v))) (long_pieces (get_sr m.cpu) (pc_of m.cpu) (format_word 2 v) (ppc_of m.cpu)))
          ≡ pick i (pc_of m.cpu / 0x10000) (get_sr m.cpu)
      go true true e f = refl
      go true false e f = false_true _ (sym f ∙ first_old (kind_of m.cpu) e)
      go false true e f = refl
      go false false e f = refl

  group_framed : (s : Spot) (t : Tape) → Words m → Framed (view_of m) s p t (group2_of (kind_of m.cpu) (get_sr m.cpu) (pc_of m.cpu) (ppc_of m.cpu) v)
  unfolding group2_of short_of
  group_framed s t w = go (eqb (kind_of m.cpu) 1) (is_pre68020 (kind_of m.cpu)) refl refl
    where
      sr : ℕ
      sr = get_sr m.cpu

      pc : ℕ
      pc = pc_of m.cpu

      fits : p.sr < 0x10000
      fits = rw g.sr (status_fits m.cpu)

      small : p.pc < 2 ^ 32
      small = rw g.pc (pc_small m.cpu w.pc)

      go : (i j : Bool) → eqb (kind_of m.cpu) 1 ≡ i → is_pre68020 (kind_of m.cpu) ≡ j
          → Framed (view_of m) s p t (pick j (pick i (three_pieces sr pc) (short_pieces sr pc (offset_word v))) (long_pieces sr pc (format_word 2 v) (ppc_of m.cpu)))
      go true true e f = framed_as (view_of m) s p t _ _ (rw (g.sr, g.pc)) (framed_three (view_of m) s p t (ap shape_number (let z : p.shape ≡ Three = g.shape ∙ rw e in z)) fits small)
      go true false e f = false_true _ (sym f ∙ first_old (kind_of m.cpu) e)
      go false true e f =
          let o : p.format ≡ offset_word v = g.format ∙ rw f (offset_plain v h) in
          framed_as (view_of m) s p t _ _ (rw (g.sr, g.pc, o)) (framed_short (view_of m) s p t (ap shape_number (let z : p.shape ≡ Short = g.shape ∙ rw (e, f) in z)) fits (rw o (offset_small v h)))
      go false false e f =
          let o : p.format ≡ format_word 2 v = g.format ∙ rw f (format_plain v h) in
          framed_as (view_of m) s p t _ _ (rw (g.sr, g.pc, o, g.extra)) (framed_long (view_of m) s p t (ap shape_number (let z : p.shape ≡ Long = g.shape ∙ rw (e, f) in z)) fits (rw o (format_small v h)))

some_bytes : (k : ℕ) → 0 < group2_bytes k
unfolding group2_bytes short_bytes
some_bytes k = go (eqb k 1) (is_pre68020 k)
  where
    go : (i j : Bool) → 0 < pick j (pick i 6 8) 12
    go true true = omega arith
    go false true = omega arith
    go i false = omega arith

module _ (m : Core) (s l : List ℕ) (w : Words m) (a : Accepted m (length s) (length l)) (c : RawCall) (p : Plan) (v : ℕ) (h : v < 256) (y : Group m p v) (e : go_of (view_of m) c s l ≡ enter_of (view_of m) p s l) (g : Entered (view_of m) p s l) where
  pub group_entering : (let x : View = view_of m in let j : Landing = landing_for x p s in Entering m.bus (enter_supervisor m.cpu) s (group2_bytes (kind_of m.cpu)) v (top_of x - p.bytes) j.from j.pc j.pc j.first j.second)
  group_entering = entering_of m s l w a p (group2_bytes (kind_of m.cpu)) v (group_bytes m p v h y) y.vector h (some_bytes (kind_of m.cpu)) g

  -- d is the record before supervisor state, k the clocks that are told
  pub group_same : (d : Cpu) (k : ℕ) → waiting_of (view_of m) p.clocks ≡ k
      → (let x : View = view_of m in let j : Landing = landing_for x p s in let q : Patch = patch_by x p (spot_for x p) j (jump_count (lay_count x p) (fetches_of x)) in
      jumped q.fetches (set_wdata (set_a7 (set_clocks (enter_supervisor d) 0) q.a7) q.last) q.vector q.pc q.first q.second ≡ patch_cpu m.cpu q)
      → (let x : View = view_of m in let j : Landing = landing_for x p s in
      raw_call (world m s l) c ≡ of_performed (of_entry (entry (arrived m.bus (enter_supervisor d) k 0 s l (top_of x - p.bytes) (group2_of (kind_of m.cpu) (get_sr m.cpu) (pc_of m.cpu) (ppc_of m.cpu) v) (prefetch_enabled m.cpu) v j.from j.pc j.pc j.first j.second) (exception_cycles v))))
      → Says m c s l (go_of (view_of m) c s l)
  unfolding arrived view_of fetches_of prefetch_enabled patch_by
  group_same d k z u r =
      let x : View = view_of m in
      let j : Landing = landing_for x p s in
      let ps : List Piece = group2_of (kind_of m.cpu) (get_sr m.cpu) (pc_of m.cpu) (ppc_of m.cpu) v in
      said m c s l p (go_of x c s l) ps
      (jumped (prefetch_enabled m.cpu) (set_wdata (set_a7 (set_clocks (enter_supervisor d) 0) (top_of x - p.bytes)) (last_value ps)) v j.pc j.first j.second) (exception_cycles v)
      (e ∙ g.same) (group_framed m p v h y (spot_for x p) (tape s l) w) (rw (group_last m p v h y, ← y.vector) u) y.answer (rw z r)
