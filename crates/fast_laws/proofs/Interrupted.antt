-- Theorems about what specs/Interrupted defines, and what rests on them.
use Prim.Native.Nat.{ℕ, ◌+◌, ◌-◌, ◌*◌, ◌/◌, ◌%◌, ◌^◌, ◌<◌}
use Rattle.std.specs.Prelude.{◌≡◌, true, false, eqb, ltb}
use Rattle.std.proofs.Math.Path.{refl, sym, ap}
use Rattle.std.proofs.Common.{◌∙◌, lit<}
use Rattle.std.proofs.Math.Bool.{Bool}
use mathlib.Core.List.{List}
use native.Mathlib.Omega.{arith}
use Rattle.std.proofs.Math.ListN.{length}
use Rattle.types.specs.Kinds.{pick}
use Rattle.cpu.specs.declared.Cpu.{Cpu}
use Rattle.cpu.specs.Fields.{kind_of, pc_of, set_wdata, set_a7}
use Rattle.cpu.specs.Clocks.{clocks_of, set_clocks, prefetch_enabled}
use Rattle.status.specs.Banks.{enter_supervisor}
use Rattle.memory.specs.declared.Bus.{Bus}
use Rattle.memory.specs.declared.Core.{Core}
use Rattle.memory.specs.LogLaws.{Event}
use Rattle.formats.specs.Formats.{offset_word}
use Rattle.numbers.specs.declared.RawCall.{RawCall}
use Rattle.boundary.specs.Calls.{outcome, of_performed, raw_call}
use Rattle.fast_plans.specs.declared.View.{View}
use Rattle.fast_plans.specs.declared.Patch.{Patch}
use Rattle.fast_plans.specs.declared.places.Spot.{Spot}
use Rattle.fast.specs.declared.landings.Landing.{Landing}
use Rattle.fast_plans.specs.declared.plans.Plan.{Plan}
use Rattle.fast_plans.specs.Views.{view_of}
use Rattle.fast_plans.specs.Places.{fetches_of, top_of}
use Rattle.fast.specs.Patches.{patch_by, Ended, written_of, enter_of, go_of}
use Rattle.fast_plans.specs.Laws.{compose_fits, vector_fits}
use Rattle.fast_laws.specs.Patched.{patch_cpu, Words, Fetched}
use Rattle.fast_laws.specs.Accepts.{Accepted}
use Rattle.status.specs.Status.{get_sr, m_is_set}
use Rattle.answers.specs.Answers.{flag, of_service, refused_by, value_of, count_of}
use Rattle.memory.specs.World.{Attempt, world, tried, response_of}
use Rattle.memory.specs.Log.{note_log}
use Rattle.pending.specs.Interrupts.{pending_level, takes_interrupt, clear_level}
use Rattle.steps.specs.Steps.{iack_vector, enter_level, close_interrupt}
use Rattle.interrupts.specs.Interrupts.{check_and_service}
use Rattle.unfaulted.specs.Closed.{closed, told, Piece, laid, last_value, writes_of, clock_events, jump_events, short_pieces, three_pieces, four_pieces, Entering, jumped, interrupted, entry_events, clocks_after, other_events, events68010, events68000}
use Rattle.unfaulted.proofs.Serviced.{interrupt_other, interrupt_68010, interrupt_68000}
use Rattle.unfaulted.specs.Written.{four_store, three_store, four_log, log68000_off, log68000_on, clocks_count_lem}
use Rattle.unfaulted.proofs.Written.{entry_log, entry_count, other_log, other_count, log68010, count68010, count68000}
use Rattle.fast_plans.specs.Plans.{response_to, vector_of, interrupt_plan, shape_number}
use Rattle.fast.specs.Stacks.{Tape, tape, word_at, event_at, short_at, three_at, four_at, old_at, old_from, sync_at, sync_count, waiting_of, clocks_count, clocks_at, lay_at, lay_count, jump_at, jump_count}
use Rattle.fast_laws.proofs.Supervised.{Interrupting, interrupt_patched}
use Rattle.fast_laws.specs.Tapes.{clocks_told, clocks_counted, jump_told, jump_counted, Laid, short_laid}
use Rattle.fast_laws.specs.Ways.{waiting_none, fetched_in, place_at, spot_for, landing_for, Entered, entered_by_lem, Says, same_world, clear_of_lem, entering_of, fitting_of}
use Rattle.fast_laws.specs.Interrupted.{Told}
use Rattle.fast_plans.specs.Quiet.{is_entry}

served_said : (b : Bus) (c : Cpu) (e : ℕ) (s l : List ℕ) → of_performed (of_service (tried (closed b c e s l) true)) ≡ outcome (closed b c e s l) 0 1 e
unfolding of_performed of_service flag closed refused_by value_of count_of
served_said b c e s l = refl

serviced : (m : Core) (c : RawCall) (s l : List ℕ) (p : Plan) (g : Ended) (ps : List Piece) (es : List Event) (d : Cpu)
    → g ≡ written_of (view_of m) p (spot_for (view_of m) p) (landing_for (view_of m) p s) (tape s l) → Told (view_of m) p s l ps es
    → d ≡ patch_cpu m.cpu (patch_by (view_of m) p (spot_for (view_of m) p) (landing_for (view_of m) p s) (jump_count (lay_count (view_of m) p) (fetches_of (view_of m))))
    → p.answer ≡ 1 → raw_call (world m s l) c ≡ of_performed (of_service (tried (closed m.bus d (0 + length es) (laid s (place_at (view_of m) p) ps) (told 0 l es)) true))
    → Says m c s l g
unfolding written_of patch_by
serviced m c s l p g ps es d z f k a r =
    let x : View = view_of m in
    let j : Landing = landing_for x p s in
    let q : Patch = patch_by x p (spot_for x p) j (jump_count (lay_count x p) (fetches_of x)) in
    let e : jump_count (lay_count x p) (fetches_of x) ≡ 0 + length es = f.count in
    let w = same_world m q d (0 + length es) (lay_at x (spot_for x p) p (tape s l)).store (laid s (place_at x p) ps) (jump_at (lay_count x p) j (fetches_of x) (lay_at x (spot_for x p) p (tape s l)).log) (told 0 l es) k e f.store f.log in
    rw z (rw (w, e, a) (sym (r ∙ served_said m.bus d (0 + length es) (laid s (place_at x p) ps) (told 0 l es))))

-- ---- the frames of kinds 1 and 2

module _ (s : Spot) (n : ℕ) (p : Plan) (t : Tape) (f : p.sr < 0x10000) (h : p.pc < 2 ^ 32) where
  four_put : p.format < 0x10000 → (four_at s n p t).store ≡ laid t.store s.place (four_pieces p.sr p.pc p.format)
  unfolding four_at three_at word_at event_at
  four_put g =
      let a : s.place + 0 ≡ s.place = omega arith in
      rw (four_store t.store s.place p.sr p.pc f p.format h g, a)

  four_told : (four_at s n p t).log ≡ told (n + 1) (note_log n t.log 6 p.level p.response) (writes_of s.a7 (four_pieces p.sr p.pc p.format))
  unfolding four_at three_at word_at event_at
  four_told =
      let b : s.a7 + 0 ≡ s.a7 = omega arith in
      let d : n + 1 + 3 ≡ n + 4 = omega arith in
      rw (four_log (n + 1) (note_log n t.log 6 p.level p.response) s.a7 p.sr p.pc p.format, b, d)

  old_put : (i : Bool) → (old_at s n p i t).store ≡ laid t.store s.place (three_pieces p.sr p.pc)
  unfolding old_at old_from word_at
  old_put i =
      let a : s.place + 0 ≡ s.place = omega arith in
      rw (three_store t.store s.place p.sr p.pc f h, a)

  old_off : (old_at s n p false t).log
      ≡ note_log (n + 3) (note_log (n + 2) (note_log (n + 1) (note_log n t.log 3 (s.a7 + 4) (p.pc % 0x10000)) 6 p.level p.response) 3 s.a7 p.sr) 3 (s.a7 + 2) (p.pc / 0x10000)
  unfolding old_at old_from word_at sync_at sync_count
  old_off =
      let b : s.a7 + 0 ≡ s.a7 = omega arith in
      let c : n + 1 + 1 ≡ n + 2 = omega arith in
      let d : n + 2 + 1 ≡ n + 3 = omega arith in
      rw (b, c, d)

  old_on : (old_at s n p true t).log
      ≡ note_log (n + 5) (note_log (n + 4) (note_log (n + 3) (note_log (n + 2) (note_log (n + 1) (note_log n t.log 3 (s.a7 + 4) (p.pc % 0x10000)) 5 0 4) 6 p.level p.response) 5 0 4) 3 s.a7 p.sr) 3 (s.a7 + 2) (p.pc / 0x10000)
  unfolding old_at old_from word_at sync_at sync_count
  old_on =
      let b : s.a7 + 0 ≡ s.a7 = omega arith in
      let c : n + 1 + 1 ≡ n + 2 = omega arith in
      let d : n + 2 + 1 ≡ n + 3 = omega arith in
      let e : n + 3 + 1 ≡ n + 4 = omega arith in
      let g : n + 4 + 1 ≡ n + 5 = omega arith in
      rw (b, c, d, e, g)

-- ---- what each plan writes

module _ (m : Core) (s l : List ℕ) (p : Plan) where
  abbrev x : View
  x = view_of m

  abbrev j : Landing
  j = landing_for (view_of m) p s

  abbrev q : ℕ
  q = top_of (view_of m) - p.bytes

  abbrev k : ℕ
  k = waiting_of (view_of m) p.clocks

  abbrev level : ℕ
  level = pending_level m.cpu

  abbrev response : ℕ
  response = response_of m.bus (pending_level m.cpu)

  -- the plan's own numbers
  pub record Asks (n : ℕ) : Type 0 where
    pub shaped : shape_number p.shape ≡ n
    pub status : p.sr ≡ get_sr m.cpu
    pub address : p.pc ≡ pc_of m.cpu
    pub leveled : p.level ≡ level
    pub responded : p.response ≡ response
    pub status_fits : p.sr < 0x10000
    pub address_fits : p.pc < 2 ^ 32
    pub format_fits : p.format < 0x10000

  -- ---- kinds other than 1 and 2

  other_laid : Asks 6 → lay_at x (spot_for x p) p (tape s l) ≡ short_at (spot_for x p) (clocks_count 1 k) p (tape s (clocks_at 1 k (note_log 0 l 6 level response)))
  unfolding lay_at
  other_laid h = rw (h.shaped, h.leveled, h.responded)

  other_counted : Asks 6 → lay_count x p ≡ clocks_count 1 k + 3
  unfolding lay_count
  other_counted h = rw h.shaped

  other_told : Asks 6 → k ≡ clocks_of m.cpu
      → Told x p s l (short_pieces p.sr p.pc p.format) (other_events m.bus m.cpu q (short_pieces p.sr p.pc p.format) (fetches_of x) j.from j.pc j.pc j.first j.second)
  unfolding short_pieces
  other_told h e =
      let f : Bool = fetches_of x in
      let ps : List Piece = short_pieces p.sr p.pc p.format in
      let acked : List ℕ = note_log 0 l 6 level response in
      let t : Tape = tape s (clocks_at 1 k acked) in
      let g : Laid (spot_for x p) (clocks_count 1 k) t (short_at (spot_for x p) (clocks_count 1 k) p t) ps = short_laid (spot_for x p) (clocks_count 1 k) p t h.status_fits h.format_fits in
      let c : lay_count x p ≡ clocks_count 1 k + 3 = other_counted h in
      let z : lay_at x (spot_for x p) p (tape s l) ≡ short_at (spot_for x p) (clocks_count 1 k) p t = other_laid h in
      record {
        store = ap (λ (u : Tape). u.store) z ∙ g.store;
        log =
            jump_told (lay_count x p) j f (lay_at x (spot_for x p) p (tape s l)).log
            ∙ ap (λ (u : List ℕ). told (lay_count x p) u (jump_events f j.from j.pc j.pc j.first j.second))
            (ap (λ (u : Tape). u.log) z ∙ g.log ∙ ap (λ (u : List ℕ). told (clocks_count 1 k) u (writes_of q ps)) (clocks_told 1 k acked))
            ∙ sym (entry_log 1 acked k q ps f j.from j.pc j.pc j.first j.second (clocks_count 1 k) (lay_count x p) (clocks_counted 1 k) c)
            ∙ ap (λ (u : ℕ). told 1 acked (entry_events u q ps f j.from j.pc j.pc j.first j.second)) e
            ∙ sym (other_log m.bus m.cpu 0 l q ps f j.from j.pc j.pc j.first j.second);
        count =
            let i = clocks_counted 1 k in
            let o = clocks_count_lem k in
            let r = entry_count 0 l (clocks_of m.cpu) q ps f j.from j.pc j.pc j.first j.second in
            jump_counted (lay_count x p) f ∙ rw (other_count m.bus m.cpu 0 l q ps f j.from j.pc j.pc j.first j.second, r, ← e, c, i, o) (omega arith);
      }

  -- ---- kind 2

  ten_laid : Asks 5 → lay_at x (spot_for x p) p (tape s l) ≡ four_at (spot_for x p) (clocks_count 0 k) p (tape s (clocks_at 0 k l))
  unfolding lay_at
  ten_laid h = rw h.shaped

  ten_counted : Asks 5 → lay_count x p ≡ clocks_count 0 k + 5
  unfolding lay_count
  ten_counted h = rw h.shaped

  ten_told : Asks 5 → k ≡ clocks_after m.cpu 12
      → Told x p s l (four_pieces p.sr p.pc p.format) (events68010 m.bus m.cpu q (four_pieces p.sr p.pc p.format) (fetches_of x) j.from j.pc j.pc j.first j.second)
  unfolding four_pieces
  ten_told h e =
      let f : Bool = fetches_of x in
      let ps : List Piece = four_pieces p.sr p.pc p.format in
      let n : ℕ = clocks_count 0 k in
      let t : Tape = tape s (clocks_at 0 k l) in
      let c : lay_count x p ≡ n + 5 = ten_counted h in
      let z : lay_at x (spot_for x p) p (tape s l) ≡ four_at (spot_for x p) n p t = ten_laid h in
      let o : n ≡ 0 + length (clock_events (clocks_after m.cpu 12)) = rw (← e) (clocks_counted 0 k) in
      record {
        store = ap (λ (u : Tape). u.store) z ∙ four_put (spot_for x p) n p t h.status_fits h.address_fits h.format_fits;
        log =
            jump_told (lay_count x p) j f (lay_at x (spot_for x p) p (tape s l)).log
            ∙ ap (λ (u : List ℕ). told (lay_count x p) u (jump_events f j.from j.pc j.pc j.first j.second))
            (ap (λ (u : Tape). u.log) z ∙ four_told (spot_for x p) n p t h.status_fits h.address_fits
            ∙ rw (h.leveled, h.responded, clocks_told 0 k l, e))
            ∙ sym (log68010 m.bus m.cpu 0 l q ps f j.from j.pc j.pc j.first j.second n (lay_count x p) o (c ∙ omega arith));
        count =
            let i = clocks_count_lem (clocks_after m.cpu 12) in
            jump_counted (lay_count x p) f ∙ rw (count68010 m.bus m.cpu 0 l q ps f j.from j.pc j.pc j.first j.second, c, o, i) (omega arith);
      }

  -- ---- kind 1

  old_laid : Asks 4 → lay_at x (spot_for x p) p (tape s l) ≡ old_at (spot_for x p) (clocks_count 0 k) p (fetches_of x) (tape s (clocks_at 0 k l))
  unfolding lay_at
  old_laid h = rw h.shaped

  old_counted : Asks 4 → lay_count x p ≡ pick (fetches_of x) (clocks_count 0 k + 6) (clocks_count 0 k + 4)
  unfolding lay_count
  old_counted h = rw h.shaped

  old_log : Asks 4 → k ≡ clocks_after m.cpu 6 → (i : Bool) (c : ℕ) → c ≡ pick i (clocks_count 0 k + 6) (clocks_count 0 k + 4)
      → told c (old_at (spot_for x p) (clocks_count 0 k) p i (tape s (clocks_at 0 k l))).log (jump_events i j.from j.pc j.pc j.first j.second)
      ≡ told 0 l (events68000 m.bus m.cpu q p.sr p.pc i j.from j.pc j.pc j.first j.second)
  old_log h e true c z =
      let n : ℕ = clocks_count 0 k in
      let t : Tape = tape s (clocks_at 0 k l) in
      rw (z, old_on (spot_for x p) n p t h.status_fits h.address_fits, h.leveled, h.responded, clocks_told 0 k l, e)
      (sym (log68000_on m.bus m.cpu 0 l q p.sr p.pc j.from j.pc j.pc j.first j.second (clocks_count 0 (clocks_after m.cpu 6)) (clocks_counted 0 (clocks_after m.cpu 6))))
  old_log h e false c z =
      let n : ℕ = clocks_count 0 k in
      let t : Tape = tape s (clocks_at 0 k l) in
      rw (z, old_off (spot_for x p) n p t h.status_fits h.address_fits, h.leveled, h.responded, clocks_told 0 k l, e)
      (sym (log68000_off m.bus m.cpu 0 l q p.sr p.pc j.from j.pc j.pc j.first j.second (clocks_count 0 (clocks_after m.cpu 6)) (clocks_counted 0 (clocks_after m.cpu 6))))

  old_told : Asks 4 → k ≡ clocks_after m.cpu 6
      → Told x p s l (three_pieces p.sr p.pc) (events68000 m.bus m.cpu q p.sr p.pc (fetches_of x) j.from j.pc j.pc j.first j.second)
  old_told h e =
      let f : Bool = fetches_of x in
      let n : ℕ = clocks_count 0 k in
      let t : Tape = tape s (clocks_at 0 k l) in
      let c : lay_count x p ≡ pick f (n + 6) (n + 4) = old_counted h in
      let z : lay_at x (spot_for x p) p (tape s l) ≡ old_at (spot_for x p) n p f t = old_laid h in
      let o : n ≡ 0 + length (clock_events (clocks_after m.cpu 6)) = rw (← e) (clocks_counted 0 k) in
      record {
        store = ap (λ (u : Tape). u.store) z ∙ old_put (spot_for x p) n p t h.status_fits h.address_fits f;
        log =
            jump_told (lay_count x p) j f (lay_at x (spot_for x p) p (tape s l)).log
            ∙ ap (λ (u : Tape). told (lay_count x p) u.log (jump_events f j.from j.pc j.pc j.first j.second)) z
            ∙ old_log h e f (lay_count x p) c;
        count =
            let i = clocks_count_lem (clocks_after m.cpu 6) in
            jump_counted (lay_count x p) f ∙ rw (count68000 m.bus m.cpu q p.sr p.pc f j.from j.pc j.pc j.first j.second, c) (sum f n (pick (ltb 0 (clocks_after m.cpu 6)) 1 0) (o ∙ rw i (omega arith)));
      }
    where
      sum : (f : Bool) (n i : ℕ) → n ≡ i → pick f (n + 6) (n + 4) + pick f 5 2 ≡ 0 + (i + pick f 11 6)
      sum true n i h = omega arith
      sum false n i h = omega arith

-- the same frame and events in other words
told_as : (x : View) (p : Plan) (s l : List ℕ) (ps qs : List Piece) (es fs : List Event) → ps ≡ qs → es ≡ fs → Told x p s l ps es → Told x p s l qs fs
told_as x p s l ps qs es fs e f h = rw (e, f) at h

-- ---- an interrupt that is taken

no_master : (c : Cpu) → c.flags.m_flag ≡ 0 → m_is_set c ≡ false
unfolding m_is_set
no_master c e = rw e

module _ (m : Core) (s l : List ℕ) (w : Words m) (a : Accepted m (length s) (length l)) (c : RawCall) (bs : Fetched (go_of (view_of m) c s l).patch) (takes : takes_interrupt m.cpu ≡ true)
    (e : go_of (view_of m) c s l ≡ enter_of (view_of m) (interrupt_plan (view_of m)) s l) (f : is_entry (enter_of (view_of m) (interrupt_plan (view_of m)) s l).patch.way ≡ true)
    (r : raw_call (world m s l) c ≡ of_performed (of_service (check_and_service (closed m.bus m.cpu 0 s l)))) where
  abbrev p : Plan
  p = interrupt_plan (view_of m)

  abbrev vector : ℕ
  vector = iack_vector (response_of m.bus (pending_level m.cpu)) (pending_level m.cpu)

  abbrev landing : Landing
  landing = landing_for (view_of m) (interrupt_plan (view_of m)) s

  plan_vector : (interrupt_plan (view_of m)).vector ≡ vector
  unfolding interrupt_plan vector_of response_to response_of pending_level view_of
  plan_vector = refl

  entered : Entered (view_of m) p s l
  entered = entered_by_lem (view_of m) p s l (fetched_in (go_of (view_of m) c s l) (enter_of (view_of m) p s l) e bs) f

  abbrev patch : Patch
  patch = patch_by (view_of m) p (spot_for (view_of m) p) (landing_for (view_of m) p s) (jump_count (lay_count (view_of m) p) (fetches_of (view_of m)))

  interrupting : Interrupting m.cpu patch (clear_of_lem m s l w a) (fitting_of m s l w a p (jump_count (lay_count (view_of m) p) (fetches_of (view_of m))) entered) (pending_level m.cpu)
  unfolding patch_by interrupt_plan view_of pending_level
  interrupting = record { stopped = refl; mask = omega arith; level = refl; cycles = refl; fpiar = refl }

  -- the record after it, from the data n of the last write
  patched : (n v : ℕ) → n ≡ p.last → v ≡ p.vector
      → clear_level (close_interrupt (jumped (prefetch_enabled m.cpu) (set_wdata (set_a7 (set_clocks (enter_level m.cpu (pending_level m.cpu)) 0) (top_of (view_of m) - p.bytes)) n) v landing.pc landing.first landing.second)) ≡ patch_cpu m.cpu patch
  unfolding patch_by fetches_of prefetch_enabled view_of
  patched n v h g = rw (h, g) (interrupt_patched m.cpu patch (clear_of_lem m s l w a) (fitting_of m s l w a p (jump_count (lay_count (view_of m) p) (fetches_of (view_of m))) entered) (pending_level m.cpu) interrupting)

  entering : (n : ℕ) → p.bytes ≡ n → 0 < n → Entering m.bus (enter_supervisor m.cpu) s n vector (top_of (view_of m) - p.bytes) landing.from landing.pc landing.pc landing.first landing.second
  entering n h z = entering_of m s l w a p n vector h plan_vector (vector_fits (response_of m.bus (pending_level m.cpu)) (pending_level m.cpu)) z entered

  offset_of_lem : p.format ≡ offset_word vector
  unfolding interrupt_plan vector_of response_to response_of pending_level view_of offset_word
  offset_of_lem = let v : ℕ = vector in let z : v < 256 = vector_fits (response_of m.bus (pending_level m.cpu)) (pending_level m.cpu) in go v z
    where
      go : (v : ℕ) → v < 256 → v * 4 ≡ v * 4 % 0x10000
      go v z = omega arith

  offset_fits : p.format < 0x10000
  unfolding offset_word
  offset_fits = rw offset_of_lem (omega arith)

  asks : (n : ℕ) → shape_number p.shape ≡ n → Asks m s l p n
  unfolding interrupt_plan response_to response_of pending_level view_of get_sr pc_of
  asks n h =
      record {
        shaped = h;
        status = refl;
        address = refl;
        leveled = refl;
        responded = refl;
        status_fits = compose_fits m.cpu.flags;
        address_fits = w.pc;
        format_fits = offset_fits;
      }

  -- kinds other than 1 and 2
  other_clocks : eqb (kind_of m.cpu) 1 ≡ false → eqb (kind_of m.cpu) 2 ≡ false → waiting_of (view_of m) p.clocks ≡ clocks_of m.cpu
  unfolding interrupt_plan view_of kind_of
  other_clocks h g = rw (h, g) (waiting_none m w)

  other_shape : eqb (kind_of m.cpu) 1 ≡ false → eqb (kind_of m.cpu) 2 ≡ false → shape_number p.shape ≡ 6
  unfolding interrupt_plan view_of kind_of
  other_shape h g = rw (h, g)

  other_bytes : eqb (kind_of m.cpu) 1 ≡ false → p.bytes ≡ 8
  unfolding interrupt_plan view_of kind_of
  other_bytes h = rw h

  other_last : eqb (kind_of m.cpu) 1 ≡ false → eqb (kind_of m.cpu) 2 ≡ false → get_sr m.cpu ≡ p.last
  unfolding interrupt_plan view_of kind_of get_sr
  other_last h g = rw (h, g)

  plan_answer : p.answer ≡ 1
  unfolding interrupt_plan
  plan_answer = refl

  other_same : eqb (kind_of m.cpu) 1 ≡ false → eqb (kind_of m.cpu) 2 ≡ false → Says m c s l (go_of (view_of m) c s l)
  unfolding interrupted last_value short_pieces fetches_of prefetch_enabled view_of
  other_same h g =
      let x : View = view_of m in
      let k = asks 6 (other_shape h g) in
      let ps : List Piece = short_pieces (get_sr m.cpu) (pc_of m.cpu) (offset_word vector) in
      let j : Landing = landing in
      let q : ℕ = top_of x - p.bytes in
      let es : List Event = other_events m.bus m.cpu q ps (prefetch_enabled m.cpu) j.from j.pc j.pc j.first j.second in
      let z : short_pieces p.sr p.pc p.format ≡ ps = rw (k.status, k.address, offset_of_lem) in
      let u : Told x p s l ps es
      = told_as x p s l _ ps _ es z (ap (λ (i : List Piece). other_events m.bus m.cpu q i (fetches_of x) j.from j.pc j.pc j.first j.second) z) (other_told m s l p k (other_clocks h g)) in
      let t = interrupt_other m.bus m.cpu 0 s l vector q j.from j.pc j.pc j.first j.second h g takes (no_master m.cpu a.master) refl (entering 8 (other_bytes h) (lit< tt)) (lit< tt) in
      serviced m c s l p (go_of x c s l) ps es
      (clear_level (close_interrupt (jumped (prefetch_enabled m.cpu) (set_wdata (set_a7 (set_clocks (enter_level m.cpu (pending_level m.cpu)) 0) q) (get_sr m.cpu)) vector j.pc j.first j.second)))
      (e ∙ entered.same) u (patched (get_sr m.cpu) vector (other_last h g) (sym plan_vector)) plan_answer
      (r ∙ ap (λ (i : Attempt). of_performed (of_service i)) t)

  -- kind 2
  ten_shape : eqb (kind_of m.cpu) 1 ≡ false → eqb (kind_of m.cpu) 2 ≡ true → shape_number p.shape ≡ 5
  unfolding interrupt_plan view_of kind_of
  ten_shape h g = rw (h, g)

  ten_last : eqb (kind_of m.cpu) 1 ≡ false → eqb (kind_of m.cpu) 2 ≡ true → p.last ≡ p.format
  unfolding interrupt_plan view_of kind_of
  ten_last h g = rw (h, g)

  ten_clocks : eqb (kind_of m.cpu) 1 ≡ false → eqb (kind_of m.cpu) 2 ≡ true → waiting_of (view_of m) p.clocks ≡ clocks_after m.cpu 12
  unfolding interrupt_plan view_of kind_of waiting_of clocks_after clocks_of fetches_of prefetch_enabled
  ten_clocks h g = rw (h, g)

  ten_same : eqb (kind_of m.cpu) 1 ≡ false → eqb (kind_of m.cpu) 2 ≡ true → Says m c s l (go_of (view_of m) c s l)
  unfolding interrupted last_value four_pieces fetches_of prefetch_enabled view_of
  ten_same h g =
      let x : View = view_of m in
      let k = asks 5 (ten_shape h g) in
      let ps : List Piece = four_pieces (get_sr m.cpu) (pc_of m.cpu) (offset_word vector) in
      let j : Landing = landing in
      let q : ℕ = top_of x - p.bytes in
      let es : List Event = events68010 m.bus m.cpu q ps (prefetch_enabled m.cpu) j.from j.pc j.pc j.first j.second in
      let z : four_pieces p.sr p.pc p.format ≡ ps = rw (k.status, k.address, offset_of_lem) in
      let u : Told x p s l ps es
      = told_as x p s l _ ps _ es z (ap (λ (i : List Piece). events68010 m.bus m.cpu q i (fetches_of x) j.from j.pc j.pc j.first j.second) z) (ten_told m s l p k (ten_clocks h g)) in
      let t = interrupt_68010 m.bus m.cpu 0 s l vector q j.from j.pc j.pc j.first j.second h g takes (no_master m.cpu a.master) refl (entering 8 (other_bytes h) (lit< tt)) (lit< tt) in
      serviced m c s l p (go_of x c s l) ps es
      (clear_level (close_interrupt (jumped (prefetch_enabled m.cpu) (set_wdata (set_a7 (set_clocks (enter_level m.cpu (pending_level m.cpu)) 0) q) (offset_word vector)) vector j.pc j.first j.second)))
      (e ∙ entered.same) u (patched (offset_word vector) vector (sym (ten_last h g ∙ offset_of_lem)) (sym plan_vector)) plan_answer
      (r ∙ ap (λ (i : Attempt). of_performed (of_service i)) t)

  -- kind 1
  old_shape : eqb (kind_of m.cpu) 1 ≡ true → shape_number p.shape ≡ 4
  unfolding interrupt_plan view_of kind_of
  old_shape h = rw h

  old_bytes : eqb (kind_of m.cpu) 1 ≡ true → p.bytes ≡ 6
  unfolding interrupt_plan view_of kind_of
  old_bytes h = rw h

  old_last : eqb (kind_of m.cpu) 1 ≡ true → pc_of m.cpu / 0x10000 ≡ p.last
  unfolding interrupt_plan view_of kind_of pc_of
  old_last h = rw h

  old_clocks : eqb (kind_of m.cpu) 1 ≡ true → waiting_of (view_of m) p.clocks ≡ clocks_after m.cpu 6
  unfolding interrupt_plan view_of kind_of waiting_of clocks_after clocks_of fetches_of prefetch_enabled
  old_clocks h = rw h

  old_same : eqb (kind_of m.cpu) 1 ≡ true → Says m c s l (go_of (view_of m) c s l)
  unfolding interrupted last_value three_pieces fetches_of prefetch_enabled view_of
  old_same h =
      let x : View = view_of m in
      let k = asks 4 (old_shape h) in
      let sr : ℕ = get_sr m.cpu in
      let pc : ℕ = pc_of m.cpu in
      let ps : List Piece = three_pieces sr pc in
      let j : Landing = landing in
      let q : ℕ = top_of x - p.bytes in
      let es : List Event = events68000 m.bus m.cpu q sr pc (prefetch_enabled m.cpu) j.from j.pc j.pc j.first j.second in
      let u : Told x p s l ps es
      = told_as x p s l _ ps _ es (rw (k.status, k.address))
      (ap (λ (i : ℕ). events68000 m.bus m.cpu q i p.pc (fetches_of x) j.from j.pc j.pc j.first j.second) k.status
      ∙ ap (λ (i : ℕ). events68000 m.bus m.cpu q sr i (fetches_of x) j.from j.pc j.pc j.first j.second) k.address)
      (old_told m s l p k (old_clocks h)) in
      let t = interrupt_68000 m.bus m.cpu 0 s l vector q j.from j.pc j.pc j.first j.second h takes (no_master m.cpu a.master) refl (entering 6 (old_bytes h) (lit< tt)) (lit< tt) in
      serviced m c s l p (go_of x c s l) ps es
      (clear_level (close_interrupt (jumped (prefetch_enabled m.cpu) (set_wdata (set_a7 (set_clocks (enter_level m.cpu (pending_level m.cpu)) 0) q) (pc / 0x10000)) vector j.pc j.first j.second)))
      (e ∙ entered.same) u (patched (pc / 0x10000) vector (old_last h) (sym plan_vector)) plan_answer
      (r ∙ ap (λ (i : Attempt). of_performed (of_service i)) t)

  pub interrupt_same : Says m c s l (go_of (view_of m) c s l)
  interrupt_same = go (eqb (kind_of m.cpu) 1) (eqb (kind_of m.cpu) 2) refl refl
    where
      go : (i t : Bool) → eqb (kind_of m.cpu) 1 ≡ i → eqb (kind_of m.cpu) 2 ≡ t → Says m c s l (go_of (view_of m) c s l)
      go true t h g = old_same h
      go false true h g = ten_same h g
      go false false h g = other_same h g
