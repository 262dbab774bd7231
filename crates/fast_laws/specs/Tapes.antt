-- Store and log after the writes of a plan, in the words of crate unfaulted.
use Rattle.std.specs.Prelude.{ℕ, ◌+◌, ◌^◌, ◌<◌, ◌≡◌, refl, Bool, true, false, List, ltb, length}
use Rattle.std.proofs.Common.{sym, ap, ◌∙◌}
use native.Mathlib.Omega.{arith}
use Rattle.types.specs.Kinds.{pick}
use Rattle.memory.specs.Log.{note_log}
use Rattle.memory.specs.Bytes.{put_long}
use Rattle.unfaulted.specs.Closed.{told, Piece, laid, writes_of, clock_events, short_pieces, long_pieces, three_pieces, jump_events, entry_events}
use Rattle.unfaulted.specs.Written.{short_store, three_store, long_store, short_log_lem, three_log, long_log, clocks_log, clocks_count_lem, jump_log_off, jump_log_on}
use Rattle.unfaulted.proofs.Written.{entry_log, entry_count}
use Rattle.fast_plans.specs.declared.View.{View}
use Rattle.fast_plans.specs.declared.places.Spot.{Spot}
use Rattle.fast.specs.declared.landings.Landing.{Landing}
use Rattle.fast_plans.specs.declared.plans.Plan.{Plan}
use Rattle.fast_plans.specs.Places.{fetches_of}
use Rattle.fast.specs.Stacks.{Tape, tape, word_at, long_at, short_at, three_at, waiting_of, clocks_count, clocks_at, lay_at, lay_count, jump_at, jump_count}
use Rattle.fast_plans.specs.Plans.{shape_number}

-- ---- clocks and the jump

pub clocks_told : (n k : ℕ) (l : List ℕ) → clocks_at n k l ≡ told n l (clock_events k)
unfolding clocks_at
clocks_told n k l = sym (clocks_log n l k)

pub clocks_counted : (n k : ℕ) → clocks_count n k ≡ n + length (clock_events k)
unfolding clocks_count
clocks_counted n k = rw (clocks_count_lem k) (go (ltb 0 k))
  where
    go : (t : Bool) → pick t (n + 1) n ≡ n + pick t 1 0
    go true = refl
    go false = omega arith

pub jump_told : (n : ℕ) (j : Landing) (f : Bool) (l : List ℕ) → jump_at n j f l ≡ told n l (jump_events f j.from j.pc j.pc j.first j.second)
unfolding jump_at
jump_told n j true l = sym (jump_log_on n l j.from j.pc j.pc j.first j.second)
jump_told n j false l = sym (jump_log_off n l j.from j.pc j.pc j.first j.second)

pub jump_counted : (n : ℕ) (f : Bool) → jump_count n f ≡ n + pick f 5 2
unfolding jump_count
jump_counted n true = refl
jump_counted n false = refl

-- ---- frames: pieces ps at the spot, from event n on

pub record Laid (s : Spot) (n : ℕ) (t u : Tape) (ps : List Piece) : Type 0 where
  pub store : u.store ≡ laid t.store s.place ps
  pub log : u.log ≡ told n t.log (writes_of s.a7 ps)

module _ (s : Spot) (n : ℕ) (p : Plan) (t : Tape) (f : p.sr < 0x10000) where
  pub short_laid : p.format < 0x10000 → Laid s n t (short_at s n p t) (short_pieces p.sr p.pc p.format)
  unfolding short_at word_at long_at
  short_laid g =
      let a : s.place + 0 ≡ s.place = omega arith in
      let b : s.a7 + 0 ≡ s.a7 = omega arith in
      record {
        store = rw (short_store t.store s.place p.sr p.pc f p.format g, a);
        log = rw (short_log_lem n t.log s.a7 p.sr p.pc p.format, b);
      }

  pub three_laid : p.pc < 2 ^ 32 → Laid s n t (three_at s n p t) (three_pieces p.sr p.pc)
  unfolding three_at word_at
  three_laid h =
      let a : s.place + 0 ≡ s.place = omega arith in
      let b : s.a7 + 0 ≡ s.a7 = omega arith in
      record {
        store = rw (three_store t.store s.place p.sr p.pc f h, a);
        log = rw (three_log n t.log s.a7 p.sr p.pc, b);
      }

  pub long_laid : p.format < 0x10000 → Laid s n t (short_at s (n + 1) p (long_at s 8 n p.extra t)) (long_pieces p.sr p.pc p.format p.extra)
  unfolding short_at word_at long_at
  long_laid g =
      let a : s.place + 0 ≡ s.place = omega arith in
      let b : s.a7 + 0 ≡ s.a7 = omega arith in
      let d : n + 1 + 1 ≡ n + 2 = omega arith in
      record {
        store = rw (long_store t.store s.place p.sr p.pc p.format p.extra, short_store (put_long t.store (s.place + 8) p.extra) s.place p.sr p.pc f p.format g, a);
        log = rw (long_log n t.log s.a7 p.sr p.pc p.format p.extra, short_log_lem (n + 1) (note_log n t.log 4 (s.a7 + 8) p.extra) s.a7 p.sr p.pc p.format, b);
      }

-- ---- an entry's frame after its clocks

pub record Framed (x : View) (s : Spot) (p : Plan) (t : Tape) (ps : List Piece) : Type 0 where
  pub store : (lay_at x s p t).store ≡ laid t.store s.place ps
  pub log : (lay_at x s p t).log ≡ told (clocks_count 0 (waiting_of x p.clocks)) (told 0 t.log (clock_events (waiting_of x p.clocks))) (writes_of s.a7 ps)
  pub count : lay_count x p ≡ clocks_count 0 (waiting_of x p.clocks) + length ps

module _ (x : View) (s : Spot) (p : Plan) (t : Tape) where
  abbrev k : ℕ
  k = waiting_of x p.clocks

  abbrev after : Tape
  after = tape t.store (clocks_at 0 (waiting_of x p.clocks) t.log)

  framed : (ps : List Piece) (u : Tape) → lay_at x s p t ≡ u → lay_count x p ≡ clocks_count 0 k + length ps → Laid s (clocks_count 0 k) after u ps → Framed x s p t ps
  framed ps u e c h =
      record {
        store = ap (λ (z : Tape). z.store) e ∙ h.store;
        log = ap (λ (z : Tape). z.log) e ∙ h.log ∙ ap (λ (i : List ℕ). told (clocks_count 0 k) i (writes_of s.a7 ps)) (clocks_told 0 k t.log);
        count = c;
      }

  pub framed_short : shape_number p.shape ≡ 2 → p.sr < 0x10000 → p.format < 0x10000 → Framed x s p t (short_pieces p.sr p.pc p.format)
  unfolding lay_at lay_count short_pieces
  framed_short e f g = framed (short_pieces p.sr p.pc p.format) (short_at s (clocks_count 0 k) p after) (rw e) (rw e) (short_laid s (clocks_count 0 k) p after f g)

  pub framed_three : shape_number p.shape ≡ 1 → p.sr < 0x10000 → p.pc < 2 ^ 32 → Framed x s p t (three_pieces p.sr p.pc)
  unfolding lay_at lay_count three_pieces
  framed_three e f h = framed (three_pieces p.sr p.pc) (three_at s (clocks_count 0 k) p after) (rw e) (rw e) (three_laid s (clocks_count 0 k) p after f h)

  pub framed_long : shape_number p.shape ≡ 3 → p.sr < 0x10000 → p.format < 0x10000 → Framed x s p t (long_pieces p.sr p.pc p.format p.extra)
  unfolding lay_at lay_count long_pieces short_pieces
  framed_long e f g =
      framed (long_pieces p.sr p.pc p.format p.extra) (short_at s (clocks_count 0 k + 1) p (long_at s 8 (clocks_count 0 k) p.extra after)) (rw e) (rw e)
      (long_laid s (clocks_count 0 k) p after f g)

-- the whole entry: its log and its events
pub entry_told : (x : View) (s : Spot) (p : Plan) (t : Tape) (ps : List Piece) (j : Landing) → Framed x s p t ps
    → jump_at (lay_count x p) j (fetches_of x) (lay_at x s p t).log ≡ told 0 t.log (entry_events (waiting_of x p.clocks) s.a7 ps (fetches_of x) j.from j.pc j.pc j.first j.second)
entry_told x s p t ps j h =
    let k : ℕ = waiting_of x p.clocks in
    let f : Bool = fetches_of x in
    jump_told (lay_count x p) j f (lay_at x s p t).log
    ∙ ap (λ (i : List ℕ). told (lay_count x p) i (jump_events f j.from j.pc j.pc j.first j.second)) h.log
    ∙ sym (entry_log 0 t.log k s.a7 ps f j.from j.pc j.pc j.first j.second (clocks_count 0 k) (lay_count x p) (clocks_counted 0 k) h.count)

pub entry_counted : (x : View) (s : Spot) (p : Plan) (t : Tape) (ps : List Piece) (j : Landing) → Framed x s p t ps
    → jump_count (lay_count x p) (fetches_of x) ≡ 0 + length (entry_events (waiting_of x p.clocks) s.a7 ps (fetches_of x) j.from j.pc j.pc j.first j.second)
entry_counted x s p t ps j h =
    let k : ℕ = waiting_of x p.clocks in
    let a : clocks_count 0 k ≡ 0 + length (clock_events k) = clocks_counted 0 k in
    let b : length (clock_events k) ≡ pick (ltb 0 k) 1 0 = clocks_count_lem k in
    let c : lay_count x p ≡ clocks_count 0 k + length ps = h.count in
    let d = entry_count 0 t.log k s.a7 ps (fetches_of x) j.from j.pc j.pc j.first j.second in
    jump_counted (lay_count x p) (fetches_of x) ∙ rw d (omega arith)
