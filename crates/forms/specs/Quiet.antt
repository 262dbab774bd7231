-- What the log and the record show of the accesses so far, carried along an entry with the closed test: `Tale .. d w` says that the
-- tests so far came to d. Where d holds, no event has a code of 16 or more and the record runs; where it does not, the record is faulted
-- or the log shows such a code. No premise on what a fault raises but that it leaves a faulted record.
use Prim.Native.Nat.{ℕ, suc, ◌+◌, ◌*◌, ◌%◌, ◌^◌, ◌≤◌, ◌<◌}
use Rattle.std.specs.Prelude.{◌≡◌, Bool, not, ltb, length, get_or}
use Rattle.std.proofs.Math.Path.{refl, sym, ap}
use Rattle.std.proofs.Common.{◌∙◌, subst, inl, arith, ltb-true, ltb-false}
use Rattle.std.proofs.Math.Bool.{true, false}
use mathlib.Core.List.{List}
use Rattle.types.specs.Kinds.{pick, both}
use Rattle.cpu.specs.declared.Cpu.{Cpu}
use Rattle.cpu.specs.Fields.{address_of, is_faulted, checks_alignment, set_wdata}
use Rattle.cpu.specs.Clocks.{has_clocks, clocks_of, set_clocks, internal_cycles}
use Rattle.memory.specs.declared.Bus.{Bus}
use Rattle.memory.specs.Log.{note_log, counted}
use Rattle.memory.proofs.LogLaws.{note_length, note_keeps, note_code}
use Rattle.memory.specs.Served.{served_of, place_of}
use Rattle.memory.proofs.ByteLaws.{put_length}
use Rattle.memory.specs.AccessLaws.{kept}
use Rattle.memory.specs.World.{World, Attempt, reply, noted, stored, with_cpu, put_cpu, width_of, served, written, read_value, flush, raw_write, raw_read, try_write, try_read, cpu_of}
use Rattle.steps.specs.Steps.{refuses_odd}
use Rattle.access.specs.Access.{bus_error, address_error, read_or, prefetch_read, checked_read, read_at, wrote, checked_write, write_at, trigger}
use Rattle.bounds.specs.Skeleton.{pick_one, flush_ways, clocks_ways}
use Rattle.bounds.specs.Ledger.{one}
use Rattle.bounds.specs.Levels.{clash}
use Rattle.bounds.specs.Faulted.{trigger_faulted}
use Rattle.images.specs.Pushes.{calm, served_calm}
use Rattle.forms.specs.Gist.{gist, gist_cpu}

-- ---- the log

-- each event has a code below 16
abbrev pub Calm : ℕ → List ℕ → Type 0
Calm ev log = (i : ℕ) → i < ev → get_or log (i * 3) 0 < 16

-- of a world: of the events that its bus counts, none has a code of 16 or more, as an access that is not served has
abbrev pub Quiet : World → Type 0
Quiet w = Calm w.core.bus.events w.log

-- some event has not
pub record Loud (ev : ℕ) (log : List ℕ) : Type 0 where
  pub at : ℕ
  pub below : at < ev
  pub code : 16 ≤ get_or log (at * 3) 0

-- the tests so far came to d; `n` more events have room
pub record Book (n : ℕ) (d flt has : Bool) (ev : ℕ) (log : List ℕ) : Type 0 where
  pub runs : d ≡ true → flt ≡ false
  pub good : d ≡ true → Calm ev log
  pub bad : d ≡ false → flt ≡ false → Loud ev log
  pub room : flt ≡ false → ev + one has + n ≤ 64
  pub long : flt ≡ false → 192 ≤ length log

abbrev pub Booked : ℕ → Bool → World → Type 0
Booked n d w = Book n d (is_faulted (cpu_of w)) (has_clocks (cpu_of w)) w.core.bus.events w.log

module _ {n : ℕ} {d flt has : Bool} {ev : ℕ} {log : List ℕ} where
  loud_kept : (code a v : ℕ) → flt ≡ false → Book (suc n) d flt has ev log → Loud ev log → Loud ((ev + 1) % 2 ^ 32) (note_log ev log code a v)
  loud_kept code a v f p h =
      let r = p.room f in
      let b = h.below in
      record { at = h.at; below = omega arith; code = rw (note_keeps ev log code a v (h.at * 3) (inl (omega arith))) h.code }

  noted_long : (code a v : ℕ) → flt ≡ false → Book (suc n) d flt has ev log → 192 ≤ length (note_log ev log code a v)
  noted_long code a v f p = rw (note_length ev log code a v) (p.long f)

  noted_room : flt ≡ false → Book (suc n) d flt has ev log → (ev + 1) % 2 ^ 32 + one has + n ≤ 64
  noted_room f p = let r = p.room f in omega arith

  -- an event with a code below 16
  pub book_small : (code a v : ℕ) → code < 16 → Book (suc n) d flt has ev log → Book n d flt has ((ev + 1) % 2 ^ 32) (note_log ev log code a v)
  book_small code a v c p =
      record {
        runs = p.runs;
        good = λ e. calm_more (p.runs e) (p.good e);
        bad = λ e f. loud_kept code a v f p (p.bad e f);
        room = λ f. noted_room f p;
        long = λ f. noted_long code a v f p;
      }
    where
      calm_more : flt ≡ false → Calm ev log → Calm ((ev + 1) % 2 ^ 32) (note_log ev log code a v)
      calm_more f g i l = go (ltb i ev) refl
        where
          go : (b : Bool) → ltb i ev ≡ b → get_or (note_log ev log code a v) (i * 3) 0 < 16
          go true u =
              let h : i < ev = ltb-true i ev u in
              rw (note_keeps ev log code a v (i * 3) (inl (omega arith))) (g i h)
          go false u =
              let r = p.room f in
              let o = p.long f in
              let z : i ≡ ev = omega (arith, ltb-false i ev u) in
              rw (z, note_code ev log code a v (omega arith)) c

  -- an event with a code of 16 or more
  pub book_large : (code a v : ℕ) → 16 ≤ code → Book (suc n) d flt has ev log → Book n false flt has ((ev + 1) % 2 ^ 32) (note_log ev log code a v)
  book_large code a v c p =
      record {
        runs = λ e. clash {b = false} e refl;
        good = λ e. clash {b = false} e refl;
        bad = λ e f. let r = p.room f in let o = p.long f in record { at = ev; below = omega arith; code = rw (note_code ev log code a v (omega arith)) c };
        room = λ f. noted_room f p;
        long = λ f. noted_long code a v f p;
      }

-- a faulted record: nothing is asked of the log
pub dead : (n : ℕ) (w : World) → is_faulted (cpu_of w) ≡ true → Booked n false w
dead n w h =
    record { runs = λ e. clash {b = false} e refl; good = λ e. clash {b = false} e refl; bad = λ e f. clash h f; room = λ f. clash h f; long = λ f. clash h f }

-- less room
pub book_less : {n m : ℕ} {d flt has : Bool} {ev : ℕ} {log : List ℕ} → m ≤ n → Book n d flt has ev log → Book m d flt has ev log
book_less l p = record { runs = p.runs; good = p.good; bad = p.bad; room = λ f. let r = p.room f in omega arith; long = p.long }

-- ---- with what the tests look at

-- the record's gist, the bus and the length of the store
pub record Scene (x : Cpu) (b : Bus) (len : ℕ) (w : World) : Type 0 where
  pub cpu : gist_cpu (cpu_of w) ≡ x
  pub bus : calm w.core.bus ≡ b
  pub size : length w.store ≡ len

-- known as long as no test failed
pub record Tale (x : Cpu) (b : Bus) (len n : ℕ) (d : Bool) (w : World) : Type 0 where
  pub scene : d ≡ true → Scene x b len w
  pub book : Booked n d w

-- the scene of a gist
abbrev pub TaleOf : World → ℕ → Bool → World → Type 0
TaleOf x n d w = Tale (cpu_of x) x.core.bus (length x.store) n d w

pub gist_tale : (w x : World) (n : ℕ) (d : Bool) → (d ≡ true → gist w ≡ x) → Booked n d w → TaleOf x n d w
unfolding gist
gist_tale w x n d e p = record { scene = λ h. seen (e h); book = p }
  where
    seen : gist w ≡ x → Scene (cpu_of x) x.core.bus (length x.store) w
    seen e = record { cpu = ap (λ (y : World). cpu_of y) e; bus = ap (λ (y : World). y.core.bus) e; size = ap (λ (y : World). length y.store) e }

-- what a step may look at: what the gist keeps
module _ {x : Cpu} {b : Bus} {len : ℕ} {w : World} (s : Scene x b len w) where
  pub scene_get : {A : Type 0} (f : Cpu → A) → ((c : Cpu) → f (gist_cpu c) ≡ f c) → f (cpu_of w) ≡ f x
  scene_get f k = sym (k (cpu_of w)) ∙ ap f s.cpu

  pub scene_served : (a : ℕ) (g : Bool) → served w a g ≡ served_of b len a (width_of g)
  unfolding served
  scene_served a g = sym (served_calm w.core.bus (length w.store) a (width_of g)) ∙ ap (λ (z : Bus). served_of z (length w.store) a (width_of g)) s.bus ∙ ap (λ (z : ℕ). served_of b z a (width_of g)) s.size

  pub scene_address : (a : ℕ) → address_of (cpu_of w) a ≡ address_of x a
  unfolding gist_cpu address_of
  scene_address a = scene_get (λ c. address_of c a) (λ c. refl)

  pub scene_odd : (a : ℕ) → refuses_odd (cpu_of w) a ≡ refuses_odd x a
  unfolding gist_cpu refuses_odd checks_alignment
  scene_odd a = scene_get (λ c. refuses_odd c a) (λ c. refl)

-- ---- verdicts

-- a test that came to s: where it is t as long as no test failed, the tests come to `both d t`
pub judge : {A : Type 0} (R : Bool → A → Type 0) (d s t : Bool) {a b : A} → (d ≡ true → s ≡ t) → (s ≡ true → R d a) → (s ≡ false → R false b) → R (both d t) (pick s a b)
judge R true true t {a} {b} l p q = subst (λ (z : Bool). R z a) (l refl) (p refl)
judge R true false t {a} {b} l p q = subst (λ (z : Bool). R z b) (l refl) (q refl)
judge R false true t l p q = p refl
judge R false false t l p q = q refl

-- two of them: refused for oddness, then served
pub judge_two : {A : Type 0} (R : Bool → A → Type 0) (d o s t : Bool) {a b c : A} → (d ≡ true → t ≡ both s (not o)) → (o ≡ true → R false a) → (s ≡ true → R d b) → (s ≡ false → R false c)
    → R (both d t) (pick o a (pick s b c))
judge_two R true true true t {a} {b} {c} l p q r = subst (λ (z : Bool). R z a) (sym (l refl)) (p refl)
judge_two R true true false t {a} {b} {c} l p q r = subst (λ (z : Bool). R z a) (sym (l refl)) (p refl)
judge_two R true false true t {a} {b} {c} l p q r = subst (λ (z : Bool). R z b) (sym (l refl)) (q refl)
judge_two R true false false t {a} {b} {c} l p q r = subst (λ (z : Bool). R z c) (sym (l refl)) (r refl)
judge_two R false true s t l p q r = p refl
judge_two R false false true t l p q r = q refl
judge_two R false false false t l p q r = r refl

-- a test that holds as long as none failed
pub judge_none : (R : Bool → Type 0) (d t : Bool) → (d ≡ true → t ≡ true) → R d → R (both d t)
judge_none R true t l p = subst R (sym (l refl)) p
judge_none R false t l p = p

-- a test by another name
pub both_named : (d s t : Bool) → (d ≡ true → s ≡ t) → both d s ≡ both d t
both_named true s t l = l refl
both_named false s t l = refl

pub both_both : (d s t : Bool) → both (both d s) t ≡ both d (both s t)
both_both true s t = refl
both_both false s t = refl

-- ---- steps and accesses

written_length : (w : World) (a : ℕ) (g : Bool) (v : ℕ) → length (written w a g v) ≡ length w.store
unfolding written
written_length w a true v = put_length true w.store (place_of w.core.bus a) (kept true v)
written_length w a false v = put_length false w.store (place_of w.core.bus a) (kept false v)

module _ {x : Cpu} {b : Bus} {len : ℕ} where
  -- a faulted record
  pub tale_dead : (n : ℕ) (w : World) → is_faulted (cpu_of w) ≡ true → Tale x b len n false w
  tale_dead n w h = record { scene = λ e. clash {b = false} e refl; book = dead n w h }

  pub tale_faulted : (n : ℕ) (d t : Bool) (w : World) → is_faulted (cpu_of w) ≡ true → Tale x b len n d w → Tale x b len n (both d t) w
  tale_faulted n true t w h p = clash h (p.book.runs refl)
  tale_faulted n false t w h p = p

  pub tale_less : {n m : ℕ} {d : Bool} {w : World} → m ≤ n → Tale x b len n d w → Tale x b len m d w
  tale_less l p = record { scene = p.scene; book = book_less l p.book }

  -- an event that is no access
  pub tale_note : {n : ℕ} {d : Bool} (w : World) (code a v : ℕ) → code < 16 → Tale x b len (suc n) d w → Tale x b len n d (noted w code a v)
  unfolding noted calm counted
  tale_note w code a v c p =
      record { scene = λ e. let s = p.scene e in record { cpu = s.cpu; bus = s.bus; size = s.size }; book = book_small code a v c p.book }

  noted_large : {n : ℕ} {d : Bool} (w : World) (code a v : ℕ) → 16 ≤ code → Tale x b len (suc n) d w → Tale x b len n false (noted w code a v)
  unfolding noted counted
  noted_large w code a v c p = record { scene = λ e. clash {b = false} e refl; book = book_large code a v c p.book }

  -- waiting clocks are reported: their room was kept
  pub tale_flush : {n : ℕ} {d : Bool} (w : World) → Tale x b len n d w → Tale x b len n d (flush w)
  unfolding noted put_cpu counted set_clocks has_clocks is_faulted gist_cpu calm
  tale_flush {n} {d} w p =
      flush_ways (Tale x b len n d) w
      (λ h. record { scene = λ e. let s = p.scene e in record { cpu = s.cpu; bus = s.bus; size = s.size }; book = book_small 5 0 (clocks_of (cpu_of w)) (omega arith) (waits (rw h at p.book)) }) p
    where
      waits : {flt : Bool} {ev : ℕ} {log : List ℕ} → Book n d flt true ev log → Book (suc n) d flt false ev log
      waits q = record { runs = q.runs; good = q.good; bad = q.bad; room = λ f. let r = q.room f in omega arith; long = q.long }

  -- clocks begin to wait
  pub tale_cycles : {n : ℕ} {d : Bool} (w : World) (v : ℕ) → Tale x b len (suc n) d w → Tale x b len n d (with_cpu w (internal_cycles (cpu_of w) v))
  unfolding put_cpu set_clocks is_faulted gist_cpu
  tale_cycles {n} {d} w v p =
      clocks_ways (Tale x b len n d) w v
      (λ h. record { scene = λ e. let s = p.scene e in record { cpu = s.cpu; bus = s.bus; size = s.size }; book = waits (has_clocks (cpu_of w)) (has_clocks (set_clocks (cpu_of w) ((clocks_of (cpu_of w) + v) % 2 ^ 32))) p.book })
      (tale_less (omega arith) p)
    where
      waits : (has more : Bool) {flt : Bool} {ev : ℕ} {log : List ℕ} → Book (suc n) d flt has ev log → Book n d flt more ev log
      waits has true q = record { runs = q.runs; good = q.good; bad = q.bad; room = λ f. let r = q.room f in omega arith; long = q.long }
      waits has false q = record { runs = q.runs; good = q.good; bad = q.bad; room = λ f. let r = q.room f in omega arith; long = q.long }

  -- a raw write: a code of 16 or more where it is not served
  raw_served : {n : ℕ} {d : Bool} (w : World) (a : ℕ) (g : Bool) (v : ℕ) → served w a g ≡ true → Tale x b len (suc n) d w → Tale x b len n d (raw_write w a g v)
  unfolding raw_write stored
  raw_served w a g v h p =
      rw h (tale_note (stored w (written w a g v)) (pick g 4 3) a v (pick_one (λ z. z < 16) g (omega arith) (omega arith))
      (record { scene = λ e. let s = p.scene e in record { cpu = s.cpu; bus = s.bus; size = written_length w a g v ∙ s.size }; book = p.book }))

  raw_loud : {n : ℕ} {d : Bool} (w : World) (a : ℕ) (g : Bool) (v : ℕ) → served w a g ≡ false → Tale x b len (suc n) d w → Tale x b len n false (raw_write w a g v)
  unfolding raw_write
  raw_loud w a g v h p = rw h (noted_large w (pick g 20 19) a v (pick_one (λ z. 16 ≤ z) g (omega arith) (omega arith)) p)

  pub tale_raw : {n : ℕ} {d : Bool} (w : World) (a p : ℕ) (g : Bool) (v : ℕ) → (d ≡ true → a ≡ p) → Tale x b len (suc n) d w → Tale x b len n (both d (served_of b len p (width_of g))) (raw_write w a g v)
  tale_raw {n} {d} w a p g v k q =
      judge (λ e z. Tale x b len n e (raw_write w a g v)) d (served w a g) (served_of b len p (width_of g)) {a = w} {b = w}
      (λ e. scene_served (q.scene e) a g ∙ ap (λ (j : ℕ). served_of b len j (width_of g)) (k e)) (λ h. raw_served w a g v h q) (λ h. raw_loud w a g v h q)

  -- a read: the same
  read_served : {n : ℕ} {d : Bool} (w : World) (a : ℕ) (g : Bool) → served w a g ≡ true → Tale x b len (suc n) d w → Tale x b len n d (raw_read w a g)
  unfolding raw_read
  read_served w a g h p = rw h (tale_note w (pick g 2 1) a (read_value w a g) (pick_one (λ z. z < 16) g (omega arith) (omega arith)) p)

  -- the data of a write is kept before it is tried
  tale_datum : {n : ℕ} {d : Bool} (w : World) (v : ℕ) → Tale x b len n d w → Tale x b len n d (with_cpu w (set_wdata (cpu_of w) v))
  unfolding put_cpu set_wdata gist_cpu is_faulted has_clocks
  tale_datum w v p = record { scene = λ e. let s = p.scene e in record { cpu = s.cpu; bus = s.bus; size = s.size }; book = p.book }

  -- a guarded write at p, as long as no test failed
  pub tale_write : (m : ℕ) {n : ℕ} {d : Bool} (w : World) (a p : ℕ) (g : Bool) (v : ℕ) (t : Bool) → (d ≡ true → address_of x a ≡ p) → t ≡ both (served_of b len p (width_of g)) (not (refuses_odd x p))
      → Tale x b len (suc n) d w → Tale x b len n (both d t) (write_at (trigger m) w a g v)
  unfolding write_at checked_write wrote try_write served
  tale_write m {n} {d} w a p g v t k u q = go (is_faulted (cpu_of w)) refl
    where
      go : (f : Bool) → is_faulted (cpu_of w) ≡ f → Tale x b len n (both d t) (pick f w (checked_write (trigger m) (flush w) (address_of (cpu_of (flush w)) a) g v))
      go true h = tale_faulted n d t w h (tale_less (omega arith) q)
      go false h =
          let y : World = flush w in
          let z : World = with_cpu y (set_wdata (cpu_of y) v) in
          let c : ℕ = address_of (cpu_of y) a in
          let r : Tale x b len (suc n) d y = tale_flush w q in
          let s : Tale x b len (suc n) d z = tale_datum y v r in
          judge_two (Tale x b len n) d (refuses_odd (cpu_of y) c) (served z c g) t
          (λ e. let i : c ≡ p = scene_address (r.scene e) a ∙ k e in
          u ∙ ap (λ (o : Bool). both (served_of b len p (width_of g)) (not o)) (sym (scene_odd (r.scene e) p))
          ∙ ap (λ (o : Bool). both o (not (refuses_odd (cpu_of y) p))) (sym (scene_served (s.scene e) p g))
          ∙ ap (λ (j : ℕ). both (served z j g) (not (refuses_odd (cpu_of y) j))) (sym i))
          (λ o. tale_dead n _ (trigger_faulted m y (address_error c true false)))
          (λ o. raw_served z c g v o s)
          (λ o. tale_dead n (trigger m (raw_write z c g v) (bus_error c true false (width_of g))) (trigger_faulted m (raw_write z c g v) (bus_error c true false (width_of g))))

  -- a guarded read
  pub tale_read : (m : ℕ) {n : ℕ} {d : Bool} (w : World) (a p : ℕ) (g t : Bool) → (d ≡ true → address_of x a ≡ p) → t ≡ both (served_of b len p (width_of g)) (not (refuses_odd x p))
      → Tale x b len (suc n) d w → Tale x b len n (both d t) (read_at (trigger m) w a g).after
  unfolding read_at checked_read read_or try_read
  tale_read m {n} {d} w a p g t k u q = go (is_faulted (cpu_of w)) refl
    where
      go : (f : Bool) → is_faulted (cpu_of w) ≡ f → Tale x b len n (both d t) (pick f (reply w false 0) (checked_read (trigger m) (flush w) (address_of (cpu_of (flush w)) a) g)).after
      go true h = tale_faulted n d t w h (tale_less (omega arith) q)
      go false h =
          let y : World = flush w in
          let c : ℕ = address_of (cpu_of y) a in
          let r : Tale x b len (suc n) d y = tale_flush w q in
          judge_two (λ e (z : Attempt). Tale x b len n e z.after) d (refuses_odd (cpu_of y) c) (served y c g) t
          (λ e. let i : c ≡ p = scene_address (r.scene e) a ∙ k e in
          u ∙ ap (λ (o : Bool). both (served_of b len p (width_of g)) (not o)) (sym (scene_odd (r.scene e) p))
          ∙ ap (λ (o : Bool). both o (not (refuses_odd (cpu_of y) p))) (sym (scene_served (r.scene e) p g))
          ∙ ap (λ (j : ℕ). both (served y j g) (not (refuses_odd (cpu_of y) j))) (sym i))
          (λ o. tale_dead n _ (trigger_faulted m y (address_error c false false)))
          (λ o. read_served y c g o r)
          (λ o. tale_dead n (trigger m (raw_read y c g) (bus_error c false false (width_of g))) (trigger_faulted m (raw_read y c g) (bus_error c false false (width_of g))))

-- what is fetched for the queue, and what is then done with it
pub tale_fetch : {x : Cpu} {b : Bus} {len : ℕ} (m : ℕ) {n : ℕ} {d : Bool} (R : Bool → Attempt → Type 0) (w : World) (a p : ℕ) → (d ≡ true → address_of x a ≡ p)
    → ((z : World) (v : ℕ) → Tale x b len n d z → R d (reply z true v)) → ((z : World) → Tale x b len n false z → R false (reply z false 0))
    → Tale x b len (suc n) d w → R (both d (served_of b len p 2)) (prefetch_read (trigger m) w a)
unfolding prefetch_read read_or try_read
tale_fetch {x} {b} {len} m {n} {d} R w a p k f g q =
    let y : World = flush w in
    let c : ℕ = address_of (cpu_of y) a in
    let r : Tale x b len (suc n) d y = tale_flush w q in
    let u : World = trigger m (raw_read y c false) (bus_error c false true 2) in
    judge R d (served y c false) (served_of b len p 2) (λ e. scene_served (r.scene e) c false ∙ ap (λ (j : ℕ). served_of b len j 2) (scene_address (r.scene e) a ∙ k e))
    (λ h. subst (λ (s : Bool). R d (reply (raw_read y c false) s (read_value y c false))) (sym h) (f (raw_read y c false) (read_value y c false) (read_served y c false h r)))
    (λ h. g u (tale_dead n u (trigger_faulted m (raw_read y c false) (bus_error c false true 2))))

-- ---- steps of the record

-- a step that looks only at what the gist keeps, and leaves run mode and clocks
pub record Turn (f : Cpu → Cpu) : Type 0 where
  pub seen : (c : Cpu) → gist_cpu (f c) ≡ gist_cpu (f (gist_cpu c))
  pub runs : (c : Cpu) → is_faulted (f c) ≡ is_faulted c
  pub waits : (c : Cpu) → has_clocks (f c) ≡ has_clocks c

pub book_turn : {n : ℕ} {d : Bool} (w : World) (f : Cpu → Cpu) → Turn f → Booked n d w → Booked n d (with_cpu w (f (cpu_of w)))
unfolding put_cpu
book_turn w f t p = rw (t.runs (cpu_of w), t.waits (cpu_of w)) p

pub tale_turn : {x : Cpu} {b : Bus} {len n : ℕ} {d : Bool} (w : World) (f : Cpu → Cpu) → Turn f → Tale x b len n d w → Tale (gist_cpu (f x)) b len n d (with_cpu w (f (cpu_of w)))
unfolding put_cpu
tale_turn w f t p =
    record { scene = λ e. let s = p.scene e in record { cpu = t.seen (cpu_of w) ∙ ap (λ (c : Cpu). gist_cpu (f c)) s.cpu; bus = s.bus; size = s.size }; book = book_turn w f t p.book }
