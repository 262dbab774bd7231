-- What the places of a frame and a jump tell where the fast way takes them: an entry of crate unfaulted.
use Rattle.std.specs.Prelude.{ℕ, ◌+◌, ◌-◌, ◌*◌, ◌%◌, ◌^◌, ◌<◌, ◌≤◌, ◌≡◌, refl, Bool, true, false, List, eqb, ltb, leb, length, Option, Some, None}
use Rattle.std.proofs.Common.{sym, ap, ◌∙◌, inl, inr, arith, ltb-false, leb-true, leb-false, eqb-true}
use Rattle.std.proofs.lemmas.Bool.{eqb-false}
use Rattle.std.proofs.lemmas.Option.{same_Some}
use Rattle.types.specs.Kinds.{pick, mask_address}
use Rattle.cpu.specs.declared.Cpu.{Cpu}
use Rattle.cpu.specs.Fields.{kind_of, vbr_of, is_faulted}
use Rattle.cpu.specs.Clocks.{prefetch_enabled}
use Rattle.status.specs.Banks.{enter_supervisor}
use Rattle.memory.specs.declared.Bus.{Bus}
use Rattle.memory.specs.declared.Core.{Core}
use Rattle.memory.specs.Bytes.{get_word, get_long}
use Rattle.memory.specs.Runs.{Apart}
use Rattle.unfaulted.specs.Closed.{Room, Entering, Landing as Lands}
use Rattle.unfaulted.specs.Entries.{supervisor_kind, supervisor_vbr, supervisor_fetches, supervisor_running, supervisor_registers}
use Rattle.fast_plans.specs.declared.View.{View}
use Rattle.fast_plans.specs.declared.places.Spot.{Spot}
use Rattle.fast.specs.declared.landings.Landing.{Landing}
use Rattle.fast_plans.specs.Views.{view_of, span_of}
use Rattle.fast_plans.specs.Places.{fetches_of, top_of, spot, spot_of}
use Rattle.fast.specs.Landings.{landed, meets, queued_of, vector_at, landing_of}
use Rattle.fast.specs.Laws.{found_step}
use Rattle.fast_laws.specs.Patched.{Words}
use Rattle.fast_laws.specs.Accepts.{false_true, Accepted}
use Rattle.fast_laws.specs.Supervised.{top_at, Clear, supervised_a7}

-- ---- the spot

not_odd : (a : ℕ) → eqb (a % 2) 1 ≡ false → a % 2 ≡ 0
not_odd a e = let h : a % 2 ≡ 1 → ⊥ = eqb-false (a % 2) 1 e in go (a % 2) (omega arith) h
  where
    go : (n : ℕ) → n < 2 → (n ≡ 1 → ⊥) → n ≡ 0
    go n h k = split (eqb n 1) refl
      where
        split : (t : Bool) → eqb n 1 ≡ t → n ≡ 0
        split true q = absurd (k (eqb-true n 1 q))
        split false q = let z : n ≡ 1 → ⊥ = k in omega (arith, z)

pub record Spotted (x : View) (stored n : ℕ) : Type 0 where
  pub fits : n ≤ top_of x
  pub low : x.base ≤ top_of x - n
  pub high : top_of x - n - x.base + n ≤ stored
  pub even : (top_of x - n) % 2 ≡ 0
  pub same : spot_of x stored n ≡ Some (spot (top_of x - n) (top_of x - n - x.base))

pub spotted : (x : View) (stored n : ℕ) (y : Spot) → spot_of x stored n ≡ Some y → Spotted x stored n
unfolding spot_of
spotted x stored n y e =
    let t1 = found_step (ltb (top_of x) n) _ y e in
    let t2 = found_step (ltb (top_of x - n) x.base) _ y t1.1 in
    let t3 = found_step (ltb stored (top_of x - n - x.base + n)) _ y t2.1 in
    let t4 = found_step (eqb ((top_of x - n) % 2) 1) _ y t3.1 in
    record {
      fits = ltb-false (top_of x) n t1.0;
      low = ltb-false (top_of x - n) x.base t2.0;
      high = ltb-false stored (top_of x - n - x.base + n) t3.0;
      even = not_odd (top_of x - n) t4.0;
      same = e ∙ sym t4.1;
    }

-- ---- the landing

-- the landing that was found; where none was, nothing is said of it
unfoldable pub landing_in : Option Landing → Landing
landing_in None = landed 0 0 0 0
landing_in (Some j) = j

abbrev pub landing_at : View → List ℕ → ℕ → ℕ → ℕ → Landing
landing_at x m v s n = landing_in (landing_of x m v s n)

-- the queue's words
pub record Queued (x : View) (m : List ℕ) (a to s n : ℕ) : Type 0 where
  pub even : to % 2 ≡ 0
  pub low : x.base ≤ to
  pub high : to - x.base + 4 ≤ length m
  pub apart : meets (to - x.base) s n ≡ false
  pub same : queued_of x m a to s n ≡ Some (landed a to (get_word m (to - x.base)) (get_word m (to - x.base + 2)))

queued : (x : View) (m : List ℕ) (a to s n : ℕ) (j : Landing) → queued_of x m a to s n ≡ Some j → Queued x m a to s n
unfolding queued_of
queued x m a to s n j e =
    let t1 = found_step (eqb (to % 2) 1) _ j e in
    let t2 = found_step (ltb to x.base) _ j t1.1 in
    let t3 = found_step (ltb (length m) (to - x.base + 4)) _ j t2.1 in
    let t4 = found_step (meets (to - x.base) s n) _ j t3.1 in
    record {
      even = not_odd to t1.0;
      low = ltb-false to x.base t2.0;
      high = ltb-false (length m) (to - x.base + 4) t3.0;
      apart = t4.0;
      same = e ∙ sym t4.1;
    }

-- the handler
unfoldable pub handler_of : View → List ℕ → ℕ → ℕ
handler_of x m v = get_long m (vector_at x v - x.base)

pub record Landed (x : View) (m : List ℕ) (v s n : ℕ) : Type 0 where
  pub low : x.base ≤ vector_at x v
  pub high : vector_at x v - x.base + 4 ≤ length m
  pub apart : meets (vector_at x v - x.base) s n ≡ false
  pub from : (landing_at x m v s n).from ≡ vector_at x v
  pub pc : (landing_at x m v s n).pc ≡ handler_of x m v
  pub queue : fetches_of x ≡ true → Queued x m (vector_at x v) (handler_of x m v) s n
  pub first : fetches_of x ≡ true → (landing_at x m v s n).first ≡ get_word m (handler_of x m v - x.base)
  pub second : fetches_of x ≡ true → (landing_at x m v s n).second ≡ get_word m (handler_of x m v - x.base + 2)
  pub same : landing_of x m v s n ≡ Some (landing_at x m v s n)
  pub first_word : (landing_at x m v s n).first < 0x10000
  pub second_word : (landing_at x m v s n).second < 0x10000

pub landed_by : (x : View) (m : List ℕ) (v s n : ℕ) (j : Landing) → (j.first < 0x10000) × (j.second < 0x10000) → landing_of x m v s n ≡ Some j → Landed x m v s n
unfolding landing_of handler_of landing_in
landed_by x m v s n j w e = go (fetches_of x) refl t3.1
  where
    a : ℕ
    a = vector_at x v

    to : ℕ
    to = get_long m (vector_at x v - x.base)

    after : Bool → Option Landing
    after f = pick f (queued_of x m a to s n) (Some (landed a to 0 0))

    t1 : (ltb a x.base ≡ false) × (pick (ltb (length m) (a - x.base + 4)) None (pick (meets (a - x.base) s n) None (after (fetches_of x))) ≡ Some j)
    t1 = found_step (ltb a x.base) _ j e

    t2 : (ltb (length m) (a - x.base + 4) ≡ false) × (pick (meets (a - x.base) s n) None (after (fetches_of x)) ≡ Some j)
    t2 = found_step (ltb (length m) (a - x.base + 4)) _ j t1.1

    t3 : (meets (a - x.base) s n ≡ false) × (after (fetches_of x) ≡ Some j)
    t3 = found_step (meets (a - x.base) s n) _ j t2.1

    by : (k : Landing) → j ≡ k → landing_at x m v s n ≡ k
    by k z = ap landing_in e ∙ z

    go : (f : Bool) → fetches_of x ≡ f → after (fetches_of x) ≡ Some j → Landed x m v s n
    go true q o =
        let k : Queued x m a to s n = queued x m a to s n j (rw q at o) in
        let z : landing_at x m v s n ≡ landed a to (get_word m (to - x.base)) (get_word m (to - x.base + 2)) = by _ (same_Some _ _ (sym (rw q at o) ∙ k.same)) in
        record {
          low = ltb-false a x.base t1.0;
          high = ltb-false (length m) (a - x.base + 4) t2.0;
          apart = t3.0;
          from = ap (λ (j : Landing). j.from) z;
          pc = ap (λ (j : Landing). j.pc) z;
          queue = λ i. k;
          first = λ i. ap (λ (j : Landing). j.first) z;
          second = λ i. ap (λ (j : Landing). j.second) z;
          same = e ∙ ap (λ (j : Landing). Some j) (sym (by j refl));
          first_word = rw (by j refl) w.0;
          second_word = rw (by j refl) w.1;
        }
    go false q o =
        let z : landing_at x m v s n ≡ landed a to 0 0 = by _ (same_Some _ _ (sym (rw q at o))) in
        record {
          low = ltb-false a x.base t1.0;
          high = ltb-false (length m) (a - x.base + 4) t2.0;
          apart = t3.0;
          from = ap (λ (j : Landing). j.from) z;
          pc = ap (λ (j : Landing). j.pc) z;
          queue = λ i. false_true _ (sym q ∙ i);
          first = λ i. false_true _ (sym q ∙ i);
          second = λ i. false_true _ (sym q ∙ i);
          same = e ∙ ap (λ (j : Landing). Some j) (sym (by j refl));
          first_word = rw (by j refl) w.0;
          second_word = rw (by j refl) w.1;
        }

-- ---- an entry

apart_law : (p s n : ℕ) → meets p s n ≡ false → (b q a : ℕ) → q ≡ b + s → a ≡ b + p → Apart q n a 4
unfolding meets
apart_law p s n e b q a h k = go (leb p s) refl e
  where
    go : (t : Bool) → leb p s ≡ t → pick t (ltb (s - p) 4) (ltb (p - s) n) ≡ false → Apart q n a 4
    go true z f = let u = ltb-false (s - p) 4 f in let v = leb-true p s z in inr (omega arith)
    go false z f = let u = ltb-false (p - s) n f in let v = leb-false p s z in inl (omega arith)

room_law : (b : Bus) (k len a n : ℕ) → b.windows ≡ 0 → a % 2 ≡ 0 → 0 < n → b.base ≤ a → a - b.base + n ≤ len → b.base + len ≤ span_of k → Room b k len a n
unfolding span_of mask_address
room_law b k len a n w e p l h t = go (ltb k 3) refl t
  where
    go : (z : Bool) → ltb k 3 ≡ z → b.base + len ≤ pick z 0x1000000 0x100000000 → Room b k len a n
    go true z t =
        let m : (a + n - 1) % 0x1000000 ≡ a + n - 1 = omega arith in
        record { windows = w; even = e; some = p; low = l; high = omega arith; top = omega arith; last = rw z m }
    go false z t = record { windows = w; even = e; some = p; low = l; high = omega arith; top = omega arith; last = rw z }

top_same : (m : Core) → top_of (view_of m) ≡ top_at m.cpu
unfolding top_of top_at view_of
top_same m = refl

fetches_same : (m : Core) → fetches_of (view_of m) ≡ prefetch_enabled m.cpu
unfolding fetches_of view_of prefetch_enabled
fetches_same m = refl

vector_small : (v vbr base len k : ℕ) → v < 256 → base ≤ v * 4 + vbr → v * 4 + vbr - base + 4 ≤ len → base + len ≤ span_of k → mask_address k ((v % 0x40000000 * 4 + vbr) % 2 ^ 32) ≡ v * 4 + vbr
unfolding span_of mask_address
vector_small v vbr base len k h l g t =
    let a : v % 0x40000000 ≡ v = omega arith in
    rw a (go (ltb k 3) t)
  where
    go : (z : Bool) → base + len ≤ pick z 0x1000000 0x100000000 → pick z ((v * 4 + vbr) % 2 ^ 32 % 0x1000000) ((v * 4 + vbr) % 2 ^ 32) ≡ v * 4 + vbr
    go true t = omega arith
    go false t = omega arith

mask_small : (a base len k : ℕ) → base ≤ a → a - base + 4 ≤ len → base + len ≤ span_of k → mask_address k a ≡ a
unfolding span_of mask_address
mask_small a base len k l g t = go (ltb k 3) t
  where
    go : (z : Bool) → base + len ≤ pick z 0x1000000 0x100000000 → pick z (a % 0x1000000) a ≡ a
    go true t = omega arith
    go false t = refl

-- the tests of the fast way give the premises of an entry that nothing refuses
pub enters : (m : Core) (s : List ℕ) (logged n v : ℕ) → Words m → Accepted m (length s) logged → v < 256 → 0 < n → (g : Spotted (view_of m) (length s) n)
    → (h : Landed (view_of m) s v (top_of (view_of m) - n - m.bus.base) n)
    → Entering m.bus (enter_supervisor m.cpu) s n v (top_of (view_of m) - n) (vector_at (view_of m) v) (handler_of (view_of m) s v) (handler_of (view_of m) s v)
    (landing_at (view_of m) s v (top_of (view_of m) - n - m.bus.base) n).first (landing_at (view_of m) s v (top_of (view_of m) - n - m.bus.base) n).second
unfolding view_of handler_of vector_at kind_of vbr_of is_faulted
enters m s logged n v w a u p g h =
    record {
      running = supervisor_running c ∙ a.running;
      registers = rw (supervisor_registers c) w.registers;
      stack = supervised_a7 c clear w.registers ∙ sym (top_same m) ∙ (let z = g.fits in omega arith);
      room = rw (supervisor_kind c) (room_law m.bus (kind_of c) (length s) q n a.windows g.even p g.low g.high a.span);
      landing = rw (supervisor_fetches c, supervisor_kind c, supervisor_vbr c) landing;
      vector_apart = apart_law (e - base) (q - base) n h.apart base q e (let z = g.low in omega arith) (let z = h.low in omega arith);
      queue_apart = rw (supervisor_fetches c)
          (λ (i : prefetch_enabled c ≡ true). let k = h.queue (fetches_same m ∙ i) in apart_law (to - base) (q - base) n k.apart base q to (let z = g.low in omega arith) (let z = k.low in omega arith));
    }
  where
    c : Cpu
    c = m.cpu

    x : View
    x = view_of m

    base : ℕ
    base = m.bus.base

    q : ℕ
    q = top_of (view_of m) - n

    e : ℕ
    e = v * 4 + m.cpu.flow.vbr

    to : ℕ
    to = get_long s (v * 4 + m.cpu.flow.vbr - m.bus.base)

    clear : Clear m.cpu
    clear = record { supervisor = a.supervisor; master = a.master; pointers = w.pointers }

    vector_even : (v * 4 + m.cpu.flow.vbr) % 2 ≡ 0
    vector_even = let z : m.cpu.flow.vbr % 2 ≡ 0 = not_odd m.cpu.flow.vbr a.base in omega arith

    landing : Lands m.bus (kind_of c) (vbr_of c) (prefetch_enabled c) s v e to to (landing_at (view_of m) s v (top_of (view_of m) - n - m.bus.base) n).first (landing_at (view_of m) s v (top_of (view_of m) - n - m.bus.base) n).second
    landing =
        record {
          vector = vector_small v m.cpu.flow.vbr base (length s) (kind_of c) u h.low h.high a.span;
          vector_room = room_law m.bus (kind_of c) (length s) e 4 a.windows vector_even (omega arith) h.low h.high a.span;
          handler = refl;
          queue = λ i. let k = h.queue (fetches_same m ∙ i) in mask_small to base (length s) (kind_of c) k.low k.high a.span;
          queue_room = λ i. let k = h.queue (fetches_same m ∙ i) in room_law m.bus (kind_of c) (length s) to 4 a.windows k.even (omega arith) k.low k.high a.span;
          first = λ i. sym (h.first (fetches_same m ∙ i));
          second = λ i. sym (h.second (fetches_same m ∙ i));
        }
