-- Theorems about what specs/Events defines, and what rests on them.
use Rattle.std.specs.Prelude.{ℕ, suc, ◌+◌, ◌-◌, ◌*◌, ◌^◌, ◌≤◌, ◌<◌, ◌≡◌, Bool, List, [], ◌++◌, length, drop}
use Rattle.std.proofs.Math.Path.{refl, ap}
use Rattle.std.proofs.Common.{◌∙◌}
use Rattle.std.proofs.Math.Bool.{true, false}
use native.Mathlib.Omega.{arith}
use Rattle.types.specs.Kinds.{pick, is_pre68020, is_prefetch_kind}
use Rattle.cpu.specs.Fields.{kind_of, address_of, is_faulted, in_exception, cause_number_of}
use Rattle.status.specs.Banks.{enter_supervisor}
use Rattle.memory.specs.LogLaws.{replay, spell}
use Rattle.memory.specs.World.{World, cpu_of, step}
use Rattle.frames.specs.declared.Field.{Field}
use Rattle.frames.specs.declared.Frame.{Frame}
use Rattle.frames.specs.Frames.{bus_frame, address_frame, is_counted}
use Rattle.steps.specs.Steps.{begin_bus, begin_address, enter_bus_error, close_bus}
use Rattle.status.specs.Status.{keep_resume}
use Rattle.access.specs.Access.{bus_error, address_error, Raise, read_at, write_at, push_field, push_exception_frame68000, jump_vector, prefetch_first, prefetch_second, exception_address_error, exception_bus_error, trigger, raised, entered}
use Rattle.bounds.specs.Skeleton.{Raises, refills, more, after_field, after_fields, pick_one, guard_read_good, guard_write_good, pushed_good, push_short_good, jump_good, prefetch_first_good, prefetch_second_good, frame_good}
use Rattle.bounds.specs.ErrorFrames.{bus_writes, address_writes, address_plain, bus_plain, address_writes_lem, bus_writes_lem}
use Rattle.bounds.specs.Levels.{Domain, Safe, Any, Either, Set, inside, under, domain, clash, refusing, refused, vector_safe, fetching, halted_kept, address_kept, bus_kept, super_kept, super_bus_kept, close_address_kept, close_bus_kept, level_halts}
use Rattle.bounds.specs.Ledger.{afford, begin_bus_lem, begin_address_lem, halted_books, super_books, super_bus_books, close_bus_books, close_address_books, start, Written, written}
use Rattle.bounds.specs.Events.{rate, bus_cost, own_cost, address_cost, guard_cost, under_cost, refills_sum, Bill, bill_steps, more_bill, bus_ways, address_ways, bus_most, address_cost_most, guard_cost_most, queue_most, after_sum, no_queue, few_more, Call, reads, writes, pushes, pushes_short, first, second, jumps, bus_entry, address_entry, raises, run, most_events, most_61}

module _ (k : ℕ) (l : List ℕ) where
  -- the ways to raise, from what a bus fault keeps: an address fault cannot be raised at a safe address
  raises_of : (Exc : Bool → Type 0) (c : ℕ) (t : Raise) → ((n : ℕ) (w : World) (a : ℕ) (wr i : Bool) (z : ℕ) → Bill k Exc c l n w → Bill k Exc c l n (t w (bus_error a wr i z))) → Raises (Bill k Exc c l) (Safe k) (is_prefetch_kind k) t t
  raises_of Exc c t f = record { fetching = λ n w p. fetching k Exc n w p.0; bus = λ n w a wr i z p. (refl, f n w a wr i z p); odd = λ n w a wr i p o h. absurd (refused k (cpu_of w) a p.0.same o h); vector = λ n w v p. vector_safe k (cpu_of w) v p.0.base }

  -- an error entry, from what a bus fault costs inside it
  module _ (Exc : Bool → Type 0) (c : ℕ) (t : Raise) (T : Raises (Bill k Exc c l) (Safe k) (is_prefetch_kind k) t t) where
    entry_bus_cost : (n : ℕ) (w : World) (a : ℕ) (wr i : Bool) (z cause : ℕ) → Bill k Exc c l n w → Bill k Exc c l (bus_cost k + n) (exception_bus_error t w a wr i z cause)
    unfolding exception_bus_error
    entry_bus_cost n w a wr i z cause p =
        let e = bus_writes_lem (cpu_of w) a wr i z cause n in
        let s = ap bus_writes p.0.same in
        let r = refills_sum (is_prefetch_kind k) (suc (suc (after_fields (bus_frame (cpu_of w) a wr i z cause) (bus_frame (cpu_of w) a wr i z cause).count n))) in
        more_bill k Exc c l (exception_bus_error t w a wr i z cause) (omega arith)
        (frame_good (Bill k Exc c l) (Safe k) (is_prefetch_kind k) t t (bill_steps k Exc c l) T n (step enter_bus_error w) (bus_frame (cpu_of w) a wr i z cause) 2
        (λ h m x g e. clash h (bus_plain (cpu_of w) a wr i z cause (ap is_pre68020 p.0.same ∙ e))) (super_bus_kept k Exc w p.0, super_bus_books c l n w p.1)).1

    entry_address_cost : (n : ℕ) (w : World) (a : ℕ) (wr i : Bool) → Bill k Exc c l n w → Bill k Exc c l (own_cost k + n) (exception_address_error t w a wr i)
    unfolding exception_address_error
    entry_address_cost n w a wr i p =
        let e = address_writes_lem (cpu_of w) a wr i n in
        let s = ap address_writes p.0.same in
        let r = refills_sum (is_prefetch_kind k) (suc (suc (after_fields (address_frame (cpu_of w) a wr i) (address_frame (cpu_of w) a wr i).count n))) in
        more_bill k Exc c l (exception_address_error t w a wr i) (omega arith)
        (frame_good (Bill k Exc c l) (Safe k) (is_prefetch_kind k) t t (bill_steps k Exc c l) T n (step enter_supervisor w) (address_frame (cpu_of w) a wr i) 3
        (λ h. clash h (address_plain (cpu_of w) a wr i)) (super_kept k Exc w p.0, super_books c l n w p.1)).1

  -- while an entry is under way a bus fault is free
  bus_free : (c t n : ℕ) (w : World) (a : ℕ) (wr i : Bool) (z : ℕ) → Bill k Set c l n w → Bill k Set c l n (trigger t w (bus_error a wr i z))
  bus_free c t n w a wr i z p = rw (level_halts t w a wr i z (domain k Set w p.0) p.0.state) (pick_one (Bill k Set c l n) (is_faulted (cpu_of w)) p (halted_kept k Set w p.0, halted_books c l n w p.1))

  -- so an entry that is under way pays for no fault
  pub raises_in : (c t : ℕ) → Raises (Bill k Set c l) (Safe k) (is_prefetch_kind k) (trigger t) (trigger t)
  raises_in c t = raises_of Set c (trigger t) (λ n w a wr i z p. bus_free c t n w a wr i z p)

  -- anywhere a bus fault costs its entry
  bus_cost_lem : (c : ℕ) → bus_cost k ≤ c → (t n : ℕ) (w : World) (a : ℕ) (wr i : Bool) (z : ℕ) → Bill k Either c l n w → Bill k Either c l n (trigger (suc t) w (bus_error a wr i z))
  bus_cost_lem c e t n w a wr i z p = bus_ways (Bill k Either c l n) t w a wr i z p (halted_kept k Either w p.0, halted_books c l n w p.1) opened
    where
      opened : is_faulted (cpu_of w) ≡ false → Bill k Either c l n (step close_bus (exception_bus_error (trigger t) (step begin_bus w) a wr i z (cause_number_of (cpu_of w))))
      opened h =
          let r : c ≤ n = afford c l n w h p.1 in
          let x : World = exception_bus_error (trigger t) (step begin_bus w) a wr i z (cause_number_of (cpu_of w)) in
          let d : Bill k Set 0 l (bus_cost k + (n - bus_cost k)) x = entry_bus_cost Set 0 (trigger t) (raises_in 0 t) (n - bus_cost k) (step begin_bus w) a wr i z (cause_number_of (cpu_of w)) (bus_kept k Either w p.0, begin_bus_lem c l 0 n (n - bus_cost k) w h (omega arith) p.1) in
          (close_bus_kept k x d.0, close_bus_books 0 l c n (bus_cost k + (n - bus_cost k)) x (omega arith) d.1)

  -- so a bus fault that can be paid for keeps the bill
  pub raises_bus : (c : ℕ) → bus_cost k ≤ c → (t : ℕ) → Raises (Bill k Either c l) (Safe k) (is_prefetch_kind k) (trigger (suc t)) (trigger (suc t))
  raises_bus c e t = raises_of Either c (trigger (suc t)) (λ n w a wr i z p. bus_cost_lem c e t n w a wr i z p)

  -- an address fault costs its entry and the bus fault, b, that it may raise
  address_cost_lem : (Exc : Bool → Type 0) (b c : ℕ) → own_cost k + b ≤ c → (t : ℕ) → Raises (Bill k Exc b l) (Safe k) (is_prefetch_kind k) (trigger t) (trigger t) → (n : ℕ) (w : World) (a : ℕ) (wr i : Bool) → Bill k Exc c l n w → Bill k Exc c l n (trigger (suc t) w (address_error a wr i))
  address_cost_lem Exc b c e t T n w a wr i p = address_ways (Bill k Exc c l n) t w a wr i p opened
    where
      opened : is_faulted (cpu_of w) ≡ false → Bill k Exc c l n (step keep_resume (exception_address_error (trigger t) (step begin_address w) a wr i))
      opened h =
          let r : c ≤ n = afford c l n w h p.1 in
          let x : World = exception_address_error (trigger t) (step begin_address w) a wr i in
          let d : Bill k Exc b l (own_cost k + (n - own_cost k)) x = entry_address_cost Exc b (trigger t) T (n - own_cost k) (step begin_address w) a wr i (address_kept k Exc w p.0, begin_address_lem c l b n (n - own_cost k) w h (omega arith) p.1) in
          (close_address_kept k Exc x d.0, close_address_books b l c n (own_cost k + (n - own_cost k)) x (omega arith) d.1)

  guard_bus : bus_cost k ≤ guard_cost k
  guard_bus = pick_one (λ x. bus_cost k ≤ x) (is_pre68020 k) (omega arith) (omega arith)

  guard_odd : is_pre68020 k ≡ true → own_cost k + bus_cost k ≤ guard_cost k
  guard_odd h = rw h (omega arith)

  -- a guarded access at any address
  pub raises_any : (t : ℕ) → Raises (Bill k Either (guard_cost k) l) Any (is_prefetch_kind k) (trigger (suc (suc t))) (trigger (suc (suc t)))
  raises_any t = record { fetching = λ n w p. fetching k Either n w p.0; bus = λ n w a wr i z p. (refl, bus_cost_lem (guard_cost k) guard_bus (suc t) n w a wr i z p); odd = λ n w a wr i p o h. (refl, address_cost_lem Either (bus_cost k) (guard_cost k) (guard_odd (refusing k (cpu_of w) (address_of (cpu_of w) a) p.0.same h).0) (suc t) (raises_bus (bus_cost k) (omega arith) t) n w (address_of (cpu_of w) a) wr i p); vector = λ n w v p. tt }

  under_odd : is_pre68020 k ≡ true → own_cost k + 0 ≤ under_cost k
  under_odd h = rw h (omega arith)

  -- the same while an entry is under way
  pub raises_set : (t : ℕ) → Raises (Bill k Set (under_cost k) l) Any (is_prefetch_kind k) (trigger (suc t)) (trigger (suc t))
  raises_set t = record { fetching = λ n w p. fetching k Set n w p.0; bus = λ n w a wr i z p. (refl, bus_free (under_cost k) (suc t) n w a wr i z p); odd = λ n w a wr i p o h. (refl, address_cost_lem Set 0 (under_cost k) (under_odd (refusing k (cpu_of w) (address_of (cpu_of w) a) p.0.same h).0) t (raises_in 0 t) n w (address_of (cpu_of w) a) wr i p); vector = λ n w v p. tt }

-- THE EVENTS OF A CALL, from a world without events, inside the domain, by the kind
module _ (w : World) (s : w.core.bus.events ≡ 0) (d : Domain w) where
  abbrev K : ℕ
  K = kind_of (cpu_of w)

  -- no event
  pub none : Written 0 w.log w
  unfolding replay spell
  none = record { es = []; few = omega arith; count = s; spells = record { count = s; log = refl }; log = λ h. refl }

  abbrev safe : Bill K Either (bus_cost K) w.log (suc (bus_cost K)) w
  safe = (inside w d, start (bus_cost K) w s)

  abbrev any : Bill K Either (guard_cost K) w.log (suc (guard_cost K)) w
  any = (inside w d, start (guard_cost K) w s)

  abbrev Tb : Raises (Bill K Either (bus_cost K) w.log) (Safe K) (is_prefetch_kind K) raised raised
  Tb = raises_bus K w.log (bus_cost K) (omega arith) 1

  -- a bus error entry that is called: its own events, a bus fault's, and the clocks that wait
  pub entry_bus_events : (a : ℕ) (wr i : Bool) (z cause : ℕ) → Written (1 + bus_cost K + bus_cost K) w.log (exception_bus_error raised w a wr i z cause)
  entry_bus_events a wr i z cause =
      let m = bus_most K in
      written (bus_cost K + suc (bus_cost K)) (1 + bus_cost K + bus_cost K) w.log (exception_bus_error raised w a wr i z cause) (omega arith) (omega arith)
      (entry_bus_cost K w.log Either (bus_cost K) raised Tb (suc (bus_cost K)) w a wr i z cause safe).1

  -- an address error entry that is called
  pub entry_address_events : (a : ℕ) (wr i : Bool) → Written (1 + address_cost K) w.log (exception_address_error raised w a wr i)
  entry_address_events a wr i =
      let m = address_cost_most K in
      written (own_cost K + suc (bus_cost K)) (1 + address_cost K) w.log (exception_address_error raised w a wr i) (omega arith) (omega arith)
      (entry_address_cost K w.log Either (bus_cost K) raised Tb (suc (bus_cost K)) w a wr i safe).1

  -- a bus fault that is raised
  pub bus_events : (a : ℕ) (wr i : Bool) (z : ℕ) → Written (1 + bus_cost K) w.log (raised w (bus_error a wr i z))
  bus_events a wr i z =
      let m = bus_most K in
      written (suc (bus_cost K)) (1 + bus_cost K) w.log (raised w (bus_error a wr i z)) (omega arith) (omega arith) (bus_cost_lem K w.log (bus_cost K) (omega arith) 1 (suc (bus_cost K)) w a wr i z safe).1

  -- an address fault that is raised
  pub address_events : (a : ℕ) (wr i : Bool) → Written (1 + address_cost K) w.log (raised w (address_error a wr i))
  address_events a wr i =
      let m = address_cost_most K in
      written (suc (address_cost K)) (1 + address_cost K) w.log (raised w (address_error a wr i)) (omega arith) (omega arith)
      (address_cost_lem K w.log Either (bus_cost K) (address_cost K) (omega arith) 1 (raises_bus K w.log (bus_cost K) (omega arith) 0) (suc (address_cost K)) w a wr i (inside w d, start (address_cost K) w s)).1

  -- a guarded read
  pub guard_read_events : (a : ℕ) (g : Bool) → Written (2 + guard_cost K) w.log (read_at raised w a g).after
  guard_read_events a g =
      let m = guard_cost_most K in
      written (suc (suc (guard_cost K))) (2 + guard_cost K) w.log (read_at raised w a g).after (omega arith) (omega arith)
      (guard_read_good (Bill K Either (guard_cost K) w.log) Any (is_prefetch_kind K) raised raised (bill_steps K Either (guard_cost K) w.log) (raises_any K w.log 0) (suc (guard_cost K)) w a g any tt).1.1

  -- a guarded write
  pub guard_write_events : (a : ℕ) (g : Bool) (v : ℕ) → Written (2 + guard_cost K) w.log (write_at raised w a g v)
  guard_write_events a g v =
      let m = guard_cost_most K in
      written (suc (suc (guard_cost K))) (2 + guard_cost K) w.log (write_at raised w a g v) (omega arith) (omega arith)
      (guard_write_good (Bill K Either (guard_cost K) w.log) Any (is_prefetch_kind K) raised raised (bill_steps K Either (guard_cost K) w.log) (raises_any K w.log 0) (suc (guard_cost K)) w a g v any tt).1.1

  -- a push of a field
  pub pushed_events : (f : Field) → Written (2 + guard_cost K) w.log (push_field raised w f)
  pushed_events f =
      let m = guard_cost_most K in
      let e : after_field f (suc (guard_cost K)) ≤ 2 + guard_cost K = pick_one (λ x. x ≤ 2 + guard_cost K) (is_counted f) (omega arith) (omega arith) in
      written (after_field f (suc (guard_cost K))) (2 + guard_cost K) w.log (push_field raised w f) e (omega arith)
      (pushed_good (Bill K Either (guard_cost K) w.log) Any (is_prefetch_kind K) raised raised (bill_steps K Either (guard_cost K) w.log) (raises_any K w.log 0) (suc (guard_cost K)) w f (λ h k n x p. tt) any).1.1

  -- the three writes of the short frame
  pub push_short_events : (pc sr : ℕ) → Written (4 + guard_cost K) w.log (push_exception_frame68000 raised w pc sr)
  push_short_events pc sr =
      let m = guard_cost_most K in
      written (suc (suc (suc (suc (guard_cost K))))) (4 + guard_cost K) w.log (push_exception_frame68000 raised w pc sr) (omega arith) (omega arith)
      (push_short_good (Bill K Either (guard_cost K) w.log) Any (is_prefetch_kind K) raised raised (bill_steps K Either (guard_cost K) w.log) (raises_any K w.log 0) (λ a. tt) (suc (guard_cost K)) w pc sr any).1.1

  -- the jump to a vector: the vector's address is even, so a bus fault at most
  pub jump_vector_events : (v : ℕ) → Written (3 + rate K + bus_cost K) w.log (jump_vector raised w v)
  jump_vector_events v =
      let m = bus_most K in
      let r = refills_sum (is_prefetch_kind K) (suc (suc (suc (bus_cost K)))) in
      written (refills (is_prefetch_kind K) (suc (suc (suc (bus_cost K))))) (3 + rate K + bus_cost K) w.log (jump_vector raised w v) (omega arith) (omega arith)
      (jump_good (Bill K Either (bus_cost K) w.log) (Safe K) (is_prefetch_kind K) raised raised (bill_steps K Either (bus_cost K) w.log) Tb (suc (bus_cost K)) w v safe).1.1

  -- the first word for the queue: nothing on the kinds without one
  pub prefetch_first_events : Written (pick (is_prefetch_kind K) (2 + bus_cost K) 0) w.log (prefetch_first raised w)
  unfolding prefetch_first
  prefetch_first_events = go (is_prefetch_kind K) refl
    where
      go : (b : Bool) → is_prefetch_kind K ≡ b → Written (pick b (2 + bus_cost K) 0) w.log (prefetch_first raised w)
      go true h =
          let m = bus_most K in
          written (more (is_prefetch_kind K) (suc (bus_cost K))) (2 + bus_cost K) w.log (prefetch_first raised w) (pick_one (λ x. x ≤ 2 + bus_cost K) (is_prefetch_kind K) (omega arith) (omega arith)) (omega arith)
          (prefetch_first_good (Bill K Either (bus_cost K) w.log) (Safe K) (is_prefetch_kind K) raised raised (bill_steps K Either (bus_cost K) w.log) Tb (suc (bus_cost K)) w safe).1.1
      go false h = rw (no_queue w h) none

  -- the second word for the queue: the same
  pub prefetch_second_events : Written (pick (is_prefetch_kind K) (2 + bus_cost K) 0) w.log (prefetch_second raised w)
  unfolding prefetch_second
  prefetch_second_events = go (is_prefetch_kind K) refl
    where
      go : (b : Bool) → is_prefetch_kind K ≡ b → Written (pick b (2 + bus_cost K) 0) w.log (prefetch_second raised w)
      go true h =
          let m = bus_most K in
          written (more (is_prefetch_kind K) (suc (bus_cost K))) (2 + bus_cost K) w.log (prefetch_second raised w) (pick_one (λ x. x ≤ 2 + bus_cost K) (is_prefetch_kind K) (omega arith) (omega arith)) (omega arith)
          (prefetch_second_good (Bill K Either (bus_cost K) w.log) (Safe K) (is_prefetch_kind K) raised raised (bill_steps K Either (bus_cost K) w.log) Tb (suc (bus_cost K)) w safe).1.1
      go false h = rw (no_queue w h) none

  -- an entry as data, of any frame and at any A7: its fields, the jump, and what a guarded access may raise
  pub entered_events : (f : Frame) (v m : ℕ) → 3 + rate K + guard_cost K + after_fields f f.count 0 ≤ m → m < 2 ^ 32 → Written m w.log (entered w f v)
  unfolding entered
  entered_events f v m h b =
      let e = after_sum f f.count (suc (guard_cost K)) in
      let r = refills_sum (is_prefetch_kind K) (suc (suc (after_fields f f.count (suc (guard_cost K))))) in
      written (refills (is_prefetch_kind K) (suc (suc (after_fields f f.count (suc (guard_cost K)))))) m w.log (entered w f v) (omega arith) b
      (frame_good (Bill K Either (guard_cost K) w.log) Any (is_prefetch_kind K) raised raised (bill_steps K Either (guard_cost K) w.log) (raises_any K w.log 0) (suc (guard_cost K)) w f v (λ h n x p. tt) any).1.1

  -- the same while an entry is under way
  pub underway_events : in_exception (cpu_of w) ≡ true → (f : Frame) (v m : ℕ) → 3 + rate K + under_cost K + after_fields f f.count 0 ≤ m → m < 2 ^ 32 → Written m w.log (entered w f v)
  unfolding entered
  underway_events u f v m h b =
      let e = after_sum f f.count (suc (under_cost K)) in
      let r = refills_sum (is_prefetch_kind K) (suc (suc (after_fields f f.count (suc (under_cost K))))) in
      written (refills (is_prefetch_kind K) (suc (suc (after_fields f f.count (suc (under_cost K)))))) m w.log (entered w f v) (omega arith) b
      (frame_good (Bill K Set (under_cost K) w.log) Any (is_prefetch_kind K) raised raised (bill_steps K Set (under_cost K) w.log) (raises_set K w.log 1) (suc (under_cost K)) w f v (λ h n x p. tt) (under w d u, start (under_cost K) w s)).1.1

-- THE EVENTS: no call makes more than its most
pub events : (c : Call) (w : World) → w.core.bus.events ≡ 0 → Domain w → Written (most_events c) w.log (run c w)
unfolding run most_events
events (reads a g) w s d = few_more (let e = guard_cost_most (kind_of (cpu_of w)) in omega arith) (guard_read_events w s d a g)
events (writes a g v) w s d = few_more (let e = guard_cost_most (kind_of (cpu_of w)) in omega arith) (guard_write_events w s d a g v)
events (pushes f) w s d = few_more (let e = guard_cost_most (kind_of (cpu_of w)) in omega arith) (pushed_events w s d f)
events (pushes_short pc sr) w s d = few_more (let e = guard_cost_most (kind_of (cpu_of w)) in omega arith) (push_short_events w s d pc sr)
events first w s d = few_more (queue_most (kind_of (cpu_of w))) (prefetch_first_events w s d)
events second w s d = few_more (queue_most (kind_of (cpu_of w))) (prefetch_second_events w s d)
events (jumps v) w s d = few_more (let e = bus_most (kind_of (cpu_of w)) in omega arith) (jump_vector_events w s d v)
events (bus_entry a wr i z cause) w s d = few_more (let e = bus_most (kind_of (cpu_of w)) in omega arith) (entry_bus_events w s d a wr i z cause)
events (address_entry a wr i) w s d = few_more (let e = address_cost_most (kind_of (cpu_of w)) in omega arith) (entry_address_events w s d a wr i)
events (raises (bus_error a wr i z)) w s d = few_more (let e = bus_most (kind_of (cpu_of w)) in omega arith) (bus_events w s d a wr i z)
events (raises (address_error a wr i)) w s d = few_more (let e = address_cost_most (kind_of (cpu_of w)) in omega arith) (address_events w s d a wr i)

-- so no call makes more than 61 events
pub events_61 : (c : Call) (w : World) → w.core.bus.events ≡ 0 → Domain w → Written 61 w.log (run c w)
events_61 c w s d = few_more (most_61 c) (events c w s d)

-- and 192 words hold them: the log is the words of the events and then what it held
pub events_log : (c : Call) (w : World) (s : w.core.bus.events ≡ 0) (d : Domain w) → 192 ≤ length w.log → (run c w).log ≡ spell (events_61 c w s d).es ++ drop (length (events_61 c w s d).es * 3) w.log
events_log c w s d h = (events_61 c w s d).log (omega arith)
