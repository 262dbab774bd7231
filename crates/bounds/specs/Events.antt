-- How many events a call adds to an empty log, by the kind, and what the log says then.
use Rattle.std.specs.Prelude.{ℕ, zero, suc, ◌+◌, ◌≤◌, ◌≡◌, Bool, List, eqb}
use Rattle.std.proofs.Math.Path.{refl}
use Rattle.std.proofs.Math.Bool.{true, false}
use native.Mathlib.Omega.{arith}
use Rattle.types.specs.Kinds.{pick, either, is_pre68020, is_prefetch_kind, is040, is060}
use Rattle.cpu.specs.Fields.{kind_of, is_faulted, in_exception, cause_number_of, halted}
use Rattle.cpu.specs.Clocks.{prefetch_enabled}
use Rattle.memory.specs.World.{World, cpu_of, step}
use Rattle.frames.specs.declared.Field.{Field}
use Rattle.frames.specs.declared.Frame.{Frame}
use Rattle.frames.specs.Frames.{field_at, is_counted}
use Rattle.steps.specs.Steps.{begin_bus, begin_address, close_bus}
use Rattle.status.specs.Status.{keep_resume}
use Rattle.access.specs.Access.{bus_error, address_error, read_at, write_at, push_field, push_exception_frame68000, jump_vector, prefetch_first, prefetch_second, exception_address_error, exception_bus_error, raise_bus, raise_address, trigger, raised, Fault}
use Rattle.bounds.specs.Skeleton.{Steps, refills, after_field, after_fields, pick_one, pick_when, both_steps}
use Rattle.bounds.specs.ErrorFrames.{bus_writes, address_writes}
use Rattle.bounds.specs.Levels.{Kept, steps}
use Rattle.bounds.specs.Ledger.{Books, pay, books_steps, Written}

-- the events of the queue's refill; of a bus error entry; of an address error entry alone, and with the bus fault that it may
-- raise; and of what a guarded access may raise
abbrev pub rate : ℕ → ℕ
rate k = pick (is_prefetch_kind k) 3 0

abbrev pub bus_cost : ℕ → ℕ
bus_cost k = bus_writes k + 2 + rate k

abbrev pub own_cost : ℕ → ℕ
own_cost k = address_writes k + 2 + rate k

abbrev pub address_cost : ℕ → ℕ
address_cost k = own_cost k + bus_cost k

abbrev pub guard_cost : ℕ → ℕ
guard_cost k = pick (is_pre68020 k) (address_cost k) (bus_cost k)

-- while an entry is under way a bus fault halts, so only an address error entry costs
abbrev pub under_cost : ℕ → ℕ
under_cost k = pick (is_pre68020 k) (own_cost k) 0

-- what a refill comes to, as a sum
pub refills_sum : (q : Bool) (n : ℕ) → refills q n ≡ pick q 3 0 + n
refills_sum true n = omega arith
refills_sum false n = omega arith

-- what a run keeps, and its books
abbrev pub Bill : ℕ → (Bool → Type 0) → ℕ → List ℕ → ℕ → World → Type 0
Bill k Exc c l n w = Kept k Exc n w × Books c l n w

-- both are kept at each step
pub bill_steps : (k : ℕ) (Exc : Bool → Type 0) (c : ℕ) (l : List ℕ) → Steps (Bill k Exc c l) (is_prefetch_kind k)
bill_steps k Exc c l = both_steps (Kept k Exc) (Books c l) (is_prefetch_kind k) (steps k Exc) (books_steps c l (is_prefetch_kind k))

-- what costs less may cost more
pub more_bill : (k : ℕ) (Exc : Bool → Type 0) (c : ℕ) (l : List ℕ) {n m : ℕ} (w : World) → n ≤ m → Bill k Exc c l n w → Bill k Exc c l m w
more_bill k Exc c l w h p = (p.0, pay (omega arith) p.1)

-- the ways through a trigger, over any statement of the world that it comes to
module _ (R : World → Type 0) (t : ℕ) (w : World) (a : ℕ) (wr i : Bool) where
  pub bus_ways : (z : ℕ) → R w → R (step halted w) → (is_faulted (cpu_of w) ≡ false → R (step close_bus (exception_bus_error (trigger t) (step begin_bus w) a wr i z (cause_number_of (cpu_of w))))) → R (trigger (suc t) w (bus_error a wr i z))
  unfolding trigger raise_bus
  bus_ways z f g h = pick_when R (is_faulted (cpu_of w)) (λ x. f) (λ x. pick_one R (in_exception (cpu_of w)) g (h x))

  pub address_ways : R w → (is_faulted (cpu_of w) ≡ false → R (step keep_resume (exception_address_error (trigger t) (step begin_address w) a wr i))) → R (trigger (suc t) w (address_error a wr i))
  unfolding trigger raise_address
  address_ways f g = pick_when R (is_faulted (cpu_of w)) (λ x. f) g

-- the largest of the costs, over all kinds
module _ (k : ℕ) where
  -- a bus error frame and two refills
  pub bus_most : bus_writes k + (rate k + rate k) ≤ 28
  unfolding bus_writes is_pre68020 is_prefetch_kind
  bus_most = go (eqb k 1) (eqb k 2) (eqb k 10) (is060 k) (is040 k)
    where
      go : (a b c d e : Bool) → pick a 5 (pick (either a (either b c)) 8 (pick d 5 (pick e 18 28))) + (pick (either a b) 3 0 + pick (either a b) 3 0) ≤ 28
      go true b c d e = omega arith
      go false true c d e = omega arith
      go false false true d e = omega arith
      go false false false true e = omega arith
      go false false false false true = omega arith
      go false false false false false = omega arith

  -- both error frames and both refills: 22 where the kind refuses odd addresses, else 31
  pub address_most : address_writes k + bus_writes k + (rate k + rate k) ≤ pick (is_pre68020 k) 22 31
  unfolding bus_writes address_writes is_pre68020 is_prefetch_kind
  address_most = go (eqb k 1) (eqb k 2) (eqb k 10) (is060 k) (is040 k)
    where
      go : (a b c d e : Bool) → pick a 5 (pick (either a (either b c)) 8 (pick e 4 3)) + pick a 5 (pick (either a (either b c)) 8 (pick d 5 (pick e 18 28))) + (pick (either a b) 3 0 + pick (either a b) 3 0) ≤ pick (either a (either b c)) 22 31
      go true b c d e = omega arith
      go false true c d e = omega arith
      go false false true d e = omega arith
      go false false false true true = omega arith
      go false false false true false = omega arith
      go false false false false true = omega arith
      go false false false false false = omega arith

  -- an address fault: 35 at most
  pub address_cost_most : address_cost k ≤ 35
  address_cost_most = let h = address_most in let e : pick (is_pre68020 k) 22 31 ≤ 31 = pick_one (λ x. x ≤ 31) (is_pre68020 k) (omega arith) (omega arith) in omega arith

  -- what a guarded access may raise: 30 at most
  pub guard_cost_most : guard_cost k ≤ 30
  guard_cost_most = pick_when (λ x. x ≤ 30) (is_pre68020 k) (λ h. let e = rw h at address_most in omega arith) (λ h. let e = bus_most in omega arith)

  -- a word for the queue costs its access and a bus fault, on the kinds that have one
  pub queue_most : pick (is_prefetch_kind k) (2 + bus_cost k) 0 ≤ 15
  unfolding bus_writes is_pre68020 is_prefetch_kind
  queue_most = go (eqb k 1) (eqb k 2) (eqb k 10) (is060 k) (is040 k)
    where
      go : (a b c d e : Bool) → pick (either a b) (2 + (pick a 5 (pick (either a (either b c)) 8 (pick d 5 (pick e 18 28))) + 2 + pick (either a b) 3 0)) 0 ≤ 15
      go true b c d e = omega arith
      go false true c d e = omega arith
      go false false c d e = omega arith

pub after_sum : (f : Frame) (k n : ℕ) → after_fields f k n ≡ after_fields f k 0 + n
unfolding after_fields
after_sum f zero n = omega arith
after_sum f (suc k) n =
    let a = after_sum f k (after_field (field_at f k) n) in
    let b = after_sum f k (after_field (field_at f k) 0) in
    let e : after_field (field_at f k) n ≡ after_field (field_at f k) 0 + n = go (is_counted (field_at f k)) in
    omega arith
  where
    go : (b : Bool) → pick b n (suc n) ≡ pick b 0 1 + n
    go true = omega arith
    go false = omega arith

pub no_queue : (w : World) → is_prefetch_kind (kind_of (cpu_of w)) ≡ false → prefetch_enabled (cpu_of w) ≡ false
unfolding prefetch_enabled kind_of
no_queue w h = go (cpu_of w).queue.precise_bus h
  where
    go : (b : Bool) {r : Bool} → r ≡ false → pick b r false ≡ false
    go true e = e
    go false e = refl

-- what is said of fewer events is said of more
pub few_more : {n m : ℕ} {l : List ℕ} {w : World} → n ≤ m → Written n l w → Written m l w
few_more h p = record { es = p.es; few = let e = p.few in omega arith; count = p.count; spells = p.spells; log = λ k. p.log (omega arith) }

-- the calls of `access`
pub data Call : Type 0 where
  reads : ℕ → Bool → Call
  writes : ℕ → Bool → ℕ → Call
  pushes : Field → Call
  pushes_short : ℕ → ℕ → Call
  first : Call
  second : Call
  jumps : ℕ → Call
  bus_entry : ℕ → Bool → Bool → ℕ → ℕ → Call
  address_entry : ℕ → Bool → Bool → Call
  raises : Fault → Call

-- the world that a call comes to
unfoldable pub run : Call → World → World
run (reads a g) w = (read_at raised w a g).after
run (writes a g v) w = write_at raised w a g v
run (pushes f) w = push_field raised w f
run (pushes_short pc sr) w = push_exception_frame68000 raised w pc sr
run first w = prefetch_first raised w
run second w = prefetch_second raised w
run (jumps v) w = jump_vector raised w v
run (bus_entry a wr i z cause) w = exception_bus_error raised w a wr i z cause
run (address_entry a wr i) w = exception_address_error raised w a wr i
run (raises q) w = raised w q

-- the most that each makes, over all kinds
unfoldable pub most_events : Call → ℕ
most_events (reads a g) = 32
most_events (writes a g v) = 32
most_events (pushes f) = 32
most_events (pushes_short pc sr) = 34
most_events first = 15
most_events second = 15
most_events (jumps v) = 33
most_events (bus_entry a wr i z cause) = 61
most_events (address_entry a wr i) = 36
most_events (raises (bus_error a wr i z)) = 31
most_events (raises (address_error a wr i)) = 36

-- each of these is 61 at most
pub most_61 : (c : Call) → most_events c ≤ 61
unfolding most_events
most_61 (reads a g) = omega arith
most_61 (writes a g v) = omega arith
most_61 (pushes f) = omega arith
most_61 (pushes_short pc sr) = omega arith
most_61 first = omega arith
most_61 second = omega arith
most_61 (jumps v) = omega arith
most_61 (bus_entry a wr i z cause) = omega arith
most_61 (address_entry a wr i) = omega arith
most_61 (raises (bus_error a wr i z)) = omega arith
most_61 (raises (address_error a wr i)) = omega arith
