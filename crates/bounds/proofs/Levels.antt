-- Theorems about what specs/Levels defines, and what rests on them.
use Rattle.std.specs.Prelude.{ℕ, suc, ◌≡◌, Bool}
use Rattle.std.proofs.Math.Path.{refl}
use Rattle.std.proofs.Common.{sym, ◌∙◌, ap}
use Rattle.std.proofs.Math.Bool.{true}
use Rattle.types.specs.Kinds.{is_prefetch_kind}
use Rattle.cpu.specs.Fields.{kind_of, address_of, is_faulted, in_exception, cause_number_of}
use Rattle.status.specs.Status.{keep_resume}
use Rattle.memory.specs.World.{World, cpu_of, step}
use Rattle.frames.specs.declared.Field.{Field}
use Rattle.frames.specs.declared.Frame.{Frame}
use Rattle.steps.specs.Steps.{begin_bus, begin_address, close_bus}
use Rattle.access.specs.Access.{bus_error, address_error, Raise, read_at, write_at, push_field, push_fields, push_exception_frame68000, push_frame, jump_vector, prefetch_first, prefetch_second, exception_address_error, exception_bus_error, raise_bus, raise_address, trigger, entered, Fault}
use Rattle.bounds.specs.Skeleton.{Good, Raises, pick_if, pick_one, guard_read_good, guard_write_good, pushed_good, push_fields_good, stacked_good, push_short_good, jump_good, prefetch_first_good, prefetch_second_good, frame_good}
use Rattle.bounds.specs.Levels.{Domain, Safe, Kept, Any, Either, Set, inside, under, domain, refused, vector_safe, steps, fetching, halted_kept, address_kept, bus_kept, close_address_kept, entry_address_good, entry_bus_good, close_bus_kept, Unrolls, Halts, level_halts, level_unrolls}

module _ (k : ℕ) where
  -- the two ways to raise, from what they do at a bus fault: an address fault cannot be raised at a safe address
  pub raises_of : (Exc : Bool → Type 0) (t u : Raise) → ((w : World) (a : ℕ) (wr i : Bool) (z : ℕ) → Kept k Exc 0 w → Good (Kept k Exc) 0 (t w (bus_error a wr i z)) (u w (bus_error a wr i z))) → Raises (Kept k Exc) (Safe k) (is_prefetch_kind k) t u
  raises_of Exc t u f = record { fetching = fetching k Exc; bus = λ l w a wr i z p. f w a wr i z p; odd = λ l w a wr i p o h. absurd (refused k (cpu_of w) a p.same o h); vector = λ l w v p. vector_safe k (cpu_of w) v p.base }

  halts_good : (t u : Raise) → Halts t → Halts u → (w : World) (a : ℕ) (wr i : Bool) (z : ℕ) → Kept k Set 0 w → Good (Kept k Set) 0 (t w (bus_error a wr i z)) (u w (bus_error a wr i z))
  halts_good t u f g w a wr i z p =
      let e = f w a wr i z (domain k Set w p) p.state in
      (e ∙ sym (g w a wr i z (domain k Set w p) p.state), rw e (pick_one (Kept k Set 0) (is_faulted (cpu_of w)) p (halted_kept k Set w p)))

  -- class one: an entry is under way, and a bus fault halts
  pub raises_in : (t u : Raise) → Halts t → Halts u → Raises (Kept k Set) (Safe k) (is_prefetch_kind k) t u
  raises_in t u f g = raises_of Set t u (halts_good t u f g)

  closing : {x y : World} → Good (Kept k Set) 0 x y → Good (Kept k Either) 0 (step close_bus x) (step close_bus y)
  closing {x} {y} g = (ap (step close_bus) g.0, close_bus_kept k x g.1)

  ending : (Exc : Bool → Type 0) {x y : World} → Good (Kept k Exc) 0 x y → Good (Kept k Exc) 0 (step keep_resume x) (step keep_resume y)
  ending Exc {x} {y} g = (ap (step keep_resume) g.0, close_address_kept k Exc x g.1)

  bus_body : (v x : Raise) → Raises (Kept k Set) (Safe k) (is_prefetch_kind k) v x → (w : World) (a : ℕ) (wr i : Bool) (z cause : ℕ) → Kept k Either 0 w → Good (Kept k Either) 0 (raise_bus w (step close_bus (exception_bus_error v (step begin_bus w) a wr i z cause))) (raise_bus w (step close_bus (exception_bus_error x (step begin_bus w) a wr i z cause)))
  unfolding raise_bus
  bus_body v x T w a wr i z cause p =
      pick_if (Good (Kept k Either) 0) (is_faulted (cpu_of w)) (λ h. (refl, p))
      (λ h. pick_if (Good (Kept k Either) 0) (in_exception (cpu_of w)) (λ h. (refl, halted_kept k Either w p))
      (λ h. closing (entry_bus_good k Set v x T (step begin_bus w) a wr i z cause (bus_kept k Either w p))))

  address_body : (Exc : Bool → Type 0) (v x : Raise) → Raises (Kept k Exc) (Safe k) (is_prefetch_kind k) v x → (w : World) (a : ℕ) (wr i : Bool) → Kept k Exc 0 w → Good (Kept k Exc) 0 (raise_address w (step keep_resume (exception_address_error v (step begin_address w) a wr i))) (raise_address w (step keep_resume (exception_address_error x (step begin_address w) a wr i)))
  unfolding raise_address
  address_body Exc v x T w a wr i p =
      pick_if (Good (Kept k Exc) 0) (is_faulted (cpu_of w)) (λ h. (refl, p))
      (λ h. ending Exc (entry_address_good k Exc v x T (step begin_address w) a wr i (address_kept k Exc w p)))

  same : (Exc : Bool → Type 0) {x y a b : World} → a ≡ x → b ≡ y → Good (Kept k Exc) 0 x y → Good (Kept k Exc) 0 a b
  same Exc e f g = (e ∙ g.0 ∙ sym f, rw e g.1)

  module _ (t v u x : Raise) (s : Unrolls t v) (r : Unrolls u x) where
    -- class two: a bus fault anywhere; its entry is in class one
    pub bus_any : Raises (Kept k Set) (Safe k) (is_prefetch_kind k) v x → (w : World) (a : ℕ) (wr i : Bool) (z : ℕ) → Kept k Either 0 w → Good (Kept k Either) 0 (t w (bus_error a wr i z)) (u w (bus_error a wr i z))
    bus_any T w a wr i z p = let d = domain k Either w p in same Either (s.bus w a wr i z d) (r.bus w a wr i z d) (bus_body v x T w a wr i z (cause_number_of (cpu_of w)) p)

    -- so the two agree where only bus faults are raised
    pub raises_bus : Raises (Kept k Set) (Safe k) (is_prefetch_kind k) v x → Raises (Kept k Either) (Safe k) (is_prefetch_kind k) t u
    raises_bus T = raises_of Either t u (bus_any T)

    -- class three: an address fault anywhere; its entry raises bus faults only, which are in class two
    pub address_any : (Exc : Bool → Type 0) → Raises (Kept k Exc) (Safe k) (is_prefetch_kind k) v x → (w : World) (a : ℕ) (wr i : Bool) → Kept k Exc 0 w → Good (Kept k Exc) 0 (t w (address_error a wr i)) (u w (address_error a wr i))
    address_any Exc U w a wr i p = let d = domain k Exc w p in same Exc (s.address w a wr i d) (r.address w a wr i d) (address_body Exc v x U w a wr i p)

    -- so the two agree at any address
    pub raises_any : Raises (Kept k Set) (Safe k) (is_prefetch_kind k) v x → Raises (Kept k Either) (Safe k) (is_prefetch_kind k) v x → Raises (Kept k Either) Any (is_prefetch_kind k) t u
    raises_any T U = record { fetching = fetching k Either; bus = λ l w a wr i z p. bus_any T w a wr i z p; odd = λ l w a wr i p o h. address_any Either U w (address_of (cpu_of w) a) wr i p; vector = λ l w v p. tt }

  -- any two levels agree while an entry is under way
  pub level_in : (n m : ℕ) → Raises (Kept k Set) (Safe k) (is_prefetch_kind k) (trigger n) (trigger m)
  level_in n m = raises_in (trigger n) (trigger m) (level_halts n) (level_halts m)

  -- from one on they agree where only bus faults are raised
  pub level_bus : (n m : ℕ) → Raises (Kept k Either) (Safe k) (is_prefetch_kind k) (trigger (suc n)) (trigger (suc m))
  level_bus n m = raises_bus (trigger (suc n)) (trigger n) (trigger (suc m)) (trigger m) (level_unrolls n) (level_unrolls m) (level_in n m)

  -- from two on they agree at any address
  pub level_any : (n m : ℕ) → Raises (Kept k Either) Any (is_prefetch_kind k) (trigger (suc (suc n))) (trigger (suc (suc m)))
  level_any n m = raises_any (trigger (suc (suc n))) (trigger (suc n)) (trigger (suc (suc m))) (trigger (suc m)) (level_unrolls (suc n)) (level_unrolls (suc m)) (level_in (suc n) (suc m)) (level_bus n m)

  -- while an entry is under way, from one level on: a bus fault halts, and so does that of an address error entry
  pub level_set : (n m : ℕ) → Raises (Kept k Set) Any (is_prefetch_kind k) (trigger (suc n)) (trigger (suc m))
  level_set n m = record { fetching = fetching k Set; bus = λ l w a wr i z p. (level_in (suc n) (suc m)).bus l w a wr i z p; odd = λ l w a wr i p o h. address_any (trigger (suc n)) (trigger n) (trigger (suc m)) (trigger m) (level_unrolls n) (level_unrolls m) Set (level_in n m) w (address_of (cpu_of w) a) wr i p; vector = λ l w v p. tt }

-- THE LEVELS: two are enough for every trigger
pub levels : (n : ℕ) (w : World) (q : Fault) → Domain w → trigger (suc (suc n)) w q ≡ trigger 2 w q
levels n w (bus_error a wr i z) d = ((level_any (kind_of (cpu_of w)) n 0).bus 0 w a wr i z (inside w d)).0
levels n w (address_error a wr i) d =
    (address_any (kind_of (cpu_of w)) (trigger (suc (suc n))) (trigger (suc n)) (trigger 2) (trigger 1) (level_unrolls (suc n)) (level_unrolls 1) Either (level_bus (kind_of (cpu_of w)) n 0) w a wr i (inside w d)).0

-- and for every definition over a trigger
module _ (n : ℕ) (w : World) (d : Domain w) where
  abbrev K : ℕ → World → Type 0
  K = Kept (kind_of (cpu_of w)) Either

  abbrev Q : Bool
  Q = is_prefetch_kind (kind_of (cpu_of w))

  -- a guarded read
  pub guard_read_levels : (a : ℕ) (g : Bool) → read_at (trigger (suc (suc n))) w a g ≡ read_at (trigger 2) w a g
  guard_read_levels a g = (guard_read_good K Any Q (trigger (suc (suc n))) (trigger 2) (steps (kind_of (cpu_of w)) Either) (level_any (kind_of (cpu_of w)) n 0) 0 w a g (inside w d) tt).0

  -- a guarded write
  pub guard_write_levels : (a : ℕ) (g : Bool) (v : ℕ) → write_at (trigger (suc (suc n))) w a g v ≡ write_at (trigger 2) w a g v
  guard_write_levels a g v = (guard_write_good K Any Q (trigger (suc (suc n))) (trigger 2) (steps (kind_of (cpu_of w)) Either) (level_any (kind_of (cpu_of w)) n 0) 0 w a g v (inside w d) tt).0

  -- a push
  pub pushed_levels : (f : Field) → push_field (trigger (suc (suc n))) w f ≡ push_field (trigger 2) w f
  pushed_levels f = (pushed_good K Any Q (trigger (suc (suc n))) (trigger 2) (steps (kind_of (cpu_of w)) Either) (level_any (kind_of (cpu_of w)) n 0) 0 w f (λ h k m x p. tt) (inside w d)).0

  -- some fields of a frame
  pub push_fields_levels : (f : Frame) (j : ℕ) → push_fields (trigger (suc (suc n))) w f j ≡ push_fields (trigger 2) w f j
  push_fields_levels f j = (push_fields_good K Any Q (trigger (suc (suc n))) (trigger 2) (steps (kind_of (cpu_of w)) Either) (level_any (kind_of (cpu_of w)) n 0) 0 w f j (λ h m x p. tt) (inside w d)).0

  -- all fields of a frame
  pub stacked_levels : (f : Frame) → push_frame (trigger (suc (suc n))) w f ≡ push_frame (trigger 2) w f
  stacked_levels f = (stacked_good K Any Q (trigger (suc (suc n))) (trigger 2) (steps (kind_of (cpu_of w)) Either) (level_any (kind_of (cpu_of w)) n 0) 0 w f (λ h m x p. tt) (inside w d)).0

  -- the short frame
  pub push_short_levels : (pc sr : ℕ) → push_exception_frame68000 (trigger (suc (suc n))) w pc sr ≡ push_exception_frame68000 (trigger 2) w pc sr
  push_short_levels pc sr = (push_short_good K Any Q (trigger (suc (suc n))) (trigger 2) (steps (kind_of (cpu_of w)) Either) (level_any (kind_of (cpu_of w)) n 0) (λ a. tt) 0 w pc sr (inside w d)).0

  -- the first word for the queue
  pub prefetch_first_levels : prefetch_first (trigger (suc (suc n))) w ≡ prefetch_first (trigger 2) w
  prefetch_first_levels = (prefetch_first_good K Any Q (trigger (suc (suc n))) (trigger 2) (steps (kind_of (cpu_of w)) Either) (level_any (kind_of (cpu_of w)) n 0) 0 w (inside w d)).0

  -- the second word
  pub prefetch_second_levels : prefetch_second (trigger (suc (suc n))) w ≡ prefetch_second (trigger 2) w
  prefetch_second_levels = (prefetch_second_good K Any Q (trigger (suc (suc n))) (trigger 2) (steps (kind_of (cpu_of w)) Either) (level_any (kind_of (cpu_of w)) n 0) 0 w (inside w d)).0

  -- the jump to a vector
  pub jump_vector_levels : (v : ℕ) → jump_vector (trigger (suc (suc n))) w v ≡ jump_vector (trigger 2) w v
  jump_vector_levels v = (jump_good K Any Q (trigger (suc (suc n))) (trigger 2) (steps (kind_of (cpu_of w)) Either) (level_any (kind_of (cpu_of w)) n 0) 0 w v (inside w d)).0

  -- an entry as data, at any A7
  pub entered_levels : (f : Frame) (v : ℕ) → jump_vector (trigger (suc (suc n))) (push_frame (trigger (suc (suc n))) w f) v ≡ entered w f v
  unfolding entered
  entered_levels f v = (frame_good K Any Q (trigger (suc (suc n))) (trigger 2) (steps (kind_of (cpu_of w)) Either) (level_any (kind_of (cpu_of w)) n 0) 0 w f v (λ h m x p. tt) (inside w d)).0

  -- a bus error entry that is called: one level is enough
  pub entry_bus_level : (a : ℕ) (wr i : Bool) (z cause : ℕ) → exception_bus_error (trigger (suc n)) w a wr i z cause ≡ exception_bus_error (trigger 1) w a wr i z cause
  entry_bus_level a wr i z cause = (entry_bus_good (kind_of (cpu_of w)) Either (trigger (suc n)) (trigger 1) (level_bus (kind_of (cpu_of w)) n 0) w a wr i z cause (inside w d)).0

  -- an address error entry that is called: the same
  pub entry_address_level : (a : ℕ) (wr i : Bool) → exception_address_error (trigger (suc n)) w a wr i ≡ exception_address_error (trigger 1) w a wr i
  entry_address_level a wr i = (entry_address_good (kind_of (cpu_of w)) Either (trigger (suc n)) (trigger 1) (level_bus (kind_of (cpu_of w)) n 0) w a wr i (inside w d)).0

module _ (n : ℕ) (w : World) (d : Domain w) where
  -- so more than two levels change no bus error entry
  pub entry_bus_levels : (a : ℕ) (wr i : Bool) (z cause : ℕ) → exception_bus_error (trigger (suc (suc n))) w a wr i z cause ≡ exception_bus_error (trigger 2) w a wr i z cause
  entry_bus_levels a wr i z cause = entry_bus_level (suc n) w d a wr i z cause ∙ sym (entry_bus_level 1 w d a wr i z cause)

  -- nor an address error entry
  pub entry_address_levels : (a : ℕ) (wr i : Bool) → exception_address_error (trigger (suc (suc n))) w a wr i ≡ exception_address_error (trigger 2) w a wr i
  entry_address_levels a wr i = entry_address_level (suc n) w d a wr i ∙ sym (entry_address_level 1 w d a wr i)

-- an entry as data, at any A7, while an entry is under way: one level is enough
pub underway_level : (n : ℕ) (w : World) → Domain w → in_exception (cpu_of w) ≡ true → (f : Frame) (v : ℕ) → jump_vector (trigger (suc n)) (push_frame (trigger (suc n)) w f) v ≡ jump_vector (trigger 1) (push_frame (trigger 1) w f) v
underway_level n w d h f v = (frame_good (Kept (kind_of (cpu_of w)) Set) Any (is_prefetch_kind (kind_of (cpu_of w))) (trigger (suc n)) (trigger 1) (steps (kind_of (cpu_of w)) Set) (level_set (kind_of (cpu_of w)) n 0) 0 w f v (λ h m x p. tt) (under w d h)).0
