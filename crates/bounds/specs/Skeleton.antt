-- What every definition of `access` keeps, whatever is kept, of one run or of two runs that differ only in what raises a fault.
use Prim.Native.Nat.{ℕ, zero, suc, ◌+◌, ◌/◌, ◌%◌, ◌^◌}
use Rattle.std.specs.Prelude.{◌≡◌, Bool, List}
use Rattle.std.proofs.Math.Path.{refl}
use Rattle.std.proofs.Common.{◌∙◌, ap}
use Rattle.std.proofs.Math.Bool.{true, false}
use Rattle.types.specs.Kinds.{pick, either}
use Rattle.cpu.specs.Fields.{pc_of, a7_of, address_of, is_faulted, set_pc, set_wdata, start_vector, lower_a7, odd_pc}
use Rattle.cpu.specs.Clocks.{has_clocks, clocks_of, set_clocks, prefetch_enabled, one_fetched, internal_cycles, clear_prefetch, first_word, second_word}
use Rattle.memory.specs.World.{World, Attempt, reply, width_of, noted, stored, with_cpu, served, read_value, flush, release, raw_write, raw_read, try_write, try_read, cpu_of, step}
use Rattle.frames.specs.declared.Field.{Field}
use Rattle.frames.specs.declared.Frame.{Frame}
use Rattle.frames.specs.Frames.{field_at, is_counted, is_raw}
use Rattle.steps.specs.Steps.{refuses_odd, vector_address}
use Rattle.access.specs.Access.{bus_error, address_error, Raise, read_or, prefetch_read, kept_first, first_from, prefetch_first, kept_second, second_from, prefetch_second, checked_read, read_at, wrote, checked_write, write_at, stack_field, push_field, push_fields, push_frame, short_writes, push_exception_frame68000, vector_read, refill, jump_to, jump_vector}

-- the two runs come to one world, and it has P at the cost n
abbrev pub Good : (ℕ → World → Type 0) → ℕ → World → World → Type 0
Good P n x y = (x ≡ y) × P n x

abbrev pub GoodReply : (ℕ → World → Type 0) → ℕ → Attempt → Attempt → Type 0
GoodReply P n x y = (x ≡ y) × P n x.after

-- one more where the kind has a queue; and what the queue's refill costs: two words and the clocks between them
abbrev pub more : Bool → ℕ → ℕ
more q n = pick q (suc n) n

abbrev pub refills : Bool → ℕ → ℕ
refills q n = more q (more q (more q n))

-- a field costs one unless it is only counted
abbrev pub after_field : Field → ℕ → ℕ
after_field f n = pick (is_counted f) n (suc n)

unfoldable pub after_fields : Frame → ℕ → ℕ → ℕ
after_fields f zero n = n
after_fields f (suc k) n = after_fields f k (after_field (field_at f k) n)

-- whether one of the first k fields is pushed by a guarded access
abbrev pub is_guarded : Field → Bool
is_guarded f = pick (is_counted f) false (pick (is_raw f) false true)

unfoldable pub any_guarded : Frame → ℕ → Bool
any_guarded f zero = false
any_guarded f (suc k) = either (is_guarded (field_at f k)) (any_guarded f k)

-- what P keeps at each step that raises nothing, and what the step costs; `q` is whether the kind has a queue
pub record Steps (P : ℕ → World → Type 0) (q : Bool) : Type 0 where
  pub weaken : (n : ℕ) (w : World) → P n w → P (suc n) w
  pub flushes : (n : ℕ) (w : World) → P n w → P n (flush w)
  pub lowers : (n : ℕ) (w : World) (v : ℕ) → P n w → P n (with_cpu w (lower_a7 (cpu_of w) v))
  pub datum : (n : ℕ) (w : World) (v : ℕ) → P n w → P n (with_cpu w (set_wdata (cpu_of w) v))
  pub writes : (n : ℕ) (w : World) (a : ℕ) (g : Bool) (v : ℕ) → P n w → P (suc n) (raw_write w a g v)
  pub reads : (n : ℕ) (w : World) (a : ℕ) (g : Bool) → P n w → P (suc n) (raw_read w a g)
  pub releases : (n : ℕ) (w : World) → P n w → P (suc n) (release w)
  pub starts : (n : ℕ) (w : World) (v : ℕ) → P n w → P n (with_cpu w (start_vector (cpu_of w) v))
  pub goes : (n : ℕ) (w : World) (v : ℕ) → P n w → P n (with_cpu w (set_pc (cpu_of w) v))
  pub drops : (n : ℕ) (w : World) → P n w → P n (step clear_prefetch w)
  pub firsts : (n : ℕ) (w : World) (v : ℕ) → P n w → P n (with_cpu w (first_word (cpu_of w) v))
  pub seconds : (n : ℕ) (w : World) (v : ℕ) → P n w → P n (with_cpu w (second_word (cpu_of w) v))
  pub clocks : (n : ℕ) (w : World) → (prefetch_enabled (cpu_of w) ≡ true → q ≡ true) → P n w → P (more q n) (with_cpu w (internal_cycles (cpu_of w) 2))

-- the two ways to raise agree where P holds; `Ok` is what is known of an address that is pushed at or is a vector's
pub record Raises (P : ℕ → World → Type 0) (Ok : ℕ → Type 0) (q : Bool) (t u : Raise) : Type 0 where
  pub fetching : (n : ℕ) (w : World) → P n w → prefetch_enabled (cpu_of w) ≡ true → q ≡ true
  pub bus : (n : ℕ) (w : World) (a : ℕ) (wr i : Bool) (z : ℕ) → P n w → Good P n (t w (bus_error a wr i z)) (u w (bus_error a wr i z))
  pub odd : (n : ℕ) (w : World) (a : ℕ) (wr i : Bool) → P n w → Ok a → refuses_odd (cpu_of w) (address_of (cpu_of w) a) ≡ true → Good P n (t w (address_error (address_of (cpu_of w) a) wr i)) (u w (address_error (address_of (cpu_of w) a) wr i))
  pub vector : (n : ℕ) (w : World) (v : ℕ) → P n w → Ok (vector_address (cpu_of w) v)

-- a branch, of two runs
pub pick_if : {A : Type 0} (R : A → A → Type 0) (k : Bool) {a a' b b' : A} → (k ≡ true → R a a') → (k ≡ false → R b b') → R (pick k a b) (pick k a' b')
pick_if R true f g = f refl
pick_if R false f g = g refl

-- a branch that its cost follows
pub pick_dep : {A : Type 0} (R : Bool → A → A → Type 0) (k : Bool) {a a' b b' : A} → (k ≡ true → R true a a') → (k ≡ false → R false b b') → R k (pick k a b) (pick k a' b')
pick_dep R true f g = f refl
pick_dep R false f g = g refl

-- a branch, of one run
pub pick_one : {A : Type 0} (R : A → Type 0) (k : Bool) {a b : A} → R a → R b → R (pick k a b)
pick_one R true f g = f
pick_one R false f g = g

-- a branch and its test
pub pick_when : {A : Type 0} (R : A → Type 0) (k : Bool) {a b : A} → (k ≡ true → R a) → (k ≡ false → R b) → R (pick k a b)
pick_when R true f g = f refl
pick_when R false f g = g refl

-- what a flush and an access come to: at most one event, and a store
module _ (R : World → Type 0) (w : World) where
  -- a flush: one event or none
  pub flush_ways : (has_clocks (cpu_of w) ≡ true → R (noted (with_cpu w (set_clocks (cpu_of w) 0)) 5 0 (clocks_of (cpu_of w)))) → R w → R (flush w)
  unfolding flush
  flush_ways p q = pick_when R (has_clocks (cpu_of w)) p (λ h. q)

  -- a write: one event, and a store
  pub write_ways : (a : ℕ) (g : Bool) (v : ℕ) → ((s : List ℕ) (c x y : ℕ) → R (noted (stored w s) c x y)) → R (raw_write w a g v)
  unfolding raw_write stored
  write_ways a g v f = pick_one R (served w a g) (f _ _ a v) (f w.store _ a v)

  -- a read: one event
  pub read_ways : (a : ℕ) (g : Bool) → ((c x y : ℕ) → R (noted w c x y)) → R (raw_read w a g)
  unfolding raw_read
  read_ways a g f = f _ a (read_value w a g)

  -- clocks of internal processing: only where the queue is on
  pub clocks_ways : (v : ℕ) → (prefetch_enabled (cpu_of w) ≡ true → R (with_cpu w (set_clocks (cpu_of w) ((clocks_of (cpu_of w) + v) % 2 ^ 32)))) → R (with_cpu w (cpu_of w)) → R (with_cpu w (internal_cycles (cpu_of w) v))
  unfolding internal_cycles
  clocks_ways v p q = pick_when (λ c. R (with_cpu w c)) (prefetch_enabled (cpu_of w)) p (λ h. q)

-- a second step from the one world that the first came to
pub chain : (P : ℕ → World → Type 0) (n : ℕ) {A : Type 0} (f : A → World) {x y : A} {z : World} → x ≡ y → Good P n z (f x) → Good P n z (f y)
chain P n f e g = (g.0 ∙ ap f e, g.1)

module _ (P : ℕ → World → Type 0) (Ok : ℕ → Type 0) (q : Bool) (t u : Raise) (S : Steps P q) (T : Raises P Ok q t u) where
  -- what costs nothing may cost one
  idle : (b : Bool) (n : ℕ) (w : World) → P n w → P (more b n) w
  idle true n w p = S.weaken n w p
  idle false n w p = p

  fetched : (n : ℕ) {x y : World} → q ≡ true → Good P (suc n) x y → Good P (more q n) x y
  fetched n {x} {y} h g = rw h g

  wrote_good : (n : ℕ) (a : ℕ) (g : Bool) (x : Attempt) → P n x.after → Good P n (wrote t a g x) (wrote u a g x)
  unfolding wrote
  wrote_good n a g x p = pick_if (Good P n) x.ok (λ h. (refl, p)) (λ h. T.bus n x.after a true false (width_of g) p)

  checked_write_good : (n : ℕ) (w : World) (a : ℕ) (g : Bool) (v : ℕ) → P n w → Ok a → Good P (suc n) (checked_write t w (address_of (cpu_of w) a) g v) (checked_write u w (address_of (cpu_of w) a) g v)
  unfolding checked_write try_write
  checked_write_good n w a g v p o =
      pick_if (Good P (suc n)) (refuses_odd (cpu_of w) (address_of (cpu_of w) a)) (λ h. let r = T.odd n w a true false p o h in (r.0, S.weaken n _ r.1))
      (λ h. wrote_good (suc n) (address_of (cpu_of w) a) g _ (S.writes n _ (address_of (cpu_of w) a) g v (S.datum n w v p)))

  -- a guarded write
  pub guard_write_good : (n : ℕ) (w : World) (a : ℕ) (g : Bool) (v : ℕ) → P n w → Ok a → Good P (suc n) (write_at t w a g v) (write_at u w a g v)
  unfolding write_at
  guard_write_good n w a g v p o =
      pick_if (Good P (suc n)) (is_faulted (cpu_of w)) (λ h. (refl, S.weaken n w p)) (λ h. checked_write_good n (flush w) a g v (S.flushes n w p) o)

  stack_field_good : (n : ℕ) (w : World) (f : Field) → (is_counted f ≡ false → is_raw f ≡ false → Ok (a7_of (cpu_of w))) → P n w → Good P (after_field f n) (stack_field t w f) (stack_field u w f)
  unfolding stack_field
  stack_field_good n w f o p =
      pick_dep (λ b. Good P (pick b n (suc n))) (is_counted f) (λ h. (refl, p))
      (λ h. pick_if (Good P (suc n)) (is_raw f) (λ k. (refl, S.writes n w _ f.long f.value p)) (λ k. guard_write_good n w _ f.long f.value p (o h k)))

  -- a push of a field
  pub pushed_good : (n : ℕ) (w : World) (f : Field) → (is_counted f ≡ false → is_raw f ≡ false → (m : ℕ) (x : World) → P m x → Ok (a7_of (cpu_of x))) → P n w → Good P (after_field f n) (push_field t w f) (push_field u w f)
  unfolding push_field
  pushed_good n w f o p =
      let r = S.lowers n w (width_of f.long) p in
      stack_field_good n (with_cpu w (lower_a7 (cpu_of w) (width_of f.long))) f (λ h k. o h k n _ r) r

  -- the first k fields of a frame
  pub push_fields_good : (n : ℕ) (w : World) (f : Frame) (k : ℕ) → (any_guarded f k ≡ true → (m : ℕ) (x : World) → P m x → Ok (a7_of (cpu_of x))) → P n w → Good P (after_fields f k n) (push_fields t w f k) (push_fields u w f k)
  unfolding push_fields after_fields any_guarded
  push_fields_good n w f zero o p = (refl, p)
  push_fields_good n w f (suc k) o p =
      let g = pushed_good n w (field_at f k) (λ h r. o (rw (h, r))) p in
      chain P (after_fields f k (after_field (field_at f k) n)) (λ x. push_fields u x f k) g.0
      (push_fields_good (after_field (field_at f k) n) _ f k (λ h. o (right (is_guarded (field_at f k)) h)) g.1)
    where
      right : (b : Bool) {r : Bool} → r ≡ true → either b r ≡ true
      right true h = refl
      right false h = h

  -- all fields of a frame
  pub stacked_good : (n : ℕ) (w : World) (f : Frame) → (any_guarded f f.count ≡ true → (m : ℕ) (x : World) → P m x → Ok (a7_of (cpu_of x))) → P n w → Good P (after_fields f f.count n) (push_frame t w f) (push_frame u w f)
  unfolding push_frame
  stacked_good n w f o p = push_fields_good n w f f.count o p

  -- three guarded writes at any address
  pub short_writes_good : ((a : ℕ) → Ok a) → (n : ℕ) (w : World) (sp pc sr : ℕ) → P n w → Good P (suc (suc (suc n))) (short_writes t w sp pc sr) (short_writes u w sp pc sr)
  unfolding short_writes
  short_writes_good o n w sp pc sr p =
      let f = guard_write_good n w ((sp + 4) % 2 ^ 32) false (pc % 0x10000) p (o _) in
      let g = guard_write_good (suc n) _ sp false sr f.1 (o _) in
      let h = guard_write_good (suc (suc n)) _ ((sp + 2) % 2 ^ 32) false (pc / 0x10000) g.1 (o _) in
      chain P _ (λ x. write_at u (write_at u x sp false sr) ((sp + 2) % 2 ^ 32) false (pc / 0x10000)) f.0 (chain P _ (λ x. write_at u x ((sp + 2) % 2 ^ 32) false (pc / 0x10000)) g.0 h)

  -- the short frame
  pub push_short_good : ((a : ℕ) → Ok a) → (n : ℕ) (w : World) (pc sr : ℕ) → P n w → Good P (suc (suc (suc n))) (push_exception_frame68000 t w pc sr) (push_exception_frame68000 u w pc sr)
  unfolding push_exception_frame68000
  push_short_good o n w pc sr p = short_writes_good o n _ _ pc sr (S.lowers n w 6 p)

  read_or_good : (n : ℕ) (a : ℕ) (i : Bool) (z : ℕ) (x : Attempt) → P n x.after → GoodReply P n (read_or t a i z x) (read_or u a i z x)
  unfolding read_or
  read_or_good n a i z x p =
      pick_if (GoodReply P n) x.ok (λ h. (refl, p)) (λ h. let g = T.bus n x.after a false i z p in (ap (λ y. reply y false 0) g.0, g.1))

  checked_read_good : (n : ℕ) (w : World) (a : ℕ) (g : Bool) → P n w → Ok a → GoodReply P (suc n) (checked_read t w (address_of (cpu_of w) a) g) (checked_read u w (address_of (cpu_of w) a) g)
  unfolding checked_read try_read
  checked_read_good n w a g p o =
      pick_if (GoodReply P (suc n)) (refuses_odd (cpu_of w) (address_of (cpu_of w) a))
      (λ h. let r = T.odd n w a false false p o h in (ap (λ y. reply y false 0) r.0, S.weaken n _ r.1))
      (λ h. read_or_good (suc n) (address_of (cpu_of w) a) false (width_of g) _ (S.reads n w (address_of (cpu_of w) a) g p))

  -- a guarded read
  pub guard_read_good : (n : ℕ) (w : World) (a : ℕ) (g : Bool) → P n w → Ok a → GoodReply P (suc n) (read_at t w a g) (read_at u w a g)
  unfolding read_at
  guard_read_good n w a g p o =
      pick_if (GoodReply P (suc n)) (is_faulted (cpu_of w)) (λ h. (refl, S.weaken n w p)) (λ h. checked_read_good n (flush w) a g (S.flushes n w p) o)

  prefetch_read_good : (n : ℕ) (w : World) (a : ℕ) → P n w → GoodReply P (suc n) (prefetch_read t w a) (prefetch_read u w a)
  unfolding prefetch_read try_read
  prefetch_read_good n w a p = read_or_good (suc n) _ true 2 _ (S.reads n (flush w) _ false (S.flushes n w p))

  kept_first_good : (n : ℕ) (x : Attempt) → P n x.after → P n (kept_first x)
  unfolding kept_first
  kept_first_good n x p = pick_one (P n) x.ok (S.firsts n x.after _ p) p

  kept_second_good : (n : ℕ) (x : Attempt) → P n x.after → P n (kept_second x)
  unfolding kept_second
  kept_second_good n x p = pick_one (P n) x.ok (S.seconds n x.after _ p) p

  first_from_good : (n : ℕ) (w : World) → P n w → Good P (suc n) (first_from t w) (first_from u w)
  unfolding first_from
  first_from_good n w p =
      pick_if (Good P (suc n)) (odd_pc (cpu_of w)) (λ h. (refl, S.weaken n w p))
      (λ h. let g = prefetch_read_good n w (pc_of (cpu_of w)) p in (ap kept_first g.0, kept_first_good (suc n) _ g.1))

  -- the first word for the queue
  pub prefetch_first_good : (n : ℕ) (w : World) → P n w → Good P (more q n) (prefetch_first t w) (prefetch_first u w)
  unfolding prefetch_first
  prefetch_first_good n w p =
      pick_if (Good P (more q n)) (prefetch_enabled (cpu_of w)) (λ h. fetched n (T.fetching n w p h) (first_from_good n _ (S.drops n w p))) (λ h. (refl, idle q n w p))

  second_from_good : (n : ℕ) (w : World) → P n w → Good P (suc n) (second_from t w) (second_from u w)
  unfolding second_from
  second_from_good n w p =
      pick_if (Good P (suc n)) (odd_pc (cpu_of w)) (λ h. (refl, S.weaken n w p))
      (λ h. pick_if (Good P (suc n)) (is_faulted (cpu_of w)) (λ h. (refl, S.weaken n w p))
      (λ h. let g = prefetch_read_good n w ((pc_of (cpu_of w) + 2) % 2 ^ 32) p in (ap kept_second g.0, kept_second_good (suc n) _ g.1)))

  -- the second word
  pub prefetch_second_good : (n : ℕ) (w : World) → P n w → Good P (more q n) (prefetch_second t w) (prefetch_second u w)
  unfolding prefetch_second
  prefetch_second_good n w p =
      pick_if (Good P (more q n)) (prefetch_enabled (cpu_of w))
      (λ h. pick_if (Good P (more q n)) (one_fetched (cpu_of w)) (λ k. fetched n (T.fetching n w p h) (second_from_good n w p)) (λ k. (refl, idle q n w p)))
      (λ h. (refl, idle q n w p))

  refill_good : (n : ℕ) (w : World) → P n w → Good P (refills q n) (refill t w) (refill u w)
  unfolding refill
  refill_good n w p =
      let g = prefetch_first_good n w p in
      chain P (refills q n) (λ x. prefetch_second u (with_cpu x (internal_cycles (cpu_of x) 2))) g.0
      (prefetch_second_good (more q (more q n)) _ (S.clocks (more q n) _ (T.fetching (more q n) _ g.1) g.1))

  vector_read_good : (n : ℕ) (w : World) (v : ℕ) → P n w → GoodReply P (suc n) (vector_read t w v) (vector_read u w v)
  unfolding vector_read
  vector_read_good n w v p = guard_read_good n (with_cpu w (start_vector (cpu_of w) v)) _ true (S.starts n w v p) (T.vector n w v p)

  jump_to_good : (n : ℕ) (x : Attempt) → P n x.after → Good P (refills q n) (jump_to t x) (jump_to u x)
  unfolding jump_to
  jump_to_good n x p = refill_good n (with_cpu x.after (set_pc (cpu_of x.after) x.value)) (S.goes n x.after x.value p)

  -- the jump to a vector
  pub jump_good : (n : ℕ) (w : World) (v : ℕ) → P n w → Good P (refills q (suc (suc n))) (jump_vector t w v) (jump_vector u w v)
  unfolding jump_vector
  jump_good n w v p =
      let g = vector_read_good (suc n) (release w) v (S.releases n w p) in
      chain P (refills q (suc (suc n))) (λ x. jump_to u x) g.0 (jump_to_good (suc (suc n)) _ g.1)

  -- an entry: the frame's fields, and the jump
  pub frame_good : (n : ℕ) (w : World) (f : Frame) (v : ℕ) → (any_guarded f f.count ≡ true → (m : ℕ) (x : World) → P m x → Ok (a7_of (cpu_of x))) → P n w → Good P (refills q (suc (suc (after_fields f f.count n)))) (jump_vector t (push_frame t w f) v) (jump_vector u (push_frame u w f) v)
  frame_good n w f v o p =
      let g = stacked_good n w f o p in
      chain P _ (λ x. jump_vector u x v) g.0 (jump_good (after_fields f f.count n) _ v g.1)

-- two that are kept are kept together
pub both_steps : (P Q : ℕ → World → Type 0) (q : Bool) → Steps P q → Steps Q q → Steps (λ n w. P n w × Q n w) q
both_steps P Q q S T = record { weaken = λ n w p. (S.weaken n w p.0, T.weaken n w p.1); flushes = λ n w p. (S.flushes n w p.0, T.flushes n w p.1); lowers = λ n w g p. (S.lowers n w g p.0, T.lowers n w g p.1); datum = λ n w v p. (S.datum n w v p.0, T.datum n w v p.1); writes = λ n w a g v p. (S.writes n w a g v p.0, T.writes n w a g v p.1); reads = λ n w a g p. (S.reads n w a g p.0, T.reads n w a g p.1); releases = λ n w p. (S.releases n w p.0, T.releases n w p.1); starts = λ n w v p. (S.starts n w v p.0, T.starts n w v p.1); goes = λ n w v p. (S.goes n w v p.0, T.goes n w v p.1); drops = λ n w p. (S.drops n w p.0, T.drops n w p.1); firsts = λ n w v p. (S.firsts n w v p.0, T.firsts n w v p.1); seconds = λ n w v p. (S.seconds n w v p.0, T.seconds n w v p.1); clocks = λ n w h p. (S.clocks n w h p.0, T.clocks n w h p.1) }
