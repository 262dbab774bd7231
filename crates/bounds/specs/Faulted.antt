-- A trigger ends faulted, and what a faulted record still does.
use Rattle.std.specs.Prelude.{ℕ, zero, suc, ◌≡◌, Bool, true, false}
use Rattle.std.proofs.Math.Path.{refl}
use Rattle.std.proofs.Common.{sym, ◌∙◌, ap, arith, set-set}
use Rattle.std.proofs.lemmas.List.{set-get_or}
use Rattle.types.specs.Kinds.{either}
use Rattle.cpu.specs.declared.Cpu.{Cpu}
use Rattle.cpu.specs.Fields.{a7_of, set_a7, is_faulted, in_exception, cause_number_of, set_pc, halted, set_exception, set_wdata, start_vector, lower_a7, clear_fc_override}
use Rattle.status.specs.Status.{keep_resume, clear_trace}
use Rattle.status.specs.Banks.{enter_supervisor, set_sflag, restore_sp, put_s, backup_sp}
use Rattle.cpu.specs.Clocks.{set_clocks, clear_prefetch, first_word, second_word}
use Rattle.memory.specs.World.{World, reply, width_of, put_cpu, with_cpu, noted, stored, flush, release, raw_write, raw_read, cpu_of, step}
use Rattle.frames.specs.declared.Field.{Field}
use Rattle.frames.specs.declared.Frame.{Frame}
use Rattle.frames.specs.Frames.{field_at, bus_frame, address_frame, is_counted, is_raw}
use Rattle.steps.specs.Steps.{begin_bus, begin_address, enter_bus_error, close_bus}
use Rattle.access.specs.Access.{bus_error, address_error, Raise, read_at, write_at, stack_field, push_field, push_fields, push_frame, jump_vector, prefetch_first, prefetch_second, exception_address_error, exception_bus_error, raise_bus, raise_address, trigger, Fault}
use Rattle.bounds.specs.Skeleton.{Steps, Raises, pick_one, pick_when, flush_ways, write_ways, read_ways, clocks_ways, push_fields_good, jump_good, prefetch_first_good, prefetch_second_good, frame_good}

abbrev pub Faulted : World → Type 0
Faulted w = is_faulted (cpu_of w) ≡ true

halts : (w : World) → Faulted (step halted w)
unfolding is_faulted halted put_cpu
halts w = refl

closes : (w : World) → Faulted (step close_bus w)
unfolding is_faulted put_cpu set_exception keep_resume
closes w = refl

ends : (w : World) → Faulted (step keep_resume w)
unfolding is_faulted put_cpu keep_resume
ends w = refl

bus_ends : (w x : World) → Faulted x → Faulted (raise_bus w x)
unfolding raise_bus
bus_ends w x p = pick_when Faulted (is_faulted (cpu_of w)) (λ h. h) (λ h. pick_one Faulted (in_exception (cpu_of w)) (halts w) p)

address_ends : (w x : World) → Faulted x → Faulted (raise_address w x)
unfolding raise_address
address_ends w x p = pick_when Faulted (is_faulted (cpu_of w)) (λ h. h) (λ h. p)

-- after a trigger the record is faulted, at any level and from any world
pub trigger_faulted : (n : ℕ) (w : World) (q : Fault) → is_faulted (trigger n w q).core.cpu ≡ true
unfolding trigger
trigger_faulted zero w (bus_error a wr i z) = bus_ends w _ (halts w)
trigger_faulted (suc n) w (bus_error a wr i z) = bus_ends w _ (closes (exception_bus_error (trigger n) (step begin_bus w) a wr i z (cause_number_of (cpu_of w))))
trigger_faulted zero w (address_error a wr i) = address_ends w _ (halts w)
trigger_faulted (suc n) w (address_error a wr i) = address_ends w _ (ends (exception_address_error (trigger n) (step begin_address w) a wr i))

-- on a faulted record a trigger does nothing
pub trigger_none : (n : ℕ) (w : World) (q : Fault) → is_faulted w.core.cpu ≡ true → trigger n w q ≡ w
unfolding trigger raise_bus raise_address
trigger_none zero w (bus_error a wr i z) h = rw h
trigger_none (suc n) w (bus_error a wr i z) h = rw h
trigger_none zero w (address_error a wr i) h = rw h
trigger_none (suc n) w (address_error a wr i) h = rw h

lower_faulted : (c : Cpu) (v : ℕ) → is_faulted (lower_a7 c v) ≡ is_faulted c
unfolding is_faulted lower_a7 set_a7
lower_faulted c v = refl

-- a guarded write, a guarded read and a push of a field that is not raw, whatever raises
module _ (t : Raise) where
  -- a guarded write does nothing
  pub write_none : (w : World) (a : ℕ) (g : Bool) (v : ℕ) → is_faulted w.core.cpu ≡ true → write_at t w a g v ≡ w
  unfolding write_at
  write_none w a g v h = rw h

  -- a guarded read does nothing, fails, and reads 0
  pub read_none : (w : World) (a : ℕ) (g : Bool) → is_faulted w.core.cpu ≡ true → read_at t w a g ≡ reply w false 0
  unfolding read_at
  read_none w a g h = rw h

  stack_none : (w : World) (f : Field) → is_raw f ≡ false → Faulted w → stack_field t w f ≡ w
  unfolding stack_field
  stack_none w f r h = pick_one (λ x. x ≡ w) (is_counted f) refl (rw r (write_none w _ f.long f.value h))

  -- a push only lowers A7
  pub push_none : (w : World) (f : Field) → is_raw f ≡ false → is_faulted w.core.cpu ≡ true → push_field t w f ≡ with_cpu w (lower_a7 (cpu_of w) (width_of f.long))
  unfolding push_field put_cpu
  push_none w f r h = stack_none (with_cpu w (lower_a7 (cpu_of w) (width_of f.long))) f r (lower_faulted (cpu_of w) (width_of f.long) ∙ h)

-- whether one of the first k fields is pushed by a raw access
unfoldable pub any_raw : Frame → ℕ → Bool
any_raw f zero = false
any_raw f (suc k) = either (is_raw (field_at f k)) (any_raw f k)

-- A7 below the first k fields
unfoldable pub lowered : Cpu → Frame → ℕ → Cpu
lowered c f zero = c
lowered c f (suc k) = lowered (lower_a7 c (width_of (field_at f k).long)) f k

either_false : (a b : Bool) → either a b ≡ false → (a ≡ false) × (b ≡ false)
either_false false b h = (refl, h)
either_false true b h = let z : ◌≡◌ {A = ℕ} 0 1 = cc in absurd (omega arith)

set_a7_lem : (c : Cpu) → set_a7 c (a7_of c) ≡ c
unfolding set_a7 a7_of
set_a7_lem c = rw (set-get_or c.regs.dar 15 0)

set_twice : (c : Cpu) (v x : ℕ) → set_a7 (set_a7 c v) x ≡ set_a7 c x
unfolding set_a7
set_twice c v x = rw set-set

-- and lowering it is a store to A7 and nothing else
pub lowered_a7 : (c : Cpu) (f : Frame) (k : ℕ) → (v : ℕ) × (lowered c f k ≡ set_a7 c v)
unfolding lowered lower_a7
lowered_a7 c f zero = (a7_of c, sym (set_a7_lem c))
lowered_a7 c f (suc k) =
    let r = lowered_a7 (lower_a7 c (width_of (field_at f k).long)) f k in
    (r.0, r.1 ∙ set_twice c _ r.0)

-- a frame with no raw field, pushed on a faulted record: store, log and bus are as they were, and of the record only A7 is lowered
pub fields_none : (t : Raise) (w : World) (f : Frame) (k : ℕ) → any_raw f k ≡ false → is_faulted w.core.cpu ≡ true → push_fields t w f k ≡ with_cpu w (lowered (cpu_of w) f k)
unfolding push_fields lowered any_raw put_cpu
fields_none t w f zero r h = refl
fields_none t w f (suc k) r h =
    let x : World = with_cpu w (lower_a7 (cpu_of w) (width_of (field_at f k).long)) in
    let e = either_false (is_raw (field_at f k)) (any_raw f k) r in
    ap (λ y. push_fields t y f k) (push_none t w (field_at f k) e.0 h) ∙ fields_none t x f k e.1 (lower_faulted (cpu_of w) (width_of (field_at f k).long) ∙ h)

-- FAULTED IS KEPT, by the skeleton
abbrev Stays : ℕ → World → Type 0
Stays n w = Faulted w

flushes : (n : ℕ) (w : World) → Stays n w → Stays n (flush w)
unfolding is_faulted noted put_cpu set_clocks
flushes n w p = flush_ways Faulted w (λ h. p) p

writes : (n : ℕ) (w : World) (a : ℕ) (g : Bool) (v : ℕ) → Stays n w → Stays (suc n) (raw_write w a g v)
unfolding noted stored
writes n w a g v p = write_ways Faulted w a g v (λ s c x y. p)

reads : (n : ℕ) (w : World) (a : ℕ) (g : Bool) → Stays n w → Stays (suc n) (raw_read w a g)
unfolding noted
reads n w a g p = read_ways Faulted w a g (λ c x y. p)

steps : Steps Stays true
unfolding release noted lower_a7 set_a7 set_wdata start_vector set_pc clear_prefetch first_word second_word set_clocks put_cpu is_faulted
steps = record { weaken = λ n w p. p; flushes = flushes; lowers = λ n w g p. p; datum = λ n w v p. p; writes = writes; reads = reads; releases = λ n w p. p; starts = λ n w v p. p; goes = λ n w v p. p; drops = λ n w p. p; firsts = λ n w v p. p; seconds = λ n w v p. p; clocks = λ n w h p. clocks_ways Faulted w 2 (λ h. p) p }

raises : (n : ℕ) → Raises Stays (λ a. Unit {0}) true (trigger n) (trigger n)
raises n = record { fetching = λ m w p h. refl; bus = λ m w a wr i z p. (refl, trigger_faulted n w (bus_error a wr i z)); odd = λ m w a wr i p o h. (refl, trigger_faulted n w _); vector = λ m w v p. tt }

enter_faulted : (w : World) → Faulted w → Faulted (step enter_supervisor w)
unfolding put_cpu is_faulted enter_supervisor clear_trace set_sflag restore_sp put_s backup_sp
enter_faulted w p = p

enter_bus_faulted : (w : World) → Faulted w → Faulted (step enter_bus_error w)
unfolding put_cpu is_faulted enter_bus_error clear_fc_override enter_supervisor clear_trace set_sflag restore_sp put_s backup_sp
enter_bus_faulted w p = p

module _ (n : ℕ) (w : World) (h : is_faulted w.core.cpu ≡ true) where
  -- a faulted record stays so through the fields of any frame
  pub fields_faulted : (f : Frame) (k : ℕ) → is_faulted (push_fields (trigger n) w f k).core.cpu ≡ true
  fields_faulted f k = (push_fields_good Stays (λ a. Unit {0}) true (trigger n) (trigger n) steps (raises n) 0 w f k (λ g m x p. tt) h).1

  -- through the jump to a vector
  pub jump_faulted : (v : ℕ) → is_faulted (jump_vector (trigger n) w v).core.cpu ≡ true
  jump_faulted v = (jump_good Stays (λ a. Unit {0}) true (trigger n) (trigger n) steps (raises n) 0 w v h).1

  -- through the queue's first word
  pub first_faulted : is_faulted (prefetch_first (trigger n) w).core.cpu ≡ true
  first_faulted = (prefetch_first_good Stays (λ a. Unit {0}) true (trigger n) (trigger n) steps (raises n) 0 w h).1

  -- through the queue's second word
  pub second_faulted : is_faulted (prefetch_second (trigger n) w).core.cpu ≡ true
  second_faulted = (prefetch_second_good Stays (λ a. Unit {0}) true (trigger n) (trigger n) steps (raises n) 0 w h).1

  -- through an entry of any frame
  pub frame_faulted : (f : Frame) (v : ℕ) → is_faulted (jump_vector (trigger n) (push_frame (trigger n) w f) v).core.cpu ≡ true
  frame_faulted f v = (frame_good Stays (λ a. Unit {0}) true (trigger n) (trigger n) steps (raises n) 0 w f v (λ g m x p. tt) h).1

-- through an address error entry that is called
pub entry_address_faulted : (n : ℕ) (w : World) (a : ℕ) (wr i : Bool) → is_faulted w.core.cpu ≡ true → is_faulted (exception_address_error (trigger n) w a wr i).core.cpu ≡ true
unfolding exception_address_error
entry_address_faulted n w a wr i h = frame_faulted n (step enter_supervisor w) (enter_faulted w h) (address_frame (cpu_of w) a wr i) 3

-- through a bus error entry that is called
pub entry_bus_faulted : (n : ℕ) (w : World) (a : ℕ) (wr i : Bool) (z cause : ℕ) → is_faulted w.core.cpu ≡ true → is_faulted (exception_bus_error (trigger n) w a wr i z cause).core.cpu ≡ true
unfolding exception_bus_error
entry_bus_faulted n w a wr i z cause h = frame_faulted n (step enter_bus_error w) (enter_bus_faulted w h) (bus_frame (cpu_of w) a wr i z cause) 2
