-- From a `kind` on a session prints what one prints that has just started. The log is not cleared by it; so every definition that a
-- command goes through is run with a log and without, and comes to the same.
use Prim.Native.Nat.{ℕ, zero, suc, ◌+◌, ◌/◌, ◌%◌, ◌^◌}
use Rattle.std.specs.Prelude.{Option, Some, None, ◌≡◌, refl, Bool, List, [], ◌∷◌, ◌++◌, eqb, length}
use Rattle.std.proofs.Common.{sym, ap, ◌∙◌, append-nil}
use Rattle.std.proofs.Math.Bool.{true, false}
use Rattle.std.proofs.lemmas.List.{length-replicate}
use Rattle.types.specs.Kinds.{pick, is_ec020_plus, is060}
use Rattle.types.specs.Vectors.{bus_error_vector, address_error_vector, trap_base}
use Rattle.types.specs.Tables.{exception_cycles}
use Rattle.cpu.specs.declared.Cpu.{Cpu}
use Rattle.cpu.specs.Fields.{kind_of, pc_of, a7_of, address_of, is_faulted, in_exception, set_exception, cause_number_of, halted, set_pc, set_wdata, start_vector, lower_a7, odd_pc}
use Rattle.cpu.specs.Clocks.{has_clocks, clocks_of, set_clocks, prefetch_enabled, one_fetched, internal_cycles, clear_prefetch, first_word, second_word}
use Rattle.status.specs.Status.{get_sr, keep_resume, clear_m, m_is_set}
use Rattle.status.specs.Banks.{enter_supervisor, set_sm_flag}
use Rattle.memory.specs.declared.Bus.{Bus}
use Rattle.memory.specs.Bytes.{put_long}
use Rattle.memory.proofs.ByteLaws.{put_length}
use Rattle.memory.specs.Served.{served_of, place_of}
use Rattle.memory.proofs.LogLaws.{note_length}
use Rattle.memory.proofs.AccessLaws.{write_length}
use Rattle.memory.specs.World.{World, world, Attempt, reply, with_cpu, cpu_of, step, width_of, noted, stored, served, written, fetched, read_value, flush, release, raw_write, raw_read, try_write, try_read, response_of, acknowledged, poke_long}
use Rattle.pending.specs.Interrupts.{pending_level, takes_interrupt, clear_level}
use Rattle.frames.specs.declared.Field.{Field}
use Rattle.frames.specs.declared.Frame.{Frame}
use Rattle.frames.specs.Frames.{field_at, bus_frame, address_frame, is_counted, is_raw}
use Rattle.refusals.specs.Refusals.{refusal_of}
use Rattle.steps.specs.Steps.{refuses_odd, vector_address, stacked_address, begin_entry, begin_bus, begin_address, close_bus, enter_bus_error, iack_vector, enter_level, close_interrupt, with_s}
use Rattle.access.specs.Access.{Fault, bus_error, address_error, Raise, read_or, prefetch_read, kept_first, first_from, prefetch_first, kept_second, second_from, prefetch_second, checked_read, read_at, wrote, checked_write, write_at, stack_field, push_field, push_fields, short_writes, push_exception_frame68000, vector_read, refill, jump_to, jump_vector, push_frame, exception_address_error, exception_bus_error, raise_bus, raise_address, trigger, raised}
use Rattle.formats.specs.Formats.{format_word, offset_word, short_frame}
use Rattle.exceptions.specs.Exceptions.{Entry, entry, supervised, stack_short, finished as finished_entry, taken, take_exception, trap}
use Rattle.interrupts.specs.Interrupts.{vector_from, acknowledge_level, synced_acknowledge, rest68000, from68000, push_interrupt68000, writes68010, rest68010, push_interrupt68010, rest_other, push_interrupt_other, first_frame, throwaway, second_frame, ended, dispatched, service_interrupt, serviced, check_and_service}
use Rattle.answers.specs.declared.Call.{Call}
use Rattle.answers.specs.declared.Call.TheVariants.{TakeException, Trap, SetIrq, CheckAndServiceInterrupts}
use Rattle.answers.specs.Answer.{Refused}
use Rattle.answers.specs.Matters.{matter_of}
use Rattle.answers.specs.Answers.{Performed, answered, cycles, flag, plain, of_entry, of_service}
use Rattle.calls.specs.Calls.{run, begun, refusal, perform}
use Rattle.lines.specs.declared.Command.{Command}
use Rattle.lines.specs.declared.Command.TheVariants as command
use Rattle.sessions.specs.Sessions.{Session, session, say, cleared, answer_told, entered, interrupted, returned, act, step as line}
use Rattle.sessions.specs.Printed.{in_front, lines_of, steps}

-- ---- runs that differ in the log

-- a world without its log
abbrev bare : World → World
bare w = world w.core w.store []

abbrev bare_try : Attempt → Attempt
bare_try x = reply (bare x.after) x.ok x.value

-- of two runs, with a log and without: they come to the same but for the log, and the first has a store of n bytes and a log of k words
pub record Tied {A : Type 0} (at : A → World) (bared : A → A) (n k : ℕ) (a b : A) : Type 0 where
  pub blind : bared a ≡ bared b
  pub stores : length (at a).store ≡ n
  pub logs : length (at a).log ≡ k

abbrev itself : World → World
itself w = w

abbrev after_try : Attempt → World
after_try x = x.after

abbrev Worlds : World → World → World → Type 0
Worlds w a b = Tied itself bare (length w.store) (length w.log) a b

abbrev Tries : World → Attempt → Attempt → Type 0
Tries w x y = Tied after_try bare_try (length w.store) (length w.log) x y

-- what is so of each of two steps is so of one after the other
join : {A B : Type 0} (at : A → World) (bared : A → A) (to : B → World) (bared_to : B → B) (g : A → B) →
    ((a : A) → Tied to bared_to (length (at a).store) (length (at a).log) (g a) (g (bared a))) →
    (w : World) (a b : A) → Tied at bared (length w.store) (length w.log) a b → Tied to bared_to (length w.store) (length w.log) (g a) (g b)
join at bared to bared_to g h w a b e =
    record {
      blind = (h a).blind ∙ ap (λ x. bared_to (g x)) e.blind ∙ sym (h b).blind;
      stores = (h a).stores ∙ e.stores;
      logs = (h a).logs ∙ e.logs;
    }

-- w for a world, t for an access that was tried: from, to
abbrev join_ww : (g : World → World) → ((a : World) → Worlds a (g a) (g (bare a))) → (w a b : World) → Worlds w a b → Worlds w (g a) (g b)
join_ww = join itself bare itself bare

abbrev join_wt : (g : World → Attempt) → ((a : World) → Tries a (g a) (g (bare a))) → (w a b : World) → Worlds w a b → Tries w (g a) (g b)
join_wt = join itself bare after_try bare_try

abbrev join_tw : (g : Attempt → World) → ((x : Attempt) → Worlds x.after (g x) (g (bare_try x))) → (w : World) (a b : Attempt) → Tries w a b → Worlds w (g a) (g b)
join_tw = join after_try bare_try itself bare

abbrev join_tt : (g : Attempt → Attempt) → ((x : Attempt) → Tries x.after (g x) (g (bare_try x))) → (w : World) (a b : Attempt) → Tries w a b → Tries w (g a) (g b)
join_tt = join after_try bare_try after_try bare_try

same : (w : World) → Worlds w w (bare w)
same w = record { blind = refl; stores = refl; logs = refl }

same_try : (x : Attempt) → Tries x.after x (bare_try x)
same_try x = record { blind = refl; stores = refl; logs = refl }

stepped : (f : Cpu → Cpu) (w : World) → Worlds w (step f w) (step f (bare w))
stepped f w = record { blind = refl; stores = refl; logs = refl }

replied : (w a b : World) (ok : Bool) (v : ℕ) → Worlds w a b → Tries w (reply a ok v) (reply b ok v)
replied w a b ok v e = record { blind = ap (λ (x : World). reply x ok v) e.blind; stores = e.stores; logs = e.logs }

pick_w : (t : Bool) (w a b c d : World) → Worlds w a b → Worlds w c d → Worlds w (pick t a c) (pick t b d)
pick_w true w a b c d e f = e
pick_w false w a b c d e f = f

pick_t : (t : Bool) (w : World) (a b c d : Attempt) → Tries w a b → Tries w c d → Tries w (pick t a c) (pick t b d)
pick_t true w a b c d e f = e
pick_t false w a b c d e f = f

-- ---- memory

note : (c a v : ℕ) (w : World) → Worlds w (noted w c a v) (noted (bare w) c a v)
unfolding noted
note c a v w = record { blind = refl; stores = refl; logs = note_length w.core.bus.events w.log c a v }

flushed : (w : World) → Worlds w (flush w) (flush (bare w))
unfolding flush
flushed w = pick_w (has_clocks (cpu_of w)) w _ _ _ _ (note 5 0 (clocks_of (cpu_of w)) (with_cpu w (set_clocks (cpu_of w) 0))) (same w)

releases : (w : World) → Worlds w (release w) (release (bare w))
unfolding release
releases w = note 7 0 0 w

write_log : (a : ℕ) (g : Bool) (v : ℕ) (w : World) → length (raw_write w a g v).log ≡ length w.log
unfolding raw_write noted stored
write_log a g v w = go (served w a g)
  where
    go : (t : Bool) → length (pick t (noted (stored w (written w a g v)) (pick g 4 3) a v) (noted w (pick g 20 19) a v)).log ≡ length w.log
    go true = note_length w.core.bus.events w.log (pick g 4 3) a v
    go false = note_length w.core.bus.events w.log (pick g 20 19) a v

raw_write_lem : (a : ℕ) (g : Bool) (v : ℕ) (w : World) → Worlds w (raw_write w a g v) (raw_write (bare w) a g v)
unfolding raw_write noted stored served written
raw_write_lem a g v w =
    record {
      blind = go (served w a g);
      stores = write_length w a g v;
      logs = write_log a g v w;
    }
  where
    go : (t : Bool) →
        bare (pick t (noted (stored w (written w a g v)) (pick g 4 3) a v) (noted w (pick g 20 19) a v))
        ≡ bare (pick t (noted (stored (bare w) (written w a g v)) (pick g 4 3) a v) (noted (bare w) (pick g 20 19) a v))
    go true = refl
    go false = refl

try_write_lem : (a : ℕ) (g : Bool) (v : ℕ) (w : World) → Tries w (try_write w a g v) (try_write (bare w) a g v)
unfolding try_write served
try_write_lem a g v w = replied w _ _ (served w a g) 0 (raw_write_lem a g v w)

try_read_lem : (a : ℕ) (g : Bool) (w : World) → Tries w (try_read w a g) (try_read (bare w) a g)
unfolding try_read raw_read read_value served fetched
try_read_lem a g w =
    replied w _ _ (served w a g) (read_value w a g) (note (pick (served w a g) (pick g 2 1) (pick g 18 17)) a (read_value w a g) w)

-- ---- access, with what raises a fault

-- what raises a fault is tied too
abbrev Raises : Raise → Type 0
Raises t = (f : Fault) (w : World) → Worlds w (t w f) (t (bare w) f)

module _ (t : Raise) (h : Raises t) where
  read_or_lem : (a : ℕ) (i : Bool) (z : ℕ) (x : Attempt) → Tries x.after (read_or t a i z x) (read_or t a i z (bare_try x))
  unfolding read_or
  read_or_lem a i z x = pick_t x.ok x.after _ _ _ _ (same_try x) (replied x.after _ _ false 0 (h (bus_error a false i z) x.after))

  word_read : (a : ℕ) (w : World) →
      Tries w (read_or t (address_of (cpu_of w) a) true 2 (try_read w (address_of (cpu_of w) a) false))
      (read_or t (address_of (cpu_of w) a) true 2 (try_read (bare w) (address_of (cpu_of w) a) false))
  word_read a w =
      join_tt (λ x. read_or t (address_of (cpu_of w) a) true 2 x) (read_or_lem (address_of (cpu_of w) a) true 2) w _ _ (try_read_lem (address_of (cpu_of w) a) false w)

  prefetch_read_lem : (a : ℕ) (w : World) → Tries w (prefetch_read t w a) (prefetch_read t (bare w) a)
  unfolding prefetch_read
  prefetch_read_lem a w =
      join_wt (λ x. read_or t (address_of (cpu_of x) a) true 2 (try_read x (address_of (cpu_of x) a) false)) (word_read a) w _ _ (flushed w)

  kept_first_lem : (x : Attempt) → Worlds x.after (kept_first x) (kept_first (bare_try x))
  unfolding kept_first
  kept_first_lem x = pick_w x.ok x.after _ _ _ _ (stepped (λ c. first_word c (x.value % 0x10000)) x.after) (same x.after)

  kept_second_lem : (x : Attempt) → Worlds x.after (kept_second x) (kept_second (bare_try x))
  unfolding kept_second
  kept_second_lem x = pick_w x.ok x.after _ _ _ _ (stepped (λ c. second_word c (x.value % 0x10000)) x.after) (same x.after)

  first_from_lem : (w : World) → Worlds w (first_from t w) (first_from t (bare w))
  unfolding first_from
  first_from_lem w = pick_w (odd_pc (cpu_of w)) w _ _ _ _ (same w) (join_tw kept_first kept_first_lem w _ _ (prefetch_read_lem (pc_of (cpu_of w)) w))

  prefetch_first_lem : (w : World) → Worlds w (prefetch_first t w) (prefetch_first t (bare w))
  unfolding prefetch_first
  prefetch_first_lem w = pick_w (prefetch_enabled (cpu_of w)) w _ _ _ _ (first_from_lem (step clear_prefetch w)) (same w)

  second_from_lem : (w : World) → Worlds w (second_from t w) (second_from t (bare w))
  unfolding second_from
  second_from_lem w =
      pick_w (odd_pc (cpu_of w)) w _ _ _ _ (same w)
      (pick_w (is_faulted (cpu_of w)) w _ _ _ _ (same w) (join_tw kept_second kept_second_lem w _ _ (prefetch_read_lem ((pc_of (cpu_of w) + 2) % 2 ^ 32) w)))

  prefetch_second_lem : (w : World) → Worlds w (prefetch_second t w) (prefetch_second t (bare w))
  unfolding prefetch_second
  prefetch_second_lem w =
      pick_w (prefetch_enabled (cpu_of w)) w _ _ _ _ (pick_w (one_fetched (cpu_of w)) w _ _ _ _ (second_from_lem w) (same w)) (same w)

  checked_read_lem : (a : ℕ) (g : Bool) (w : World) → Tries w (checked_read t w a g) (checked_read t (bare w) a g)
  unfolding checked_read
  checked_read_lem a g w =
      pick_t (refuses_odd (cpu_of w) a) w _ _ _ _ (replied w _ _ false 0 (h (address_error a false false) w))
      (join_tt (λ x. read_or t a false (width_of g) x) (read_or_lem a false (width_of g)) w _ _ (try_read_lem a g w))

  read_at_lem : (a : ℕ) (g : Bool) (w : World) → Tries w (read_at t w a g) (read_at t (bare w) a g)
  unfolding read_at
  read_at_lem a g w =
      pick_t (is_faulted (cpu_of w)) w _ _ _ _ (replied w _ _ false 0 (same w))
      (join_wt (λ x. checked_read t x (address_of (cpu_of x) a) g) (λ x. checked_read_lem (address_of (cpu_of x) a) g x) w _ _ (flushed w))

  wrote_w : (a : ℕ) (g : Bool) (x : Attempt) → Worlds x.after (wrote t a g x) (wrote t a g (bare_try x))
  unfolding wrote
  wrote_w a g x = pick_w x.ok x.after _ _ _ _ (same x.after) (h (bus_error a true false (width_of g)) x.after)

  checked_write_lem : (a : ℕ) (g : Bool) (v : ℕ) (w : World) → Worlds w (checked_write t w a g v) (checked_write t (bare w) a g v)
  unfolding checked_write
  checked_write_lem a g v w =
      pick_w (refuses_odd (cpu_of w) a) w _ _ _ _ (h (address_error a true false) w)
      (join_tw (λ x. wrote t a g x) (wrote_w a g) w _ _ (try_write_lem a g v (step (λ c. set_wdata c v) w)))

  write_at_lem : (a : ℕ) (g : Bool) (v : ℕ) (w : World) → Worlds w (write_at t w a g v) (write_at t (bare w) a g v)
  unfolding write_at
  write_at_lem a g v w =
      pick_w (is_faulted (cpu_of w)) w _ _ _ _ (same w)
      (join_ww (λ x. checked_write t x (address_of (cpu_of x) a) g v) (λ x. checked_write_lem (address_of (cpu_of x) a) g v x) w _ _ (flushed w))

  stack_field_lem : (f : Field) (w : World) → Worlds w (stack_field t w f) (stack_field t (bare w) f)
  unfolding stack_field
  stack_field_lem f w =
      pick_w (is_counted f) w _ _ _ _ (same w)
      (pick_w (is_raw f) w _ _ _ _ (raw_write_lem (address_of (cpu_of w) (a7_of (cpu_of w))) f.long f.value w)
      (write_at_lem (a7_of (cpu_of w)) f.long f.value w))

  push_field_lem : (f : Field) (w : World) → Worlds w (push_field t w f) (push_field t (bare w) f)
  unfolding push_field
  push_field_lem f w = stack_field_lem f (step (λ c. lower_a7 c (width_of f.long)) w)

  push_fields_lem : (f : Frame) (k : ℕ) (w : World) → Worlds w (push_fields t w f k) (push_fields t (bare w) f k)
  unfolding push_fields
  push_fields_lem f zero w = same w
  push_fields_lem f (suc k) w = join_ww (λ x. push_fields t x f k) (push_fields_lem f k) w _ _ (push_field_lem (field_at f k) w)

  push_frame_lem : (f : Frame) (w : World) → Worlds w (push_frame t w f) (push_frame t (bare w) f)
  unfolding push_frame
  push_frame_lem f w = push_fields_lem f f.count w

  short_writes_lem : (sp pc sr : ℕ) (w : World) → Worlds w (short_writes t w sp pc sr) (short_writes t (bare w) sp pc sr)
  unfolding short_writes
  short_writes_lem sp pc sr w =
      join_ww (λ x. write_at t x ((sp + 2) % 2 ^ 32) false (pc / 0x10000)) (write_at_lem ((sp + 2) % 2 ^ 32) false (pc / 0x10000)) w _ _
      (join_ww (λ x. write_at t x sp false sr) (write_at_lem sp false sr) w _ _ (write_at_lem ((sp + 4) % 2 ^ 32) false (pc % 0x10000) w))

  push_68000 : (pc sr : ℕ) (w : World) → Worlds w (push_exception_frame68000 t w pc sr) (push_exception_frame68000 t (bare w) pc sr)
  unfolding push_exception_frame68000
  push_68000 pc sr w = short_writes_lem (a7_of (cpu_of (step (λ c. lower_a7 c 6) w))) pc sr (step (λ c. lower_a7 c 6) w)

  vector_read_lem : (v : ℕ) (w : World) → Tries w (vector_read t w v) (vector_read t (bare w) v)
  unfolding vector_read
  vector_read_lem v w = read_at_lem (vector_address (cpu_of w) v) true (step (λ c. start_vector c v) w)

  refilled : (w : World) → Worlds w (refill t w) (refill t (bare w))
  unfolding refill
  refilled w =
      join_ww (λ x. prefetch_second t (step (λ c. internal_cycles c 2) x)) (λ x. prefetch_second_lem (step (λ c. internal_cycles c 2) x)) w _ _ (prefetch_first_lem w)

  jump_to_lem : (x : Attempt) → Worlds x.after (jump_to t x) (jump_to t (bare_try x))
  unfolding jump_to
  jump_to_lem x = refilled (step (λ c. set_pc c x.value) x.after)

  jump_vector_lem : (v : ℕ) (w : World) → Worlds w (jump_vector t w v) (jump_vector t (bare w) v)
  unfolding jump_vector
  jump_vector_lem v w = join_tw (λ x. jump_to t x) jump_to_lem w _ _ (join_wt (λ x. vector_read t x v) (vector_read_lem v) w _ _ (releases w))

  framed : (f : Frame) (v : ℕ) (w : World) → Worlds w (jump_vector t (push_frame t w f) v) (jump_vector t (push_frame t (bare w) f) v)
  framed f v w = join_ww (λ x. jump_vector t x v) (jump_vector_lem v) w _ _ (push_frame_lem f w)

raise_bus_lem : (w x y : World) → Worlds w x y → Worlds w (raise_bus w x) (raise_bus (bare w) y)
unfolding raise_bus
raise_bus_lem w x y e =
    pick_w (is_faulted (cpu_of w)) w _ _ _ _ (same w) (pick_w (in_exception (cpu_of w)) w _ _ _ _ (stepped halted w) e)

raise_address_lem : (w x y : World) → Worlds w x y → Worlds w (raise_address w x) (raise_address (bare w) y)
unfolding raise_address
raise_address_lem w x y e = pick_w (is_faulted (cpu_of w)) w _ _ _ _ (same w) e

triggers : (n : ℕ) → Raises (trigger n)
unfolding trigger exception_bus_error exception_address_error
triggers zero (bus_error a write i z) w = raise_bus_lem w _ _ (stepped halted w)
triggers (suc n) (bus_error a write i z) w =
    raise_bus_lem w _ _
    (join_ww (step close_bus) (stepped close_bus) w _ _
    (framed (trigger n) (triggers n) (bus_frame (cpu_of (step begin_bus w)) a write i z (cause_number_of (cpu_of w))) bus_error_vector (step enter_bus_error (step begin_bus w))))
triggers zero (address_error a write i) w = raise_address_lem w _ _ (stepped halted w)
triggers (suc n) (address_error a write i) w =
    raise_address_lem w _ _
    (join_ww (step keep_resume) (stepped keep_resume) w _ _
    (framed (trigger n) (triggers n) (address_frame (cpu_of (step begin_address w)) a write i) address_error_vector (step enter_supervisor (step begin_address w))))

-- ---- entries

abbrev bare_entry : Entry → Entry
bare_entry x = entry (bare x.after) x.cycles

abbrev after_entry : Entry → World
after_entry x = x.after

abbrev Entries : World → Entry → Entry → Type 0
Entries w x y = Tied after_entry bare_entry (length w.store) (length w.log) x y

timed : (w a b : World) (n : ℕ) → Worlds w a b → Entries w (entry a n) (entry b n)
timed w a b n e = record { blind = ap (λ (x : World). entry x n) e.blind; stores = e.stores; logs = e.logs }

raise : Raises raised
raise = triggers 2

stack_short_lem : (pc format : ℕ) (w : World) → Worlds w (stack_short w pc format) (stack_short (bare w) pc format)
unfolding stack_short
stack_short_lem pc format w =
    pick_w (eqb (kind_of (cpu_of w)) 1) w _ _ _ _ (push_68000 raised raise pc (get_sr (cpu_of w)) (supervised w))
    (push_frame_lem raised raise (short_frame (get_sr (cpu_of w)) pc format) (supervised w))

take_one : (v : ℕ) (w : World) → Worlds w (taken w v) (taken (bare w) v)
unfolding taken finished_entry
take_one v w =
    join_ww (step (λ c. set_exception c false)) (stepped (λ c. set_exception c false)) w _ _
    (join_ww (λ x. jump_vector raised x v) (jump_vector_lem raised raise v) w _ _ (stack_short_lem (stacked_address (cpu_of w) v) (offset_word v) w))

entry_tied : (v : ℕ) (w : World) → Entries w (take_exception w v) (take_exception (bare w) v)
unfolding take_exception
entry_tied v w = go (in_exception (cpu_of w))
  where
    go : (t : Bool) →
        Entries w (pick t (entry (step halted w) 0) (entry (taken (step begin_entry w) v) (exception_cycles v)))
        (pick t (entry (step halted (bare w)) 0) (entry (taken (step begin_entry (bare w)) v) (exception_cycles v)))
    go true = timed w _ _ 0 (stepped halted w)
    go false = timed w _ _ (exception_cycles v) (take_one v (step begin_entry w))

-- ---- interrupts

acknowledge : (n : ℕ) (w : World) → Tries w (acknowledge_level w n) (acknowledge_level (bare w) n)
unfolding acknowledge_level vector_from acknowledged
acknowledge n w =
    replied w _ _ true (iack_vector (response_of w.core.bus n) n) (note 6 n (response_of w.core.bus n) w)

synced : (clocks n : ℕ) (w : World) → Tries w (synced_acknowledge w clocks n) (synced_acknowledge (bare w) clocks n)
unfolding synced_acknowledge
synced clocks n w = join_wt (λ x. acknowledge_level x n) (acknowledge n) w _ _ (flushed (step (λ c. internal_cycles c clocks) w))

write : (a v : ℕ) (w : World) → Worlds w (write_at raised w a false v) (write_at raised (bare w) a false v)
write a v w = write_at_lem raised raise a false v w

rest_68000 : (sp pc sr : ℕ) (x : Attempt) → Tries x.after (rest68000 sp pc sr x) (rest68000 sp pc sr (bare_try x))
unfolding rest68000
rest_68000 sp pc sr x =
    replied x.after _ _ true x.value
    (join_ww (λ y. write_at raised y ((sp + 2) % 2 ^ 32) false (pc / 0x10000)) (write ((sp + 2) % 2 ^ 32) (pc / 0x10000)) x.after _ _
    (write sp sr (step (λ c. internal_cycles c 4) x.after)))

from_68000 : (sp pc sr n : ℕ) (w : World) → Tries w (from68000 w sp pc sr n) (from68000 (bare w) sp pc sr n)
unfolding from68000
from_68000 sp pc sr n w =
    join_tt (rest68000 sp pc sr) (rest_68000 sp pc sr) w _ _
    (join_wt (λ x. synced_acknowledge x 4 n) (synced 4 n) w _ _ (write ((sp + 4) % 2 ^ 32) (pc % 0x10000) w))

writes_68010 : (sp pc sr format : ℕ) (w : World) → Worlds w (writes68010 w sp pc sr format) (writes68010 (bare w) sp pc sr format)
unfolding writes68010
writes_68010 sp pc sr format w =
    join_ww (λ x. write_at raised x ((sp + 6) % 2 ^ 32) false format) (write ((sp + 6) % 2 ^ 32) format) w _ _
    (join_ww (λ x. write_at raised x ((sp + 2) % 2 ^ 32) false (pc / 0x10000)) (write ((sp + 2) % 2 ^ 32) (pc / 0x10000)) w _ _
    (join_ww (λ x. write_at raised x sp false sr) (write sp sr) w _ _ (write ((sp + 4) % 2 ^ 32) (pc % 0x10000) w)))

rest_68010 : (pc sr : ℕ) (x : Attempt) → Tries x.after (rest68010 pc sr x) (rest68010 pc sr (bare_try x))
unfolding rest68010
rest_68010 pc sr x =
    replied x.after _ _ true x.value
    (writes_68010 (a7_of (lower_a7 (cpu_of x.after) 8)) pc sr (offset_word x.value) (step (λ c. lower_a7 c 8) x.after))

rest_other_lem : (pc sr : ℕ) (x : Attempt) → Tries x.after (rest_other pc sr x) (rest_other pc sr (bare_try x))
unfolding rest_other
rest_other_lem pc sr x =
    replied x.after _ _ true x.value (push_frame_lem raised raise (short_frame sr pc (offset_word x.value)) x.after)

first_frame_lem : (pc sr n : ℕ) (w : World) → Tries w (first_frame w pc sr n) (first_frame (bare w) pc sr n)
unfolding first_frame push_interrupt68000 push_interrupt68010 push_interrupt_other
first_frame_lem pc sr n w =
    pick_t (eqb (kind_of (cpu_of w)) 1) w _ _ _ _
    (from_68000 (a7_of (lower_a7 (internal_cycles (cpu_of w) 6) 6)) pc sr n (step (λ c. lower_a7 (internal_cycles c 6) 6) w))
    (pick_t (eqb (kind_of (cpu_of w)) 2) w _ _ _ _ (join_tt (rest68010 pc sr) (rest_68010 pc sr) w _ _ (synced 12 n w))
    (join_tt (rest_other pc sr) (rest_other_lem pc sr) w _ _ (acknowledge n w)))

second_frame_lem : (pc sr v : ℕ) (w : World) → Worlds w (second_frame w pc sr v) (second_frame (bare w) pc sr v)
unfolding second_frame throwaway
second_frame_lem pc sr v w =
    pick_w (m_is_set (cpu_of w)) w _ _ _ _
    (pick_w (is_ec020_plus (kind_of (cpu_of w))) w _ _ _ _
    (push_frame_lem raised raise (short_frame (with_s sr) pc (format_word 1 v)) (step (λ c. set_sm_flag c 4) w))
    (pick_w (is060 (kind_of (cpu_of w))) w _ _ _ _ (stepped clear_m w) (same w))) (same w)

dispatch : (pc sr : ℕ) (x : Attempt) → Worlds x.after (dispatched pc sr x) (dispatched pc sr (bare_try x))
unfolding dispatched ended
dispatch pc sr x =
    join_ww (step close_interrupt) (stepped close_interrupt) x.after _ _
    (join_ww (λ y. jump_vector raised y x.value) (jump_vector_lem raised raise x.value) x.after _ _ (second_frame_lem pc sr x.value x.after))

service : (n : ℕ) (w : World) → Worlds w (service_interrupt w n) (service_interrupt (bare w) n)
unfolding service_interrupt
service n w =
    join_tw (dispatched (pc_of (cpu_of w)) (get_sr (cpu_of w))) (dispatch (pc_of (cpu_of w)) (get_sr (cpu_of w))) w _ _
    (first_frame_lem (pc_of (cpu_of w)) (get_sr (cpu_of w)) n (step (λ c. enter_level c n) w))

interrupt : (w : World) → Tries w (check_and_service w) (check_and_service (bare w))
unfolding check_and_service serviced
interrupt w =
    pick_t (takes_interrupt (cpu_of w)) w _ _ _ _
    (replied w _ _ true 0 (join_ww (step clear_level) (stepped clear_level) w _ _ (service (pending_level (cpu_of w)) w)))
    (replied w _ _ false 0 (same w))

-- ---- calls

abbrev bare_call : Performed → Performed
bare_call x = answered (bare x.after) x.answer

abbrev after_call : Performed → World
after_call x = x.after

abbrev Calls : World → Performed → Performed → Type 0
Calls w x y = Tied after_call bare_call (length w.store) (length w.log) x y

-- a call that does not look at the log
abbrev Quiet : Call → Type 0
Quiet c = (w : World) → Calls w (run w c) (run (bare w) c)

of_entry_lem : (x : Entry) → Calls x.after (of_entry x) (of_entry (bare_entry x))
unfolding of_entry cycles
of_entry_lem x = record { blind = refl; stores = refl; logs = refl }

of_service_lem : (x : Attempt) → Calls x.after (of_service x) (of_service (bare_try x))
unfolding of_service flag
of_service_lem x = record { blind = refl; stores = refl; logs = refl }

pub exc_quiet : (v : ℕ) → Quiet (TakeException v)
unfolding run
exc_quiet v w = join after_entry bare_entry after_call bare_call of_entry of_entry_lem w _ _ (entry_tied v w)

pub trap_quiet : (n : ℕ) → Quiet (Trap n)
unfolding run trap
trap_quiet n w = join after_entry bare_entry after_call bare_call of_entry of_entry_lem w _ _ (entry_tied (trap_base + n % 16) w)

pub irq_quiet : (n : ℕ) → Quiet (SetIrq n)
unfolding run plain
irq_quiet n w = record { blind = refl; stores = refl; logs = refl }

pub service_quiet : Quiet CheckAndServiceInterrupts
unfolding run
service_quiet w = join after_try bare_try after_call bare_call of_service of_service_lem w _ _ (interrupt w)

-- a call keeps the lengths of store and log
call_sizes : (c : Call) → Quiet c → (w : World) → (length (perform w c).after.store ≡ length w.store) × (length (perform w c).after.log ≡ length w.log)
unfolding perform begun
call_sizes c q w = go (eqb (refusal w c) 0)
  where
    go : (t : Bool) →
        (length (pick t (run (begun w) c) (answered w (Refused (refusal w c)))).after.store ≡ length w.store)
        × (length (pick t (run (begun w) c) (answered w (Refused (refusal w c)))).after.log ≡ length w.log)
    go true = ((q (begun w)).stores, (q (begun w)).logs)
    go false = (refl, refl)

-- on two worlds that differ in what their logs hold it does and answers the same
call_same : (c : Call) → Quiet c → (w x : World) → bare w ≡ bare x → length w.log ≡ length x.log → bare_call (perform w c) ≡ bare_call (perform x c)
unfolding perform begun refusal
call_same c q w x e n =
    go w (eqb (refusal w c) 0) ∙ ap (λ (y : World). alone y (length w.log)) e ∙ ap (λ (k : ℕ). alone (bare x) k) n
    ∙ sym (go x (eqb (refusal x c) 0))
  where
    -- a call on a world whose log has k words
    number : World → ℕ → ℕ
    number y k = refusal_of y.core (length y.store) k (matter_of c)

    alone : World → ℕ → Performed
    alone y k = bare_call (pick (eqb (number y k) 0) (run (begun y) c) (answered y (Refused (number y k))))

    go : (y : World) (t : Bool) →
        bare_call (pick t (run (begun y) c) (answered y (Refused (refusal y c))))
        ≡ bare_call (pick t (run (begun (bare y)) c) (answered (bare y) (Refused (refusal y c))))
    go y true = (q (begun y)).blind
    go y false = refl

-- ---- sessions

-- a session whose log holds nothing
abbrev bare_session : Session → Session
bare_session s = session (bare s.after) s.printed

-- sessions that differ only in what their logs hold
pub record Alike (s r : Session) : Type 0 where
  pub blind : bare_session s ≡ bare_session r
  pub logs : length s.after.log ≡ length r.after.log

-- a session after a call that prints nothing
abbrev pub called : Session → Call → Session
called s c = session (perform s.after c).after s.printed

pub called_alike : (c : Call) → Quiet c → (s r : Session) → Alike s r → Alike (called s c) (called r c)
called_alike c q s r e =
    record {
      blind =
          ap (λ (x : Performed). session x.after s.printed) (call_same c q s.after r.after (ap (λ (y : Session). y.after) e.blind) e.logs)
          ∙ ap (λ (y : Session). session (bare (perform r.after c).after) y.printed) e.blind;
      logs = (call_sizes c q s.after).1 ∙ e.logs ∙ sym (call_sizes c q r.after).1;
    }

pub entered_alike : (c : Call) → Quiet c → (s r : Session) → Alike s r → Alike (entered s c) (entered r c)
unfolding entered
entered_alike c q s r e =
    record {
      blind =
          ap (λ (x : Performed). say s x.after (answer_told x.after.core x.answer))
          (call_same c q s.after r.after (ap (λ (y : Session). y.after) e.blind) e.logs)
          ∙ ap (λ (y : Session). say y (bare (perform r.after c).after) (answer_told (perform r.after c).after.core (perform r.after c).answer)) e.blind;
      logs = (call_sizes c q s.after).1 ∙ e.logs ∙ sym (call_sizes c q r.after).1;
    }

-- commands that are no calls
pub plain_alike : (f : Session → Session) (s r : Session) → Alike s r → ((y : Session) → bare_session (f y) ≡ bare_session (f (bare_session y))) →
    ((y : Session) → length (f y).after.log ≡ length y.after.log) → Alike (f s) (f r)
plain_alike f s r e g n =
    record { blind = g s ∙ ap (λ (y : Session). bare_session (f y)) e.blind ∙ sym (g r); logs = n s ∙ e.logs ∙ sym (n r) }

-- ---- the lengths of store and log

abbrev pub Sizes : Session → Session → Type 0
Sizes r s = (length r.after.store ≡ length s.after.store) × (length r.after.log ≡ length s.after.log)

poke_length : (b : Bus) (s : List ℕ) (a v : ℕ) → length (poke_long b s a v) ≡ length s
unfolding poke_long
poke_length b s a v = go (served_of b (length s) a 4)
  where
    go : (t : Bool) → length (pick t (put_long s (place_of b a) v) s) ≡ length s
    go true = put_length true s (place_of b a) v
    go false = refl

pub act_sizes : (c : Option Command) (s : Session) → Sizes (act s c) s
unfolding act cleared entered interrupted returned
act_sizes None s = (refl, refl)
act_sizes (Some (command.Kind k)) s = (length-replicate {A = ℕ} (length s.after.store) 0, refl)
act_sizes (Some (command.Pc v)) s = (refl, refl)
act_sizes (Some (command.Ppc v)) s = (refl, refl)
act_sizes (Some (command.A7 v)) s = (refl, refl)
act_sizes (Some (command.Long a v)) s = (poke_length s.after.core.bus s.after.store a v, refl)
act_sizes (Some (command.Exc v)) s = call_sizes (TakeException v) (exc_quiet v) s.after
act_sizes (Some (command.Trap n)) s = call_sizes (Trap n) (trap_quiet n) s.after
act_sizes (Some (command.Irq n)) s =
    let w : World = (perform s.after (SetIrq n)).after in
    let e : (length w.store ≡ length s.after.store) × (length w.log ≡ length s.after.log) = call_sizes (SetIrq n) (irq_quiet n) s.after in
    ((call_sizes CheckAndServiceInterrupts service_quiet w).0 ∙ e.0, (call_sizes CheckAndServiceInterrupts service_quiet w).1 ∙ e.1)
act_sizes (Some (command.Walk n)) s = (refl, refl)
act_sizes (Some command.Ret) s = (refl, refl)

-- ---- anew

pub steps_append : (s : Session) (ls ms : List (List ℕ)) → steps s (ls ++ ms) ≡ steps (steps s ls) ms
unfolding steps
steps_append s [] ms = refl
steps_append s (l ∷ ls) ms = steps_append (line s l) ls ms

-- what a line feed ends, before whatever comes
lines_ended : (xs : List ℕ) → (m : List ℕ) × (ms : List (List ℕ)) × ((ys : List ℕ) → lines_of (xs ++ (10 ∷ ys)) ≡ (m ∷ ms) ++ lines_of ys)
unfolding lines_of in_front
lines_ended [] = ([], [], λ ys. refl)
lines_ended (b ∷ xs) = go (eqb b 10) (lines_ended xs)
  where
    go : (t : Bool) → (m : List ℕ) × (ms : List (List ℕ)) × ((ys : List ℕ) → lines_of (xs ++ (10 ∷ ys)) ≡ (m ∷ ms) ++ lines_of ys) →
        (m : List ℕ) × (ms : List (List ℕ))
        × ((ys : List ℕ) → pick t ([] ∷ lines_of (xs ++ (10 ∷ ys))) (in_front b (lines_of (xs ++ (10 ∷ ys)))) ≡ (m ∷ ms) ++ lines_of ys)
    go true (m, ms, h) = ([], m ∷ ms, λ ys. ap (λ (ls : List (List ℕ)). [] ∷ ls) (h ys))
    go false (m, ms, h) = (b ∷ m, ms, λ ys. ap (λ (ls : List (List ℕ)). in_front b ls) (h ys))

pub lines_split : (xs ys : List ℕ) → lines_of (xs ++ (10 ∷ ys)) ≡ lines_of (xs ++ (10 ∷ [])) ++ lines_of ys
unfolding lines_of
lines_split xs ys = go (lines_ended xs)
  where
    go : (m : List ℕ) × (ms : List (List ℕ)) × ((zs : List ℕ) → lines_of (xs ++ (10 ∷ zs)) ≡ (m ∷ ms) ++ lines_of zs) →
        lines_of (xs ++ (10 ∷ ys)) ≡ lines_of (xs ++ (10 ∷ [])) ++ lines_of ys
    go (m, ms, h) = h ys ∙ ap (λ (ls : List (List ℕ)). ls ++ lines_of ys) (sym (h [] ∙ append-nil (m ∷ ms)))
