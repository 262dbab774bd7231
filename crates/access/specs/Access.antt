-- What an access, a trigger, an error entry, a push, the vector jump and the prefetch make of a world, in the order of the Rust.
-- `t` is what raises a fault inside: `trigger` at one level less. The recursion stands in `trigger` alone.
use Rattle.std.specs.Prelude.{ℕ, zero, suc, ◌+◌, ◌/◌, ◌%◌, ◌^◌, Bool, true, false}
use Rattle.types.specs.Kinds.{pick}
use Rattle.types.specs.Vectors.{bus_error_vector, address_error_vector}
use Rattle.cpu.specs.Fields.{pc_of, a7_of, address_of, is_faulted, in_exception, cause_number_of, set_pc, halted, set_wdata, start_vector, lower_a7, odd_pc}
use Rattle.status.specs.Status.{keep_resume}
use Rattle.status.specs.Banks.{enter_supervisor}
use Rattle.cpu.specs.Clocks.{prefetch_enabled, one_fetched, internal_cycles, clear_prefetch, first_word, second_word}
use Rattle.memory.specs.World.{World, Attempt, reply, with_cpu, cpu_of, step, width_of, flush, release, raw_write, try_write, try_read}
use Rattle.frames.specs.declared.Field.{Field}
use Rattle.frames.specs.declared.Frame.{Frame}
use Rattle.frames.specs.Frames.{field_at, bus_frame, address_frame, is_counted, is_raw}
use Rattle.steps.specs.Steps.{refuses_odd, vector_address, begin_bus, begin_address, close_bus, enter_bus_error}

-- what is raised: a bus error (address, write, instruction, size) or an address error (address, write, instruction)
pub data Fault : Type 0 where
  bus_error : ℕ → Bool → Bool → ℕ → Fault
  address_error : ℕ → Bool → Bool → Fault

abbrev pub Raise : Type 0
Raise = World → Fault → World

-- `prefetch_read`: sync first, then one program word; a fault is an instruction fault of 2 bytes
unfoldable pub read_or : Raise → ℕ → Bool → ℕ → Attempt → Attempt
read_or t a instruction z x = pick x.ok x (reply (t x.after (bus_error a false instruction z)) false 0)

unfoldable pub prefetch_read : Raise → World → ℕ → Attempt
prefetch_read t w a = read_or t (address_of (cpu_of (flush w)) a) true 2 (try_read (flush w) (address_of (cpu_of (flush w)) a) false)

-- `prefetch_first`: the queue is emptied; an odd PC leaves it so
unfoldable pub kept_first : Attempt → World
kept_first x = pick x.ok (step (λ c. first_word c (x.value % 0x10000)) x.after) x.after

unfoldable pub first_from : Raise → World → World
first_from t w = pick (odd_pc (cpu_of w)) w (kept_first (prefetch_read t w (pc_of (cpu_of w))))

unfoldable pub prefetch_first : Raise → World → World
prefetch_first t w = pick (prefetch_enabled (cpu_of w)) (first_from t (step clear_prefetch w)) w

-- `prefetch_second`: after the first word, unless PC is odd or the record is faulted
unfoldable pub kept_second : Attempt → World
kept_second x = pick x.ok (step (λ c. second_word c (x.value % 0x10000)) x.after) x.after

unfoldable pub second_from : Raise → World → World
second_from t w = pick (odd_pc (cpu_of w)) w (pick (is_faulted (cpu_of w)) w (kept_second (prefetch_read t w ((pc_of (cpu_of w) + 2) % 2 ^ 32))))

unfoldable pub prefetch_second : Raise → World → World
prefetch_second t w = pick (prefetch_enabled (cpu_of w)) (pick (one_fetched (cpu_of w)) (second_from t w) w) w

-- `read_16`, `read_32`: nothing while faulted; sync; the masked address; alignment on kinds 1, 2, 10; served, or a bus error
unfoldable pub checked_read : Raise → World → ℕ → Bool → Attempt
checked_read t w a long = pick (refuses_odd (cpu_of w) a) (reply (t w (address_error a false false)) false 0) (read_or t a false (width_of long) (try_read w a long))

unfoldable pub read_at : Raise → World → ℕ → Bool → Attempt
read_at t w a long = pick (is_faulted (cpu_of w)) (reply w false 0) (checked_read t (flush w) (address_of (cpu_of (flush w)) a) long)

-- `write_16`, `write_32`: the same, with the data kept before the access is tried
unfoldable pub wrote : Raise → ℕ → Bool → Attempt → World
wrote t a long x = pick x.ok x.after (t x.after (bus_error a true false (width_of long)))

unfoldable pub checked_write : Raise → World → ℕ → Bool → ℕ → World
checked_write t w a long v =
    pick (refuses_odd (cpu_of w) a) (t w (address_error a true false)) (wrote t a long (try_write (step (λ c. set_wdata c v) w) a long v))

unfoldable pub write_at : Raise → World → ℕ → Bool → ℕ → World
write_at t w a long v = pick (is_faulted (cpu_of w)) w (checked_write t (flush w) (address_of (cpu_of (flush w)) a) long v)

-- one field of a frame: A7 is lowered, then the field is only counted, written raw, or written guarded
unfoldable pub stack_field : Raise → World → Field → World
stack_field t w f =
    pick (is_counted f) w
    (pick (is_raw f) (raw_write w (address_of (cpu_of w) (a7_of (cpu_of w))) f.long f.value)
    (write_at t w (a7_of (cpu_of w)) f.long f.value))

unfoldable pub push_field : Raise → World → Field → World
push_field t w f = stack_field t (step (λ c. lower_a7 c (width_of f.long)) w) f

-- the first k fields of a frame, from the last of them down to the first
unfoldable pub push_fields : Raise → World → Frame → ℕ → World
push_fields t w f zero = w
push_fields t w f (suc k) = push_fields t (push_field t w (field_at f k)) f k

-- `push_exception_frame_68000`: A7 is lowered once, then PC low, the status and PC high are written
unfoldable pub short_writes : Raise → World → ℕ → ℕ → ℕ → World
short_writes t w sp pc sr = write_at t (write_at t (write_at t w ((sp + 4) % 2 ^ 32) false (pc % 0x10000)) sp false sr) ((sp + 2) % 2 ^ 32) false (pc / 0x10000)

unfoldable pub push_exception_frame68000 : Raise → World → ℕ → ℕ → World
push_exception_frame68000 t w pc sr = short_writes t (step (λ c. lower_a7 c 6) w) (a7_of (cpu_of (step (λ c. lower_a7 c 6) w))) pc sr

-- `jump_vector`: release, the vector kept, its address read, the queue refilled with 2 clocks between
unfoldable pub vector_read : Raise → World → ℕ → Attempt
vector_read t w v = read_at t (step (λ c. start_vector c v) w) (vector_address (cpu_of w) v) true

unfoldable pub refill : Raise → World → World
refill t w = prefetch_second t (step (λ c. internal_cycles c 2) (prefetch_first t w))

unfoldable pub jump_to : Raise → Attempt → World
jump_to t x = refill t (step (λ c. set_pc c x.value) x.after)

unfoldable pub jump_vector : Raise → World → ℕ → World
jump_vector t w v = jump_to t (vector_read t (release w) v)

-- `exception_address_error` and `exception_bus_error`: the frame of the record as it was, on the supervisor stack, and the jump
unfoldable pub push_frame : Raise → World → Frame → World
push_frame t w f = push_fields t w f f.count

unfoldable pub exception_address_error : Raise → World → ℕ → Bool → Bool → World
exception_address_error t w a write instruction =
    jump_vector t (push_frame t (step enter_supervisor w) (address_frame (cpu_of w) a write instruction)) address_error_vector

unfoldable pub exception_bus_error : Raise → World → ℕ → Bool → Bool → ℕ → ℕ → World
exception_bus_error t w a write instruction z cause =
    jump_vector t (push_frame t (step enter_bus_error w) (bus_frame (cpu_of w) a write instruction z cause)) bus_error_vector

-- `trigger_bus_error`: nothing while faulted; a halt while an entry is under way; else status and registers as saved, the
-- entry, and what the end of the instruction needs. `trigger_address_error` has no test of an entry under way.
-- Where no level is left, `stopped` and `run_mode` are 1 and nothing is restored or stacked
unfoldable pub raise_bus : World → World → World
raise_bus w x = pick (is_faulted (cpu_of w)) w (pick (in_exception (cpu_of w)) (with_cpu w (halted (cpu_of w))) x)

unfoldable pub raise_address : World → World → World
raise_address w x = pick (is_faulted (cpu_of w)) w x

unfoldable pub trigger : ℕ → World → Fault → World
trigger zero w (bus_error a write instruction z) = raise_bus w (with_cpu w (halted (cpu_of w)))
trigger (suc n) w (bus_error a write instruction z) =
    raise_bus w (step close_bus (exception_bus_error (trigger n) (step begin_bus w) a write instruction z (cause_number_of (cpu_of w))))
trigger zero w (address_error a write instruction) = raise_address w (with_cpu w (halted (cpu_of w)))
trigger (suc n) w (address_error a write instruction) =
    raise_address w (step keep_resume (exception_address_error (trigger n) (step begin_address w) a write instruction))

-- the levels that the code gives: more change nothing
abbrev pub raised : Raise
raised = trigger 2

-- an entry as data: a frame, and the jump to its vector
unfoldable pub entered : World → Frame → ℕ → World
entered w f v = jump_vector raised (push_frame raised w f) v
