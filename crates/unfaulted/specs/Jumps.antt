-- The jump to a vector whose reads nothing refuses.
use Rattle.std.specs.Prelude.{ℕ, ◌+◌, ◌-◌, ◌*◌, ◌%◌, ◌^◌, ◌≤◌, ◌<◌, ◌≡◌, Bool, false, List, ltb}
use Rattle.std.proofs.Math.Path.{refl}
use Rattle.std.proofs.Common.{ne_eqb}
use Rattle.std.proofs.Math.Bool.{true}
use native.Mathlib.Omega.{arith}
use Rattle.types.specs.Kinds.{pick, mask_address}
use Rattle.types.proofs.Laws.{masked_address_parity}
use Rattle.cpu.specs.declared.Cpu.{Cpu}
use Rattle.cpu.specs.Fields.{kind_of, pc_of, vbr_of, address_of, is_faulted, set_pc, start_vector, odd_pc}
use Rattle.cpu.specs.Clocks.{has_clocks, clocks_of, set_clocks, prefetch_enabled, one_fetched, internal_cycles, first_word}
use Rattle.cpu.specs.Laws.{clocks_kept}
use Rattle.memory.specs.declared.Bus.{Bus}
use Rattle.memory.specs.Log.{note_log, counted}
use Rattle.memory.specs.World.{World, reply, noted, put_cpu, release, cpu_of, with_cpu}
use Rattle.steps.specs.Steps.{vector_address}
use Rattle.access.specs.Access.{Raise, read_at, prefetch_first, prefetch_second, vector_read, refill, jump_to}
use Rattle.unfaulted.specs.Closed.{closed, Room}

-- the word after the first lies 2 bytes on
pub second_place : (b : Bus) (k len a : ℕ) → Room b k len (mask_address k a) 4 → mask_address k ((a + 2) % 2 ^ 32) ≡ mask_address k a + 2
unfolding mask_address
second_place b k len a r = go (ltb k 3) r.last r.top
  where
    go : (t : Bool) → pick t ((pick t (a % 0x1000000) a + 4 - 1) % 0x1000000) (pick t (a % 0x1000000) a + 4 - 1) ≡ pick t (a % 0x1000000) a + 4 - 1 → pick t (a % 0x1000000) a + 4 ≤ 2 ^ 32
        → pick t ((a + 2) % 2 ^ 32 % 0x1000000) ((a + 2) % 2 ^ 32) ≡ pick t (a % 0x1000000) a + 2
    go true e h = omega arith
    go false e h = omega arith

-- a handler whose words lie at an even address has an even address
pub even_pc : (c : Cpu) (b : Bus) (len : ℕ) → Room b (kind_of c) len (mask_address (kind_of c) (pc_of c)) 4 → odd_pc c ≡ false
unfolding odd_pc
even_pc c b len r = ne_eqb (pc_of c % 2) 1 (λ x. let p = masked_address_parity (kind_of c) (pc_of c) in let y = r.even in omega arith)

pub cycles_two : (c : Cpu) → prefetch_enabled c ≡ true → clocks_of c ≡ 0 → internal_cycles c 2 ≡ set_clocks c 2
unfolding internal_cycles
cycles_two c e z = rw (e, z)

pub none_has : (c : Cpu) → clocks_of c ≡ 0 → has_clocks c ≡ false
unfolding clocks_of has_clocks
none_has c h = rw h

module _ (c : Cpu) (x : ℕ) where
  pub first_on : prefetch_enabled (first_word c x) ≡ prefetch_enabled c
  unfolding prefetch_enabled first_word
  first_on = refl

  pub first_clocks : clocks_of (first_word c x) ≡ clocks_of c
  unfolding clocks_of first_word
  first_clocks = refl

  pub first_one : one_fetched (first_word c x) ≡ true
  unfolding one_fetched first_word
  first_one = refl

  pub first_odd : odd_pc (first_word c x) ≡ odd_pc c
  unfolding odd_pc pc_of first_word
  first_odd = refl

  pub first_pc : pc_of (first_word c x) ≡ pc_of c
  unfolding pc_of first_word
  first_pc = refl

  pub first_running : is_faulted (first_word c x) ≡ is_faulted c
  unfolding is_faulted first_word
  first_running = refl

  pub first_kind : kind_of (first_word c x) ≡ kind_of c
  unfolding kind_of first_word
  first_kind = refl

pub masked : (c : Cpu) (a : ℕ) → address_of c a ≡ mask_address (kind_of c) a
unfolding address_of kind_of
masked c a = refl

pub refill_step : (t : Raise) (b : Bus) (c : Cpu) (e : ℕ) (s l : List ℕ) (w : World) → prefetch_first t w ≡ closed b c e s l → refill t w ≡ prefetch_second t (closed b (internal_cycles c 2) e s l)
unfolding refill closed put_cpu
refill_step t b c e s l w h = rw h

pub first : (t : Raise) (w : World) → prefetch_enabled (cpu_of w) ≡ false → prefetch_first t w ≡ w
unfolding prefetch_first
first t w e = rw e

pub second : (t : Raise) (w : World) → prefetch_enabled (cpu_of w) ≡ false → prefetch_second t w ≡ w
unfolding prefetch_second
second t w e = rw e

-- without one nothing is
refill_off : (t : Raise) (w : World) → prefetch_enabled (cpu_of w) ≡ false → refill t w ≡ w
unfolding refill put_cpu
refill_off t w e = rw (first t w e, clocks_kept (cpu_of w) 2 e, second t (with_cpu w (cpu_of w)) e)

pub refill_none : (t : Raise) (b : Bus) (c : Cpu) (e : ℕ) (s l : List ℕ) → prefetch_enabled c ≡ false → refill t (closed b c e s l) ≡ closed b c e s l
unfolding closed
refill_none t b c e s l h = refill_off t (closed b c e s l) h

-- ---- the jump

pub release_closed : (b : Bus) (c : Cpu) (e : ℕ) (s l : List ℕ) → e + 1 < 2 ^ 32 → release (closed b c e s l) ≡ closed b c (e + 1) s (note_log e l 7 0 0)
unfolding release noted closed counted
release_closed b c e s l u = let x : (e + 1) % 2 ^ 32 ≡ e + 1 = omega arith in rw x

pub vector_step : (t : Raise) (b : Bus) (c : Cpu) (e : ℕ) (s l : List ℕ) (v : ℕ) → vector_read t (closed b c e s l) v ≡ read_at t (closed b (start_vector c v) e s l) (vector_address c v) true
unfolding vector_read closed put_cpu
vector_step t b c e s l v = refl

pub jump_step : (t : Raise) (b : Bus) (c : Cpu) (e : ℕ) (s l : List ℕ) (to : ℕ) → jump_to t (reply (closed b c e s l) true to) ≡ refill t (closed b (set_pc c to) e s l)
unfolding jump_to closed put_cpu
jump_step t b c e s l to = refl

module _ (c : Cpu) (v : ℕ) where
  pub start_running : is_faulted (start_vector c v) ≡ is_faulted c
  unfolding is_faulted start_vector
  start_running = refl

  pub start_clocks : has_clocks (start_vector c v) ≡ has_clocks c
  unfolding has_clocks start_vector
  start_clocks = refl

  pub start_kind : kind_of (start_vector c v) ≡ kind_of c
  unfolding kind_of start_vector
  start_kind = refl

  pub vector_masked : address_of (start_vector c v) (vector_address c v) ≡ mask_address (kind_of c) ((v % 0x40000000 * 4 + vbr_of c) % 2 ^ 32)
  unfolding address_of vector_address start_vector kind_of
  vector_masked = refl

  -- the record in which the queue is refilled
  abbrev pub landed : ℕ → Cpu
  landed to = set_pc (start_vector c v) to

  pub land_on : (to : ℕ) → prefetch_enabled (landed to) ≡ prefetch_enabled c
  unfolding prefetch_enabled start_vector set_pc
  land_on to = refl

  pub land_running : (to : ℕ) → is_faulted (landed to) ≡ is_faulted c
  unfolding is_faulted start_vector set_pc
  land_running to = refl

  pub land_clocks : (to : ℕ) → clocks_of (landed to) ≡ clocks_of c
  unfolding clocks_of start_vector set_pc
  land_clocks to = refl

  pub land_kind : (to : ℕ) → kind_of (landed to) ≡ kind_of c
  unfolding kind_of start_vector set_pc
  land_kind to = refl

  pub land_pc : (to : ℕ) → pc_of (landed to) ≡ to
  unfolding pc_of start_vector set_pc
  land_pc to = refl
