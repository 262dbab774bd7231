-- The events beside a world: a list that the log is the replay of, and what more may come.
use Rattle.std.specs.Prelude.{ℕ, suc, ◌+◌, ◌*◌, ◌^◌, ◌%◌, ◌≤◌, ◌<◌, ◌≡◌, refl, Bool, List, [], ◌∷◌, ◌++◌, length, drop}
use Rattle.std.proofs.Common.{◌∙◌}
use Rattle.std.proofs.Math.Bool.{true, false}
use native.Mathlib.Omega.{arith}
use Rattle.types.specs.Kinds.{pick}
use Rattle.cpu.specs.Fields.{is_faulted, set_a7, set_pc, halted, set_exception, set_wdata, start_vector, lower_a7, restore_registers, clear_cause, clear_fc_override}
use Rattle.status.specs.Status.{keep_resume, clear_trace, restore_sr, set_sr_noint_nosp}
use Rattle.status.specs.Banks.{enter_supervisor, set_sflag, restore_sp, put_s, backup_sp}
use Rattle.cpu.specs.Clocks.{has_clocks, clocks_of, prefetch_enabled, set_clocks, internal_cycles, clear_prefetch, first_word, second_word}
use Rattle.memory.specs.Log.{note_log, counted}
use Rattle.memory.specs.LogLaws.{Event, replay, spell, Spells}
use Rattle.memory.proofs.LogLaws.{replay_spell}
use Rattle.memory.specs.World.{World, put_cpu, with_cpu, noted, stored, flush, release, raw_write, raw_read, cpu_of, step}
use Rattle.steps.specs.Steps.{begin_bus, begin_address, enter_bus_error, close_bus}
use Rattle.bounds.specs.Skeleton.{Steps, more, flush_ways, write_ways, read_ways, clocks_ways}

-- what may still be logged: the clocks that wait, and one trigger's cost while the record is not faulted
abbrev pub one : Bool → ℕ
one b = pick b 1 0

abbrev pub due : Bool → Bool → ℕ → ℕ
due flt has c = one has + pick flt 0 c

pub record Ledger (l : List ℕ) (n ev : ℕ) (log : List ℕ) (d : ℕ) : Type 0 where
  pub es : List Event
  pub count : ev ≡ length es % 2 ^ 32
  pub words : log ≡ replay l es
  pub cost : length es + d ≤ n

abbrev pub Books : ℕ → List ℕ → ℕ → World → Type 0
Books c l n w = Ledger l n w.core.bus.events w.log (due (is_faulted (cpu_of w)) (has_clocks (cpu_of w)) c)

module _ {l : List ℕ} {n ev : ℕ} {log : List ℕ} {d : ℕ} where
  -- a bill is paid out of what is due
  pub pay : {m x : ℕ} → x + n ≤ d + m → Ledger l n ev log d → Ledger l m ev log x
  pay h p = record { es = p.es; count = p.count; words = p.words; cost = let c = p.cost in omega arith }

  enter : (c a v : ℕ) {m x : ℕ} → x + 1 + n ≤ d + m → Ledger l n ev log d → Ledger l m ((ev + 1) % 2 ^ 32) (note_log ev log c a v) x
  unfolding replay
  enter c a v h p =
      record { es = record { code = c; place = a; value = v } ∷ p.es; count = let e = p.count in omega arith; words = rw (p.count, p.words); cost = let c = p.cost in omega arith }

one_low : (b : Bool) → one b ≤ 1
one_low true = omega arith
one_low false = omega arith

module _ (c : ℕ) (l : List ℕ) where
  flushes : (n : ℕ) (w : World) → Books c l n w → Books c l n (flush w)
  unfolding noted put_cpu counted set_clocks has_clocks is_faulted
  flushes n w p = flush_ways (Books c l n) w (λ h. enter 5 0 (clocks_of (cpu_of w)) (omega arith) (rw h at p)) p

  writes : (n : ℕ) (w : World) (a : ℕ) (g : Bool) (v : ℕ) → Books c l n w → Books c l (suc n) (raw_write w a g v)
  unfolding noted stored counted
  writes n w a g v p = write_ways (Books c l (suc n)) w a g v (λ s d x y. enter d x y (omega arith) p)

  reads : (n : ℕ) (w : World) (a : ℕ) (g : Bool) → Books c l n w → Books c l (suc n) (raw_read w a g)
  unfolding noted counted
  reads n w a g p = read_ways (Books c l (suc n)) w a g (λ d x y. enter d x y (omega arith) p)

  -- an event of any code pays for itself
  pub noted_books : (n : ℕ) (w : World) (code a v : ℕ) → Books c l n w → Books c l (suc n) (noted w code a v)
  unfolding noted counted
  noted_books n w code a v p = enter code a v (omega arith) p

  releases : (n : ℕ) (w : World) → Books c l n w → Books c l (suc n) (release w)
  unfolding release
  releases n w p = noted_books n w 7 0 0 p

  clocked : (q : Bool) (n : ℕ) (w : World) (v : ℕ) → q ≡ true → Books c l n w → Books c l (more q n) (with_cpu w (set_clocks (cpu_of w) ((clocks_of (cpu_of w) + v) % 2 ^ 32)))
  unfolding set_clocks put_cpu is_faulted
  clocked q n w v h p = rw h (pay (let z = one_low (has_clocks (set_clocks (cpu_of w) ((clocks_of (cpu_of w) + v) % 2 ^ 32))) in omega arith) p)

  idle : (q : Bool) (n : ℕ) (w : World) → Books c l n w → Books c l (more q n) (with_cpu w (cpu_of w))
  unfolding put_cpu
  idle true n w p = pay (omega arith) p
  idle false n w p = p

  -- clocks that begin to wait are an event to come, on the kinds with a queue
  pub clocks_books : (q : Bool) (n : ℕ) (w : World) (v : ℕ) → (prefetch_enabled (cpu_of w) ≡ true → q ≡ true) → Books c l n w → Books c l (more q n) (with_cpu w (internal_cycles (cpu_of w) v))
  clocks_books q n w v h p = clocks_ways (Books c l (more q n)) w v (λ e. clocked q n w v (h e) p) (idle q n w p)

  -- each step pays for its own event
  pub books_steps : (q : Bool) → Steps (Books c l) q
  unfolding lower_a7 set_a7 set_wdata start_vector set_pc clear_prefetch first_word second_word put_cpu has_clocks is_faulted
  books_steps q = record { weaken = λ n w p. pay (omega arith) p; flushes = flushes; lowers = λ n w g p. p; datum = λ n w v p. p; writes = writes; reads = reads; releases = releases; starts = λ n w v p. p; goes = λ n w v p. p; drops = λ n w p. p; firsts = λ n w v p. p; seconds = λ n w v p. p; clocks = λ n w h p. clocks_books q n w 2 h p }

  -- not faulted: what is due is paid for
  pub afford : (n : ℕ) (w : World) → is_faulted (cpu_of w) ≡ false → Books c l n w → c ≤ n
  afford n w h p = let z = (rw h at p).cost in omega arith

  -- a trigger of a bus error begins, from a record that is not faulted
  pub begin_bus_lem : (d n m : ℕ) (w : World) → is_faulted (cpu_of w) ≡ false → d + n ≤ c + m → Books c l n w → Books d l m (step begin_bus w)
  unfolding begin_bus clear_cause set_exception restore_registers restore_sr set_sr_noint_nosp put_cpu has_clocks is_faulted
  begin_bus_lem d n m w h e p = rw h (pay (omega arith) (rw h at p))

  -- a trigger of an address error begins
  pub begin_address_lem : (d n m : ℕ) (w : World) → is_faulted (cpu_of w) ≡ false → d + n ≤ c + m → Books c l n w → Books d l m (step begin_address w)
  unfolding begin_address restore_registers restore_sr set_sr_noint_nosp put_cpu has_clocks is_faulted
  begin_address_lem d n m w h e p = rw h (pay (omega arith) (rw h at p))

  -- a halt costs nothing
  pub halted_books : (n : ℕ) (w : World) → Books c l n w → Books c l n (step halted w)
  unfolding halted put_cpu has_clocks is_faulted
  halted_books n w p = pay (omega arith) p

  -- nor does supervisor state
  pub super_books : (n : ℕ) (w : World) → Books c l n w → Books c l n (step enter_supervisor w)
  unfolding put_cpu has_clocks is_faulted enter_supervisor clear_trace set_sflag restore_sp put_s backup_sp
  super_books n w p = p

  -- nor does that of a bus error entry
  pub super_bus_books : (n : ℕ) (w : World) → Books c l n w → Books c l n (step enter_bus_error w)
  unfolding put_cpu has_clocks is_faulted enter_bus_error clear_fc_override enter_supervisor clear_trace set_sflag restore_sp put_s backup_sp
  super_bus_books n w p = p

  -- a trigger of a bus error ends: nothing more is due but the clocks
  pub close_bus_books : (d n m : ℕ) (w : World) → m ≤ n → Books c l m w → Books d l n (step close_bus w)
  unfolding keep_resume set_exception put_cpu has_clocks is_faulted
  close_bus_books d n m w e p = pay (omega arith) p

  -- a trigger of an address error ends
  pub close_address_books : (d n m : ℕ) (w : World) → m ≤ n → Books c l m w → Books d l n (step keep_resume w)
  unfolding keep_resume put_cpu has_clocks is_faulted
  close_address_books d n m w e p = pay (omega arith) p

-- at the start there is no event: the clocks and one trigger may come
pub start : (c : ℕ) (w : World) → w.core.bus.events ≡ 0 → Books c w.log (suc c) w
unfolding replay
start c w s = record { es = []; count = s; words = refl; cost = most (is_faulted (cpu_of w)) (has_clocks (cpu_of w)) }
  where
    most : (f b : Bool) → 0 + due f b c ≤ suc c
    most true true = omega arith
    most true false = omega arith
    most false true = omega arith
    most false false = omega arith

-- THE LOG AFTER A CALL: m events at most were logged on the way to w, and where the log l has room for them it is their words
-- and then what it held
pub record Written (m : ℕ) (l : List ℕ) (w : World) : Type 0 where
  pub es : List Event
  pub few : length es ≤ m
  pub count : w.core.bus.events ≡ length es
  pub spells : Spells l es w
  pub log : m * 3 ≤ length l → w.log ≡ spell es ++ drop (length es * 3) l

-- the books at the end of a call
pub written : (n m : ℕ) (l : List ℕ) {d : ℕ} (w : World) → n ≤ m → m < 2 ^ 32 → Ledger l n w.core.bus.events w.log d → Written m l w
written n m l {d} w g b p =
    let z : length p.es + d ≤ n = p.cost in
    record { es = p.es; few = omega arith; count = let e = p.count in omega arith; spells = record { count = p.count; log = p.words }; log = λ h. p.words ∙ replay_spell l p.es (omega arith) (omega arith) }
