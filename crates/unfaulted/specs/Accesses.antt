-- Accesses that nothing refuses, one by one and in a row.
use Rattle.std.specs.Prelude.{ℕ, ◌+◌, ◌-◌, ◌%◌, ◌^◌, ◌≤◌, ◌<◌, ◌≡◌, refl, Bool, true, false, List, [], ◌∷◌, eqb, ltb, length}
use Rattle.std.proofs.Common.{sym, ap, arith}
use borrow.Author.Tests.{ltb-false, le-ltb, le-leb, ne_eqb}
use Rattle.types.specs.Kinds.{pick, mask_address}
use Rattle.cpu.specs.declared.Cpu.{Cpu}
use Rattle.cpu.specs.Fields.{is_faulted, checks_alignment}
use Rattle.cpu.specs.Clocks.{has_clocks, clocks_of, set_clocks}
use Rattle.memory.specs.declared.Bus.{Bus}
use Rattle.memory.specs.Log.{note_log, counted, with_events}
use Rattle.memory.specs.Served.{served_of, in_store, clear_of, windows_in_use, place_of}
use Rattle.memory.specs.World.{noted, put_cpu, width_of, flush}
use Rattle.memory.proofs.LogLaws.{flush_none}
use Rattle.steps.specs.Steps.{refuses_odd}
use Rattle.access.specs.Access.{Raise, write_at}
use Rattle.unfaulted.specs.Closed.{closed, event, told, clock_events, Room}

-- ---- one access

-- the mask leaves each of the bytes as it is
pub room_mask : (b : Bus) (k len a n o : ℕ) → Room b k len a n → o < n → mask_address k (a + o) ≡ a + o
unfolding mask_address
room_mask b k len a n o r l = go (ltb k 3) r.last
  where
    go : (t : Bool) → pick t ((a + n - 1) % 0x1000000) (a + n - 1) ≡ a + n - 1 → pick t ((a + o) % 0x1000000) (a + o) ≡ a + o
    go true e = omega arith
    go false e = refl

module _ (b : Bus) (k len a n o d : ℕ) (r : Room b k len a n) (l : o + d ≤ n) where
  pub room_served : (e : ℕ) → served_of (with_events b e) len (a + o) d ≡ true
  unfolding served_of in_store windows_in_use clear_of
  room_served e =
      rw (le-ltb (a + o) b.base (let x = r.low in omega arith), le-leb (a + o - b.base + d) len (let x = r.low in let y = r.high in omega arith), r.windows)

  pub room_place : (e : ℕ) → place_of (with_events b e) (a + o) ≡ a - b.base + o
  unfolding place_of
  room_place e = let x = r.low in rw (le-ltb (a + o) b.base (omega arith)) (omega arith)

pub even_taken : (c : Cpu) (a : ℕ) → a % 2 ≡ 0 → refuses_odd c a ≡ false
unfolding refuses_odd
even_taken c a e = go (checks_alignment c)
  where
    go : (t : Bool) → pick t (eqb (a % 2) 1) false ≡ false
    go true = ne_eqb (a % 2) 1 (λ x. omega arith)
    go false = refl

pub width_some : (g : Bool) (o n : ℕ) → o + width_of g ≤ n → o < n
width_some true o n h = omega arith
width_some false o n h = omega arith

-- ---- the sync

-- no clock waits: the same record
pub clocks_none : (c : Cpu) → clocks_of c ≡ 0 → set_clocks c 0 ≡ c
unfolding set_clocks clocks_of
clocks_none c h = ap (λ (n : ℕ). set_clocks c n) (sym h)

pub calm_has : (c : Cpu) → has_clocks (set_clocks c 0) ≡ false
unfolding has_clocks set_clocks
calm_has c = refl

-- the sync tells the clocks that wait
pub flush_closed : (b : Bus) (c : Cpu) (e : ℕ) (s l : List ℕ) → e + 1 < 2 ^ 32
    → flush (closed b c e s l) ≡ closed b (set_clocks c 0) (e + length (clock_events (clocks_of c))) s (told e l (clock_events (clocks_of c)))
unfolding flush closed noted counted put_cpu has_clocks clocks_of clock_events told
flush_closed b c e s l u = go (ltb 0 c.queue.pending_sync_clocks) refl
  where
    go : (t : Bool) → ltb 0 c.queue.pending_sync_clocks ≡ t
        → pick t (closed b (set_clocks c 0) ((e + 1) % 2 ^ 32) s (note_log e l 5 0 c.queue.pending_sync_clocks)) (closed b c e s l)
        ≡ closed b (set_clocks c 0) (e + length (pick t (event 5 0 c.queue.pending_sync_clocks ∷ []) [])) s (told e l (pick t (event 5 0 c.queue.pending_sync_clocks ∷ []) []))
    go true h = let x : (e + 1) % 2 ^ 32 ≡ e + 1 = omega arith in rw x
    go false h =
        let z : e + 0 ≡ e = omega arith in
        rw (z, clocks_none c (let x = ltb-false 0 c.queue.pending_sync_clocks h in omega arith))

-- the sync of a record where none waits
pub calm_flush : (b : Bus) (c : Cpu) (e : ℕ) (s l : List ℕ) → has_clocks c ≡ false → flush (closed b c e s l) ≡ closed b c e s l
unfolding closed
calm_flush b c e s l h = flush_none (closed b c e s l) h

pub still_running : (c : Cpu) (n : ℕ) → is_faulted (set_clocks c n) ≡ is_faulted c
unfolding is_faulted set_clocks
still_running c n = refl

-- a guarded write syncs first
pub write_flush : (t : Raise) (b : Bus) (c : Cpu) (e : ℕ) (s l : List ℕ) (a : ℕ) (g : Bool) (v : ℕ) → is_faulted c ≡ false → e + 1 < 2 ^ 32
    → write_at t (closed b c e s l) a g v ≡ write_at t (closed b (set_clocks c 0) (e + length (clock_events (clocks_of c))) s (told e l (clock_events (clocks_of c)))) a g v
unfolding write_at closed
write_flush t b c e s l a g v h u =
    rw (h, still_running c 0, h, flush_closed b c e s l u, calm_flush b (set_clocks c 0) (e + length (clock_events (clocks_of c))) s (told e l (clock_events (clocks_of c))) (calm_has c))
