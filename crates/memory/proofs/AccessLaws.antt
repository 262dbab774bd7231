-- Theorems about what specs/AccessLaws defines, and what rests on them.
use Rattle.std.specs.Prelude.{ℕ, zero, suc, ◌+◌, ◌-◌, ◌%◌, ◌^◌, ◌≤◌, ◌<◌, ◌≡◌, Bool, get_or}
use Rattle.std.proofs.Math.Path.{refl}
use Rattle.std.proofs.Common.{sym, ap, ◌∙◌, le-ltb}
use Rattle.std.proofs.Math.Bool.{true, false}
use Rattle.std.proofs.Math.Logic.{inl, inr}
use mathlib.Core.List.{List}
use native.Mathlib.Omega.{arith}
use Rattle.std.proofs.Math.ListN.{length}
use Rattle.types.specs.Kinds.{pick}
use Rattle.memory.specs.declared.Bus.{Bus}
use Rattle.memory.specs.Log.{counted}
use Rattle.memory.specs.Served.{meets, clear_of, windows_in_use, in_store, served_of, place_of}
use Rattle.memory.specs.World.{World, noted, stored, width_of, served, written, fetched, raw_write, read_value, raw_read}
use Rattle.memory.specs.Runs.{Outside, Apart}
use Rattle.memory.specs.ByteLaws.{put, get, Fits, AllBytes}
use Rattle.memory.proofs.ByteLaws.{put_length, put_keeps, put_comm, read_back, read_other, put_small}
use Rattle.memory.specs.LogLaws.{Logged}
use Rattle.memory.proofs.LogLaws.{noted_one}
use Rattle.memory.specs.ServedLaws.{Clear, served_means}
use Rattle.memory.specs.AccessLaws.{kept, left, read_code, write_code}

module _ (w : World) (a : ℕ) (g : Bool) where
  -- a write that is not served is logged with 16 more, and changes nothing else
  pub write_refused : (v : ℕ) → served w a g ≡ false → raw_write w a g v ≡ noted w (write_code g + 16) a v
  unfolding raw_write
  write_refused v h = rw h (go g)
    where
      go : (g : Bool) → noted w (pick g 20 19) a v ≡ noted w (write_code g + 16) a v
      go true = refl
      go false = refl

  -- a write that is served is stored and logged
  pub write_served : (v : ℕ) → served w a g ≡ true → raw_write w a g v ≡ noted (stored w (written w a g v)) (write_code g) a v
  unfolding raw_write
  write_served v h = rw h

  -- a read that is not served is logged with 16 more and the value 0, and changes nothing else
  pub read_refused : served w a g ≡ false → raw_read w a g ≡ noted w (read_code g + 16) a 0
  unfolding raw_read read_value
  read_refused h = rw h (go g)
    where
      go : (g : Bool) → noted w (pick g 18 17) a 0 ≡ noted w (read_code g + 16) a 0
      go true = refl
      go false = refl

  -- a read that is served is logged with its value, and changes nothing else
  pub read_served : served w a g ≡ true → raw_read w a g ≡ noted w (read_code g) a (fetched w a g)
  unfolding raw_read read_value
  read_served h = rw h

  -- a write that is not served stores nothing
  pub refused_store : (v : ℕ) → served w a g ≡ false → (raw_write w a g v).store ≡ w.store
  unfolding raw_write noted
  refused_store v h = rw h

  -- a read stores nothing
  pub read_store : (raw_read w a g).store ≡ w.store
  unfolding raw_read noted
  read_store = refl

  -- a read logs one event: its code, 16 more where it is not served, the address and the value
  pub read_logged : Logged w (raw_read w a g) (pick (served w a g) (read_code g) (read_code g + 16)) a (read_value w a g)
  unfolding raw_read
  read_logged = go (served w a g) g g
    where
      go : (t g h : Bool) → Logged w (noted w (pick t (pick g 2 1) (pick g 18 17)) a (read_value w a h)) (pick t (read_code g) (read_code g + 16)) a (read_value w a h)
      go true g h = noted_one w (read_code g) a (read_value w a h)
      go false true h = noted_one w 18 a (read_value w a h)
      go false false h = noted_one w 17 a (read_value w a h)

  -- a write logs one event: its code, 16 more where it is not served, the address and the value
  pub write_logged : (v : ℕ) → Logged w (raw_write w a g v) (pick (served w a g) (write_code g) (write_code g + 16)) a v
  unfolding raw_write noted stored
  write_logged v = go (served w a g) g
    where
      at : (c : ℕ) (s : List ℕ) → Logged w (noted (stored w s) c a v) c a v
      at c s = record { log = refl; bus = refl }

      go : (t g : Bool) → Logged w (pick t (noted (stored w (written w a g v)) (pick g 4 3) a v) (noted w (pick g 20 19) a v)) (pick t (write_code g) (write_code g + 16)) a v
      go true g = at (write_code g) (written w a g v)
      go false true = noted_one w 20 a v
      go false false = noted_one w 19 a v

written_put : (w : World) (a : ℕ) (g : Bool) (v : ℕ) → written w a g v ≡ put g w.store (place_of w.core.bus a) (kept g v)
unfolding written
written_put w a true v = refl
written_put w a false v = refl

-- the store after a write
pub write_store : (w : World) (a : ℕ) (g : Bool) (v : ℕ) → (raw_write w a g v).store ≡ left w a g v w.store
unfolding raw_write noted stored
write_store w a g v = go (served w a g)
  where
    go : (t : Bool) → (pick t (noted (stored w (written w a g v)) (pick g 4 3) a v) (noted w (pick g 20 19) a v)).store ≡ pick t (put g w.store (place_of w.core.bus a) (kept g v)) w.store
    go true = written_put w a g v
    go false = refl

write_bus : (w : World) (a : ℕ) (g : Bool) (v : ℕ) → (raw_write w a g v).core.bus ≡ counted w.core.bus
write_bus w a g v = (write_logged w a g v).bus

-- the place of an address at or above the base
place_above : (b : Bus) (a : ℕ) → b.base ≤ a → place_of b a ≡ a - b.base
unfolding place_of
place_above b a h = rw (le-ltb a b.base h)

place_counted : (b : Bus) (a : ℕ) → place_of (counted b) a ≡ place_of b a
unfolding place_of counted
place_counted b a = refl

clear_counted : (b : Bus) (k a n : ℕ) → clear_of (counted b) k a n ≡ clear_of b k a n
unfolding clear_of meets counted
clear_counted b zero a n = refl
clear_counted b (suc k) a n = rw (clear_counted b k a n)

served_counted : (b : Bus) (len a n : ℕ) → served_of (counted b) len a n ≡ served_of b len a n
unfolding served_of in_store windows_in_use counted
served_counted b len a n = rw (clear_counted b (windows_in_use b) a n)

-- an event changes nothing of what is served, nor of what is read: of a read, a sync, an acknowledge or a release, too
module _ (w x : World) (n a v : ℕ) (p : Logged w x n a v) where
  pub logged_serves : length x.store ≡ length w.store → (c : ℕ) (h : Bool) → served x c h ≡ served w c h
  unfolding served
  logged_serves e c h = rw (p.bus, e) (served_counted w.core.bus (length w.store) c (width_of h))

  pub logged_reads : x.store ≡ w.store → (c : ℕ) (h : Bool) → read_value x c h ≡ read_value w c h
  unfolding read_value fetched
  logged_reads e c h = rw (logged_serves (ap length e) c h, p.bus, e, place_counted w.core.bus c)

module _ (w : World) (a : ℕ) (g : Bool) (v : ℕ) where
  -- a write, served or not, keeps the length of the store
  pub write_length : length (raw_write w a g v).store ≡ length w.store
  write_length = rw write_store (go (served w a g))
    where
      go : (t : Bool) → length (pick t (put g w.store (place_of w.core.bus a) (kept g v)) w.store) ≡ length w.store
      go true = put_length g w.store (place_of w.core.bus a) (kept g v)
      go false = refl

  -- a write, served or not, changes no byte outside the access: i is the byte's place in the store, base + i its address
  pub write_keeps : (i : ℕ) → Outside a (width_of g) (w.core.bus.base + i) → get_or (raw_write w a g v).store i 0 ≡ get_or w.store i 0
  unfolding served
  write_keeps i o = rw write_store (go (served w a g) refl)
    where
      past : w.core.bus.base ≤ a → Outside a (width_of g) (w.core.bus.base + i) → Outside (a - w.core.bus.base) (width_of g) i
      past l (inl x) = inl (omega arith)
      past l (inr x) = inr (omega arith)

      go : (t : Bool) → served w a g ≡ t → get_or (pick t (put g w.store (place_of w.core.bus a) (kept g v)) w.store) i 0 ≡ get_or w.store i 0
      go true h =
          let l : w.core.bus.base ≤ a = (served_means w.core.bus (length w.store) a (width_of g) h).low in
          put_keeps g w.store (place_of w.core.bus a) (kept g v) i (rw (place_above w.core.bus a l) (past l o))
      go false h = refl

  -- a write of a value below 2^32 into a store of bytes leaves a store of bytes
  pub write_bytes : v < 2 ^ 32 → AllBytes w.store → AllBytes (raw_write w a g v).store
  write_bytes h k = rw write_store (go (served w a g) g)
    where
      go : (t g : Bool) → AllBytes (pick t (put g w.store (place_of w.core.bus a) (kept g v)) w.store)
      go true true = put_small true w.store (place_of w.core.bus a) v h k
      go true false = put_small false w.store (place_of w.core.bus a) (v % 0x10000) (omega arith) k
      go false g = k

  -- what is served is the same after a write as before it
  pub write_serves : (c : ℕ) (h : Bool) → served (raw_write w a g v) c h ≡ served w c h
  write_serves = logged_serves w (raw_write w a g v) _ a v (write_logged w a g v) write_length

  -- a served write, then a read of the same address: the value
  pub write_read : served w a g ≡ true → Fits g v → read_value (raw_write w a g v) a g ≡ v
  unfolding read_value fetched served
  write_read h f =
      let s : served (raw_write w a g v) a g ≡ true = write_serves a g ∙ h in
      rw (s, write_bus w a g v, place_counted w.core.bus a, write_store w a g v, h) (rw same (read_back g w.store (place_of w.core.bus a) v room))
    where
      same : kept g v ≡ v
      same = go g f
        where
          go : (g : Bool) → Fits g v → kept g v ≡ v
          go true x = refl
          go false x = omega arith

      room : place_of w.core.bus a + width_of g ≤ length w.store
      room =
          let l : w.core.bus.base ≤ a = (served_means w.core.bus (length w.store) a (width_of g) h).low in
          rw (place_above w.core.bus a l) (omega (arith, (served_means w.core.bus (length w.store) a (width_of g) h).high))

-- addresses of the store that share no byte have places that share none
apart_places : (b : Bus) (len a c n m : ℕ) → Clear b len a n → Clear b len c m → Apart a n c m → Apart (place_of b a) n (place_of b c) m
apart_places b len a c n m x y d = rw (place_above b a x.low, place_above b c y.low) (go x.low y.low d)
  where
    go : b.base ≤ a → b.base ≤ c → Apart a n c m → Apart (a - b.base) n (c - b.base) m
    go l k (inl z) = inl (omega arith)
    go l k (inr z) = inr (omega arith)

module _ (w : World) (a c : ℕ) (g h : Bool) (d : Apart a (width_of g) c (width_of h)) where
  places : served w a g ≡ true → served w c h ≡ true → Apart (place_of w.core.bus a) (width_of g) (place_of w.core.bus c) (width_of h)
  unfolding served
  places x y = apart_places w.core.bus (length w.store) a c (width_of g) (width_of h) (served_means _ _ _ _ x) (served_means _ _ _ _ y) d

  -- a read that shares no byte with a write gives the same before and after it
  pub write_other : (v : ℕ) → read_value (raw_write w a g v) c h ≡ read_value w c h
  unfolding read_value fetched
  write_other v =
      rw (write_serves w a g v c h, write_bus w a g v, place_counted w.core.bus c, write_store w a g v) (go (served w a g) refl (served w c h) refl)
    where
      go : (t : Bool) → served w a g ≡ t → (u : Bool) → served w c h ≡ u → pick (served w c h) (get h (left w a g v w.store) (place_of w.core.bus c)) 0 ≡ pick (served w c h) (get h w.store (place_of w.core.bus c)) 0
      go true x true y = rw (x, y) (read_other g h w.store (place_of w.core.bus a) (place_of w.core.bus c) (kept g v) (places x y))
      go t x false y = rw y
      go false x true y = rw x

  -- two writes that share no byte leave the same store in either order
  pub write_comm : (v u : ℕ) → (raw_write (raw_write w a g v) c h u).store ≡ (raw_write (raw_write w c h u) a g v).store
  write_comm v u = after w a g v c h u ∙ go (served w a g) refl (served w c h) refl ∙ sym (after w c h u a g v)
    where
      after : (w : World) (a : ℕ) (g : Bool) (v c : ℕ) (h : Bool) (u : ℕ) → (raw_write (raw_write w a g v) c h u).store ≡ left w c h u (left w a g v w.store)
      after w a g v c h u = write_store (raw_write w a g v) c h u ∙ rw (write_serves w a g v c h, write_bus w a g v, place_counted w.core.bus c, write_store w a g v)

      go : (s : Bool) → served w a g ≡ s → (t : Bool) → served w c h ≡ t → left w c h u (left w a g v w.store) ≡ left w a g v (left w c h u w.store)
      go true x true y = rw (x, y) (sym (put_comm g h w.store (place_of w.core.bus a) (place_of w.core.bus c) (kept g v) (kept h u) (places x y)))
      go true x false y = rw (x, y)
      go false x t y = rw x
