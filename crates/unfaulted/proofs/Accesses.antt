-- Theorems about what specs/Accesses defines, and what rests on them.
use Rattle.std.specs.Prelude.{ℕ, ◌+◌, ◌-◌, ◌%◌, ◌^◌, ◌≤◌, ◌<◌, ◌≡◌, refl, Bool, true, false, List, length}
use Rattle.std.proofs.Common.{arith}
use Rattle.types.specs.Kinds.{pick, mask_address}
use Rattle.cpu.specs.declared.Cpu.{Cpu}
use Rattle.cpu.specs.Fields.{kind_of, address_of, is_faulted, set_wdata}
use Rattle.cpu.specs.Clocks.{has_clocks}
use Rattle.memory.specs.declared.Bus.{Bus}
use Rattle.memory.specs.Log.{note_log, counted, with_events}
use Rattle.memory.specs.Bytes.{put_word, put_long, get_word}
use Rattle.memory.specs.Served.{served_of, place_of}
use Rattle.memory.specs.World.{World, reply, noted, stored, put_cpu, width_of, served, written, fetched, read_value, raw_read, try_read, flush, raw_write, try_write}
use Rattle.memory.specs.ByteLaws.{put, get}
use Rattle.memory.specs.AccessLaws.{write_code, read_code, kept}
use Rattle.steps.specs.Steps.{refuses_odd}
use Rattle.access.specs.Access.{Raise, read_or, checked_read, read_at, prefetch_read, wrote, checked_write, write_at}
use Rattle.unfaulted.specs.Closed.{closed, Room}
use Rattle.unfaulted.specs.Accesses.{room_mask, room_served, room_place, even_taken, width_some}

-- a write at offset o of such an interval
pub write_closed : (t : Raise) (b : Bus) (c : Cpu) (e : ℕ) (s l : List ℕ) (q n o : ℕ) (g : Bool) (v : ℕ) → is_faulted c ≡ false → has_clocks c ≡ false → Room b (kind_of c) (length s) q n
    → o % 2 ≡ 0 → o + width_of g ≤ n → e + 1 < 2 ^ 32
    → write_at t (closed b c e s l) (q + o) g v ≡ closed b (set_wdata c v) (e + 1) (put g s (q - b.base + o) (kept g v)) (note_log e l (write_code g) (q + o) v)
unfolding write_at checked_write wrote try_write raw_write flush served written closed put_cpu stored noted counted address_of kind_of
write_closed t b c e s l q n o g v h k r p w u =
    let a : mask_address c.flow.cpu_type (q + o) ≡ q + o = room_mask b c.flow.cpu_type (length s) q n o r (width_some g o n w) in
    let d : refuses_odd c (q + o) ≡ false = even_taken c (q + o) (let x = r.even in omega arith) in
    let z : served_of (with_events b e) (length s) (q + o) (width_of g) ≡ true = room_served b c.flow.cpu_type (length s) q n o (width_of g) r w e in
    let y : place_of (with_events b e) (q + o) ≡ q - b.base + o = room_place b c.flow.cpu_type (length s) q n o (width_of g) r w e in
    let x : (e + 1) % 2 ^ 32 ≡ e + 1 = omega arith in
    rw (h, k, a, d, z, y, x) (go g)
  where
    go : (g : Bool) → closed b (set_wdata c v) (e + 1) (pick g (put_long s (q - b.base + o) v) (put_word s (q - b.base + o) (v % 0x10000))) (note_log e l (pick g 4 3) (q + o) v) ≡ closed b (set_wdata c v) (e + 1) (put g s (q - b.base + o) (kept g v)) (note_log e l (write_code g) (q + o) v)
    go true = refl
    go false = refl

-- a guarded read at an address that is masked to offset o of such an interval
pub read_closed : (t : Raise) (b : Bus) (c : Cpu) (e : ℕ) (s l : List ℕ) (a q n o : ℕ) (g : Bool) → is_faulted c ≡ false → has_clocks c ≡ false → address_of c a ≡ q + o → Room b (kind_of c) (length s) q n
    → o % 2 ≡ 0 → o + width_of g ≤ n → e + 1 < 2 ^ 32
    → read_at t (closed b c e s l) a g ≡ reply (closed b c (e + 1) s (note_log e l (read_code g) (q + o) (get g s (q - b.base + o)))) true (get g s (q - b.base + o))
unfolding read_at checked_read read_or try_read raw_read read_value fetched flush served closed noted counted
read_closed t b c e s l a q n o g h k m r p w u =
    let d : refuses_odd c (q + o) ≡ false = even_taken c (q + o) (let x = r.even in omega arith) in
    let z : served_of (with_events b e) (length s) (q + o) (width_of g) ≡ true = room_served b (kind_of c) (length s) q n o (width_of g) r w e in
    let y : place_of (with_events b e) (q + o) ≡ q - b.base + o = room_place b (kind_of c) (length s) q n o (width_of g) r w e in
    let x : (e + 1) % 2 ^ 32 ≡ e + 1 = omega arith in
    rw (h, k, m, d, z, y, x)

-- a program word there, after the sync
pub word_closed : (t : Raise) (w : World) (b : Bus) (c : Cpu) (e : ℕ) (s l : List ℕ) (a q n o : ℕ) → flush w ≡ closed b c e s l → address_of c a ≡ q + o → Room b (kind_of c) (length s) q n
    → o + 2 ≤ n → e + 1 < 2 ^ 32
    → prefetch_read t w a ≡ reply (closed b c (e + 1) s (note_log e l 1 (q + o) (get_word s (q - b.base + o)))) true (get_word s (q - b.base + o))
unfolding prefetch_read read_or try_read raw_read read_value fetched served closed noted counted
word_closed t w b c e s l a q n o f m r p u =
    let z : served_of (with_events b e) (length s) (q + o) 2 ≡ true = room_served b (kind_of c) (length s) q n o 2 r p e in
    let y : place_of (with_events b e) (q + o) ≡ q - b.base + o = room_place b (kind_of c) (length s) q n o 2 r p e in
    let x : (e + 1) % 2 ^ 32 ≡ e + 1 = omega arith in
    rw (f, m, z, y, x)
