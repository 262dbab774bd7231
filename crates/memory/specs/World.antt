-- The state that a function of the core goes from and to: record, bus, store and log. And one access, sync, acknowledge and
-- release on it.
use Rattle.std.specs.Prelude.{ℕ, ◌%◌, Bool, true, false, Option, Some, None, List, length, get_or}
use Rattle.types.specs.Kinds.{pick}
use Rattle.cpu.specs.declared.Cpu.{Cpu}
use Rattle.cpu.specs.Clocks.{has_clocks, clocks_of, set_clocks}
use Rattle.memory.specs.declared.Core.{Core}
use Rattle.memory.specs.declared.Bus.{Bus}
use Rattle.memory.specs.Bytes.{put_word, put_long, get_word, get_long}
use Rattle.memory.specs.Log.{note_log, counted}
use Rattle.memory.specs.Served.{served_of, place_of}

pub record World : Type 0 where
  pub core : Core
  pub store : List ℕ
  pub log : List ℕ

abbrev pub world : Core → List ℕ → List ℕ → World
world c s l = record { core = c; store = s; log = l }

-- an access that was tried: the world after it, whether it was served, and the value of a read
pub record Attempt : Type 0 where
  pub after : World
  pub ok : Bool
  pub value : ℕ

abbrev pub tried : World → Bool → Attempt
tried w b = record { after = w; ok = b; value = 0 }

abbrev pub reply : World → Bool → ℕ → Attempt
reply w b v = record { after = w; ok = b; value = v }

-- the same of a read whose value is there where it was served
abbrev pub read_as : World → Option ℕ → Attempt
read_as w None = reply w false 0
read_as w (Some v) = reply w true v

-- the record is replaced
unfoldable pub put_cpu : Core → Cpu → Core
put_cpu m c = record { cpu = c; bus = m.bus }

abbrev pub with_cpu : World → Cpu → World
with_cpu w c = record { core = put_cpu w.core c; store = w.store; log = w.log }

-- the record of a world, and one step of it
abbrev pub cpu_of : World → Cpu
cpu_of w = w.core.cpu

abbrev pub step : (Cpu → Cpu) → World → World
step f w = with_cpu w (f (cpu_of w))

-- the store is replaced
unfoldable pub stored : World → List ℕ → World
stored w s = record { core = w.core; store = s; log = w.log }

-- an event is added
unfoldable pub noted : World → ℕ → ℕ → ℕ → World
noted w code a v =
    record { core = record { cpu = w.core.cpu; bus = counted w.core.bus }; store = w.store; log = note_log w.core.bus.events w.log code a v }

-- bytes of an access: a long or a word
abbrev pub width_of : Bool → ℕ
width_of true = 4
width_of false = 2

unfoldable pub served : World → ℕ → Bool → Bool
served w a long = served_of w.core.bus (length w.store) a (width_of long)

-- the bytes of a write, and the field of a read, at the place of its address
unfoldable pub written : World → ℕ → Bool → ℕ → List ℕ
written w a long v = pick long (put_long w.store (place_of w.core.bus a) v) (put_word w.store (place_of w.core.bus a) (v % 0x10000))

unfoldable pub fetched : World → ℕ → Bool → ℕ
fetched w a long = pick long (get_long w.store (place_of w.core.bus a)) (get_word w.store (place_of w.core.bus a))

-- a long laid into the store of a bus without an event, where it is served
unfoldable pub poke_long : Bus → List ℕ → ℕ → ℕ → List ℕ
poke_long b s a v = pick (served_of b (length s) a 4) (put_long s (place_of b a) v) s

-- a raw write: stored and logged where it is served, else logged with 16 more, and it goes on
unfoldable pub raw_write : World → ℕ → Bool → ℕ → World
raw_write w a long v = pick (served w a long) (noted (stored w (written w a long v)) (pick long 4 3) a v) (noted w (pick long 20 19) a v)

-- a guarded write: the same, and whether it was served
unfoldable pub try_write : World → ℕ → Bool → ℕ → Attempt
try_write w a long v = tried (raw_write w a long v) (served w a long)

-- the value of a read, 0 where it is not served
unfoldable pub read_value : World → ℕ → Bool → ℕ
read_value w a long = pick (served w a long) (fetched w a long) 0

-- a read: its value is logged; a raw read goes on where it is not served
unfoldable pub raw_read : World → ℕ → Bool → World
raw_read w a long = noted w (pick (served w a long) (pick long 2 1) (pick long 18 17)) a (read_value w a long)

-- a guarded read: the same, whether it was served, and the value
unfoldable pub try_read : World → ℕ → Bool → Attempt
try_read w a long = reply (raw_read w a long) (served w a long) (read_value w a long)

-- `flush_sync`: clocks that wait are reported; none, no event
unfoldable pub flush : World → World
flush w = pick (has_clocks w.core.cpu) (noted (with_cpu w (set_clocks w.core.cpu 0)) 5 0 (clocks_of w.core.cpu)) w

-- `ipl_release_sample`
unfoldable pub release : World → World
release w = noted w 7 0 0

-- the response of a level, its low 3 bits
unfoldable pub response_of : Bus → ℕ → ℕ
response_of b level = get_or b.responses (level % 8) 0

-- `interrupt_acknowledge`: the event, and the response as the value
unfoldable pub acknowledged : World → ℕ → Attempt
acknowledged w level = reply (noted w 6 level (response_of w.core.bus level)) true (response_of w.core.bus level)
