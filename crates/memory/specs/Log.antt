-- The log: three words an event, from the first word on. Codes: 1, 2 read word, long; 3, 4 write; 5 sync; 6 acknowledge;
-- 7 release; 16 more where an access is not served.
use Rattle.std.specs.Prelude.{ℕ, ◌+◌, ◌*◌, ◌%◌, ◌^◌, List, ltb, length, set}
use Rattle.types.specs.Kinds.{pick}
use Rattle.memory.specs.declared.Bus.{Bus}

-- event number n in a log with room for it
unfoldable pub note_log : ℕ → List ℕ → ℕ → ℕ → ℕ → List ℕ
note_log n l code a v = pick (ltb (n * 3 + 2) (length l)) (set (set (set l (n * 3) code) (n * 3 + 1) a) (n * 3 + 2) v) l

-- the bus with another number of events
abbrev pub with_events : Bus → ℕ → Bus
with_events b n = record { base = b.base; windows = b.windows; starts = b.starts; lengths = b.lengths; responses = b.responses; events = n }

-- one event more
unfoldable pub counted : Bus → Bus
counted b = with_events b ((b.events + 1) % 2 ^ 32)
