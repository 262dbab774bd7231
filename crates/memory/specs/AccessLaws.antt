-- What an access leaves, served or not: the store, the log, and what is read then.
use Rattle.std.specs.Prelude.{ℕ, ◌%◌, Bool}
use mathlib.Core.List.{List}
use Rattle.types.specs.Kinds.{pick}
use Rattle.memory.specs.Served.{place_of}
use Rattle.memory.specs.World.{World, served}
use Rattle.memory.specs.ByteLaws.{put}

-- the event code of a write and of a read
abbrev pub write_code : Bool → ℕ
write_code g = pick g 4 3

abbrev pub read_code : Bool → ℕ
read_code g = pick g 2 1

-- what a write stores: all of a long, the low 16 bits of a word
abbrev pub kept : Bool → ℕ → ℕ
kept g v = pick g v (v % 0x10000)

-- what a write leaves of the store s
abbrev pub left : World → ℕ → Bool → ℕ → List ℕ → List ℕ
left w a g v s = pick (served w a g) (put g s (place_of w.core.bus a) (kept g v)) s
