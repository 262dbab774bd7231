-- Frames and events, written one after the other: `Tape` is the store and the log.
use Rattle.std.specs.Prelude.{ℕ, ◌+◌, ◌/◌, ◌%◌, ◌^◌, ◌≤◌, Bool, List, length, ◌==◌, nat_lt}
use Rattle.types.specs.Kinds.{pick}
use Rattle.memory.specs.Bytes.{put_word, put_long}
use Rattle.memory.specs.Log.{note_log}
use Rattle.fast_plans.specs.declared.View.{View}
use Rattle.fast_plans.specs.declared.places.Spot.{Spot}
use Rattle.fast.specs.declared.landings.Landing.{Landing}
use Rattle.fast_plans.specs.declared.plans.Plan.{Plan}
use Rattle.fast_plans.specs.Places.{fetches_of}
use Rattle.fast_plans.specs.Plans.{shape_number}

pub record Tape : Type 0 where
  pub store : List ℕ
  pub log : List ℕ

abbrev pub tape : List ℕ → List ℕ → Tape
tape s l = record { store = s; log = l }

-- n bytes at a place are in the store, and their addresses are numbers of 32 bits
pub record Fits (s : Spot) (n : ℕ) (m : List ℕ) : Type 0 where
  pub place : s.place + n ≤ length m
  pub address : s.a7 + n ≤ 2 ^ 32

-- a word and a long word at an offset of the frame, each with event number n
unfoldable pub word_at : Spot → ℕ → ℕ → ℕ → Tape → Tape
word_at s o n v t = tape (put_word t.store (s.place + o) v) (note_log n t.log 3 (s.a7 + o) v)

unfoldable pub long_at : Spot → ℕ → ℕ → ℕ → Tape → Tape
long_at s o n v t = tape (put_long t.store (s.place + o) v) (note_log n t.log 4 (s.a7 + o) v)

unfoldable pub event_at : ℕ → ℕ → ℕ → ℕ → Tape → Tape
event_at n code a v t = tape t.store (note_log n t.log code a v)

-- status, address and format word
unfoldable pub short_at : Spot → ℕ → Plan → Tape → Tape
short_at s n p t = word_at s 0 (n + 2) p.sr (long_at s 2 (n + 1) p.pc (word_at s 6 n p.format t))

-- the 68000's three words
unfoldable pub three_at : Spot → ℕ → Plan → Tape → Tape
three_at s n p t = word_at s 2 (n + 2) (p.pc / 0x10000) (word_at s 0 (n + 1) p.sr (word_at s 4 n (p.pc % 0x10000) t))

-- an interrupt of the 68010
unfoldable pub four_at : Spot → ℕ → Plan → Tape → Tape
four_at s n p t = word_at s 6 (n + 4) p.format (three_at s (n + 1) p (event_at n 6 p.level p.response t))

-- 4 clocks of a bus that is precise
unfoldable pub sync_count : ℕ → Bool → ℕ
sync_count n precise = pick precise (n + 1) n

unfoldable pub sync_at : ℕ → Bool → List ℕ → List ℕ
sync_at n precise l = pick precise (note_log n l 5 0 4) l

-- an interrupt of the 68000: the acknowledge stands between 4 clocks each
unfoldable pub old_from : Spot → ℕ → Plan → Bool → ℕ → Tape → Tape
old_from s b p precise a t =
    word_at s 2 (b + 1) (p.pc / 0x10000)
    (word_at s 0 b p.sr (tape t.store (sync_at (a + 1) precise (note_log a t.log 6 p.level p.response))))

unfoldable pub old_at : Spot → ℕ → Plan → Bool → Tape → Tape
old_at s n p precise t =
    old_from s (sync_count (sync_count (n + 1) precise + 1) precise) p precise (sync_count (n + 1) precise)
    (tape (word_at s 4 n (p.pc % 0x10000) t).store (sync_at (n + 1) precise (word_at s 4 n (p.pc % 0x10000) t).log))

-- the clocks that wait before the first write
unfoldable pub waiting_of : View → ℕ → ℕ
waiting_of x n = pick (fetches_of x) ((x.clocks + n) % 2 ^ 32) x.clocks

unfoldable pub clocks_count : ℕ → ℕ → ℕ
clocks_count n clocks = pick (nat_lt 0 clocks) (n + 1) n

unfoldable pub clocks_at : ℕ → ℕ → List ℕ → List ℕ
clocks_at n clocks l = pick (nat_lt 0 clocks) (note_log n l 5 0 clocks) l

-- where the frame's own events begin
abbrev pub first_number : View → Plan → ℕ
first_number x p = clocks_count 0 (waiting_of x p.clocks)

abbrev pub after_clocks : View → Plan → Tape → Tape
after_clocks x p t = tape t.store (clocks_at 0 (waiting_of x p.clocks) t.log)

-- the frame of a plan; an interrupt of the later kinds is acknowledged before clocks are told
abbrev pub acknowledged : View → Plan → Tape → Tape
acknowledged x p t = tape t.store (clocks_at 1 (waiting_of x p.clocks) (note_log 0 t.log 6 p.level p.response))

unfoldable pub lay_at : View → Spot → Plan → Tape → Tape
lay_at x s p t =
    pick (shape_number p.shape == 6) (short_at s (clocks_count 1 (waiting_of x p.clocks)) p (acknowledged x p t))
    (pick (shape_number p.shape == 2) (short_at s (first_number x p) p (after_clocks x p t))
    (pick (shape_number p.shape == 3) (short_at s (first_number x p + 1) p (long_at s 8 (first_number x p) p.extra (after_clocks x p t)))
    (pick (shape_number p.shape == 5) (four_at s (first_number x p) p (after_clocks x p t))
    (pick (shape_number p.shape == 4) (old_at s (first_number x p) p (fetches_of x) (after_clocks x p t))
    (three_at s (first_number x p) p (after_clocks x p t))))))

unfoldable pub lay_count : View → Plan → ℕ
lay_count x p =
    pick (shape_number p.shape == 6) (clocks_count 1 (waiting_of x p.clocks) + 3)
    (pick (shape_number p.shape == 2) (first_number x p + 3)
    (pick (shape_number p.shape == 3) (first_number x p + 4)
    (pick (shape_number p.shape == 5) (first_number x p + 5)
    (pick (shape_number p.shape == 4) (pick (fetches_of x) (first_number x p + 6) (first_number x p + 4))
    (first_number x p + 3)))))

-- the events of the jump
unfoldable pub jump_count : ℕ → Bool → ℕ
jump_count n fetched = pick fetched (n + 5) (n + 2)

abbrev pub vector_read : ℕ → Landing → List ℕ → List ℕ
vector_read n j l = note_log (n + 1) (note_log n l 7 0 0) 2 j.from j.pc

unfoldable pub jump_at : ℕ → Landing → Bool → List ℕ → List ℕ
jump_at n j fetched l =
    pick fetched
    (note_log (n + 4) (note_log (n + 3) (note_log (n + 2) (vector_read n j l) 1 j.pc j.first) 5 0 2) 1 (j.pc + 2) j.second)
    (vector_read n j l)
