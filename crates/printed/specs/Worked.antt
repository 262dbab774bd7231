-- WORKED SESSIONS of rule 3, in bytes. Each meets the premises, which is one test that computes; so its walk and its returns print what
-- the book has, and the book is computed.
use Rattle.std.specs.Prelude.{ℕ, suc, ◌≡◌, refl, true, List, [], ◌∷◌, ◌++◌, map, ltb, leb, length, replicate}
use Rattle.std.proofs.Common.{ap}
use Rattle.memory.specs.World.{world, cpu_of}
use Rattle.nest.specs.View.{Row}
use Rattle.nest.specs.Nest.{Page, Line, rows, Values, values_of, restored_by}
use Rattle.entered.specs.Machines.{room_of}
use Rattle.rule3.specs.Checked.{real, premises_test}
use Rattle.rule3.specs.Nests.{row}
use Rattle.sessions.specs.Sessions.{Session, session, fresh_core}
use Rattle.printed.specs.Steps.{nest_of, book_of}
use Rattle.printed.specs.Told.{rows_text, returns_text}
use Rattle.printed.specs.Lines.{with_feed}
use Rattle.printed.specs.Bytes.{lines_in, printed_from}
use Rattle.printed.specs.Texts.{bytes_of}
use Rattle.printed.specs.Computed.{played}

-- ---- what is computed of a session, and what follows

-- a line of the book: format, status, address, offset; and the A7 met
abbrev pub line : ℕ → ℕ → ℕ → ℕ → ℕ → Line
line format status address offset a7 = record { row = row format status address offset; a7 = a7 }

abbrev pub book_lines : List Page → List Line
book_lines ps = map (λ (p : Page). p.line) ps

abbrev pub lines_text : List Line → List ℕ
lines_text ls = rows_text (map (λ (l : Line). l.row) ls) ++ returns_text (map values_of ls)

-- the input meets the premises, and leaves these lines in the book
pub record Computes (s : Session) (input : List ℕ) (ls : List Line) : Type 0 where
  pub test : premises_test real (nest_of s (lines_in input)) (cpu_of s.after) (room_of s.after) ≡ true
  pub book_is : book_lines (book_of s (lines_in input)) ≡ ls
  pub one : ltb 0 (length ls) ≡ true
  pub most : leb (length ls) 4096 ≡ true

pub depth_lines : (ps : List Page) → length ps ≡ length (book_lines ps)
depth_lines [] = refl
depth_lines (p ∷ ps) = ap suc (depth_lines ps)

pub rows_lines : (ps : List Page) → rows ps ≡ map (λ (l : Line). l.row) (book_lines ps)
rows_lines [] = refl
rows_lines (p ∷ ps) = ap (λ (rs : List Row). p.line.row ∷ rs) (rows_lines ps)

pub values_lines : (ps : List Page) → restored_by ps ≡ map values_of (book_lines ps)
values_lines [] = refl
values_lines (p ∷ ps) = ap (λ (vs : List Values). values_of p.line ∷ vs) (values_lines ps)

-- ---- an afternoon of a 68010: a return from a frame that two `long`s write sets the state after a compare, with no entry open; a timer
-- ticks before the branch, a second tick comes inside the first handler, a third is held back by the mask

-- as `started`, with 512 bytes, which compute sooner than 65,536
abbrev pub small : Session
small = session (world (fresh_core 1) (replicate 512 0) (replicate 192 0)) []

abbrev pub afternoon : List ℕ
afternoon = bytes_of "kind 2\nlong 68 120\nlong 70 140\nlong 1F8 20040000\nlong 1FC 01020000\na7 1F8\nret\nirq 2\nirq 4\nirq 3"

pub afternoon_computes : Computes small afternoon (line 0 0x2204 0x120 0x070 0x1F8 ∷ line 0 0x2004 0x102 0x068 0x200 ∷ [])
unfolding played
afternoon_computes = record { test = refl; book_is = refl; one = refl; most = refl }

-- what its lines print
pub afternoon_so_far : printed_from small (with_feed afternoon)
    ≡ bytes_of "0 00000102 2004 00000200\n46 00000120 2204 000001F8\n46 00000140 2404 000001F0\n0 00000140 2404 000001F0\n"
unfolding played
afternoon_so_far = refl

-- ---- a 68020 in the master state takes an interrupt, which makes two frames, and a trap inside its handler

abbrev pub master : List ℕ
master = bytes_of "kind 4\nlong 7C 140\nlong 80 160\nlong 1F8 30000000\nlong 1FC 01020000\na7 1F8\nret\na7 180\nirq 7\npc 144\ntrap 0"

pub master_computes : Computes small master (line 0 0x2700 0x144 0x080 0x1F8 ∷ line 1 0x3000 0x102 0x07C 0x180 ∷ [])
unfolding played
master_computes = record { test = refl; book_is = refl; one = refl; most = refl }
