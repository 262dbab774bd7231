-- The bytes of the lines that a session prints, paper 01, "The session program".
use Rattle.std.specs.Prelude.{ℕ, zero, suc, ◌+◌, ◌/◌, ◌%◌, List, [], ◌∷◌, ◌++◌, ltb, leb, length, take}
use Rattle.types.specs.Kinds.{pick}

-- what a buffer holds before a place
unfoldable pub before : ℕ → List ℕ → List ℕ
before at o = take at o

-- bytes, and more after them
unfoldable pub more : List ℕ → List ℕ → List ℕ
more s t = s ++ t

-- "capital hexadecimal": a digit below 16
unfoldable pub hex_byte : ℕ → ℕ
hex_byte d = pick (ltb d 10) (48 + d) (55 + d)

-- the lowest digits of v, n of them
unfoldable pub hex : ℕ → ℕ → List ℕ
hex zero v = []
hex (suc n) v = hex n (v / 16) ++ (hex_byte (v % 16) ∷ [])

-- v in decimal with no zero in front, at most n digits; 10 hold every number of 32 bits
unfoldable pub decimal_of : ℕ → ℕ → List ℕ
decimal_of zero v = []
decimal_of (suc n) v = pick (ltb v 10) ((48 + v) ∷ []) (decimal_of n (v / 10) ++ ((48 + v % 10) ∷ []))

-- "`exc`, `trap`, `irq` and `ret` print cycles (decimal ..), PC in 8 digits, status in 4, A7 in 8 .. one space between"
unfoldable pub state_line : ℕ → ℕ → ℕ → ℕ → List ℕ
state_line cycles pc sr a7 = decimal_of 10 cycles ++ (32 ∷ hex 8 pc) ++ (32 ∷ hex 4 sr) ++ (32 ∷ hex 8 a7) ++ (10 ∷ [])

-- "`walk` prints a line a row: format in 1 digit, status in 4, address in 8, offset in 3"
unfoldable pub row_line : ℕ → ℕ → ℕ → ℕ → List ℕ
row_line format status address offset = hex 1 format ++ (32 ∷ hex 4 status) ++ (32 ∷ hex 8 address) ++ (32 ∷ hex 3 offset) ++ (10 ∷ [])

-- `refused `
abbrev pub refused_word : List ℕ
refused_word = 114 ∷ 101 ∷ 102 ∷ 117 ∷ 115 ∷ 101 ∷ 100 ∷ 32 ∷ []

-- "A refusal prints `refused`, a space and its number"
unfoldable pub refused_line : ℕ → List ℕ
refused_line n = refused_word ++ decimal_of 10 n ++ (10 ∷ [])

-- every line has at most 34 bytes: of a buffer of `room` bytes, a line is laid where so many are left after what is printed, else nothing is
unfoldable pub laid : ℕ → List ℕ → List ℕ → List ℕ
laid room done line = pick (leb (length done + 34) room) (more done line) done

-- of a buffer o and a place, a line is laid where so many bytes are left after the place, else nothing is
unfoldable pub laid_at : ℕ → List ℕ → List ℕ → List ℕ
laid_at at o line = pick (leb (at + 34) (length o)) (more (before at o) line) (before at o)
