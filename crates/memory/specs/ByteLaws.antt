-- What a word or a long written into a list of bytes leaves there. A law says the width by `g`: true a long, false a word.
use Rattle.std.specs.Prelude.{ℕ, ◌/◌, ◌%◌, ◌^◌, ◌<◌, Bool, true, false, List, [], ◌∷◌, get_or}
use Rattle.types.specs.Kinds.{pick}
use Rattle.memory.specs.Bytes.{put_word, put_long, get_word, get_long}

-- a write and a read of either width
abbrev pub put : Bool → List ℕ → ℕ → ℕ → List ℕ
put g s p v = pick g (put_long s p v) (put_word s p v)

abbrev pub get : Bool → List ℕ → ℕ → ℕ
get g s p = pick g (get_long s p) (get_word s p)

-- the values of a width
abbrev pub Fits : Bool → ℕ → Type 0
Fits g v = v < pick g (2 ^ 32) 0x10000

-- the bytes of a value, the highest first
abbrev pub bytes_of : Bool → ℕ → List ℕ
bytes_of true v = v / 0x10000 / 256 ∷ v / 0x10000 % 256 ∷ v % 0x10000 / 256 ∷ v % 0x10000 % 256 ∷ []
bytes_of false v = v / 256 ∷ v % 256 ∷ []

-- a list of bytes
abbrev pub AllBytes : List ℕ → Type 0
AllBytes s = (i : ℕ) → get_or s i 0 < 256
