-- A frame whose bytes lie in one run of a store without windows, read in place.
use Rattle.std.specs.Prelude.{ℕ, ◌+◌, ◌-◌, ◌*◌, ◌/◌, ◌%◌, Bool, true, false, List, length, ◌==◌, nat_lt, slice_index, Option, Some, None}
use Rattle.types.specs.Kinds.{pick}
use Rattle.types.specs.Tables.{frame_length}
use Rattle.unwind.specs.declared.frames.Frame.{Frame as Code}
use Rattle.unwind.specs.Models.{Frame}
use Rattle.unwind.specs.Frames.{byte_address, head_of, refused_frame, read}
use Rattle.unwind.specs.Straight.{straight}

-- a frame that was found, or none
pub record Found : Type 0 where
  pub ok : Bool
  pub frame : Frame

-- the word and the long at a place of the store
unfoldable pub word_at : List ℕ → ℕ → ℕ
word_at s at = slice_index s at * 0x100 + slice_index s (at + 1)

unfoldable pub long_at : List ℕ → ℕ → ℕ
long_at s at = word_at s at * 0x10000 + word_at s (at + 2)

-- n bytes from the address a on lie in a store of len bytes at base, below the top of the kind's addresses
unfoldable pub lies : ℕ → ℕ → ℕ → ℕ → ℕ → Bool
lies base len k a n = pick (nat_lt a base) false (pick (nat_lt len (a - base + n)) false (straight k a n))

unfoldable pub not_found : Found
not_found = record { ok = false; frame = refused_frame 0 }

-- the frame of n bytes at a place, w its format word, 0 on kind 1
unfoldable pub taken_at : List ℕ → ℕ → ℕ → ℕ → Found
taken_at s at w n =
    record { ok = true; frame = record { refused = 0; format = w / 0x1000; status = word_at s at; address = long_at s (at + 2); offset = w % 0x1000; size = n } }

-- the format word at a place, 0 on kind 1
unfoldable pub format_at : List ℕ → ℕ → ℕ → ℕ
format_at s at k = pick (k == 1) 0 (word_at s (at + 6))

-- the length of a frame whose format word is w, 0 where the kind takes no such frame
unfoldable pub size_of : ℕ → ℕ → ℕ
size_of k w = pick (k == 1) 6 (frame_length k (w / 0x1000))

-- a frame of n bytes lies in the store, of which the first h do
unfoldable pub rest_lies : ℕ → ℕ → ℕ → ℕ → ℕ → ℕ → Bool
rest_lies base len k a n h = pick (n == h) true (lies base len k a n)

-- n is the length by kind and format word w
unfoldable pub found_sized : List ℕ → ℕ → ℕ → ℕ → ℕ → ℕ → Found
found_sized s base k a w n =
    pick (n == 0) not_found (pick (rest_lies base (length s) k a n (head_of k)) (taken_at s (a - base) w n) not_found)

unfoldable pub found_word : List ℕ → ℕ → ℕ → ℕ → ℕ → Found
found_word s base k a w = found_sized s base k a w (size_of k w)

-- a is the address of its first byte
unfoldable pub found_in : List ℕ → ℕ → ℕ → ℕ → Found
found_in s base k a =
    pick (lies base (length s) k a (head_of k)) (found_word s base k a (format_at s (a - base) k)) not_found

-- the frame at p
unfoldable pub found_of : List ℕ → ℕ → ℕ → ℕ → Found
found_of s base k p = pick (p % 2 == 1) not_found (found_in s base k (byte_address k p 0))

-- what the code finds, so read
abbrev pub as_found : Option Code → Found
as_found (Some f) = record { ok = true; frame = read f }
as_found None = record { ok = false; frame = refused_frame 0 }
