-- The frames of exceptions that are no errors, upward from the new A7. All their pushes are guarded.
use Rattle.std.specs.Prelude.{ℕ, ◌+◌, ◌*◌, ◌%◌, [], ◌∷◌}
use Rattle.frames.specs.declared.Frame.{Frame}
use Rattle.frames.specs.Frames.{word, long, framed}

-- the word of a format and a vector: format × 4096 + vector × 4, the vector's offset in 12 bits
unfoldable pub format_word : ℕ → ℕ → ℕ
format_word format v = format * 0x1000 + v * 4 % 0x1000

-- format 0 of `take_exception`: the vector's offset fills the word
unfoldable pub offset_word : ℕ → ℕ
offset_word v = v * 4 % 0x10000

-- 8 bytes: status, address, format word
unfoldable pub short_frame : ℕ → ℕ → ℕ → Frame
short_frame sr pc format = framed (word sr ∷ long pc ∷ word format ∷ [])

-- format 2, 12 bytes: one long more
unfoldable pub long_frame : ℕ → ℕ → ℕ → ℕ → Frame
long_frame sr pc format extra = framed (word sr ∷ long pc ∷ word format ∷ long extra ∷ [])

-- format 4, 16 bytes: two longs more
unfoldable pub disabled_frame : ℕ → ℕ → ℕ → ℕ → ℕ → Frame
disabled_frame sr pc format ea extra = framed (word sr ∷ long pc ∷ word format ∷ long ea ∷ long extra ∷ [])
