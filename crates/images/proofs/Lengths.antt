-- Theorems about what specs/Lengths defines, and what rests on them.
use Rattle.std.specs.Prelude.{ℕ, ◌<◌, ◌≡◌, Bool, eqb}
use Rattle.std.proofs.Common.{◌∙◌}
use Rattle.types.specs.Kinds.{is_pre68020, is040, is060}
use Rattle.cpu.specs.declared.Cpu.{Cpu}
use Rattle.cpu.specs.Fields.{kind_of}
use Rattle.frames.specs.Frames.{address_frame, bus_frame}
use Rattle.images.specs.Lengths.{length_of, length_68000, length_8, length_2, length_0, length_4, length_7, length_11, bus_format, address_format, error_length, bus_table, address_table, either_length}

-- the frame of a bus error has the length of the table, 14 on kind 1
pub bus_length : (c : Cpu) (a : ℕ) (write instruction : Bool) (z cause : ℕ) → kind_of c < 12 → length_of (bus_frame c a write instruction z cause) ≡ error_length (kind_of c) (bus_format (kind_of c))
unfolding bus_frame
bus_length c a write instruction z cause h =
    either_length (eqb (kind_of c) 1) _ _ 14 _ (length_68000 _ _ _ _ _)
    (either_length (is_pre68020 (kind_of c)) _ _ 58 _ (length_8 _ _ _)
    (either_length (is060 (kind_of c)) _ _ 16 _ (length_4 _ _ _ _) (either_length (is040 (kind_of c)) _ _ 60 92 (length_7 _ _ _ _ _ _ _) (length_11 _ _ _ _ _ _))))
    ∙ bus_table (kind_of c) h

-- the frame of an address error has the length of the table, 14 on kind 1
pub address_length : (c : Cpu) (a : ℕ) (write instruction : Bool) → kind_of c < 12 → length_of (address_frame c a write instruction) ≡ error_length (kind_of c) (address_format (kind_of c))
unfolding address_frame
address_length c a write instruction h =
    either_length (eqb (kind_of c) 1) _ _ 14 _ (length_68000 _ _ _ _ _)
    (either_length (is_pre68020 (kind_of c)) _ _ 58 _ (length_8 _ _ _) (either_length (is040 (kind_of c)) _ _ 12 8 (length_2 _ _ _) (length_0 _ _)))
    ∙ address_table (kind_of c) h
