-- Theorems about what specs/Shapes defines, and what rests on them.
use Rattle.std.specs.Prelude.{ℕ, refl, Bool, eqb}
use Rattle.std.proofs.Common.{arith}
use Rattle.types.specs.Kinds.{is_pre68020, is040, is060}
use Rattle.cpu.specs.declared.Cpu.{Cpu}
use Rattle.cpu.specs.Fields.{kind_of}
use Rattle.frames.specs.Frames.{field_at, frame8, address_frame, bus_frame, is_counted}
use Rattle.images.specs.Images.{Shape}
use Rattle.images.specs.Lengths.{length_8}
use Rattle.images.specs.Shapes.{short_enough, shape_68000, shape_2, shape_0, shape_4, shape_7, shape_11, either_shape}

shape_8 : (sr ppc v : ℕ) → Shape (frame8 sr ppc v)
unfolding field_at is_counted frame8
shape_8 sr ppc v = short_enough _ 58 (omega arith) refl (length_8 sr ppc v) (omega arith)

-- so does the frame of a bus error on every kind
pub bus_shape : (c : Cpu) (a : ℕ) (write instruction : Bool) (z cause : ℕ) → Shape (bus_frame c a write instruction z cause)
unfolding bus_frame
bus_shape c a write instruction z cause =
    either_shape (eqb (kind_of c) 1) _ _ (shape_68000 _ _ _ _ _)
    (either_shape (is_pre68020 (kind_of c)) _ _ (shape_8 _ _ _)
    (either_shape (is060 (kind_of c)) _ _ (shape_4 _ _ _ _) (either_shape (is040 (kind_of c)) _ _ (shape_7 _ _ _ _ _ _ _) (shape_11 _ _ _ _ _ _))))

-- and the frame of an address error
pub address_shape : (c : Cpu) (a : ℕ) (write instruction : Bool) → Shape (address_frame c a write instruction)
unfolding address_frame
address_shape c a write instruction =
    either_shape (eqb (kind_of c) 1) _ _ (shape_68000 _ _ _ _ _)
    (either_shape (is_pre68020 (kind_of c)) _ _ (shape_8 _ _ _) (either_shape (is040 (kind_of c)) _ _ (shape_2 _ _ _) (shape_0 _ _)))
