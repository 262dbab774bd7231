-- Theorems about what specs/Errors defines, and what rests on them.
use Rattle.std.specs.Prelude.{Option, Some, None}
use Rattle.std.specs.Prelude.{ℕ, ◌+◌, ◌-◌, ◌*◌, ◌%◌, ◌<◌, Bool, cond, ◌&&◌}
use Rattle.std.proofs.Math.Path.{refl}
use Rattle.std.proofs.Common.{arith}
use Rattle.std.proofs.Math.Bool.{true, false}
use Rattle.std.proofs.Math.Option.{some}
use Rattle.std.proofs.Math.Dec.{eqb}
use Rattle.types.specs.Kinds.{pick}
use Rattle.types.specs.Causes.{cause_number}
use Rattle.types.specs.declared.FaultCause.{FaultCause}
use Rattle.types.specs.declared.FaultCause.TheVariants.{PointerA, PointerB, Indirect, PageFault, WriteProtect, SupervisorProtect, TableWalkBusError, AccessBusError}
use Rattle.frames.specs.Frames.{field_at, is_counted, frame68000, frame8, frame2, frame0, frame4, frame7, frame11}
use Rattle.frames.specs.Codes.{ssw020, is_cause, ssw040, wb3s, cause_bit, fslw060}
use Rattle.images.specs.Images.{frame_bytes}
use Rattle.manual.specs.Parts.{Family, mc68000, mc68010, mc68020, mc68030, mc68040, mc68060}
use Rattle.manual.specs.State.{State}
use Rattle.manual.specs.Vectors.{bus_error, address_error}
use Rattle.manual.specs.Formats.{word, long, in_word, in_long, flag, only, function_code, fault_address, high_byte, byte_transfer, data_output, size, write_back3_size, write_back3_type, transfer_type, transfer_type_of}
use Rattle.manual.specs.Formats.{size020 as size_b, size040 as size7}
use Rattle.manual.specs.Exceptions.{fields_of}
use Rattle.manual.specs.Differences.{own, differences, field_differs}
use Rattle.manual.specs.Cells.{look, in_frame, Holding, is}
use Rattle.manual.specs.Plain.{of}
use Rattle.manual.specs.Errors.{fits, at, fault, zero_cell, open_cell, q020, q040, q020_is, q020_said, q040_is, q040_said}

module _ (s : State) (sr : s.status < 0x10000) (op : s.opcode < 0x10000) (a : ℕ) (write i : Bool) (z code datum cause : ℕ) where
  abbrev S : Family → State
  S f = of f (at s (fault a write i z code datum cause))

  -- the 68000: the instruction register alone stands where the manual has it
  pub first_bus_error : (status : ℕ) → Holding (frame68000 s.status s.this s.opcode a status) (field_differs differences (S mc68000) own bus_error 2) (fields_of (S mc68000) bus_error 2)
  unfolding differences field_differs fields_of look in_frame frame68000 frame8 frame2 frame0 frame4 frame7 frame11 field_at is_counted frame_bytes
  first_bus_error status = (tt, (tt, (tt, (tt, (is (fits s.opcode op), (tt, (tt, tt)))))))

  -- the 68000: the instruction register alone stands where the manual has it
  pub first_address_error : (status : ℕ) → Holding (frame68000 s.status s.this s.opcode a status) (field_differs differences (S mc68000) own address_error 3) (fields_of (S mc68000) address_error 3)
  unfolding differences field_differs fields_of look in_frame frame68000 frame8 frame2 frame0 frame4 frame7 frame11 field_at is_counted frame_bytes
  first_address_error status = (tt, (tt, (tt, (tt, (is (fits s.opcode op), (tt, (tt, tt)))))))

  -- the 68010: the special status word, the address and the buffer are 0
  pub second_bus_error : (write i : Bool) → Holding (frame8 s.status s.this 0x8008) (field_differs differences (of mc68010 (at s (fault a write i z code datum cause))) own bus_error 2) (fields_of (of mc68010 (at s (fault a write i z code datum cause))) bus_error 2)
  unfolding differences field_differs fields_of look in_frame frame68000 frame8 frame2 frame0 frame4 frame7 frame11 field_at is_counted frame_bytes
  second_bus_error true true = (is (fits s.status sr), (tt, (refl, (refl, (tt, (refl, (tt, (zero_cell (frame8 s.status s.this 0x8008) (in_word 0x08 10 1 high_byte (flag (eqb z 1 && eqb (a % 2) 0))) (flag (eqb z 1 && eqb (a % 2) 0)) refl, (zero_cell (frame8 s.status s.this 0x8008) (in_word 0x08 9 1 byte_transfer (flag (eqb z 1))) (flag (eqb z 1)) refl, (refl, (zero_cell (frame8 s.status s.this 0x8008) (in_word 0x08 0 3 function_code (some code)) (some code) refl, (zero_cell (frame8 s.status s.this 0x8008) (long 0x0A fault_address (some a)) (some a) refl, (tt, (zero_cell (frame8 s.status s.this 0x8008) (word 0x10 data_output (only (eqb z 2) (datum % 0x10000))) (only (eqb z 2) (datum % 0x10000)) refl, (tt, (tt, (tt, (tt, (tt, (tt, (tt, (tt, (tt, (tt, (tt, (tt, tt))))))))))))))))))))))))))
  second_bus_error true false = (is (fits s.status sr), (tt, (refl, (refl, (refl, (refl, (tt, (zero_cell (frame8 s.status s.this 0x8008) (in_word 0x08 10 1 high_byte (flag (eqb z 1 && eqb (a % 2) 0))) (flag (eqb z 1 && eqb (a % 2) 0)) refl, (zero_cell (frame8 s.status s.this 0x8008) (in_word 0x08 9 1 byte_transfer (flag (eqb z 1))) (flag (eqb z 1)) refl, (refl, (zero_cell (frame8 s.status s.this 0x8008) (in_word 0x08 0 3 function_code (some code)) (some code) refl, (zero_cell (frame8 s.status s.this 0x8008) (long 0x0A fault_address (some a)) (some a) refl, (tt, (zero_cell (frame8 s.status s.this 0x8008) (word 0x10 data_output (only (eqb z 2) (datum % 0x10000))) (only (eqb z 2) (datum % 0x10000)) refl, (tt, (tt, (tt, (tt, (tt, (tt, (tt, (tt, (tt, (tt, (tt, (tt, tt))))))))))))))))))))))))))
  second_bus_error false true = (is (fits s.status sr), (tt, (refl, (refl, (tt, (refl, (tt, (zero_cell (frame8 s.status s.this 0x8008) (in_word 0x08 10 1 high_byte (flag (eqb z 1 && eqb (a % 2) 0))) (flag (eqb z 1 && eqb (a % 2) 0)) refl, (zero_cell (frame8 s.status s.this 0x8008) (in_word 0x08 9 1 byte_transfer (flag (eqb z 1))) (flag (eqb z 1)) refl, (tt, (zero_cell (frame8 s.status s.this 0x8008) (in_word 0x08 0 3 function_code (some code)) (some code) refl, (zero_cell (frame8 s.status s.this 0x8008) (long 0x0A fault_address (some a)) (some a) refl, (tt, (tt, (tt, (tt, (tt, (tt, (tt, (tt, (tt, (tt, (tt, (tt, (tt, (tt, tt))))))))))))))))))))))))))
  second_bus_error false false = (is (fits s.status sr), (tt, (refl, (refl, (refl, (tt, (tt, (zero_cell (frame8 s.status s.this 0x8008) (in_word 0x08 10 1 high_byte (flag (eqb z 1 && eqb (a % 2) 0))) (flag (eqb z 1 && eqb (a % 2) 0)) refl, (zero_cell (frame8 s.status s.this 0x8008) (in_word 0x08 9 1 byte_transfer (flag (eqb z 1))) (flag (eqb z 1)) refl, (tt, (zero_cell (frame8 s.status s.this 0x8008) (in_word 0x08 0 3 function_code (some code)) (some code) refl, (zero_cell (frame8 s.status s.this 0x8008) (long 0x0A fault_address (some a)) (some a) refl, (tt, (tt, (tt, (tt, (tt, (tt, (tt, (tt, (tt, (tt, (tt, (tt, (tt, (tt, tt))))))))))))))))))))))))))

  pub second_address_error : (write i : Bool) → Holding (frame8 s.status s.this 0x800C) (field_differs differences (of mc68010 (at s (fault a write i 0 code datum 0))) own address_error 3) (fields_of (of mc68010 (at s (fault a write i 0 code datum 0))) address_error 3)
  unfolding differences field_differs fields_of look in_frame frame68000 frame8 frame2 frame0 frame4 frame7 frame11 field_at is_counted frame_bytes
  second_address_error true true = (is (fits s.status sr), (tt, (refl, (refl, (tt, (refl, (tt, (refl, (refl, (refl, (zero_cell (frame8 s.status s.this 0x800C) (in_word 0x08 0 3 function_code (some code)) (some code) refl, (zero_cell (frame8 s.status s.this 0x800C) (long 0x0A fault_address (some a)) (some a) refl, (tt, (tt, (tt, (tt, (tt, (tt, (tt, (tt, (tt, (tt, (tt, (tt, (tt, (tt, tt))))))))))))))))))))))))))
  second_address_error true false = (is (fits s.status sr), (tt, (refl, (refl, (refl, (refl, (tt, (refl, (refl, (refl, (zero_cell (frame8 s.status s.this 0x800C) (in_word 0x08 0 3 function_code (some code)) (some code) refl, (zero_cell (frame8 s.status s.this 0x800C) (long 0x0A fault_address (some a)) (some a) refl, (tt, (tt, (tt, (tt, (tt, (tt, (tt, (tt, (tt, (tt, (tt, (tt, (tt, (tt, tt))))))))))))))))))))))))))
  second_address_error false true = (is (fits s.status sr), (tt, (refl, (refl, (tt, (refl, (tt, (refl, (refl, (tt, (zero_cell (frame8 s.status s.this 0x800C) (in_word 0x08 0 3 function_code (some code)) (some code) refl, (zero_cell (frame8 s.status s.this 0x800C) (long 0x0A fault_address (some a)) (some a) refl, (tt, (tt, (tt, (tt, (tt, (tt, (tt, (tt, (tt, (tt, (tt, (tt, (tt, (tt, tt))))))))))))))))))))))))))
  second_address_error false false = (is (fits s.status sr), (tt, (refl, (refl, (refl, (tt, (tt, (refl, (refl, (tt, (zero_cell (frame8 s.status s.this 0x800C) (in_word 0x08 0 3 function_code (some code)) (some code) refl, (zero_cell (frame8 s.status s.this 0x800C) (long 0x0A fault_address (some a)) (some a) refl, (tt, (tt, (tt, (tt, (tt, (tt, (tt, (tt, (tt, (tt, (tt, (tt, (tt, (tt, tt))))))))))))))))))))))))))

  -- the 68020 and 68030
  pub third_bus_error : (b write i : Bool) → code < 8
      → Holding (frame11 s.status s.this (ssw020 code write i z) (pick i 0 a) (pick write datum 0) (pick i a 0)) (field_differs differences (of (cond b mc68020 mc68030) (at s (fault a write i z code datum cause))) own bus_error 2)
      (fields_of (of (cond b mc68020 mc68030) (at s (fault a write i z code datum cause))) bus_error 2)
  unfolding differences field_differs fields_of look in_frame frame68000 frame8 frame2 frame0 frame4 frame7 frame11 field_at is_counted frame_bytes ssw020
  third_bus_error true true true l = (is (fits s.status sr), (refl, (refl, (tt, (is (omega (arith, (q020_is z).1)), (is (omega (arith, (q020_is z).1)), (is (omega (arith, (q020_is z).1)), (is (omega (arith, (q020_is z).1)), (is (omega (arith, (q020_is z).1)), (tt, (tt, (tt, (tt, (tt, (tt, (tt, (tt, (tt, (tt, (tt, (refl, (tt, (tt, (tt, (tt, (tt, (tt, (tt, (tt, (tt, (tt, (tt, (tt, (tt, (tt, (tt, tt))))))))))))))))))))))))))))))))))))
  third_bus_error true true false l = rw (q020_is z).0 (is (fits s.status sr), (refl, (refl, (tt, (is (omega (arith, (q020_is z).1)), (is (omega (arith, (q020_is z).1)), (is (omega (arith, (q020_is z).1)), (is (omega (arith, (q020_is z).1)), (is (omega (arith, (q020_is z).1)), (tt, (is (omega (arith, (q020_is z).1)), (open_cell (frame11 s.status s.this (code + 256 + 0 + q020 z * 16) a datum 0) (in_word 0x0A 4 2 size (size_b z)) (size_b z) (λ x e. is (omega (arith, (q020_is z).1, q020_said z x e))), (is (omega (arith, (q020_is z).1)), (tt, (tt, (refl, (tt, (refl, (tt, (tt, (tt, (tt, (tt, (tt, (tt, (tt, (tt, (tt, (tt, (tt, (tt, (tt, (tt, (tt, (tt, (tt, tt))))))))))))))))))))))))))))))))))))
  third_bus_error true false true l = (is (fits s.status sr), (refl, (refl, (tt, (is (omega (arith, (q020_is z).1)), (is (omega (arith, (q020_is z).1)), (is (omega (arith, (q020_is z).1)), (is (omega (arith, (q020_is z).1)), (is (omega (arith, (q020_is z).1)), (tt, (tt, (tt, (tt, (tt, (tt, (tt, (tt, (tt, (tt, (tt, (refl, (tt, (tt, (tt, (tt, (tt, (tt, (tt, (tt, (tt, (tt, (tt, (tt, (tt, (tt, (tt, tt))))))))))))))))))))))))))))))))))))
  third_bus_error true false false l = rw (q020_is z).0 (is (fits s.status sr), (refl, (refl, (tt, (is (omega (arith, (q020_is z).1)), (is (omega (arith, (q020_is z).1)), (is (omega (arith, (q020_is z).1)), (is (omega (arith, (q020_is z).1)), (is (omega (arith, (q020_is z).1)), (tt, (is (omega (arith, (q020_is z).1)), (open_cell (frame11 s.status s.this (code + 256 + 64 + q020 z * 16) a 0 0) (in_word 0x0A 4 2 size (size_b z)) (size_b z) (λ x e. is (omega (arith, (q020_is z).1, q020_said z x e))), (is (omega (arith, (q020_is z).1)), (tt, (tt, (refl, (tt, (tt, (tt, (tt, (tt, (tt, (tt, (tt, (tt, (tt, (tt, (tt, (tt, (tt, (tt, (tt, (tt, (tt, (tt, (tt, tt))))))))))))))))))))))))))))))))))))
  third_bus_error false true true l = (is (fits s.status sr), (refl, (refl, (tt, (is (omega (arith, (q020_is z).1)), (is (omega (arith, (q020_is z).1)), (is (omega (arith, (q020_is z).1)), (is (omega (arith, (q020_is z).1)), (is (omega (arith, (q020_is z).1)), (tt, (tt, (tt, (tt, (tt, (tt, (tt, (tt, (tt, (tt, (tt, (refl, (tt, (tt, (tt, (tt, (tt, (tt, (tt, (tt, (tt, (tt, (tt, (tt, (tt, (tt, (tt, tt))))))))))))))))))))))))))))))))))))
  third_bus_error false true false l = rw (q020_is z).0 (is (fits s.status sr), (refl, (refl, (tt, (is (omega (arith, (q020_is z).1)), (is (omega (arith, (q020_is z).1)), (is (omega (arith, (q020_is z).1)), (is (omega (arith, (q020_is z).1)), (is (omega (arith, (q020_is z).1)), (tt, (is (omega (arith, (q020_is z).1)), (open_cell (frame11 s.status s.this (code + 256 + 0 + q020 z * 16) a datum 0) (in_word 0x0A 4 2 size (size_b z)) (size_b z) (λ x e. is (omega (arith, (q020_is z).1, q020_said z x e))), (is (omega (arith, (q020_is z).1)), (tt, (tt, (refl, (tt, (refl, (tt, (tt, (tt, (tt, (tt, (tt, (tt, (tt, (tt, (tt, (tt, (tt, (tt, (tt, (tt, (tt, (tt, (tt, tt))))))))))))))))))))))))))))))))))))
  third_bus_error false false true l = (is (fits s.status sr), (refl, (refl, (tt, (is (omega (arith, (q020_is z).1)), (is (omega (arith, (q020_is z).1)), (is (omega (arith, (q020_is z).1)), (is (omega (arith, (q020_is z).1)), (is (omega (arith, (q020_is z).1)), (tt, (tt, (tt, (tt, (tt, (tt, (tt, (tt, (tt, (tt, (tt, (refl, (tt, (tt, (tt, (tt, (tt, (tt, (tt, (tt, (tt, (tt, (tt, (tt, (tt, (tt, (tt, tt))))))))))))))))))))))))))))))))))))
  third_bus_error false false false l = rw (q020_is z).0 (is (fits s.status sr), (refl, (refl, (tt, (is (omega (arith, (q020_is z).1)), (is (omega (arith, (q020_is z).1)), (is (omega (arith, (q020_is z).1)), (is (omega (arith, (q020_is z).1)), (is (omega (arith, (q020_is z).1)), (tt, (is (omega (arith, (q020_is z).1)), (open_cell (frame11 s.status s.this (code + 256 + 64 + q020 z * 16) a 0 0) (in_word 0x0A 4 2 size (size_b z)) (size_b z) (λ x e. is (omega (arith, (q020_is z).1, q020_said z x e))), (is (omega (arith, (q020_is z).1)), (tt, (tt, (refl, (tt, (tt, (tt, (tt, (tt, (tt, (tt, (tt, (tt, (tt, (tt, (tt, (tt, (tt, (tt, (tt, (tt, (tt, (tt, (tt, tt))))))))))))))))))))))))))))))))))))

  pub third_address_error : (b : Bool) → Holding (frame0 s.status s.this) (field_differs differences (of (cond b mc68020 mc68030) (at s (fault a write i 0 code datum 0))) own address_error 3) (fields_of (of (cond b mc68020 mc68030) (at s (fault a write i 0 code datum 0))) address_error 3)
  unfolding differences field_differs fields_of look in_frame frame68000 frame8 frame2 frame0 frame4 frame7 frame11 field_at is_counted frame_bytes
  third_address_error true = (is (fits s.status sr), (refl, (tt, (tt, (tt, (tt, (tt, (tt, (tt, (tt, (tt, (tt, (tt, (tt, (tt, (tt, (tt, (tt, (tt, (tt, (tt, (tt, (tt, (tt, (tt, (tt, (tt, (tt, (tt, (tt, (tt, (tt, (tt, (tt, (tt, (tt, tt))))))))))))))))))))))))))))))))))))
  third_address_error false = (is (fits s.status sr), (refl, (tt, (tt, (tt, (tt, (tt, (tt, (tt, (tt, (tt, (tt, (tt, (tt, (tt, (tt, (tt, (tt, (tt, (tt, (tt, (tt, (tt, (tt, (tt, (tt, (tt, (tt, (tt, (tt, (tt, (tt, (tt, (tt, (tt, (tt, tt))))))))))))))))))))))))))))))))))))

  pub sixth_address_error : Holding (frame0 s.status s.this) (field_differs differences (of mc68060 (at s (fault a write i 0 code datum 0))) own address_error 3) (fields_of (of mc68060 (at s (fault a write i 0 code datum 0))) address_error 3)
  unfolding differences field_differs fields_of look in_frame frame68000 frame8 frame2 frame0 frame4 frame7 frame11 field_at is_counted frame_bytes
  sixth_address_error = (is (fits s.status sr), (refl, (tt, (tt, tt))))

  pub fourth_address_error : Holding (frame2 s.status s.this (a - a % 2)) (field_differs differences (of mc68040 (at s (fault a write i 0 code datum 0))) own address_error 3) (fields_of (of mc68040 (at s (fault a write i 0 code datum 0))) address_error 3)
  unfolding differences field_differs fields_of look in_frame frame68000 frame8 frame2 frame0 frame4 frame7 frame11 field_at is_counted frame_bytes
  fourth_address_error = (is (fits s.status sr), (refl, (refl, (refl, tt))))

  -- the 68040
  pub fourth_bus_error : (k : Option FaultCause) (write : Bool) → code < 8
      → Holding (frame7 s.status s.this a (ssw040 code write z (cause_number k)) (wb3s code write z) (pick write a 0) (pick write datum 0)) (field_differs differences (of mc68040 (at s (fault a write i z code datum (cause_number k)))) own bus_error 2)
      (fields_of (of mc68040 (at s (fault a write i z code datum (cause_number k)))) bus_error 2)
  unfolding differences field_differs fields_of look in_frame frame68000 frame8 frame2 frame0 frame4 frame7 frame11 field_at is_counted frame_bytes ssw040 wb3s is_cause
  fourth_bus_error None true l = rw (q040_is z).0 (is (fits s.status sr), (refl, (refl, (tt, (tt, (tt, (is (omega (arith, (q040_is z).1.1)), (tt, (is (omega (arith, (q040_is z).1.1)), (open_cell (frame7 s.status s.this a (0 + 0 + q040 z * 32 + code) (128 + q040 z * 32 + code) a datum) (in_word 0x0C 5 2 size (size7 z)) (size7 z) (λ x e. is (omega (arith, (q040_is z).1.1, q040_said z x e))), (zero_cell (frame7 s.status s.this a (0 + 0 + q040 z * 32 + code) (128 + q040 z * 32 + code) a datum) (in_word 0x0C 3 2 transfer_type (some (transfer_type_of code))) (some (transfer_type_of code)) (is (omega (arith, (q040_is z).1.1))), (is (omega (arith, (q040_is z).1.1)), (is (omega (arith, (q040_is z).1.1)), (open_cell (frame7 s.status s.this a (0 + 0 + q040 z * 32 + code) (128 + q040 z * 32 + code) a datum) (in_word 0x0E 5 2 write_back3_size (size7 z)) (size7 z) (λ x e. is (omega (arith, (q040_is z).1.1, q040_said z x e))), (zero_cell (frame7 s.status s.this a (0 + 0 + q040 z * 32 + code) (128 + q040 z * 32 + code) a datum) (in_word 0x0E 3 2 write_back3_type (some (transfer_type_of code))) (some (transfer_type_of code)) (is (omega (arith, (q040_is z).1.1))), (is (omega (arith, (q040_is z).1.1)), (refl, (refl, (refl, (refl, (refl, (tt, (tt, (tt, (tt, (tt, (tt, (tt, tt))))))))))))))))))))))))))))
  fourth_bus_error None false l = rw (q040_is z).0 (is (fits s.status sr), (refl, (refl, (tt, (tt, (tt, (is (omega (arith, (q040_is z).1.1)), (tt, (is (omega (arith, (q040_is z).1.1)), (open_cell (frame7 s.status s.this a (256 + 0 + q040 z * 32 + code) (0) 0 0) (in_word 0x0C 5 2 size (size7 z)) (size7 z) (λ x e. is (omega (arith, (q040_is z).1.1, q040_said z x e))), (zero_cell (frame7 s.status s.this a (256 + 0 + q040 z * 32 + code) (0) 0 0) (in_word 0x0C 3 2 transfer_type (some (transfer_type_of code))) (some (transfer_type_of code)) (is (omega (arith, (q040_is z).1.1))), (is (omega (arith, (q040_is z).1.1)), (refl, (tt, (tt, (tt, (refl, (refl, (refl, (tt, (tt, (tt, (tt, (tt, (tt, (tt, (tt, (tt, tt))))))))))))))))))))))))))))
  fourth_bus_error (Some PointerA) true l = rw (q040_is z).0 (is (fits s.status sr), (refl, (refl, (tt, (tt, (tt, (is (omega (arith, (q040_is z).1.1)), (tt, (is (omega (arith, (q040_is z).1.1)), (open_cell (frame7 s.status s.this a (0 + 1024 + q040 z * 32 + code) (128 + q040 z * 32 + code) a datum) (in_word 0x0C 5 2 size (size7 z)) (size7 z) (λ x e. is (omega (arith, (q040_is z).1.1, q040_said z x e))), (zero_cell (frame7 s.status s.this a (0 + 1024 + q040 z * 32 + code) (128 + q040 z * 32 + code) a datum) (in_word 0x0C 3 2 transfer_type (some (transfer_type_of code))) (some (transfer_type_of code)) (is (omega (arith, (q040_is z).1.1))), (is (omega (arith, (q040_is z).1.1)), (is (omega (arith, (q040_is z).1.1)), (open_cell (frame7 s.status s.this a (0 + 1024 + q040 z * 32 + code) (128 + q040 z * 32 + code) a datum) (in_word 0x0E 5 2 write_back3_size (size7 z)) (size7 z) (λ x e. is (omega (arith, (q040_is z).1.1, q040_said z x e))), (zero_cell (frame7 s.status s.this a (0 + 1024 + q040 z * 32 + code) (128 + q040 z * 32 + code) a datum) (in_word 0x0E 3 2 write_back3_type (some (transfer_type_of code))) (some (transfer_type_of code)) (is (omega (arith, (q040_is z).1.1))), (is (omega (arith, (q040_is z).1.1)), (refl, (refl, (refl, (refl, (refl, (tt, (tt, (tt, (tt, (tt, (tt, (tt, tt))))))))))))))))))))))))))))
  fourth_bus_error (Some PointerA) false l = rw (q040_is z).0 (is (fits s.status sr), (refl, (refl, (tt, (tt, (tt, (is (omega (arith, (q040_is z).1.1)), (tt, (is (omega (arith, (q040_is z).1.1)), (open_cell (frame7 s.status s.this a (256 + 1024 + q040 z * 32 + code) (0) 0 0) (in_word 0x0C 5 2 size (size7 z)) (size7 z) (λ x e. is (omega (arith, (q040_is z).1.1, q040_said z x e))), (zero_cell (frame7 s.status s.this a (256 + 1024 + q040 z * 32 + code) (0) 0 0) (in_word 0x0C 3 2 transfer_type (some (transfer_type_of code))) (some (transfer_type_of code)) (is (omega (arith, (q040_is z).1.1))), (is (omega (arith, (q040_is z).1.1)), (refl, (tt, (tt, (tt, (refl, (refl, (refl, (tt, (tt, (tt, (tt, (tt, (tt, (tt, (tt, (tt, tt))))))))))))))))))))))))))))
  fourth_bus_error (Some PointerB) true l = rw (q040_is z).0 (is (fits s.status sr), (refl, (refl, (tt, (tt, (tt, (is (omega (arith, (q040_is z).1.1)), (tt, (is (omega (arith, (q040_is z).1.1)), (open_cell (frame7 s.status s.this a (0 + 1024 + q040 z * 32 + code) (128 + q040 z * 32 + code) a datum) (in_word 0x0C 5 2 size (size7 z)) (size7 z) (λ x e. is (omega (arith, (q040_is z).1.1, q040_said z x e))), (zero_cell (frame7 s.status s.this a (0 + 1024 + q040 z * 32 + code) (128 + q040 z * 32 + code) a datum) (in_word 0x0C 3 2 transfer_type (some (transfer_type_of code))) (some (transfer_type_of code)) (is (omega (arith, (q040_is z).1.1))), (is (omega (arith, (q040_is z).1.1)), (is (omega (arith, (q040_is z).1.1)), (open_cell (frame7 s.status s.this a (0 + 1024 + q040 z * 32 + code) (128 + q040 z * 32 + code) a datum) (in_word 0x0E 5 2 write_back3_size (size7 z)) (size7 z) (λ x e. is (omega (arith, (q040_is z).1.1, q040_said z x e))), (zero_cell (frame7 s.status s.this a (0 + 1024 + q040 z * 32 + code) (128 + q040 z * 32 + code) a datum) (in_word 0x0E 3 2 write_back3_type (some (transfer_type_of code))) (some (transfer_type_of code)) (is (omega (arith, (q040_is z).1.1))), (is (omega (arith, (q040_is z).1.1)), (refl, (refl, (refl, (refl, (refl, (tt, (tt, (tt, (tt, (tt, (tt, (tt, tt))))))))))))))))))))))))))))
  fourth_bus_error (Some PointerB) false l = rw (q040_is z).0 (is (fits s.status sr), (refl, (refl, (tt, (tt, (tt, (is (omega (arith, (q040_is z).1.1)), (tt, (is (omega (arith, (q040_is z).1.1)), (open_cell (frame7 s.status s.this a (256 + 1024 + q040 z * 32 + code) (0) 0 0) (in_word 0x0C 5 2 size (size7 z)) (size7 z) (λ x e. is (omega (arith, (q040_is z).1.1, q040_said z x e))), (zero_cell (frame7 s.status s.this a (256 + 1024 + q040 z * 32 + code) (0) 0 0) (in_word 0x0C 3 2 transfer_type (some (transfer_type_of code))) (some (transfer_type_of code)) (is (omega (arith, (q040_is z).1.1))), (is (omega (arith, (q040_is z).1.1)), (refl, (tt, (tt, (tt, (refl, (refl, (refl, (tt, (tt, (tt, (tt, (tt, (tt, (tt, (tt, (tt, tt))))))))))))))))))))))))))))
  fourth_bus_error (Some Indirect) true l = rw (q040_is z).0 (is (fits s.status sr), (refl, (refl, (tt, (tt, (tt, (is (omega (arith, (q040_is z).1.1)), (tt, (is (omega (arith, (q040_is z).1.1)), (open_cell (frame7 s.status s.this a (0 + 1024 + q040 z * 32 + code) (128 + q040 z * 32 + code) a datum) (in_word 0x0C 5 2 size (size7 z)) (size7 z) (λ x e. is (omega (arith, (q040_is z).1.1, q040_said z x e))), (zero_cell (frame7 s.status s.this a (0 + 1024 + q040 z * 32 + code) (128 + q040 z * 32 + code) a datum) (in_word 0x0C 3 2 transfer_type (some (transfer_type_of code))) (some (transfer_type_of code)) (is (omega (arith, (q040_is z).1.1))), (is (omega (arith, (q040_is z).1.1)), (is (omega (arith, (q040_is z).1.1)), (open_cell (frame7 s.status s.this a (0 + 1024 + q040 z * 32 + code) (128 + q040 z * 32 + code) a datum) (in_word 0x0E 5 2 write_back3_size (size7 z)) (size7 z) (λ x e. is (omega (arith, (q040_is z).1.1, q040_said z x e))), (zero_cell (frame7 s.status s.this a (0 + 1024 + q040 z * 32 + code) (128 + q040 z * 32 + code) a datum) (in_word 0x0E 3 2 write_back3_type (some (transfer_type_of code))) (some (transfer_type_of code)) (is (omega (arith, (q040_is z).1.1))), (is (omega (arith, (q040_is z).1.1)), (refl, (refl, (refl, (refl, (refl, (tt, (tt, (tt, (tt, (tt, (tt, (tt, tt))))))))))))))))))))))))))))
  fourth_bus_error (Some Indirect) false l = rw (q040_is z).0 (is (fits s.status sr), (refl, (refl, (tt, (tt, (tt, (is (omega (arith, (q040_is z).1.1)), (tt, (is (omega (arith, (q040_is z).1.1)), (open_cell (frame7 s.status s.this a (256 + 1024 + q040 z * 32 + code) (0) 0 0) (in_word 0x0C 5 2 size (size7 z)) (size7 z) (λ x e. is (omega (arith, (q040_is z).1.1, q040_said z x e))), (zero_cell (frame7 s.status s.this a (256 + 1024 + q040 z * 32 + code) (0) 0 0) (in_word 0x0C 3 2 transfer_type (some (transfer_type_of code))) (some (transfer_type_of code)) (is (omega (arith, (q040_is z).1.1))), (is (omega (arith, (q040_is z).1.1)), (refl, (tt, (tt, (tt, (refl, (refl, (refl, (tt, (tt, (tt, (tt, (tt, (tt, (tt, (tt, (tt, tt))))))))))))))))))))))))))))
  fourth_bus_error (Some PageFault) true l = rw (q040_is z).0 (is (fits s.status sr), (refl, (refl, (tt, (tt, (tt, (is (omega (arith, (q040_is z).1.1)), (tt, (is (omega (arith, (q040_is z).1.1)), (open_cell (frame7 s.status s.this a (0 + 1024 + q040 z * 32 + code) (128 + q040 z * 32 + code) a datum) (in_word 0x0C 5 2 size (size7 z)) (size7 z) (λ x e. is (omega (arith, (q040_is z).1.1, q040_said z x e))), (zero_cell (frame7 s.status s.this a (0 + 1024 + q040 z * 32 + code) (128 + q040 z * 32 + code) a datum) (in_word 0x0C 3 2 transfer_type (some (transfer_type_of code))) (some (transfer_type_of code)) (is (omega (arith, (q040_is z).1.1))), (is (omega (arith, (q040_is z).1.1)), (is (omega (arith, (q040_is z).1.1)), (open_cell (frame7 s.status s.this a (0 + 1024 + q040 z * 32 + code) (128 + q040 z * 32 + code) a datum) (in_word 0x0E 5 2 write_back3_size (size7 z)) (size7 z) (λ x e. is (omega (arith, (q040_is z).1.1, q040_said z x e))), (zero_cell (frame7 s.status s.this a (0 + 1024 + q040 z * 32 + code) (128 + q040 z * 32 + code) a datum) (in_word 0x0E 3 2 write_back3_type (some (transfer_type_of code))) (some (transfer_type_of code)) (is (omega (arith, (q040_is z).1.1))), (is (omega (arith, (q040_is z).1.1)), (refl, (refl, (refl, (refl, (refl, (tt, (tt, (tt, (tt, (tt, (tt, (tt, tt))))))))))))))))))))))))))))
  fourth_bus_error (Some PageFault) false l = rw (q040_is z).0 (is (fits s.status sr), (refl, (refl, (tt, (tt, (tt, (is (omega (arith, (q040_is z).1.1)), (tt, (is (omega (arith, (q040_is z).1.1)), (open_cell (frame7 s.status s.this a (256 + 1024 + q040 z * 32 + code) (0) 0 0) (in_word 0x0C 5 2 size (size7 z)) (size7 z) (λ x e. is (omega (arith, (q040_is z).1.1, q040_said z x e))), (zero_cell (frame7 s.status s.this a (256 + 1024 + q040 z * 32 + code) (0) 0 0) (in_word 0x0C 3 2 transfer_type (some (transfer_type_of code))) (some (transfer_type_of code)) (is (omega (arith, (q040_is z).1.1))), (is (omega (arith, (q040_is z).1.1)), (refl, (tt, (tt, (tt, (refl, (refl, (refl, (tt, (tt, (tt, (tt, (tt, (tt, (tt, (tt, (tt, tt))))))))))))))))))))))))))))
  fourth_bus_error (Some WriteProtect) true l = rw (q040_is z).0 (is (fits s.status sr), (refl, (refl, (tt, (tt, (tt, (is (omega (arith, (q040_is z).1.1)), (tt, (is (omega (arith, (q040_is z).1.1)), (open_cell (frame7 s.status s.this a (0 + 1024 + q040 z * 32 + code) (128 + q040 z * 32 + code) a datum) (in_word 0x0C 5 2 size (size7 z)) (size7 z) (λ x e. is (omega (arith, (q040_is z).1.1, q040_said z x e))), (zero_cell (frame7 s.status s.this a (0 + 1024 + q040 z * 32 + code) (128 + q040 z * 32 + code) a datum) (in_word 0x0C 3 2 transfer_type (some (transfer_type_of code))) (some (transfer_type_of code)) (is (omega (arith, (q040_is z).1.1))), (is (omega (arith, (q040_is z).1.1)), (is (omega (arith, (q040_is z).1.1)), (open_cell (frame7 s.status s.this a (0 + 1024 + q040 z * 32 + code) (128 + q040 z * 32 + code) a datum) (in_word 0x0E 5 2 write_back3_size (size7 z)) (size7 z) (λ x e. is (omega (arith, (q040_is z).1.1, q040_said z x e))), (zero_cell (frame7 s.status s.this a (0 + 1024 + q040 z * 32 + code) (128 + q040 z * 32 + code) a datum) (in_word 0x0E 3 2 write_back3_type (some (transfer_type_of code))) (some (transfer_type_of code)) (is (omega (arith, (q040_is z).1.1))), (is (omega (arith, (q040_is z).1.1)), (refl, (refl, (refl, (refl, (refl, (tt, (tt, (tt, (tt, (tt, (tt, (tt, tt))))))))))))))))))))))))))))
  fourth_bus_error (Some WriteProtect) false l = rw (q040_is z).0 (is (fits s.status sr), (refl, (refl, (tt, (tt, (tt, (is (omega (arith, (q040_is z).1.1)), (tt, (is (omega (arith, (q040_is z).1.1)), (open_cell (frame7 s.status s.this a (256 + 1024 + q040 z * 32 + code) (0) 0 0) (in_word 0x0C 5 2 size (size7 z)) (size7 z) (λ x e. is (omega (arith, (q040_is z).1.1, q040_said z x e))), (zero_cell (frame7 s.status s.this a (256 + 1024 + q040 z * 32 + code) (0) 0 0) (in_word 0x0C 3 2 transfer_type (some (transfer_type_of code))) (some (transfer_type_of code)) (is (omega (arith, (q040_is z).1.1))), (is (omega (arith, (q040_is z).1.1)), (refl, (tt, (tt, (tt, (refl, (refl, (refl, (tt, (tt, (tt, (tt, (tt, (tt, (tt, (tt, (tt, tt))))))))))))))))))))))))))))
  fourth_bus_error (Some SupervisorProtect) true l = rw (q040_is z).0 (is (fits s.status sr), (refl, (refl, (tt, (tt, (tt, (is (omega (arith, (q040_is z).1.1)), (tt, (is (omega (arith, (q040_is z).1.1)), (open_cell (frame7 s.status s.this a (0 + 1024 + q040 z * 32 + code) (128 + q040 z * 32 + code) a datum) (in_word 0x0C 5 2 size (size7 z)) (size7 z) (λ x e. is (omega (arith, (q040_is z).1.1, q040_said z x e))), (zero_cell (frame7 s.status s.this a (0 + 1024 + q040 z * 32 + code) (128 + q040 z * 32 + code) a datum) (in_word 0x0C 3 2 transfer_type (some (transfer_type_of code))) (some (transfer_type_of code)) (is (omega (arith, (q040_is z).1.1))), (is (omega (arith, (q040_is z).1.1)), (is (omega (arith, (q040_is z).1.1)), (open_cell (frame7 s.status s.this a (0 + 1024 + q040 z * 32 + code) (128 + q040 z * 32 + code) a datum) (in_word 0x0E 5 2 write_back3_size (size7 z)) (size7 z) (λ x e. is (omega (arith, (q040_is z).1.1, q040_said z x e))), (zero_cell (frame7 s.status s.this a (0 + 1024 + q040 z * 32 + code) (128 + q040 z * 32 + code) a datum) (in_word 0x0E 3 2 write_back3_type (some (transfer_type_of code))) (some (transfer_type_of code)) (is (omega (arith, (q040_is z).1.1))), (is (omega (arith, (q040_is z).1.1)), (refl, (refl, (refl, (refl, (refl, (tt, (tt, (tt, (tt, (tt, (tt, (tt, tt))))))))))))))))))))))))))))
  fourth_bus_error (Some SupervisorProtect) false l = rw (q040_is z).0 (is (fits s.status sr), (refl, (refl, (tt, (tt, (tt, (is (omega (arith, (q040_is z).1.1)), (tt, (is (omega (arith, (q040_is z).1.1)), (open_cell (frame7 s.status s.this a (256 + 1024 + q040 z * 32 + code) (0) 0 0) (in_word 0x0C 5 2 size (size7 z)) (size7 z) (λ x e. is (omega (arith, (q040_is z).1.1, q040_said z x e))), (zero_cell (frame7 s.status s.this a (256 + 1024 + q040 z * 32 + code) (0) 0 0) (in_word 0x0C 3 2 transfer_type (some (transfer_type_of code))) (some (transfer_type_of code)) (is (omega (arith, (q040_is z).1.1))), (is (omega (arith, (q040_is z).1.1)), (refl, (tt, (tt, (tt, (refl, (refl, (refl, (tt, (tt, (tt, (tt, (tt, (tt, (tt, (tt, (tt, tt))))))))))))))))))))))))))))
  fourth_bus_error (Some TableWalkBusError) true l = rw (q040_is z).0 (is (fits s.status sr), (refl, (refl, (tt, (tt, (tt, (is (omega (arith, (q040_is z).1.1)), (tt, (is (omega (arith, (q040_is z).1.1)), (open_cell (frame7 s.status s.this a (0 + 1024 + q040 z * 32 + code) (128 + q040 z * 32 + code) a datum) (in_word 0x0C 5 2 size (size7 z)) (size7 z) (λ x e. is (omega (arith, (q040_is z).1.1, q040_said z x e))), (zero_cell (frame7 s.status s.this a (0 + 1024 + q040 z * 32 + code) (128 + q040 z * 32 + code) a datum) (in_word 0x0C 3 2 transfer_type (some (transfer_type_of code))) (some (transfer_type_of code)) (is (omega (arith, (q040_is z).1.1))), (is (omega (arith, (q040_is z).1.1)), (is (omega (arith, (q040_is z).1.1)), (open_cell (frame7 s.status s.this a (0 + 1024 + q040 z * 32 + code) (128 + q040 z * 32 + code) a datum) (in_word 0x0E 5 2 write_back3_size (size7 z)) (size7 z) (λ x e. is (omega (arith, (q040_is z).1.1, q040_said z x e))), (zero_cell (frame7 s.status s.this a (0 + 1024 + q040 z * 32 + code) (128 + q040 z * 32 + code) a datum) (in_word 0x0E 3 2 write_back3_type (some (transfer_type_of code))) (some (transfer_type_of code)) (is (omega (arith, (q040_is z).1.1))), (is (omega (arith, (q040_is z).1.1)), (refl, (refl, (refl, (refl, (refl, (tt, (tt, (tt, (tt, (tt, (tt, (tt, tt))))))))))))))))))))))))))))
  fourth_bus_error (Some TableWalkBusError) false l = rw (q040_is z).0 (is (fits s.status sr), (refl, (refl, (tt, (tt, (tt, (is (omega (arith, (q040_is z).1.1)), (tt, (is (omega (arith, (q040_is z).1.1)), (open_cell (frame7 s.status s.this a (256 + 1024 + q040 z * 32 + code) (0) 0 0) (in_word 0x0C 5 2 size (size7 z)) (size7 z) (λ x e. is (omega (arith, (q040_is z).1.1, q040_said z x e))), (zero_cell (frame7 s.status s.this a (256 + 1024 + q040 z * 32 + code) (0) 0 0) (in_word 0x0C 3 2 transfer_type (some (transfer_type_of code))) (some (transfer_type_of code)) (is (omega (arith, (q040_is z).1.1))), (is (omega (arith, (q040_is z).1.1)), (refl, (tt, (tt, (tt, (refl, (refl, (refl, (tt, (tt, (tt, (tt, (tt, (tt, (tt, (tt, (tt, tt))))))))))))))))))))))))))))
  fourth_bus_error (Some AccessBusError) true l = rw (q040_is z).0 (is (fits s.status sr), (refl, (refl, (tt, (tt, (tt, (tt, (tt, (is (omega (arith, (q040_is z).1.1)), (open_cell (frame7 s.status s.this a (0 + 1024 + q040 z * 32 + code) (128 + q040 z * 32 + code) a datum) (in_word 0x0C 5 2 size (size7 z)) (size7 z) (λ x e. is (omega (arith, (q040_is z).1.1, q040_said z x e))), (zero_cell (frame7 s.status s.this a (0 + 1024 + q040 z * 32 + code) (128 + q040 z * 32 + code) a datum) (in_word 0x0C 3 2 transfer_type (some (transfer_type_of code))) (some (transfer_type_of code)) (is (omega (arith, (q040_is z).1.1))), (is (omega (arith, (q040_is z).1.1)), (is (omega (arith, (q040_is z).1.1)), (open_cell (frame7 s.status s.this a (0 + 1024 + q040 z * 32 + code) (128 + q040 z * 32 + code) a datum) (in_word 0x0E 5 2 write_back3_size (size7 z)) (size7 z) (λ x e. is (omega (arith, (q040_is z).1.1, q040_said z x e))), (zero_cell (frame7 s.status s.this a (0 + 1024 + q040 z * 32 + code) (128 + q040 z * 32 + code) a datum) (in_word 0x0E 3 2 write_back3_type (some (transfer_type_of code))) (some (transfer_type_of code)) (is (omega (arith, (q040_is z).1.1))), (is (omega (arith, (q040_is z).1.1)), (refl, (refl, (refl, (refl, (refl, (tt, (tt, (tt, (tt, (tt, (tt, (tt, tt))))))))))))))))))))))))))))
  fourth_bus_error (Some AccessBusError) false l = rw (q040_is z).0 (is (fits s.status sr), (refl, (refl, (tt, (tt, (tt, (tt, (tt, (is (omega (arith, (q040_is z).1.1)), (open_cell (frame7 s.status s.this a (256 + 1024 + q040 z * 32 + code) (0) 0 0) (in_word 0x0C 5 2 size (size7 z)) (size7 z) (λ x e. is (omega (arith, (q040_is z).1.1, q040_said z x e))), (zero_cell (frame7 s.status s.this a (256 + 1024 + q040 z * 32 + code) (0) 0 0) (in_word 0x0C 3 2 transfer_type (some (transfer_type_of code))) (some (transfer_type_of code)) (is (omega (arith, (q040_is z).1.1))), (is (omega (arith, (q040_is z).1.1)), (refl, (tt, (tt, (tt, (refl, (refl, (refl, (tt, (tt, (tt, (tt, (tt, (tt, (tt, (tt, (tt, tt))))))))))))))))))))))))))))

  -- the 68060
  pub sixth_bus_error : (k : Option FaultCause) (write i : Bool) → code < 8
      → Holding (frame4 s.status s.this a (fslw060 write i z code (cause_number k))) (field_differs differences (of mc68060 (at s (fault a write i z code datum (cause_number k)))) own bus_error 2)
      (fields_of (of mc68060 (at s (fault a write i z code datum (cause_number k)))) bus_error 2)
  unfolding differences field_differs fields_of look in_frame frame68000 frame8 frame2 frame0 frame4 frame7 frame11 field_at is_counted frame_bytes fslw060 cause_bit
  sixth_bus_error None true true l = rw (q040_is z).1.0 (is (fits s.status sr), (refl, (refl, (refl, (tt, (tt, (is (omega (arith, (q040_is z).1.1)), (tt, (zero_cell (frame4 s.status s.this a (0x800000 + q040 z * 0x200000 + code % 8 * 0x10000 + 0x8000 + 16)) (in_long 0x0C 19 2 transfer_type (some (transfer_type_of code))) (some (transfer_type_of code)) (is (omega (arith, (q040_is z).1.1))), (is (omega (arith, (q040_is z).1.1)), (is (omega (arith, (q040_is z).1.1)), (is (omega (arith, (q040_is z).1.1)), (is (omega (arith, (q040_is z).1.1)), (is (omega (arith, (q040_is z).1.1)), (is (omega (arith, (q040_is z).1.1)), (is (omega (arith, (q040_is z).1.1)), (is (omega (arith, (q040_is z).1.1)), (is (omega (arith, (q040_is z).1.1)), (is (omega (arith, (q040_is z).1.1)), (is (omega (arith, (q040_is z).1.1)), tt))))))))))))))))))))
  sixth_bus_error None true false l = rw (q040_is z).1.0 (is (fits s.status sr), (refl, (refl, (refl, (tt, (tt, (is (omega (arith, (q040_is z).1.1)), (tt, (zero_cell (frame4 s.status s.this a (0x800000 + q040 z * 0x200000 + code % 8 * 0x10000 + 0 + 16)) (in_long 0x0C 19 2 transfer_type (some (transfer_type_of code))) (some (transfer_type_of code)) (is (omega (arith, (q040_is z).1.1))), (is (omega (arith, (q040_is z).1.1)), (is (omega (arith, (q040_is z).1.1)), (is (omega (arith, (q040_is z).1.1)), (is (omega (arith, (q040_is z).1.1)), (is (omega (arith, (q040_is z).1.1)), (is (omega (arith, (q040_is z).1.1)), (is (omega (arith, (q040_is z).1.1)), (is (omega (arith, (q040_is z).1.1)), (is (omega (arith, (q040_is z).1.1)), (is (omega (arith, (q040_is z).1.1)), (is (omega (arith, (q040_is z).1.1)), tt))))))))))))))))))))
  sixth_bus_error None false true l = rw (q040_is z).1.0 (is (fits s.status sr), (refl, (refl, (refl, (tt, (tt, (is (omega (arith, (q040_is z).1.1)), (tt, (zero_cell (frame4 s.status s.this a (0x1000000 + q040 z * 0x200000 + code % 8 * 0x10000 + 0x8000 + 32)) (in_long 0x0C 19 2 transfer_type (some (transfer_type_of code))) (some (transfer_type_of code)) (is (omega (arith, (q040_is z).1.1))), (is (omega (arith, (q040_is z).1.1)), (is (omega (arith, (q040_is z).1.1)), (is (omega (arith, (q040_is z).1.1)), (is (omega (arith, (q040_is z).1.1)), (is (omega (arith, (q040_is z).1.1)), (is (omega (arith, (q040_is z).1.1)), (is (omega (arith, (q040_is z).1.1)), (is (omega (arith, (q040_is z).1.1)), (is (omega (arith, (q040_is z).1.1)), (is (omega (arith, (q040_is z).1.1)), (is (omega (arith, (q040_is z).1.1)), tt))))))))))))))))))))
  sixth_bus_error None false false l = rw (q040_is z).1.0 (is (fits s.status sr), (refl, (refl, (refl, (tt, (tt, (is (omega (arith, (q040_is z).1.1)), (tt, (zero_cell (frame4 s.status s.this a (0x1000000 + q040 z * 0x200000 + code % 8 * 0x10000 + 0 + 32)) (in_long 0x0C 19 2 transfer_type (some (transfer_type_of code))) (some (transfer_type_of code)) (is (omega (arith, (q040_is z).1.1))), (is (omega (arith, (q040_is z).1.1)), (is (omega (arith, (q040_is z).1.1)), (is (omega (arith, (q040_is z).1.1)), (is (omega (arith, (q040_is z).1.1)), (is (omega (arith, (q040_is z).1.1)), (is (omega (arith, (q040_is z).1.1)), (is (omega (arith, (q040_is z).1.1)), (is (omega (arith, (q040_is z).1.1)), (is (omega (arith, (q040_is z).1.1)), (is (omega (arith, (q040_is z).1.1)), (is (omega (arith, (q040_is z).1.1)), tt))))))))))))))))))))
  sixth_bus_error (Some PointerA) true true l = rw (q040_is z).1.0 (is (fits s.status sr), (refl, (refl, (refl, (tt, (tt, (is (omega (arith, (q040_is z).1.1)), (tt, (zero_cell (frame4 s.status s.this a (0x800000 + q040 z * 0x200000 + code % 8 * 0x10000 + 0x8000 + 0x1000)) (in_long 0x0C 19 2 transfer_type (some (transfer_type_of code))) (some (transfer_type_of code)) (is (omega (arith, (q040_is z).1.1))), (is (omega (arith, (q040_is z).1.1)), (is (omega (arith, (q040_is z).1.1)), (is (omega (arith, (q040_is z).1.1)), (is (omega (arith, (q040_is z).1.1)), (is (omega (arith, (q040_is z).1.1)), (is (omega (arith, (q040_is z).1.1)), (is (omega (arith, (q040_is z).1.1)), (is (omega (arith, (q040_is z).1.1)), (is (omega (arith, (q040_is z).1.1)), (is (omega (arith, (q040_is z).1.1)), (is (omega (arith, (q040_is z).1.1)), tt))))))))))))))))))))
  sixth_bus_error (Some PointerA) true false l = rw (q040_is z).1.0 (is (fits s.status sr), (refl, (refl, (refl, (tt, (tt, (is (omega (arith, (q040_is z).1.1)), (tt, (zero_cell (frame4 s.status s.this a (0x800000 + q040 z * 0x200000 + code % 8 * 0x10000 + 0 + 0x1000)) (in_long 0x0C 19 2 transfer_type (some (transfer_type_of code))) (some (transfer_type_of code)) (is (omega (arith, (q040_is z).1.1))), (is (omega (arith, (q040_is z).1.1)), (is (omega (arith, (q040_is z).1.1)), (is (omega (arith, (q040_is z).1.1)), (is (omega (arith, (q040_is z).1.1)), (is (omega (arith, (q040_is z).1.1)), (is (omega (arith, (q040_is z).1.1)), (is (omega (arith, (q040_is z).1.1)), (is (omega (arith, (q040_is z).1.1)), (is (omega (arith, (q040_is z).1.1)), (is (omega (arith, (q040_is z).1.1)), (is (omega (arith, (q040_is z).1.1)), tt))))))))))))))))))))
  sixth_bus_error (Some PointerA) false true l = rw (q040_is z).1.0 (is (fits s.status sr), (refl, (refl, (refl, (tt, (tt, (is (omega (arith, (q040_is z).1.1)), (tt, (zero_cell (frame4 s.status s.this a (0x1000000 + q040 z * 0x200000 + code % 8 * 0x10000 + 0x8000 + 0x1000)) (in_long 0x0C 19 2 transfer_type (some (transfer_type_of code))) (some (transfer_type_of code)) (is (omega (arith, (q040_is z).1.1))), (is (omega (arith, (q040_is z).1.1)), (is (omega (arith, (q040_is z).1.1)), (is (omega (arith, (q040_is z).1.1)), (is (omega (arith, (q040_is z).1.1)), (is (omega (arith, (q040_is z).1.1)), (is (omega (arith, (q040_is z).1.1)), (is (omega (arith, (q040_is z).1.1)), (is (omega (arith, (q040_is z).1.1)), (is (omega (arith, (q040_is z).1.1)), (is (omega (arith, (q040_is z).1.1)), (is (omega (arith, (q040_is z).1.1)), tt))))))))))))))))))))
  sixth_bus_error (Some PointerA) false false l = rw (q040_is z).1.0 (is (fits s.status sr), (refl, (refl, (refl, (tt, (tt, (is (omega (arith, (q040_is z).1.1)), (tt, (zero_cell (frame4 s.status s.this a (0x1000000 + q040 z * 0x200000 + code % 8 * 0x10000 + 0 + 0x1000)) (in_long 0x0C 19 2 transfer_type (some (transfer_type_of code))) (some (transfer_type_of code)) (is (omega (arith, (q040_is z).1.1))), (is (omega (arith, (q040_is z).1.1)), (is (omega (arith, (q040_is z).1.1)), (is (omega (arith, (q040_is z).1.1)), (is (omega (arith, (q040_is z).1.1)), (is (omega (arith, (q040_is z).1.1)), (is (omega (arith, (q040_is z).1.1)), (is (omega (arith, (q040_is z).1.1)), (is (omega (arith, (q040_is z).1.1)), (is (omega (arith, (q040_is z).1.1)), (is (omega (arith, (q040_is z).1.1)), (is (omega (arith, (q040_is z).1.1)), tt))))))))))))))))))))
  sixth_bus_error (Some PointerB) true true l = rw (q040_is z).1.0 (is (fits s.status sr), (refl, (refl, (refl, (tt, (tt, (is (omega (arith, (q040_is z).1.1)), (tt, (zero_cell (frame4 s.status s.this a (0x800000 + q040 z * 0x200000 + code % 8 * 0x10000 + 0x8000 + 2048)) (in_long 0x0C 19 2 transfer_type (some (transfer_type_of code))) (some (transfer_type_of code)) (is (omega (arith, (q040_is z).1.1))), (is (omega (arith, (q040_is z).1.1)), (is (omega (arith, (q040_is z).1.1)), (is (omega (arith, (q040_is z).1.1)), (is (omega (arith, (q040_is z).1.1)), (is (omega (arith, (q040_is z).1.1)), (is (omega (arith, (q040_is z).1.1)), (is (omega (arith, (q040_is z).1.1)), (is (omega (arith, (q040_is z).1.1)), (is (omega (arith, (q040_is z).1.1)), (is (omega (arith, (q040_is z).1.1)), (is (omega (arith, (q040_is z).1.1)), tt))))))))))))))))))))
  sixth_bus_error (Some PointerB) true false l = rw (q040_is z).1.0 (is (fits s.status sr), (refl, (refl, (refl, (tt, (tt, (is (omega (arith, (q040_is z).1.1)), (tt, (zero_cell (frame4 s.status s.this a (0x800000 + q040 z * 0x200000 + code % 8 * 0x10000 + 0 + 2048)) (in_long 0x0C 19 2 transfer_type (some (transfer_type_of code))) (some (transfer_type_of code)) (is (omega (arith, (q040_is z).1.1))), (is (omega (arith, (q040_is z).1.1)), (is (omega (arith, (q040_is z).1.1)), (is (omega (arith, (q040_is z).1.1)), (is (omega (arith, (q040_is z).1.1)), (is (omega (arith, (q040_is z).1.1)), (is (omega (arith, (q040_is z).1.1)), (is (omega (arith, (q040_is z).1.1)), (is (omega (arith, (q040_is z).1.1)), (is (omega (arith, (q040_is z).1.1)), (is (omega (arith, (q040_is z).1.1)), (is (omega (arith, (q040_is z).1.1)), tt))))))))))))))))))))
  sixth_bus_error (Some PointerB) false true l = rw (q040_is z).1.0 (is (fits s.status sr), (refl, (refl, (refl, (tt, (tt, (is (omega (arith, (q040_is z).1.1)), (tt, (zero_cell (frame4 s.status s.this a (0x1000000 + q040 z * 0x200000 + code % 8 * 0x10000 + 0x8000 + 2048)) (in_long 0x0C 19 2 transfer_type (some (transfer_type_of code))) (some (transfer_type_of code)) (is (omega (arith, (q040_is z).1.1))), (is (omega (arith, (q040_is z).1.1)), (is (omega (arith, (q040_is z).1.1)), (is (omega (arith, (q040_is z).1.1)), (is (omega (arith, (q040_is z).1.1)), (is (omega (arith, (q040_is z).1.1)), (is (omega (arith, (q040_is z).1.1)), (is (omega (arith, (q040_is z).1.1)), (is (omega (arith, (q040_is z).1.1)), (is (omega (arith, (q040_is z).1.1)), (is (omega (arith, (q040_is z).1.1)), (is (omega (arith, (q040_is z).1.1)), tt))))))))))))))))))))
  sixth_bus_error (Some PointerB) false false l = rw (q040_is z).1.0 (is (fits s.status sr), (refl, (refl, (refl, (tt, (tt, (is (omega (arith, (q040_is z).1.1)), (tt, (zero_cell (frame4 s.status s.this a (0x1000000 + q040 z * 0x200000 + code % 8 * 0x10000 + 0 + 2048)) (in_long 0x0C 19 2 transfer_type (some (transfer_type_of code))) (some (transfer_type_of code)) (is (omega (arith, (q040_is z).1.1))), (is (omega (arith, (q040_is z).1.1)), (is (omega (arith, (q040_is z).1.1)), (is (omega (arith, (q040_is z).1.1)), (is (omega (arith, (q040_is z).1.1)), (is (omega (arith, (q040_is z).1.1)), (is (omega (arith, (q040_is z).1.1)), (is (omega (arith, (q040_is z).1.1)), (is (omega (arith, (q040_is z).1.1)), (is (omega (arith, (q040_is z).1.1)), (is (omega (arith, (q040_is z).1.1)), (is (omega (arith, (q040_is z).1.1)), tt))))))))))))))))))))
  sixth_bus_error (Some Indirect) true true l = rw (q040_is z).1.0 (is (fits s.status sr), (refl, (refl, (refl, (tt, (tt, (is (omega (arith, (q040_is z).1.1)), (tt, (zero_cell (frame4 s.status s.this a (0x800000 + q040 z * 0x200000 + code % 8 * 0x10000 + 0x8000 + 1024)) (in_long 0x0C 19 2 transfer_type (some (transfer_type_of code))) (some (transfer_type_of code)) (is (omega (arith, (q040_is z).1.1))), (is (omega (arith, (q040_is z).1.1)), (is (omega (arith, (q040_is z).1.1)), (is (omega (arith, (q040_is z).1.1)), (is (omega (arith, (q040_is z).1.1)), (is (omega (arith, (q040_is z).1.1)), (is (omega (arith, (q040_is z).1.1)), (is (omega (arith, (q040_is z).1.1)), (is (omega (arith, (q040_is z).1.1)), (is (omega (arith, (q040_is z).1.1)), (is (omega (arith, (q040_is z).1.1)), (is (omega (arith, (q040_is z).1.1)), tt))))))))))))))))))))
  sixth_bus_error (Some Indirect) true false l = rw (q040_is z).1.0 (is (fits s.status sr), (refl, (refl, (refl, (tt, (tt, (is (omega (arith, (q040_is z).1.1)), (tt, (zero_cell (frame4 s.status s.this a (0x800000 + q040 z * 0x200000 + code % 8 * 0x10000 + 0 + 1024)) (in_long 0x0C 19 2 transfer_type (some (transfer_type_of code))) (some (transfer_type_of code)) (is (omega (arith, (q040_is z).1.1))), (is (omega (arith, (q040_is z).1.1)), (is (omega (arith, (q040_is z).1.1)), (is (omega (arith, (q040_is z).1.1)), (is (omega (arith, (q040_is z).1.1)), (is (omega (arith, (q040_is z).1.1)), (is (omega (arith, (q040_is z).1.1)), (is (omega (arith, (q040_is z).1.1)), (is (omega (arith, (q040_is z).1.1)), (is (omega (arith, (q040_is z).1.1)), (is (omega (arith, (q040_is z).1.1)), (is (omega (arith, (q040_is z).1.1)), tt))))))))))))))))))))
  sixth_bus_error (Some Indirect) false true l = rw (q040_is z).1.0 (is (fits s.status sr), (refl, (refl, (refl, (tt, (tt, (is (omega (arith, (q040_is z).1.1)), (tt, (zero_cell (frame4 s.status s.this a (0x1000000 + q040 z * 0x200000 + code % 8 * 0x10000 + 0x8000 + 1024)) (in_long 0x0C 19 2 transfer_type (some (transfer_type_of code))) (some (transfer_type_of code)) (is (omega (arith, (q040_is z).1.1))), (is (omega (arith, (q040_is z).1.1)), (is (omega (arith, (q040_is z).1.1)), (is (omega (arith, (q040_is z).1.1)), (is (omega (arith, (q040_is z).1.1)), (is (omega (arith, (q040_is z).1.1)), (is (omega (arith, (q040_is z).1.1)), (is (omega (arith, (q040_is z).1.1)), (is (omega (arith, (q040_is z).1.1)), (is (omega (arith, (q040_is z).1.1)), (is (omega (arith, (q040_is z).1.1)), (is (omega (arith, (q040_is z).1.1)), tt))))))))))))))))))))
  sixth_bus_error (Some Indirect) false false l = rw (q040_is z).1.0 (is (fits s.status sr), (refl, (refl, (refl, (tt, (tt, (is (omega (arith, (q040_is z).1.1)), (tt, (zero_cell (frame4 s.status s.this a (0x1000000 + q040 z * 0x200000 + code % 8 * 0x10000 + 0 + 1024)) (in_long 0x0C 19 2 transfer_type (some (transfer_type_of code))) (some (transfer_type_of code)) (is (omega (arith, (q040_is z).1.1))), (is (omega (arith, (q040_is z).1.1)), (is (omega (arith, (q040_is z).1.1)), (is (omega (arith, (q040_is z).1.1)), (is (omega (arith, (q040_is z).1.1)), (is (omega (arith, (q040_is z).1.1)), (is (omega (arith, (q040_is z).1.1)), (is (omega (arith, (q040_is z).1.1)), (is (omega (arith, (q040_is z).1.1)), (is (omega (arith, (q040_is z).1.1)), (is (omega (arith, (q040_is z).1.1)), (is (omega (arith, (q040_is z).1.1)), tt))))))))))))))))))))
  sixth_bus_error (Some PageFault) true true l = rw (q040_is z).1.0 (is (fits s.status sr), (refl, (refl, (refl, (tt, (tt, (is (omega (arith, (q040_is z).1.1)), (tt, (zero_cell (frame4 s.status s.this a (0x800000 + q040 z * 0x200000 + code % 8 * 0x10000 + 0x8000 + 512)) (in_long 0x0C 19 2 transfer_type (some (transfer_type_of code))) (some (transfer_type_of code)) (is (omega (arith, (q040_is z).1.1))), (is (omega (arith, (q040_is z).1.1)), (is (omega (arith, (q040_is z).1.1)), (is (omega (arith, (q040_is z).1.1)), (is (omega (arith, (q040_is z).1.1)), (is (omega (arith, (q040_is z).1.1)), (is (omega (arith, (q040_is z).1.1)), (is (omega (arith, (q040_is z).1.1)), (is (omega (arith, (q040_is z).1.1)), (is (omega (arith, (q040_is z).1.1)), (is (omega (arith, (q040_is z).1.1)), (is (omega (arith, (q040_is z).1.1)), tt))))))))))))))))))))
  sixth_bus_error (Some PageFault) true false l = rw (q040_is z).1.0 (is (fits s.status sr), (refl, (refl, (refl, (tt, (tt, (is (omega (arith, (q040_is z).1.1)), (tt, (zero_cell (frame4 s.status s.this a (0x800000 + q040 z * 0x200000 + code % 8 * 0x10000 + 0 + 512)) (in_long 0x0C 19 2 transfer_type (some (transfer_type_of code))) (some (transfer_type_of code)) (is (omega (arith, (q040_is z).1.1))), (is (omega (arith, (q040_is z).1.1)), (is (omega (arith, (q040_is z).1.1)), (is (omega (arith, (q040_is z).1.1)), (is (omega (arith, (q040_is z).1.1)), (is (omega (arith, (q040_is z).1.1)), (is (omega (arith, (q040_is z).1.1)), (is (omega (arith, (q040_is z).1.1)), (is (omega (arith, (q040_is z).1.1)), (is (omega (arith, (q040_is z).1.1)), (is (omega (arith, (q040_is z).1.1)), (is (omega (arith, (q040_is z).1.1)), tt))))))))))))))))))))
  sixth_bus_error (Some PageFault) false true l = rw (q040_is z).1.0 (is (fits s.status sr), (refl, (refl, (refl, (tt, (tt, (is (omega (arith, (q040_is z).1.1)), (tt, (zero_cell (frame4 s.status s.this a (0x1000000 + q040 z * 0x200000 + code % 8 * 0x10000 + 0x8000 + 512)) (in_long 0x0C 19 2 transfer_type (some (transfer_type_of code))) (some (transfer_type_of code)) (is (omega (arith, (q040_is z).1.1))), (is (omega (arith, (q040_is z).1.1)), (is (omega (arith, (q040_is z).1.1)), (is (omega (arith, (q040_is z).1.1)), (is (omega (arith, (q040_is z).1.1)), (is (omega (arith, (q040_is z).1.1)), (is (omega (arith, (q040_is z).1.1)), (is (omega (arith, (q040_is z).1.1)), (is (omega (arith, (q040_is z).1.1)), (is (omega (arith, (q040_is z).1.1)), (is (omega (arith, (q040_is z).1.1)), (is (omega (arith, (q040_is z).1.1)), tt))))))))))))))))))))
  sixth_bus_error (Some PageFault) false false l = rw (q040_is z).1.0 (is (fits s.status sr), (refl, (refl, (refl, (tt, (tt, (is (omega (arith, (q040_is z).1.1)), (tt, (zero_cell (frame4 s.status s.this a (0x1000000 + q040 z * 0x200000 + code % 8 * 0x10000 + 0 + 512)) (in_long 0x0C 19 2 transfer_type (some (transfer_type_of code))) (some (transfer_type_of code)) (is (omega (arith, (q040_is z).1.1))), (is (omega (arith, (q040_is z).1.1)), (is (omega (arith, (q040_is z).1.1)), (is (omega (arith, (q040_is z).1.1)), (is (omega (arith, (q040_is z).1.1)), (is (omega (arith, (q040_is z).1.1)), (is (omega (arith, (q040_is z).1.1)), (is (omega (arith, (q040_is z).1.1)), (is (omega (arith, (q040_is z).1.1)), (is (omega (arith, (q040_is z).1.1)), (is (omega (arith, (q040_is z).1.1)), (is (omega (arith, (q040_is z).1.1)), tt))))))))))))))))))))
  sixth_bus_error (Some WriteProtect) true true l = rw (q040_is z).1.0 (is (fits s.status sr), (refl, (refl, (refl, (tt, (tt, (is (omega (arith, (q040_is z).1.1)), (tt, (zero_cell (frame4 s.status s.this a (0x800000 + q040 z * 0x200000 + code % 8 * 0x10000 + 0x8000 + 128)) (in_long 0x0C 19 2 transfer_type (some (transfer_type_of code))) (some (transfer_type_of code)) (is (omega (arith, (q040_is z).1.1))), (is (omega (arith, (q040_is z).1.1)), (is (omega (arith, (q040_is z).1.1)), (is (omega (arith, (q040_is z).1.1)), (is (omega (arith, (q040_is z).1.1)), (is (omega (arith, (q040_is z).1.1)), (is (omega (arith, (q040_is z).1.1)), (is (omega (arith, (q040_is z).1.1)), (is (omega (arith, (q040_is z).1.1)), (is (omega (arith, (q040_is z).1.1)), (is (omega (arith, (q040_is z).1.1)), (is (omega (arith, (q040_is z).1.1)), tt))))))))))))))))))))
  sixth_bus_error (Some WriteProtect) true false l = rw (q040_is z).1.0 (is (fits s.status sr), (refl, (refl, (refl, (tt, (tt, (is (omega (arith, (q040_is z).1.1)), (tt, (zero_cell (frame4 s.status s.this a (0x800000 + q040 z * 0x200000 + code % 8 * 0x10000 + 0 + 128)) (in_long 0x0C 19 2 transfer_type (some (transfer_type_of code))) (some (transfer_type_of code)) (is (omega (arith, (q040_is z).1.1))), (is (omega (arith, (q040_is z).1.1)), (is (omega (arith, (q040_is z).1.1)), (is (omega (arith, (q040_is z).1.1)), (is (omega (arith, (q040_is z).1.1)), (is (omega (arith, (q040_is z).1.1)), (is (omega (arith, (q040_is z).1.1)), (is (omega (arith, (q040_is z).1.1)), (is (omega (arith, (q040_is z).1.1)), (is (omega (arith, (q040_is z).1.1)), (is (omega (arith, (q040_is z).1.1)), (is (omega (arith, (q040_is z).1.1)), tt))))))))))))))))))))
  sixth_bus_error (Some WriteProtect) false true l = rw (q040_is z).1.0 (is (fits s.status sr), (refl, (refl, (refl, (tt, (tt, (is (omega (arith, (q040_is z).1.1)), (tt, (zero_cell (frame4 s.status s.this a (0x1000000 + q040 z * 0x200000 + code % 8 * 0x10000 + 0x8000 + 128)) (in_long 0x0C 19 2 transfer_type (some (transfer_type_of code))) (some (transfer_type_of code)) (is (omega (arith, (q040_is z).1.1))), (is (omega (arith, (q040_is z).1.1)), (is (omega (arith, (q040_is z).1.1)), (is (omega (arith, (q040_is z).1.1)), (is (omega (arith, (q040_is z).1.1)), (is (omega (arith, (q040_is z).1.1)), (is (omega (arith, (q040_is z).1.1)), (is (omega (arith, (q040_is z).1.1)), (is (omega (arith, (q040_is z).1.1)), (is (omega (arith, (q040_is z).1.1)), (is (omega (arith, (q040_is z).1.1)), (is (omega (arith, (q040_is z).1.1)), tt))))))))))))))))))))
  sixth_bus_error (Some WriteProtect) false false l = rw (q040_is z).1.0 (is (fits s.status sr), (refl, (refl, (refl, (tt, (tt, (is (omega (arith, (q040_is z).1.1)), (tt, (zero_cell (frame4 s.status s.this a (0x1000000 + q040 z * 0x200000 + code % 8 * 0x10000 + 0 + 128)) (in_long 0x0C 19 2 transfer_type (some (transfer_type_of code))) (some (transfer_type_of code)) (is (omega (arith, (q040_is z).1.1))), (is (omega (arith, (q040_is z).1.1)), (is (omega (arith, (q040_is z).1.1)), (is (omega (arith, (q040_is z).1.1)), (is (omega (arith, (q040_is z).1.1)), (is (omega (arith, (q040_is z).1.1)), (is (omega (arith, (q040_is z).1.1)), (is (omega (arith, (q040_is z).1.1)), (is (omega (arith, (q040_is z).1.1)), (is (omega (arith, (q040_is z).1.1)), (is (omega (arith, (q040_is z).1.1)), (is (omega (arith, (q040_is z).1.1)), tt))))))))))))))))))))
  sixth_bus_error (Some SupervisorProtect) true true l = rw (q040_is z).1.0 (is (fits s.status sr), (refl, (refl, (refl, (tt, (tt, (is (omega (arith, (q040_is z).1.1)), (tt, (zero_cell (frame4 s.status s.this a (0x800000 + q040 z * 0x200000 + code % 8 * 0x10000 + 0x8000 + 256)) (in_long 0x0C 19 2 transfer_type (some (transfer_type_of code))) (some (transfer_type_of code)) (is (omega (arith, (q040_is z).1.1))), (is (omega (arith, (q040_is z).1.1)), (is (omega (arith, (q040_is z).1.1)), (is (omega (arith, (q040_is z).1.1)), (is (omega (arith, (q040_is z).1.1)), (is (omega (arith, (q040_is z).1.1)), (is (omega (arith, (q040_is z).1.1)), (is (omega (arith, (q040_is z).1.1)), (is (omega (arith, (q040_is z).1.1)), (is (omega (arith, (q040_is z).1.1)), (is (omega (arith, (q040_is z).1.1)), (is (omega (arith, (q040_is z).1.1)), tt))))))))))))))))))))
  sixth_bus_error (Some SupervisorProtect) true false l = rw (q040_is z).1.0 (is (fits s.status sr), (refl, (refl, (refl, (tt, (tt, (is (omega (arith, (q040_is z).1.1)), (tt, (zero_cell (frame4 s.status s.this a (0x800000 + q040 z * 0x200000 + code % 8 * 0x10000 + 0 + 256)) (in_long 0x0C 19 2 transfer_type (some (transfer_type_of code))) (some (transfer_type_of code)) (is (omega (arith, (q040_is z).1.1))), (is (omega (arith, (q040_is z).1.1)), (is (omega (arith, (q040_is z).1.1)), (is (omega (arith, (q040_is z).1.1)), (is (omega (arith, (q040_is z).1.1)), (is (omega (arith, (q040_is z).1.1)), (is (omega (arith, (q040_is z).1.1)), (is (omega (arith, (q040_is z).1.1)), (is (omega (arith, (q040_is z).1.1)), (is (omega (arith, (q040_is z).1.1)), (is (omega (arith, (q040_is z).1.1)), (is (omega (arith, (q040_is z).1.1)), tt))))))))))))))))))))
  sixth_bus_error (Some SupervisorProtect) false true l = rw (q040_is z).1.0 (is (fits s.status sr), (refl, (refl, (refl, (tt, (tt, (is (omega (arith, (q040_is z).1.1)), (tt, (zero_cell (frame4 s.status s.this a (0x1000000 + q040 z * 0x200000 + code % 8 * 0x10000 + 0x8000 + 256)) (in_long 0x0C 19 2 transfer_type (some (transfer_type_of code))) (some (transfer_type_of code)) (is (omega (arith, (q040_is z).1.1))), (is (omega (arith, (q040_is z).1.1)), (is (omega (arith, (q040_is z).1.1)), (is (omega (arith, (q040_is z).1.1)), (is (omega (arith, (q040_is z).1.1)), (is (omega (arith, (q040_is z).1.1)), (is (omega (arith, (q040_is z).1.1)), (is (omega (arith, (q040_is z).1.1)), (is (omega (arith, (q040_is z).1.1)), (is (omega (arith, (q040_is z).1.1)), (is (omega (arith, (q040_is z).1.1)), (is (omega (arith, (q040_is z).1.1)), tt))))))))))))))))))))
  sixth_bus_error (Some SupervisorProtect) false false l = rw (q040_is z).1.0 (is (fits s.status sr), (refl, (refl, (refl, (tt, (tt, (is (omega (arith, (q040_is z).1.1)), (tt, (zero_cell (frame4 s.status s.this a (0x1000000 + q040 z * 0x200000 + code % 8 * 0x10000 + 0 + 256)) (in_long 0x0C 19 2 transfer_type (some (transfer_type_of code))) (some (transfer_type_of code)) (is (omega (arith, (q040_is z).1.1))), (is (omega (arith, (q040_is z).1.1)), (is (omega (arith, (q040_is z).1.1)), (is (omega (arith, (q040_is z).1.1)), (is (omega (arith, (q040_is z).1.1)), (is (omega (arith, (q040_is z).1.1)), (is (omega (arith, (q040_is z).1.1)), (is (omega (arith, (q040_is z).1.1)), (is (omega (arith, (q040_is z).1.1)), (is (omega (arith, (q040_is z).1.1)), (is (omega (arith, (q040_is z).1.1)), (is (omega (arith, (q040_is z).1.1)), tt))))))))))))))))))))
  sixth_bus_error (Some TableWalkBusError) true true l = rw (q040_is z).1.0 (is (fits s.status sr), (refl, (refl, (refl, (tt, (tt, (is (omega (arith, (q040_is z).1.1)), (tt, (zero_cell (frame4 s.status s.this a (0x800000 + q040 z * 0x200000 + code % 8 * 0x10000 + 0x8000 + 64)) (in_long 0x0C 19 2 transfer_type (some (transfer_type_of code))) (some (transfer_type_of code)) (is (omega (arith, (q040_is z).1.1))), (is (omega (arith, (q040_is z).1.1)), (is (omega (arith, (q040_is z).1.1)), (is (omega (arith, (q040_is z).1.1)), (is (omega (arith, (q040_is z).1.1)), (is (omega (arith, (q040_is z).1.1)), (is (omega (arith, (q040_is z).1.1)), (is (omega (arith, (q040_is z).1.1)), (is (omega (arith, (q040_is z).1.1)), (is (omega (arith, (q040_is z).1.1)), (is (omega (arith, (q040_is z).1.1)), (is (omega (arith, (q040_is z).1.1)), tt))))))))))))))))))))
  sixth_bus_error (Some TableWalkBusError) true false l = rw (q040_is z).1.0 (is (fits s.status sr), (refl, (refl, (refl, (tt, (tt, (is (omega (arith, (q040_is z).1.1)), (tt, (zero_cell (frame4 s.status s.this a (0x800000 + q040 z * 0x200000 + code % 8 * 0x10000 + 0 + 64)) (in_long 0x0C 19 2 transfer_type (some (transfer_type_of code))) (some (transfer_type_of code)) (is (omega (arith, (q040_is z).1.1))), (is (omega (arith, (q040_is z).1.1)), (is (omega (arith, (q040_is z).1.1)), (is (omega (arith, (q040_is z).1.1)), (is (omega (arith, (q040_is z).1.1)), (is (omega (arith, (q040_is z).1.1)), (is (omega (arith, (q040_is z).1.1)), (is (omega (arith, (q040_is z).1.1)), (is (omega (arith, (q040_is z).1.1)), (is (omega (arith, (q040_is z).1.1)), (is (omega (arith, (q040_is z).1.1)), (is (omega (arith, (q040_is z).1.1)), tt))))))))))))))))))))
  sixth_bus_error (Some TableWalkBusError) false true l = rw (q040_is z).1.0 (is (fits s.status sr), (refl, (refl, (refl, (tt, (tt, (is (omega (arith, (q040_is z).1.1)), (tt, (zero_cell (frame4 s.status s.this a (0x1000000 + q040 z * 0x200000 + code % 8 * 0x10000 + 0x8000 + 64)) (in_long 0x0C 19 2 transfer_type (some (transfer_type_of code))) (some (transfer_type_of code)) (is (omega (arith, (q040_is z).1.1))), (is (omega (arith, (q040_is z).1.1)), (is (omega (arith, (q040_is z).1.1)), (is (omega (arith, (q040_is z).1.1)), (is (omega (arith, (q040_is z).1.1)), (is (omega (arith, (q040_is z).1.1)), (is (omega (arith, (q040_is z).1.1)), (is (omega (arith, (q040_is z).1.1)), (is (omega (arith, (q040_is z).1.1)), (is (omega (arith, (q040_is z).1.1)), (is (omega (arith, (q040_is z).1.1)), (is (omega (arith, (q040_is z).1.1)), tt))))))))))))))))))))
  sixth_bus_error (Some TableWalkBusError) false false l = rw (q040_is z).1.0 (is (fits s.status sr), (refl, (refl, (refl, (tt, (tt, (is (omega (arith, (q040_is z).1.1)), (tt, (zero_cell (frame4 s.status s.this a (0x1000000 + q040 z * 0x200000 + code % 8 * 0x10000 + 0 + 64)) (in_long 0x0C 19 2 transfer_type (some (transfer_type_of code))) (some (transfer_type_of code)) (is (omega (arith, (q040_is z).1.1))), (is (omega (arith, (q040_is z).1.1)), (is (omega (arith, (q040_is z).1.1)), (is (omega (arith, (q040_is z).1.1)), (is (omega (arith, (q040_is z).1.1)), (is (omega (arith, (q040_is z).1.1)), (is (omega (arith, (q040_is z).1.1)), (is (omega (arith, (q040_is z).1.1)), (is (omega (arith, (q040_is z).1.1)), (is (omega (arith, (q040_is z).1.1)), (is (omega (arith, (q040_is z).1.1)), (is (omega (arith, (q040_is z).1.1)), tt))))))))))))))))))))
  sixth_bus_error (Some AccessBusError) true true l = rw (q040_is z).1.0 (is (fits s.status sr), (refl, (refl, (refl, (tt, (tt, (is (omega (arith, (q040_is z).1.1)), (tt, (zero_cell (frame4 s.status s.this a (0x800000 + q040 z * 0x200000 + code % 8 * 0x10000 + 0x8000 + 16)) (in_long 0x0C 19 2 transfer_type (some (transfer_type_of code))) (some (transfer_type_of code)) (is (omega (arith, (q040_is z).1.1))), (is (omega (arith, (q040_is z).1.1)), (is (omega (arith, (q040_is z).1.1)), (is (omega (arith, (q040_is z).1.1)), (is (omega (arith, (q040_is z).1.1)), (is (omega (arith, (q040_is z).1.1)), (is (omega (arith, (q040_is z).1.1)), (is (omega (arith, (q040_is z).1.1)), (is (omega (arith, (q040_is z).1.1)), (is (omega (arith, (q040_is z).1.1)), (is (omega (arith, (q040_is z).1.1)), (is (omega (arith, (q040_is z).1.1)), tt))))))))))))))))))))
  sixth_bus_error (Some AccessBusError) true false l = rw (q040_is z).1.0 (is (fits s.status sr), (refl, (refl, (refl, (tt, (tt, (is (omega (arith, (q040_is z).1.1)), (tt, (zero_cell (frame4 s.status s.this a (0x800000 + q040 z * 0x200000 + code % 8 * 0x10000 + 0 + 16)) (in_long 0x0C 19 2 transfer_type (some (transfer_type_of code))) (some (transfer_type_of code)) (is (omega (arith, (q040_is z).1.1))), (is (omega (arith, (q040_is z).1.1)), (is (omega (arith, (q040_is z).1.1)), (is (omega (arith, (q040_is z).1.1)), (is (omega (arith, (q040_is z).1.1)), (is (omega (arith, (q040_is z).1.1)), (is (omega (arith, (q040_is z).1.1)), (is (omega (arith, (q040_is z).1.1)), (is (omega (arith, (q040_is z).1.1)), (is (omega (arith, (q040_is z).1.1)), (is (omega (arith, (q040_is z).1.1)), (is (omega (arith, (q040_is z).1.1)), tt))))))))))))))))))))
  sixth_bus_error (Some AccessBusError) false true l = rw (q040_is z).1.0 (is (fits s.status sr), (refl, (refl, (refl, (tt, (tt, (is (omega (arith, (q040_is z).1.1)), (tt, (zero_cell (frame4 s.status s.this a (0x1000000 + q040 z * 0x200000 + code % 8 * 0x10000 + 0x8000 + 32)) (in_long 0x0C 19 2 transfer_type (some (transfer_type_of code))) (some (transfer_type_of code)) (is (omega (arith, (q040_is z).1.1))), (is (omega (arith, (q040_is z).1.1)), (is (omega (arith, (q040_is z).1.1)), (is (omega (arith, (q040_is z).1.1)), (is (omega (arith, (q040_is z).1.1)), (is (omega (arith, (q040_is z).1.1)), (is (omega (arith, (q040_is z).1.1)), (is (omega (arith, (q040_is z).1.1)), (is (omega (arith, (q040_is z).1.1)), (is (omega (arith, (q040_is z).1.1)), (is (omega (arith, (q040_is z).1.1)), (is (omega (arith, (q040_is z).1.1)), tt))))))))))))))))))))
  sixth_bus_error (Some AccessBusError) false false l = rw (q040_is z).1.0 (is (fits s.status sr), (refl, (refl, (refl, (tt, (tt, (is (omega (arith, (q040_is z).1.1)), (tt, (zero_cell (frame4 s.status s.this a (0x1000000 + q040 z * 0x200000 + code % 8 * 0x10000 + 0 + 32)) (in_long 0x0C 19 2 transfer_type (some (transfer_type_of code))) (some (transfer_type_of code)) (is (omega (arith, (q040_is z).1.1))), (is (omega (arith, (q040_is z).1.1)), (is (omega (arith, (q040_is z).1.1)), (is (omega (arith, (q040_is z).1.1)), (is (omega (arith, (q040_is z).1.1)), (is (omega (arith, (q040_is z).1.1)), (is (omega (arith, (q040_is z).1.1)), (is (omega (arith, (q040_is z).1.1)), (is (omega (arith, (q040_is z).1.1)), (is (omega (arith, (q040_is z).1.1)), (is (omega (arith, (q040_is z).1.1)), (is (omega (arith, (q040_is z).1.1)), tt))))))))))))))))))))
