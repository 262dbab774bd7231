-- The frames of exceptions that are no errors hold what the manuals' tables say, but where a row of the table of differences stands.
use Rattle.std.specs.Prelude.{ℕ, ◌+◌, ◌*◌, ◌/◌, ◌%◌, ◌^◌, ◌<◌, ◌≡◌, refl, Bool, cond, ◌||◌, eqb, leb}
use Rattle.std.proofs.Math.Path.{sym}
use Rattle.std.proofs.Common.{◌∙◌, arith}
use Rattle.std.proofs.Math.Bool.{true, false}
use Rattle.std.proofs.Math.Option.{none, some}
use Rattle.types.specs.Kinds.{pick}
use Rattle.frames.specs.declared.Frame.{Frame}
use Rattle.frames.specs.Frames.{field_at, is_counted}
use Rattle.formats.specs.Formats.{format_word, offset_word, short_frame, long_frame, disabled_frame}
use Rattle.images.specs.Images.{frame_bytes}
use Rattle.forms.specs.Orders.{words6, words8}
use Rattle.manual.specs.Parts.{Family, mc68000, mc68010, mc68020, mc68030, mc68040, mc68060}
use Rattle.manual.specs.State.{State}
use Rattle.manual.specs.Vectors.{instruction, trap, group2, interrupt, bus_error, address_error, protocol, configuration, fp_unimplemented, fp_disabled}
use Rattle.manual.specs.Exceptions.{fields_of, throwaway, top_fields}
use Rattle.manual.specs.Differences.{Via, by_vector, own, differences, field_differs, under_differs}
use Rattle.manual.specs.Cells.{look, in_frame, Holding, is}

-- a state of a part
abbrev pub of : Family → State → State
of f s =
    record {
      family = f;
      lines = s.lines;
      status = s.status;
      next = s.next;
      this = s.this;
      opcode = s.opcode;
      vbr = s.vbr;
      usp = s.usp;
      isp = s.isp;
      msp = s.msp;
      level = s.level;
      response = s.response;
      operand = s.operand;
      fault = s.fault;
    }

-- the 68000, whose frames have no format word
abbrev pub first : Family → Bool
first mc68000 = true
first mc68010 = false
first mc68020 = false
first mc68030 = false
first mc68040 = false
first mc68060 = false

-- status, address and, but on the 68000, a format word
abbrev pub plain : Family → ℕ → ℕ → ℕ → Frame
plain f sr pc fw = pick (first f) (words6 sr pc) (short_frame sr pc fw)

-- the parts before the 68020
abbrev pub early : Family → Bool
early mc68000 = true
early mc68010 = true
early mc68020 = false
early mc68030 = false
early mc68040 = false
early mc68060 = false

-- group 2: format 2 from the 68020 on
abbrev pub twelve : Family → ℕ → ℕ → ℕ → ℕ → Frame
twelve f sr pc ppc v = pick (early f) (plain f sr pc (offset_word v)) (long_frame sr pc (format_word 2 v) ppc)

-- an interrupt: the 68010 writes its frame by words
abbrev pub second : Family → Bool
second mc68000 = false
second mc68010 = true
second mc68020 = false
second mc68030 = false
second mc68040 = false
second mc68060 = false

abbrev pub level : Family → ℕ → ℕ → ℕ → Frame
level f sr pc fw = pick (first f) (words6 sr pc) (pick (second f) (words8 sr pc fw) (short_frame sr pc fw))

fits : (n : ℕ) → n < 0x10000 → n % 0x10000 ≡ n
fits n l = omega arith

halves : (n : ℕ) → n < 0x100000000 → n / 0x10000 % 0x10000 * 0x10000 + n % 0x10000 % 0x10000 ≡ n
halves n l = omega arith

offset : (v : ℕ) → v < 256 → offset_word v % 0x10000 ≡ 0 * 0x1000 + v * 4
unfolding offset_word
offset v l = omega arith

formatted : (f v : ℕ) → f < 16 → v < 256 → format_word f v % 0x10000 ≡ f * 0x1000 + v * 4
unfolding format_word
formatted f v h l = omega arith

-- a state's status is a word, its addresses are longs, the vector is below 256
module _ (s : State) (v : ℕ) (sr : s.status < 0x10000) (this : s.this < 0x100000000) (next : s.next < 0x100000000) (vl : v < 256) where
  pub instruction_cells : (f : Family) (w : Via) → Holding (plain f s.status s.this (offset_word v)) (field_differs differences (of f s) w instruction v) (fields_of (of f s) instruction v)
  unfolding differences field_differs fields_of look in_frame words6 words8 short_frame long_frame disabled_frame field_at is_counted frame_bytes
  instruction_cells mc68000 by_vector = (is (fits s.status sr), (is (halves s.this this), tt))
  instruction_cells mc68000 own = (is (fits s.status sr), (is (halves s.this this), tt))
  instruction_cells mc68010 by_vector = (is (fits s.status sr), (refl, (is (offset v vl), tt)))
  instruction_cells mc68010 own = (is (fits s.status sr), (refl, (is (offset v vl), tt)))
  instruction_cells mc68020 by_vector = (is (fits s.status sr), (refl, (is (offset v vl), tt)))
  instruction_cells mc68020 own = (is (fits s.status sr), (refl, (is (offset v vl), tt)))
  instruction_cells mc68030 by_vector = (is (fits s.status sr), (refl, (is (offset v vl), tt)))
  instruction_cells mc68030 own = (is (fits s.status sr), (refl, (is (offset v vl), tt)))
  instruction_cells mc68040 by_vector = (is (fits s.status sr), (refl, (is (offset v vl), tt)))
  instruction_cells mc68040 own = (is (fits s.status sr), (refl, (is (offset v vl), tt)))
  instruction_cells mc68060 by_vector = (is (fits s.status sr), (refl, (is (offset v vl), tt)))
  instruction_cells mc68060 own = (is (fits s.status sr), (refl, (is (offset v vl), tt)))

  pub trap_cells : (f : Family) (w : Via) → Holding (plain f s.status s.next (offset_word v)) (field_differs differences (of f s) w trap v) (fields_of (of f s) trap v)
  unfolding differences field_differs fields_of look in_frame words6 words8 short_frame long_frame disabled_frame field_at is_counted frame_bytes
  trap_cells mc68000 by_vector = (is (fits s.status sr), (is (halves s.next next), tt))
  trap_cells mc68000 own = (is (fits s.status sr), (is (halves s.next next), tt))
  trap_cells mc68010 by_vector = (is (fits s.status sr), (refl, (is (offset v vl), tt)))
  trap_cells mc68010 own = (is (fits s.status sr), (refl, (is (offset v vl), tt)))
  trap_cells mc68020 by_vector = (is (fits s.status sr), (refl, (is (offset v vl), tt)))
  trap_cells mc68020 own = (is (fits s.status sr), (refl, (is (offset v vl), tt)))
  trap_cells mc68030 by_vector = (is (fits s.status sr), (refl, (is (offset v vl), tt)))
  trap_cells mc68030 own = (is (fits s.status sr), (refl, (is (offset v vl), tt)))
  trap_cells mc68040 by_vector = (is (fits s.status sr), (refl, (is (offset v vl), tt)))
  trap_cells mc68040 own = (is (fits s.status sr), (refl, (is (offset v vl), tt)))
  trap_cells mc68060 by_vector = (is (fits s.status sr), (refl, (is (offset v vl), tt)))
  trap_cells mc68060 own = (is (fits s.status sr), (refl, (is (offset v vl), tt)))

  pub group2_cells : (f : Family) → Holding (twelve f s.status s.next s.this v) (field_differs differences (of f s) own group2 v) (fields_of (of f s) group2 v)
  unfolding differences field_differs fields_of top_fields throwaway look in_frame words6 words8 short_frame long_frame disabled_frame field_at is_counted frame_bytes
  group2_cells mc68000 = (is (fits s.status sr), (is (halves s.next next), tt))
  group2_cells mc68010 = (is (fits s.status sr), (refl, (is (offset v vl), tt)))
  group2_cells mc68020 = (is (fits s.status sr), (refl, (is (formatted 2 v (omega arith) vl), (refl, tt))))
  group2_cells mc68030 = (is (fits s.status sr), (refl, (is (formatted 2 v (omega arith) vl), (refl, tt))))
  group2_cells mc68040 = (is (fits s.status sr), (refl, (is (formatted 2 v (omega arith) vl), (refl, tt))))
  group2_cells mc68060 = (is (fits s.status sr), (refl, (is (formatted 2 v (omega arith) vl), (refl, tt))))

  pub interrupt_cells : (f : Family) → Holding (level f s.status s.next (offset_word v)) (field_differs differences (of f s) own interrupt v) (fields_of (of f s) interrupt v)
  unfolding differences field_differs fields_of top_fields throwaway look in_frame words6 words8 short_frame long_frame disabled_frame field_at is_counted frame_bytes
  interrupt_cells mc68000 = (is (fits s.status sr), (is (halves s.next next), tt))
  interrupt_cells mc68010 = (is (fits s.status sr), (is (halves s.next next), (is (offset v vl), tt)))
  interrupt_cells mc68020 = (is (fits s.status sr), (refl, (is (offset v vl), tt)))
  interrupt_cells mc68030 = (is (fits s.status sr), (refl, (is (offset v vl), tt)))
  interrupt_cells mc68040 = (is (fits s.status sr), (refl, (is (offset v vl), tt)))
  interrupt_cells mc68060 = (is (fits s.status sr), (refl, (is (offset v vl), tt)))

  -- the same, for the frame under one of format 1
  pub under_cells : (f : Family) → Holding (level f s.status s.next (offset_word v)) (under_differs differences (of f s) own interrupt v) (fields_of (of f s) interrupt v)
  unfolding differences under_differs fields_of top_fields throwaway look in_frame words6 words8 short_frame long_frame disabled_frame field_at is_counted frame_bytes
  under_cells mc68000 = (is (fits s.status sr), (is (halves s.next next), tt))
  under_cells mc68010 = (is (fits s.status sr), (is (halves s.next next), (is (offset v vl), tt)))
  under_cells mc68020 = (is (fits s.status sr), (refl, (is (offset v vl), tt)))
  under_cells mc68030 = (is (fits s.status sr), (refl, (is (offset v vl), tt)))
  under_cells mc68040 = (is (fits s.status sr), (refl, (is (offset v vl), tt)))
  under_cells mc68060 = (is (fits s.status sr), (refl, (is (offset v vl), tt)))

  -- the frame of format 1, its status w that of the first with S set
  pub throwaway_cells : (f : Family) (w : ℕ) → w < 0x10000 → cond (eqb (s.status / 2 ^ 13 % 2) 1) s.status (s.status + 0x2000) ≡ w → Holding (short_frame w s.next (format_word 1 v)) (field_differs differences (of f s) own interrupt v) (throwaway (of f s) v)
  unfolding differences field_differs fields_of top_fields throwaway look in_frame words6 words8 short_frame long_frame disabled_frame field_at is_counted frame_bytes
  throwaway_cells mc68000 w l e = (is (fits w l ∙ sym e), (refl, (is (formatted 1 v (omega arith) vl), tt)))
  throwaway_cells mc68010 w l e = (is (fits w l ∙ sym e), (refl, (is (formatted 1 v (omega arith) vl), tt)))
  throwaway_cells mc68020 w l e = (is (fits w l ∙ sym e), (refl, (is (formatted 1 v (omega arith) vl), tt)))
  throwaway_cells mc68030 w l e = (is (fits w l ∙ sym e), (refl, (is (formatted 1 v (omega arith) vl), tt)))
  throwaway_cells mc68040 w l e = (is (fits w l ∙ sym e), (refl, (is (formatted 1 v (omega arith) vl), tt)))
  throwaway_cells mc68060 w l e = (is (fits w l ∙ sym e), (refl, (is (formatted 1 v (omega arith) vl), tt)))

  -- `take_exception` of a vector of group 2, which stacks a
  pub vector_group2 : (a : ℕ) → a < 0x100000000 → (eqb v 6 ≡ false → a ≡ s.next) → (f : Family) (b : Bool) → eqb v 6 ≡ b
      → Holding (plain f s.status a (offset_word v)) (field_differs differences (of f s) by_vector group2 v) (fields_of (of f s) group2 v)
  unfolding differences field_differs fields_of top_fields throwaway look in_frame words6 words8 short_frame long_frame disabled_frame field_at is_counted frame_bytes
  vector_group2 a al n mc68000 true e = rw e (is (fits s.status sr), (tt, tt))
  vector_group2 a al n mc68000 false e = rw e (is (fits s.status sr), (is (halves a al ∙ n e), tt))
  vector_group2 a al n mc68010 true e = rw e (is (fits s.status sr), (tt, (is (offset v vl), tt)))
  vector_group2 a al n mc68010 false e = rw e (is (fits s.status sr), (is (n e), (is (offset v vl), tt)))
  vector_group2 a al n mc68020 true e = rw e (is (fits s.status sr), (tt, (tt, (tt, tt))))
  vector_group2 a al n mc68020 false e = rw e (is (fits s.status sr), (is (n e), (tt, (tt, tt))))
  vector_group2 a al n mc68030 true e = rw e (is (fits s.status sr), (tt, (tt, (tt, tt))))
  vector_group2 a al n mc68030 false e = rw e (is (fits s.status sr), (is (n e), (tt, (tt, tt))))
  vector_group2 a al n mc68040 true e = rw e (is (fits s.status sr), (tt, (tt, (tt, tt))))
  vector_group2 a al n mc68040 false e = rw e (is (fits s.status sr), (is (n e), (tt, (tt, tt))))
  vector_group2 a al n mc68060 true e = rw e (is (fits s.status sr), (tt, (tt, (tt, tt))))
  vector_group2 a al n mc68060 false e = rw e (is (fits s.status sr), (is (n e), (tt, (tt, tt))))

  -- of a vector of an interrupt: outside the master state, in it
  pub vector_interrupt : (a : ℕ) → a < 0x100000000 → ((eqb v 15 || leb 64 v) ≡ false → a ≡ s.next) → (f : Family) (b : Bool) → (eqb v 15 || leb 64 v) ≡ b → (m : Bool) → eqb (s.status / 2 ^ 12 % 2) 1 ≡ m
      → Holding (plain f s.status a (offset_word v)) (field_differs differences (of f s) by_vector interrupt v) (top_fields (of f s) interrupt v)
  unfolding differences field_differs fields_of top_fields throwaway look in_frame words6 words8 short_frame long_frame disabled_frame field_at is_counted frame_bytes
  vector_interrupt a al n mc68000 true e true d = rw e (is (fits s.status sr), (tt, tt))
  vector_interrupt a al n mc68000 true e false d = rw e (is (fits s.status sr), (tt, tt))
  vector_interrupt a al n mc68000 false e true d = rw e (is (fits s.status sr), (is (halves a al ∙ n e), tt))
  vector_interrupt a al n mc68000 false e false d = rw e (is (fits s.status sr), (is (halves a al ∙ n e), tt))
  vector_interrupt a al n mc68010 true e true d = rw e (is (fits s.status sr), (tt, (is (offset v vl), tt)))
  vector_interrupt a al n mc68010 true e false d = rw e (is (fits s.status sr), (tt, (is (offset v vl), tt)))
  vector_interrupt a al n mc68010 false e true d = rw e (is (fits s.status sr), (is (n e), (is (offset v vl), tt)))
  vector_interrupt a al n mc68010 false e false d = rw e (is (fits s.status sr), (is (n e), (is (offset v vl), tt)))
  vector_interrupt a al n mc68020 true e true d = simp (d, e) (tt, (tt, (tt, tt)))
  vector_interrupt a al n mc68020 true e false d = simp (d, e) (is (fits s.status sr), (tt, (is (offset v vl), tt)))
  vector_interrupt a al n mc68020 false e true d = simp (d, e) (tt, (tt, (tt, tt)))
  vector_interrupt a al n mc68020 false e false d = simp (d, e) (is (fits s.status sr), (is (n e), (is (offset v vl), tt)))
  vector_interrupt a al n mc68030 true e true d = simp (d, e) (tt, (tt, (tt, tt)))
  vector_interrupt a al n mc68030 true e false d = simp (d, e) (is (fits s.status sr), (tt, (is (offset v vl), tt)))
  vector_interrupt a al n mc68030 false e true d = simp (d, e) (tt, (tt, (tt, tt)))
  vector_interrupt a al n mc68030 false e false d = simp (d, e) (is (fits s.status sr), (is (n e), (is (offset v vl), tt)))
  vector_interrupt a al n mc68040 true e true d = simp (d, e) (tt, (tt, (tt, tt)))
  vector_interrupt a al n mc68040 true e false d = simp (d, e) (is (fits s.status sr), (tt, (is (offset v vl), tt)))
  vector_interrupt a al n mc68040 false e true d = simp (d, e) (tt, (tt, (tt, tt)))
  vector_interrupt a al n mc68040 false e false d = simp (d, e) (is (fits s.status sr), (is (n e), (is (offset v vl), tt)))
  vector_interrupt a al n mc68060 true e true d = rw e (is (fits s.status sr), (tt, (is (offset v vl), tt)))
  vector_interrupt a al n mc68060 true e false d = rw e (is (fits s.status sr), (tt, (is (offset v vl), tt)))
  vector_interrupt a al n mc68060 false e true d = rw e (is (fits s.status sr), (is (n e), (is (offset v vl), tt)))
  vector_interrupt a al n mc68060 false e false d = rw e (is (fits s.status sr), (is (n e), (is (offset v vl), tt)))

  -- the frame under one of format 1, which `take_exception` of an interrupt's vector makes too
  pub vector_under : (a : ℕ) → a < 0x100000000 → ((eqb v 15 || leb 64 v) ≡ false → a ≡ s.next) → (f : Family) (b : Bool) → (eqb v 15 || leb 64 v) ≡ b
      → Holding (plain f s.status a (offset_word v)) (under_differs differences (of f s) by_vector interrupt v) (fields_of (of f s) interrupt v)
  unfolding differences under_differs fields_of look in_frame words6 words8 short_frame long_frame disabled_frame field_at is_counted frame_bytes
  vector_under a al n mc68000 true e = rw e (is (fits s.status sr), (tt, tt))
  vector_under a al n mc68000 false e = rw e (is (fits s.status sr), (is (halves a al ∙ n e), tt))
  vector_under a al n mc68010 true e = rw e (is (fits s.status sr), (tt, (is (offset v vl), tt)))
  vector_under a al n mc68010 false e = rw e (is (fits s.status sr), (is (n e), (is (offset v vl), tt)))
  vector_under a al n mc68020 true e = rw e (is (fits s.status sr), (tt, (is (offset v vl), tt)))
  vector_under a al n mc68020 false e = rw e (is (fits s.status sr), (is (n e), (is (offset v vl), tt)))
  vector_under a al n mc68030 true e = rw e (is (fits s.status sr), (tt, (is (offset v vl), tt)))
  vector_under a al n mc68030 false e = rw e (is (fits s.status sr), (is (n e), (is (offset v vl), tt)))
  vector_under a al n mc68040 true e = rw e (is (fits s.status sr), (tt, (is (offset v vl), tt)))
  vector_under a al n mc68040 false e = rw e (is (fits s.status sr), (is (n e), (is (offset v vl), tt)))
  vector_under a al n mc68060 true e = rw e (is (fits s.status sr), (tt, (is (offset v vl), tt)))
  vector_under a al n mc68060 false e = rw e (is (fits s.status sr), (is (n e), (is (offset v vl), tt)))

  pub vector_bus_error : (f : Family) → Holding (plain f s.status s.this (offset_word v)) (field_differs differences (of f s) by_vector bus_error v) (fields_of (of f s) bus_error v)
  unfolding differences field_differs fields_of top_fields throwaway look in_frame words6 words8 short_frame long_frame disabled_frame field_at is_counted frame_bytes
  vector_bus_error mc68000 = (tt, (tt, (tt, (tt, (tt, (tt, (tt, tt)))))))
  vector_bus_error mc68010 = (is (fits s.status sr), (tt, (tt, (tt, (tt, (tt, (tt, (tt, (tt, (tt, (tt, (tt, (tt, (tt, (tt, (tt, (tt, (tt, (tt, (tt, (tt, (tt, (tt, (tt, (tt, (tt, tt))))))))))))))))))))))))))
  vector_bus_error mc68020 = (is (fits s.status sr), (refl, (tt, (tt, (tt, (tt, (tt, (tt, (tt, (tt, (tt, (tt, (tt, (tt, (tt, (tt, (tt, (tt, (tt, (tt, (tt, (tt, (tt, (tt, (tt, (tt, (tt, (tt, (tt, (tt, (tt, (tt, (tt, (tt, (tt, (tt, tt))))))))))))))))))))))))))))))))))))
  vector_bus_error mc68030 = (is (fits s.status sr), (refl, (tt, (tt, (tt, (tt, (tt, (tt, (tt, (tt, (tt, (tt, (tt, (tt, (tt, (tt, (tt, (tt, (tt, (tt, (tt, (tt, (tt, (tt, (tt, (tt, (tt, (tt, (tt, (tt, (tt, (tt, (tt, (tt, (tt, (tt, tt))))))))))))))))))))))))))))))))))))
  vector_bus_error mc68040 = (is (fits s.status sr), (refl, (tt, (tt, (tt, (tt, (tt, (tt, (tt, (tt, (tt, (tt, (tt, (tt, (tt, (tt, (tt, (tt, (tt, (tt, (tt, (tt, (tt, (tt, (tt, (tt, (tt, (tt, tt))))))))))))))))))))))))))))
  vector_bus_error mc68060 = (is (fits s.status sr), (refl, (tt, (tt, (tt, (tt, (tt, (tt, (tt, (tt, (tt, (tt, (tt, (tt, (tt, (tt, (tt, (tt, (tt, (tt, tt))))))))))))))))))))

  pub vector_address_error : (f : Family) → Holding (plain f s.status s.this (offset_word v)) (field_differs differences (of f s) by_vector address_error v) (fields_of (of f s) address_error v)
  unfolding differences field_differs fields_of top_fields throwaway look in_frame words6 words8 short_frame long_frame disabled_frame field_at is_counted frame_bytes
  vector_address_error mc68000 = (tt, (tt, (tt, (tt, (tt, (tt, (tt, tt)))))))
  vector_address_error mc68010 = (is (fits s.status sr), (tt, (tt, (tt, (tt, (tt, (tt, (tt, (tt, (tt, (tt, (tt, (tt, (tt, (tt, (tt, (tt, (tt, (tt, (tt, (tt, (tt, (tt, (tt, (tt, (tt, tt))))))))))))))))))))))))))
  vector_address_error mc68020 = (is (fits s.status sr), (refl, (tt, (tt, (tt, (tt, (tt, (tt, (tt, (tt, (tt, (tt, (tt, (tt, (tt, (tt, (tt, (tt, (tt, (tt, (tt, (tt, (tt, (tt, (tt, (tt, (tt, (tt, (tt, (tt, (tt, (tt, (tt, (tt, (tt, (tt, tt))))))))))))))))))))))))))))))))))))
  vector_address_error mc68030 = (is (fits s.status sr), (refl, (tt, (tt, (tt, (tt, (tt, (tt, (tt, (tt, (tt, (tt, (tt, (tt, (tt, (tt, (tt, (tt, (tt, (tt, (tt, (tt, (tt, (tt, (tt, (tt, (tt, (tt, (tt, (tt, (tt, (tt, (tt, (tt, (tt, (tt, tt))))))))))))))))))))))))))))))))))))
  vector_address_error mc68040 = (is (fits s.status sr), (refl, (tt, (tt, tt))))
  vector_address_error mc68060 = (is (fits s.status sr), (refl, (tt, (tt, tt))))

  pub vector_protocol : (b : Bool) → Holding (short_frame s.status s.this (offset_word v)) (field_differs differences (of (cond b mc68020 mc68030) s) by_vector protocol v) (fields_of (of (cond b mc68020 mc68030) s) protocol v)
  unfolding differences field_differs fields_of top_fields throwaway look in_frame words6 words8 short_frame long_frame disabled_frame field_at is_counted frame_bytes
  vector_protocol true = (is (fits s.status sr), (tt, (tt, (tt, (tt, (tt, tt))))))
  vector_protocol false = (is (fits s.status sr), (tt, (tt, (tt, (tt, (tt, tt))))))

  pub vector_configuration : Holding (short_frame s.status s.this (offset_word v)) (field_differs differences (of mc68030 s) by_vector configuration v) (fields_of (of mc68030 s) configuration v)
  unfolding differences field_differs fields_of top_fields throwaway look in_frame words6 words8 short_frame long_frame disabled_frame field_at is_counted frame_bytes
  vector_configuration = (is (fits s.status sr), (tt, (tt, (tt, tt))))

  -- the 68060's floating-point exceptions
  pub unimplemented_cells : (ea : ℕ) → s.operand ≡ some ea → Holding (long_frame s.status s.next (format_word 2 v) ea) (field_differs differences (of mc68060 s) own fp_unimplemented v) (fields_of (of mc68060 s) fp_unimplemented v)
  unfolding differences field_differs fields_of top_fields throwaway look in_frame words6 words8 short_frame long_frame disabled_frame field_at is_counted frame_bytes
  unimplemented_cells ea e = rw e (is (fits s.status sr), (refl, (is (formatted 2 v (omega arith) vl), (refl, tt))))

  pub disabled_cells : s.operand ≡ none → Holding (disabled_frame s.status s.this (format_word 4 v) 0 s.this) (field_differs differences (of mc68060 s) own fp_disabled v) (fields_of (of mc68060 s) fp_disabled v)
  unfolding differences field_differs fields_of top_fields throwaway look in_frame words6 words8 short_frame long_frame disabled_frame field_at is_counted frame_bytes
  disabled_cells e = rw e (is (fits s.status sr), (tt, (is (formatted 4 v (omega arith) vl), (tt, (refl, tt)))))
