-- Each family of entries agrees with the manuals, but where a row stands: the plan's frame, its length, the status, the vector.
use Rattle.std.specs.Prelude.{ℕ, ◌+◌, ◌%◌, ◌≤◌, ◌<◌, ◌≡◌, Bool, true, false, not, ◌||◌, [], replicate}
use Rattle.std.proofs.Math.Path.{refl, sym, ap}
use Rattle.std.proofs.Common.{arith}
use Rattle.std.proofs.Math.Option.{none, some}
use Rattle.types.specs.Every.{at}
use Rattle.cpu.specs.declared.Cpu.{Cpu}
use Rattle.cpu.specs.Fields.{kind_of, pc_of, vbr_of, set_exception, rewind_pc, note_fpiar, leave_stop, clear_fc_override}
use Rattle.status.specs.Status.{get_sr, clear_trace}
use Rattle.status.specs.Banks.{backup_sp, restore_sp, put_s, set_sflag, enter_supervisor}
use Rattle.frames.specs.declared.Frame.{Frame}
use Rattle.frames.specs.Frames.{field_at, is_counted, frame68000, frame8, frame2, frame0, frame4, frame7, frame11}
use Rattle.steps.specs.Steps.{enter_bus_error, stacks_next}
use Rattle.formats.specs.Formats.{format_word, offset_word, short_frame, long_frame, disabled_frame}
use Rattle.images.specs.Images.{Shape, frame_bytes}
use Rattle.forms.specs.Orders.{words6}
use Rattle.forms.specs.Plans.{same}
use Rattle.nest.specs.Laws.{lower}
use Rattle.entered.specs.One.{Enters, Keeps, keeps_same}
use Rattle.entered.specs.Turns.{enters_supervisor, enters_exception, enters_rewound, enters_trace, enters_fpiar, enters_bus, keeps_end}
use Rattle.manual.specs.Parts.{Family, mc68000, mc68010, mc68020, mc68030, mc68040, mc68060}
use Rattle.manual.specs.State.{State, entered, supervisor_pointer, down}
use Rattle.manual.specs.Vectors.{protocol, configuration, fp_unimplemented, fp_disabled}
use Rattle.manual.specs.Exceptions.{fields_of, pointer_after}
use Rattle.manual.specs.Differences.{by_vector, own, differences, field_differs, length_differs}
use Rattle.manual.specs.Cells.{Holding}
use Rattle.manual.specs.Single.{Still}
use Rattle.manual.specs.Plain.{of, first, plain, twelve, vector_protocol, vector_configuration, unimplemented_cells, disabled_cells}
use Rattle.manual.specs.PartLaws.{impossible, sixty, entered_status, bus_status}
use Rattle.manual.specs.Lengths.{plain_bytes, group2_bytes, has_protocol, has_configuration, protocol_length, configuration_length, unimplemented_length, disabled_length}

-- ---- one frame, any plan

pub lower_down : (p n : ℕ) → n ≤ 92 → lower p n ≡ down p n
lower_down p n l = omega arith

-- a frame of n bytes
pub record Sized (f : Frame) (n : ℕ) : Type 0 where
  pub shape : Shape f
  pub size : frame_bytes f f.count ≡ n
  pub small : n ≤ 92

-- what the record does before a frame
pub record Turn (turn : Cpu → Cpu) : Type 0 where
  pub enters : Enters turn
  pub still : Still turn
  pub status : (c : Cpu) → get_sr (turn c) ≡ entered (get_sr c)

-- and at the end
pub record End (close : Cpu → Cpu) : Type 0 where
  pub keeps : Keeps close
  pub pc : (c : Cpu) → pc_of (close c) ≡ pc_of c
  pub status : (c : Cpu) → get_sr (close c) ≡ get_sr c

pub still_same : Still same
still_same = record { vbr = λ c. refl; kind = λ c. refl }

pub end_same : End same
end_same = record { keeps = keeps_same; pc = λ c. refl; status = λ c. refl }

pub end_exception : End (λ d. set_exception d false)
unfolding set_exception pc_of get_sr
end_exception = record { keeps = keeps_end; pc = λ c. refl; status = λ c. refl }

pub still_supervisor : Still enter_supervisor
unfolding enter_supervisor clear_trace set_sflag restore_sp put_s backup_sp vbr_of kind_of
still_supervisor = record { vbr = λ c. refl; kind = λ c. refl }

pub turn_supervisor : Turn enter_supervisor
turn_supervisor = record { enters = enters_supervisor; still = still_supervisor; status = entered_status }

pub turn_exception : Turn (λ d. enter_supervisor (set_exception d true))
unfolding set_exception vbr_of kind_of get_sr
turn_exception = record { enters = enters_exception; still = record { vbr = λ c. still_supervisor.vbr (set_exception c true); kind = λ c. still_supervisor.kind (set_exception c true) }; status = λ c. entered_status (set_exception c true) }

pub turn_rewound : Turn (λ d. enter_supervisor (set_exception (rewind_pc d) true))
unfolding set_exception rewind_pc vbr_of kind_of get_sr
turn_rewound = record { enters = enters_rewound; still = record { vbr = λ c. still_supervisor.vbr (set_exception (rewind_pc c) true); kind = λ c. still_supervisor.kind (set_exception (rewind_pc c) true) }; status = λ c. entered_status (set_exception (rewind_pc c) true) }

pub turn_trace : Turn (λ d. enter_supervisor (leave_stop d))
unfolding leave_stop vbr_of kind_of get_sr
turn_trace = record { enters = enters_trace; still = record { vbr = λ c. still_supervisor.vbr (leave_stop c); kind = λ c. still_supervisor.kind (leave_stop c) }; status = λ c. entered_status (leave_stop c) }

pub turn_fpiar : Turn (λ d. enter_supervisor (note_fpiar d))
unfolding note_fpiar vbr_of kind_of get_sr
turn_fpiar = record { enters = enters_fpiar; still = record { vbr = λ c. still_supervisor.vbr (note_fpiar c); kind = λ c. still_supervisor.kind (note_fpiar c) }; status = λ c. entered_status (note_fpiar c) }

pub turn_bus : Turn enter_bus_error
unfolding enter_bus_error clear_fc_override vbr_of kind_of
turn_bus = record { enters = enters_bus; still = record { vbr = λ c. still_supervisor.vbr c; kind = λ c. still_supervisor.kind c }; status = bus_status }

-- ---- sizes of frames

pub size6 : (sr pc : ℕ) → Sized (words6 sr pc) 6
unfolding words6 field_at is_counted frame_bytes
size6 sr pc = record { shape = record { some = omega arith; first = refl; short = omega arith }; size = refl; small = omega arith }

pub size8 : (sr pc fw : ℕ) → Sized (short_frame sr pc fw) 8
unfolding short_frame field_at is_counted frame_bytes
size8 sr pc fw = record { shape = record { some = omega arith; first = refl; short = omega arith }; size = refl; small = omega arith }

pub size12 : (sr pc fw x : ℕ) → Sized (long_frame sr pc fw x) 12
unfolding long_frame field_at is_counted frame_bytes
size12 sr pc fw x = record { shape = record { some = omega arith; first = refl; short = omega arith }; size = refl; small = omega arith }

pub size16 : (sr pc fw x y : ℕ) → Sized (disabled_frame sr pc fw x y) 16
unfolding disabled_frame field_at is_counted frame_bytes
size16 sr pc fw x y = record { shape = record { some = omega arith; first = refl; short = omega arith }; size = refl; small = omega arith }

pub size14 : (sr pc ir a st : ℕ) → Sized (frame68000 sr pc ir a st) 14
unfolding frame68000 field_at is_counted frame_bytes
size14 sr pc ir a st = record { shape = record { some = omega arith; first = refl; short = omega arith }; size = refl; small = omega arith }

pub size58 : (sr pc fw : ℕ) → Sized (frame8 sr pc fw) 58
unfolding frame8 field_at is_counted frame_bytes
size58 sr pc fw = record { shape = record { some = omega arith; first = refl; short = omega arith }; size = refl; small = omega arith }

pub size_error2 : (sr pc x : ℕ) → Sized (frame2 sr pc x) 12
unfolding frame2 field_at is_counted frame_bytes
size_error2 sr pc x = record { shape = record { some = omega arith; first = refl; short = omega arith }; size = refl; small = omega arith }

pub size_error0 : (sr pc : ℕ) → Sized (frame0 sr pc) 8
unfolding frame0 field_at is_counted frame_bytes
size_error0 sr pc = record { shape = record { some = omega arith; first = refl; short = omega arith }; size = refl; small = omega arith }

pub size_error4 : (sr pc x y : ℕ) → Sized (frame4 sr pc x y) 16
unfolding frame4 field_at is_counted frame_bytes
size_error4 sr pc x y = record { shape = record { some = omega arith; first = refl; short = omega arith }; size = refl; small = omega arith }

pub size_error7 : (sr pc x y u b c : ℕ) → Sized (frame7 sr pc x y u b c) 60
unfolding frame7 field_at is_counted frame_bytes
size_error7 sr pc x y u b c = record { shape = record { some = omega arith; first = refl; short = omega arith }; size = refl; small = omega arith }

pub size_error11 : (sr pc x y u b : ℕ) → Sized (frame11 sr pc x y u b) 92
unfolding frame11 field_at is_counted frame_bytes
size_error11 sr pc x y u b = record { shape = record { some = omega arith; first = refl; short = omega arith }; size = refl; small = omega arith }

pub plain_size : (f : Family) (sr pc fw : ℕ) → Sized (plain f sr pc fw) (plain_bytes f)
plain_size mc68000 sr pc fw = size6 sr pc
plain_size mc68010 sr pc fw = size8 sr pc fw
plain_size mc68020 sr pc fw = size8 sr pc fw
plain_size mc68030 sr pc fw = size8 sr pc fw
plain_size mc68040 sr pc fw = size8 sr pc fw
plain_size mc68060 sr pc fw = size8 sr pc fw

pub twelve_size : (f : Family) (sr pc ppc v : ℕ) → Sized (twelve f sr pc ppc v) (group2_bytes f)
twelve_size mc68000 sr pc ppc v = size6 sr pc
twelve_size mc68010 sr pc ppc v = size8 sr pc (offset_word v)
twelve_size mc68020 sr pc ppc v = size12 sr pc (format_word 2 v) ppc
twelve_size mc68030 sr pc ppc v = size12 sr pc (format_word 2 v) ppc
twelve_size mc68040 sr pc ppc v = size12 sr pc (format_word 2 v) ppc
twelve_size mc68060 sr pc ppc v = size12 sr pc (format_word 2 v) ppc

pub next_trap : (n : ℕ) → stacks_next (32 + n % 16) ≡ true
unfolding stacks_next
next_trap n = at 0 (λ (i x : ℕ). stacks_next (32 + i)) (replicate 16 0) refl (n % 16) (omega arith)

same_bool : (a b : Bool) → a ≡ b → not a ≡ not b
same_bool a b e = ap not e

pub not_not : (b : Bool) → not b ≡ true → b ≡ false
not_not true e = sym e
not_not false e = refl

pub or_right : (a b : Bool) → (a || b) ≡ true → a ≡ false → b ≡ true
or_right true b e h = impossible h
or_right false b e h = e

-- two classes that only some parts have
pub protocol_hold : (f : Family) (s : State) (v : ℕ) → s.status < 0x10000 → s.this < 0x100000000 → s.next < 0x100000000 → v < 256 → has_protocol f ≡ true
    → Holding (plain f s.status s.this (offset_word v)) (field_differs differences (of f s) by_vector protocol v) (fields_of (of f s) protocol v)
protocol_hold mc68000 s v a b c l e = impossible (sym e)
protocol_hold mc68010 s v a b c l e = impossible (sym e)
protocol_hold mc68020 s v a b c l e = vector_protocol s v a b c l true
protocol_hold mc68030 s v a b c l e = vector_protocol s v a b c l false
protocol_hold mc68040 s v a b c l e = impossible (sym e)
protocol_hold mc68060 s v a b c l e = impossible (sym e)

pub protocol_far : (f : Family) (s : State) (v : ℕ) → has_protocol f ≡ true → length_differs differences (of f s) by_vector protocol v ≡ false → pointer_after (of f s) protocol ≡ down (supervisor_pointer (of f s)) (plain_bytes f)
protocol_far mc68000 s v e = impossible (sym e)
protocol_far mc68010 s v e = impossible (sym e)
protocol_far mc68020 s v e = protocol_length s v true
protocol_far mc68030 s v e = protocol_length s v false
protocol_far mc68040 s v e = impossible (sym e)
protocol_far mc68060 s v e = impossible (sym e)

pub configuration_hold : (f : Family) (s : State) (v : ℕ) → s.status < 0x10000 → s.this < 0x100000000 → s.next < 0x100000000 → v < 256 → has_configuration f ≡ true
    → Holding (plain f s.status s.this (offset_word v)) (field_differs differences (of f s) by_vector configuration v) (fields_of (of f s) configuration v)
configuration_hold mc68000 s v a b c l e = impossible (sym e)
configuration_hold mc68010 s v a b c l e = impossible (sym e)
configuration_hold mc68020 s v a b c l e = impossible (sym e)
configuration_hold mc68030 s v a b c l e = vector_configuration s v a b c l
configuration_hold mc68040 s v a b c l e = impossible (sym e)
configuration_hold mc68060 s v a b c l e = impossible (sym e)

pub configuration_far : (f : Family) (s : State) (v : ℕ) → has_configuration f ≡ true → length_differs differences (of f s) by_vector configuration v ≡ false → pointer_after (of f s) configuration ≡ down (supervisor_pointer (of f s)) (plain_bytes f)
configuration_far mc68000 s v e = impossible (sym e)
configuration_far mc68010 s v e = impossible (sym e)
configuration_far mc68020 s v e = impossible (sym e)
configuration_far mc68030 s v e = configuration_length s v
configuration_far mc68040 s v e = impossible (sym e)
configuration_far mc68060 s v e = impossible (sym e)

pub unimplemented_hold : (f : Family) (s : State) → s.status < 0x10000 → s.this < 0x100000000 → s.next < 0x100000000 → sixty f ≡ true → (ea : ℕ) → s.operand ≡ some ea
    → Holding (long_frame s.status s.next (format_word 2 11) ea) (field_differs differences (of f s) own fp_unimplemented 11) (fields_of (of f s) fp_unimplemented 11)
unimplemented_hold mc68000 s a b c e ea q = impossible (sym e)
unimplemented_hold mc68010 s a b c e ea q = impossible (sym e)
unimplemented_hold mc68020 s a b c e ea q = impossible (sym e)
unimplemented_hold mc68030 s a b c e ea q = impossible (sym e)
unimplemented_hold mc68040 s a b c e ea q = impossible (sym e)
unimplemented_hold mc68060 s a b c e ea q = unimplemented_cells s 11 a b c (omega arith) ea q

pub unimplemented_far : (f : Family) (s : State) → sixty f ≡ true → pointer_after (of f s) fp_unimplemented ≡ down (supervisor_pointer (of f s)) 12
unimplemented_far mc68000 s e = impossible (sym e)
unimplemented_far mc68010 s e = impossible (sym e)
unimplemented_far mc68020 s e = impossible (sym e)
unimplemented_far mc68030 s e = impossible (sym e)
unimplemented_far mc68040 s e = impossible (sym e)
unimplemented_far mc68060 s e = unimplemented_length s 11

pub disabled_hold : (f : Family) (s : State) → s.status < 0x10000 → s.this < 0x100000000 → s.next < 0x100000000 → sixty f ≡ true → s.operand ≡ none
    → Holding (disabled_frame s.status s.this (format_word 4 11) 0 s.this) (field_differs differences (of f s) own fp_disabled 11) (fields_of (of f s) fp_disabled 11)
disabled_hold mc68000 s a b c e q = impossible (sym e)
disabled_hold mc68010 s a b c e q = impossible (sym e)
disabled_hold mc68020 s a b c e q = impossible (sym e)
disabled_hold mc68030 s a b c e q = impossible (sym e)
disabled_hold mc68040 s a b c e q = impossible (sym e)
disabled_hold mc68060 s a b c e q = disabled_cells s 11 a b c (omega arith) q

pub disabled_far : (f : Family) (s : State) → sixty f ≡ true → pointer_after (of f s) fp_disabled ≡ down (supervisor_pointer (of f s)) 16
disabled_far mc68000 s e = impossible (sym e)
disabled_far mc68010 s e = impossible (sym e)
disabled_far mc68020 s e = impossible (sym e)
disabled_far mc68030 s e = impossible (sym e)
disabled_far mc68040 s e = impossible (sym e)
disabled_far mc68060 s e = disabled_length s 11
