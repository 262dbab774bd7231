-- Which exception stacks which frame, which address it stacks, and what it leaves: status, stack pointer, vector. The tables of exceptions and
-- formats: M68000UM 6.3.9, MC68020UM table 6-5, MC68030UM table 8-6, M68040UM table 8-5, MC68060UM table 8-4 (recalled).
use Rattle.std.specs.Prelude.{ℕ, ◌+◌, ◌-◌, ◌%◌, Bool, false, cond, ◌&&◌, List, []}
use Rattle.std.proofs.Math.Option.{Option, some}
use Rattle.manual.specs.Parts.{Family, mc68000, mc68010, mc68020, mc68030, mc68040, mc68060, has_master}
use Rattle.manual.specs.State.{State, is_set, entered, interrupted, supervisor_pointer, down}
use Rattle.manual.specs.Vectors.{Class, instruction, trap, group2, interrupt, bus_error, address_error, protocol, configuration, fp_unimplemented, fp_disabled}
use Rattle.manual.specs.Formats.{Field, format_word, short68000, error68000, format0, format2, format4_disabled, format4_access, format7, format8, format9, format_b}

pub data Format : Type 0 where
  short errors : Format  -- the 68000's: 6 and 14 bytes
  f0 f2 f4disabled f4access f7 f8 f9 f_b : Format

abbrev pub bytes : Format → ℕ
bytes short = 6
bytes errors = 14
bytes f0 = 8
bytes f2 = 12
bytes f4disabled = 16
bytes f4access = 16
bytes f7 = 60
bytes f8 = 58
bytes f9 = 20
bytes f_b = 92

-- an exception that stacks status and address alone
abbrev pub plain_format : Family → Format
plain_format mc68000 = short
plain_format mc68010 = f0
plain_format mc68020 = f0
plain_format mc68030 = f0
plain_format mc68040 = f0
plain_format mc68060 = f0

abbrev pub group2_format : Family → Format
group2_format mc68000 = short
group2_format mc68010 = f0
group2_format mc68020 = f2
group2_format mc68030 = f2
group2_format mc68040 = f2
group2_format mc68060 = f2

-- 68020, 68030: A at an instruction's boundary, else B; a call names the instruction in execution, so B (docs/DECISIONS.md)
abbrev pub bus_format : Family → Format
bus_format mc68000 = errors
bus_format mc68010 = f8
bus_format mc68020 = f_b
bus_format mc68030 = f_b
bus_format mc68040 = f7
bus_format mc68060 = f4access

abbrev pub address_format : Family → Format
address_format mc68000 = errors
address_format mc68010 = f8
address_format mc68020 = f_b
address_format mc68030 = f_b
address_format mc68040 = f2
address_format mc68060 = f2

abbrev pub format_of : Family → Class → Format
format_of f instruction = plain_format f
format_of f trap = plain_format f
format_of f group2 = group2_format f
format_of f interrupt = plain_format f
format_of f bus_error = bus_format f
format_of f address_error = address_format f
format_of f protocol = f9
format_of f configuration = f2
format_of f fp_unimplemented = f2
format_of f fp_disabled = f4disabled

-- the address stacked: of the instruction where it is to be looked at or run again, else of the next one
abbrev pub stacked_address : State → Class → ℕ
stacked_address s instruction = s.this
stacked_address s trap = s.next
stacked_address s group2 = s.next
stacked_address s interrupt = s.next
stacked_address s bus_error = s.this
stacked_address s address_error = s.this
stacked_address s protocol = s.this
stacked_address s configuration = s.next
stacked_address s fp_unimplemented = s.next
stacked_address s fp_disabled = s.next

-- the long at +8 of format 2
abbrev pub extra : State → Class → Option ℕ
extra s instruction = some s.this
extra s trap = some s.this
extra s group2 = some s.this
extra s interrupt = some s.this
extra s bus_error = some s.this
extra s address_error = some (s.fault.address - s.fault.address % 2)
extra s protocol = some s.this
extra s configuration = some s.this
extra s fp_unimplemented = s.operand
extra s fp_disabled = s.operand

abbrev pub fields_by : Format → State → Class → ℕ → List Field
fields_by short s c v = short68000 s.status (some (stacked_address s c))
fields_by errors s c v = error68000 s.status s.opcode s.fault
fields_by f0 s c v = format0 s.status (some (stacked_address s c)) (format_word 0x0 v)
fields_by f2 s c v = format2 s.status (some (stacked_address s c)) (format_word 0x2 v) (extra s c)
fields_by f4disabled s c v = format4_disabled s.status (some (stacked_address s c)) (format_word 0x4 v) s.operand s.this
fields_by f4access s c v = format4_access s.status (stacked_address s c) (format_word 0x4 v) s.fault
fields_by f7 s c v = format7 s.status (stacked_address s c) (format_word 0x7 v) s.fault
fields_by f8 s c v = format8 s.status (format_word 0x8 v) s.fault
fields_by f9 s c v = format9 s.status (format_word 0x9 v) s.this
fields_by f_b s c v = format_b s.status (stacked_address s c) (format_word 0xB v) s.fault

-- the fields of the frame that an exception stacks first
unfoldable pub fields_of : State → Class → ℕ → List Field
fields_of s c v = fields_by (format_of s.family c) s c v

unfoldable pub length_of : State → Class → ℕ
length_of s c = bytes (format_of s.family c)

-- an interrupt in the master state: a second frame, of format 1, on the interrupt stack, its status that of the first with S set. MC68020UM 6.1.9,
-- MC68030UM 8.1.9, M68040UM 8.2.9 (recalled)
abbrev pub throws_away : State → Class → Bool
throws_away s interrupt = has_master s.family && is_set 12 s.status
throws_away s instruction = false
throws_away s trap = false
throws_away s group2 = false
throws_away s bus_error = false
throws_away s address_error = false
throws_away s protocol = false
throws_away s configuration = false
throws_away s fp_unimplemented = false
throws_away s fp_disabled = false

-- a status with S set
abbrev pub with_s : ℕ → ℕ
with_s st = cond (is_set 13 st) st (st + 0x2000)

unfoldable pub throwaway : State → ℕ → List Field
throwaway s v = format0 (with_s s.status) (some s.next) (format_word 0x1 v)

-- what is left: the status, and A7
unfoldable pub status_after : State → Class → ℕ
status_after s instruction = entered s.status
status_after s trap = entered s.status
status_after s group2 = entered s.status
status_after s interrupt = interrupted s.level s.status
status_after s bus_error = entered s.status
status_after s address_error = entered s.status
status_after s protocol = entered s.status
status_after s configuration = entered s.status
status_after s fp_unimplemented = entered s.status
status_after s fp_disabled = entered s.status

-- the pointer under the first frame, and A7 at the end
unfoldable pub first_frame : State → Class → ℕ
first_frame s c = down (supervisor_pointer s) (length_of s c)

unfoldable pub pointer_after : State → Class → ℕ
pointer_after s c = cond (throws_away s c) (down s.isp 8) (first_frame s c)

-- the pointers of interrupt and master stack at the end; the user's stays
unfoldable pub isp_after : State → Class → ℕ
isp_after s c = cond (throws_away s c) (down s.isp 8) (cond (has_master s.family && is_set 12 s.status) s.isp (first_frame s c))

unfoldable pub msp_after : State → Class → ℕ
msp_after s c = cond (has_master s.family && is_set 12 s.status) (first_frame s c) s.msp

-- the fields of the frame at A7
unfoldable pub top_fields : State → Class → ℕ → List Field
top_fields s c v = cond (throws_away s c) (throwaway s v) (fields_of s c v)
