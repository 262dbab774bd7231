-- THE FRAMES as the manuals draw them: offset, width, bits, field, and its value where the manual defines one. No value: the manual calls the
-- field internal, unused or unspecified, or it depends on what a call does not say (written `unsaid`).
use Rattle.std.specs.Prelude.{ℕ, ◌+◌, ◌*◌, ◌%◌, Bool, true, false, cond, not, ◌&&◌, ◌||◌, List, [], ◌∷◌, eqb}
use Rattle.std.proofs.Math.Option.{Option, none, some}
use Rattle.manual.specs.State.{Fault}

-- names of fields, for a reader
pub data Name : Type 0 where
  status_register program_counter format_vector instruction_address effective_address faulted_instruction : Name
  read_write not_instruction function_code access_address instruction_register : Name
  rerun instruction_fetch data_fetch read_modify_write high_byte byte_transfer fault_address data_output data_input instruction_input : Name
  fault_on_c fault_on_b rerun_c rerun_b data_fault size stage_c stage_b stage_baddress : Name
  continuation misaligned translation locked transfer_type transfer_modifier : Name
  write_back3_valid write_back3_size write_back3_type write_back3_modifier write_back2_valid write_back1_valid write_back3_address write_back3_data : Name
  instruction_or_operand pointer_a pointer_b indirect_level page_fault supervisor_protect write_protect table_search read_error write_error : Name
  internal : Name

-- the whole of a word or long, or some of its bits
pub data Span : Type 0 where
  whole : Span
  bits : ℕ → ℕ → Span  -- the lowest bit, how many

pub record Field : Type 0 where
  pub offset : ℕ
  pub long : Bool
  pub span : Span
  pub name : Name
  pub value : Option ℕ

abbrev pub word : ℕ → Name → Option ℕ → Field
word o n v = record { offset = o; long = false; span = whole; name = n; value = v }

abbrev pub long : ℕ → Name → Option ℕ → Field
long o n v = record { offset = o; long = true; span = whole; name = n; value = v }

-- bits of a word, of a long: offset, lowest bit, how many
abbrev pub in_word : ℕ → ℕ → ℕ → Name → Option ℕ → Field
in_word o low n name v = record { offset = o; long = false; span = bits low n; name = name; value = v }

abbrev pub in_long : ℕ → ℕ → ℕ → Name → Option ℕ → Field
in_long o low n name v = record { offset = o; long = true; span = bits low n; name = name; value = v }

abbrev pub unsaid : Option ℕ
unsaid = none

abbrev pub flag : Bool → Option ℕ
flag b = cond b (some 1) (some 0)

-- a value that is there only if b
abbrev pub only : Bool → ℕ → Option ℕ
only b n = cond b (some n) none

abbrev pub format_word : ℕ → ℕ → ℕ
format_word format v = format * 0x1000 + v * 4

-- 68000, 6 bytes: M68000UM 6.3.9, figure 6-5 (recalled)
abbrev pub short68000 : ℕ → Option ℕ → List Field
short68000 sr pc = word 0x00 status_register (some sr) ∷ long 0x02 program_counter pc ∷ []

-- 68000 bus and address error, 14 bytes: M68000UM 6.3.9.1, figure 6-7 (recalled). I/N is 0 where an instruction was in execution. Bits 15 to 5 are
-- undefined, the program counter is advanced by 2 to 10 bytes
abbrev pub error68000 : ℕ → ℕ → Fault → List Field
error68000 sr opcode f =
    in_word 0x00 4 1 read_write (flag (not f.write)) ∷ in_word 0x00 3 1 not_instruction (some 0) ∷ in_word 0x00 0 3 function_code (some f.code)
    ∷ long 0x02 access_address (some f.address) ∷ word 0x06 instruction_register (some opcode) ∷ word 0x08 status_register (some sr)
    ∷ long 0x0A program_counter unsaid ∷ []

-- formats 0 and 1, 8 bytes: M68000UM 6.3.9.2, MC68020UM 6.3.1 and 6.3.2, M68000PRM appendix B (recalled)
abbrev pub format0 : ℕ → Option ℕ → ℕ → List Field
format0 sr pc fw = word 0x00 status_register (some sr) ∷ long 0x02 program_counter pc ∷ word 0x06 format_vector (some fw) ∷ []

-- format 2, 12 bytes: MC68020UM 6.3.3, MC68030UM 8.4, M68040UM 8.4.3, MC68060UM 8.4.2 (recalled). The long is the instruction's address, of an address
-- error the address with bit 0 clear, of a floating-point exception of the 68060 the operand's
abbrev pub format2 : ℕ → Option ℕ → ℕ → Option ℕ → List Field
format2 sr pc fw extra = word 0x00 status_register (some sr) ∷ long 0x02 program_counter pc ∷ word 0x06 format_vector (some fw) ∷ long 0x08 instruction_address extra ∷ []

-- format 9, 20 bytes: MC68020UM 6.3.4 (recalled); the program counter is the scan's
abbrev pub format9 : ℕ → ℕ → ℕ → List Field
format9 sr fw this =
    word 0x00 status_register (some sr) ∷ long 0x02 program_counter unsaid ∷ word 0x06 format_vector (some fw) ∷ long 0x08 instruction_address (some this)
    ∷ long 0x0C internal none ∷ long 0x10 internal none ∷ []

-- format 4 of the 68060's disabled floating-point unit, 16 bytes: MC68060UM 8.4.3 (recalled)
abbrev pub format4_disabled : ℕ → Option ℕ → ℕ → Option ℕ → ℕ → List Field
format4_disabled sr pc fw operand this =
    word 0x00 status_register (some sr) ∷ long 0x02 program_counter pc ∷ word 0x06 format_vector (some fw) ∷ long 0x08 effective_address operand
    ∷ long 0x0C faulted_instruction (some this) ∷ []

-- format 4 of the 68060's access error, 16 bytes, with the fault status long word: MC68060UM 8.4.4 (recalled). SIZE as that text has it: 00 byte, 01 word,
-- 10 long. RE and WE are the bus errors of a read and of a write
abbrev pub size060 : ℕ → Option ℕ
size060 z = cond (eqb z 1) (some 0) (cond (eqb z 2) (some 1) (cond (eqb z 4) (some 2) none))

abbrev pub plain_bus : Fault → Bool
plain_bus f = eqb f.cause 0 || eqb f.cause 8

-- TT of the 68040 and 68060: 10, an alternate function code, for codes 0, 3, 4 and 7, which MOVES alone has; else 00, a normal access. TM is the code.
-- M68040UM section 5, MC68060UM 8.4.4 (recalled)
abbrev pub transfer_type_of : ℕ → ℕ
transfer_type_of code = cond (eqb code 0 || (eqb code 3 || (eqb code 4 || eqb code 7))) 2 0

abbrev pub format4_access : ℕ → ℕ → ℕ → Fault → List Field
format4_access sr pc fw f =
    word 0x00 status_register (some sr) ∷ long 0x02 program_counter (some pc) ∷ word 0x06 format_vector (some fw) ∷ long 0x08 fault_address (some f.address)
    ∷ in_long 0x0C 27 1 misaligned unsaid ∷ in_long 0x0C 25 1 locked unsaid ∷ in_long 0x0C 23 2 read_write (cond f.write (some 1) (some 2))
    ∷ in_long 0x0C 21 2 size (size060 f.size) ∷ in_long 0x0C 19 2 transfer_type (some (transfer_type_of f.code)) ∷ in_long 0x0C 16 3 transfer_modifier (some f.code)
    ∷ in_long 0x0C 15 1 instruction_or_operand (flag f.instruction) ∷ in_long 0x0C 12 1 pointer_a (flag (eqb f.cause 1))
    ∷ in_long 0x0C 11 1 pointer_b (flag (eqb f.cause 2)) ∷ in_long 0x0C 10 1 indirect_level (flag (eqb f.cause 3))
    ∷ in_long 0x0C 9 1 page_fault (flag (eqb f.cause 4)) ∷ in_long 0x0C 8 1 supervisor_protect (flag (eqb f.cause 6))
    ∷ in_long 0x0C 7 1 write_protect (flag (eqb f.cause 5)) ∷ in_long 0x0C 6 1 table_search (flag (eqb f.cause 7))
    ∷ in_long 0x0C 5 1 read_error (flag (plain_bus f && not f.write)) ∷ in_long 0x0C 4 1 write_error (flag (plain_bus f && f.write)) ∷ []

-- format 7 of the 68040, 60 bytes: M68040UM 8.4.6 (recalled). SIZE: 00 long, 01 byte, 10 word, 11 line. A write that failed stands in write-back 3. ATC
-- is set where the translation failed, not where the bus did
abbrev pub size040 : ℕ → Option ℕ
size040 z = cond (eqb z 1) (some 1) (cond (eqb z 2) (some 2) (cond (eqb z 4) (some 0) none))

abbrev pub format7 : ℕ → ℕ → ℕ → Fault → List Field
format7 sr pc fw f =
    word 0x00 status_register (some sr) ∷ long 0x02 program_counter (some pc) ∷ word 0x06 format_vector (some fw) ∷ long 0x08 effective_address unsaid
    ∷ in_word 0x0C 12 4 continuation unsaid ∷ in_word 0x0C 11 1 misaligned unsaid ∷ in_word 0x0C 10 1 translation (flag (not (plain_bus f)))
    ∷ in_word 0x0C 9 1 locked unsaid ∷ in_word 0x0C 8 1 read_write (flag (not f.write)) ∷ in_word 0x0C 5 2 size (size040 f.size)
    ∷ in_word 0x0C 3 2 transfer_type (some (transfer_type_of f.code)) ∷ in_word 0x0C 0 3 transfer_modifier (some f.code)
    ∷ in_word 0x0E 7 1 write_back3_valid (flag f.write) ∷ in_word 0x0E 5 2 write_back3_size (cond f.write (size040 f.size) none)
    ∷ in_word 0x0E 3 2 write_back3_type (only f.write (transfer_type_of f.code)) ∷ in_word 0x0E 0 3 write_back3_modifier (only f.write f.code)
    ∷ in_word 0x10 7 1 write_back2_valid (some 0) ∷ in_word 0x12 7 1 write_back1_valid (some 0) ∷ long 0x14 fault_address (some f.address)
    ∷ long 0x18 write_back3_address (only f.write f.address) ∷ long 0x1C write_back3_data (only f.write f.datum)
    ∷ long 0x20 internal none ∷ long 0x24 internal none ∷ long 0x28 internal none ∷ long 0x2C internal none ∷ long 0x30 internal none
    ∷ long 0x34 internal none ∷ long 0x38 internal none ∷ []

-- format 8 of the 68010, 58 bytes: M68000UM 6.3.9.2, figures 6-8 and 6-9 (recalled). The program counter is advanced by up to five words. RR is 0: the
-- return runs the cycle again. IF: an instruction is fetched, DF: a datum is read. BY: a byte, HB: the high one
abbrev pub is_byte : Fault → Bool
is_byte f = eqb f.size 1

abbrev pub format8 : ℕ → ℕ → Fault → List Field
format8 sr fw f =
    word 0x00 status_register (some sr) ∷ long 0x02 program_counter unsaid ∷ word 0x06 format_vector (some fw) ∷ in_word 0x08 15 1 rerun (some 0)
    ∷ in_word 0x08 13 1 instruction_fetch (flag f.instruction) ∷ in_word 0x08 12 1 data_fetch (flag (not f.instruction && not f.write))
    ∷ in_word 0x08 11 1 read_modify_write unsaid ∷ in_word 0x08 10 1 high_byte (flag (is_byte f && eqb (f.address % 2) 0))
    ∷ in_word 0x08 9 1 byte_transfer (flag (is_byte f)) ∷ in_word 0x08 8 1 read_write (flag (not f.write)) ∷ in_word 0x08 0 3 function_code (some f.code)
    ∷ long 0x0A fault_address (some f.address) ∷ word 0x0E internal none
    ∷ word 0x10 data_output (only (f.write && eqb f.size 2) (f.datum % 0x10000)) ∷ word 0x12 internal none ∷ word 0x14 data_input none
    ∷ word 0x16 internal none ∷ word 0x18 instruction_input none ∷ long 0x1A internal none ∷ long 0x1E internal none ∷ long 0x22 internal none
    ∷ long 0x26 internal none ∷ long 0x2A internal none ∷ long 0x2E internal none ∷ long 0x32 internal none ∷ long 0x36 internal none ∷ []

-- format B of the 68020 and 68030, 92 bytes: MC68020UM 6.3.6 and 6.2.1, MC68030UM 8.4 and 8.2.1 (recalled). SIZE: 01 byte, 10 word, 11 three bytes, 00 long.
-- Of a datum DF, RW, SIZE and FC count, of an instruction FC, FB, RC, RB: it fails in stage B. RM, the pipe's words, and the address of stage B beside a
-- datum are not said by a call
abbrev pub size020 : ℕ → Option ℕ
size020 z = cond (eqb z 1) (some 1) (cond (eqb z 2) (some 2) (cond (eqb z 3) (some 3) (cond (eqb z 4) (some 0) none)))

abbrev pub format_b : ℕ → ℕ → ℕ → Fault → List Field
format_b sr pc fw f =
    word 0x00 status_register (some sr) ∷ long 0x02 program_counter (some pc) ∷ word 0x06 format_vector (some fw) ∷ word 0x08 internal none
    ∷ in_word 0x0A 15 1 fault_on_c (some 0) ∷ in_word 0x0A 14 1 fault_on_b (flag f.instruction) ∷ in_word 0x0A 13 1 rerun_c (some 0)
    ∷ in_word 0x0A 12 1 rerun_b (flag f.instruction) ∷ in_word 0x0A 8 1 data_fault (flag (not f.instruction)) ∷ in_word 0x0A 7 1 read_modify_write unsaid
    ∷ in_word 0x0A 6 1 read_write (only (not f.instruction) (cond f.write 0 1)) ∷ in_word 0x0A 4 2 size (cond f.instruction none (size020 f.size))
    ∷ in_word 0x0A 0 3 function_code (only (not f.instruction) f.code) ∷ word 0x0C stage_c unsaid ∷ word 0x0E stage_b unsaid
    ∷ long 0x10 fault_address (only (not f.instruction) f.address) ∷ long 0x14 internal none
    ∷ long 0x18 data_output (only (not f.instruction && f.write) f.datum) ∷ long 0x1C internal none ∷ long 0x20 internal none
    ∷ long 0x24 stage_baddress (only f.instruction f.address) ∷ long 0x28 internal none ∷ long 0x2C data_input none ∷ word 0x30 internal none
    ∷ word 0x32 internal none ∷ word 0x34 internal none ∷ word 0x36 internal none ∷ long 0x38 internal none ∷ long 0x3C internal none
    ∷ long 0x40 internal none ∷ long 0x44 internal none ∷ long 0x48 internal none ∷ long 0x4C internal none ∷ long 0x50 internal none
    ∷ long 0x54 internal none ∷ long 0x58 internal none ∷ []

-- format A of the 68020 and 68030, 32 bytes, at an instruction's boundary: MC68020UM 6.3.5, MC68030UM 8.4 (recalled). The program counter is the next instruction's. No exception of
-- `Exceptions` stacks it: a call names the instruction in execution
abbrev pub format_a : ℕ → ℕ → ℕ → Fault → List Field
format_a sr next fw f =
    word 0x00 status_register (some sr) ∷ long 0x02 program_counter (some next) ∷ word 0x06 format_vector (some fw) ∷ word 0x08 internal none
    ∷ in_word 0x0A 15 1 fault_on_c (some 0) ∷ in_word 0x0A 14 1 fault_on_b (flag f.instruction) ∷ in_word 0x0A 13 1 rerun_c (some 0)
    ∷ in_word 0x0A 12 1 rerun_b (flag f.instruction) ∷ in_word 0x0A 8 1 data_fault (flag (not f.instruction)) ∷ in_word 0x0A 7 1 read_modify_write unsaid
    ∷ in_word 0x0A 6 1 read_write (only (not f.instruction) (cond f.write 0 1)) ∷ in_word 0x0A 4 2 size (cond f.instruction none (size020 f.size))
    ∷ in_word 0x0A 0 3 function_code (only (not f.instruction) f.code) ∷ word 0x0C stage_c unsaid ∷ word 0x0E stage_b unsaid
    ∷ long 0x10 fault_address (only (not f.instruction) f.address) ∷ long 0x14 internal none
    ∷ long 0x18 data_output (only (not f.instruction && f.write) f.datum) ∷ long 0x1C internal none ∷ []
