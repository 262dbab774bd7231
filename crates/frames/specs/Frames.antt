-- Frames as data: the fields of each error frame upward from the new A7, so that the first field is pushed last.
use Rattle.std.specs.Prelude.{ℕ, ◌-◌, ◌%◌, Bool, true, false, List, [], ◌∷◌, ◌++◌, eqb, ltb, length, get_or, replicate}
use Rattle.types.specs.Kinds.{pick, is_pre68020, is040, is060}
use Rattle.cpu.specs.declared.Cpu.{Cpu}
use Rattle.cpu.specs.Fields.{kind_of, ppc_of, ir_of, wdata_of}
use Rattle.status.specs.Status.{get_sr}
use Rattle.frames.specs.declared.Field.{Field}
use Rattle.frames.specs.declared.Mode.{Mode}
use Rattle.frames.specs.declared.Mode.TheVariants.{Guarded, Raw, Counted}
use Rattle.frames.specs.declared.Frame.{Frame}
use Rattle.frames.specs.Codes.{state_code, fault_code, fault_word, ssw020, ssw040, wb3s, fslw060}

-- a field is pushed by a guarded access, by a raw one, or only counted
abbrev pub word : ℕ → Field
word v = record { mode = Guarded; long = false; value = v }

abbrev pub long : ℕ → Field
long v = record { mode = Guarded; long = true; value = v }

abbrev pub raw_word : ℕ → Field
raw_word v = record { mode = Raw; long = false; value = v }

abbrev pub raw_long : ℕ → Field
raw_long v = record { mode = Raw; long = true; value = v }

abbrev pub gap_word : Field
gap_word = record { mode = Counted; long = false; value = 0 }

abbrev pub gap_long : Field
gap_long = record { mode = Counted; long = true; value = 0 }

abbrev pub counts : Mode → Bool
counts Guarded = false
counts Raw = false
counts Counted = true

abbrev pub goes_raw : Mode → Bool
goes_raw Guarded = false
goes_raw Raw = true
goes_raw Counted = false

abbrev pub guards : Mode → Bool
guards Guarded = true
guards Raw = false
guards Counted = false

abbrev pub is_guarded : Field → Bool
is_guarded f = guards f.mode

unfoldable pub is_counted : Field → Bool
is_counted f = counts f.mode

unfoldable pub is_raw : Field → Bool
is_raw f = goes_raw f.mode

-- a frame holds up to 28 fields; the rest of its array is unused
abbrev pub framed : List Field → Frame
framed fs = record { fields = fs ++ replicate (28 - length fs) gap_word; count = length fs }

-- field k; past the array an empty word, which no frame reaches
unfoldable pub field_at : Frame → ℕ → Field
field_at f k = pick (ltb k 28) (get_or f.fields k (word 0)) (word 0)

-- 68000 bus and address error: 14 bytes, in the order of the Rust
unfoldable pub frame68000 : ℕ → ℕ → ℕ → ℕ → ℕ → Frame
frame68000 sr ppc ir address status = framed (raw_long ppc ∷ raw_word sr ∷ raw_word ir ∷ raw_long address ∷ raw_word status ∷ [])

-- format 8, 58 bytes: most internal words are only counted
unfoldable pub frame8 : ℕ → ℕ → ℕ → Frame
frame8 sr ppc format =
    framed
    (raw_word sr ∷ raw_long ppc ∷ raw_word format ∷ raw_word 0 ∷ raw_long 0 ∷ gap_word ∷ raw_word 0 ∷ gap_word ∷ raw_word 0 ∷ gap_word ∷ raw_word 0
    ∷ gap_long ∷ gap_long ∷ gap_long ∷ gap_long ∷ gap_long ∷ gap_long ∷ gap_long ∷ gap_long ∷ [])

-- format 2 of an address error, 12 bytes: the address with A0 cleared
unfoldable pub frame2 : ℕ → ℕ → ℕ → Frame
frame2 sr ppc address = framed (raw_word sr ∷ raw_long ppc ∷ raw_word 0x200C ∷ raw_long address ∷ [])

-- format 0 of an address error, 8 bytes
unfoldable pub frame0 : ℕ → ℕ → Frame
frame0 sr ppc = framed (raw_word sr ∷ raw_long ppc ∷ raw_word 0x000C ∷ [])

-- format 4, 16 bytes: fault address and fault status long word
unfoldable pub frame4 : ℕ → ℕ → ℕ → ℕ → Frame
frame4 sr ppc address fslw = framed (word sr ∷ long ppc ∷ word 0x4008 ∷ long address ∷ long fslw ∷ [])

-- format 7, 60 bytes: effective address, status word, the three write-back statuses, fault address, address and data of the
-- third write-back; the rest is 0
unfoldable pub frame7 : ℕ → ℕ → ℕ → ℕ → ℕ → ℕ → ℕ → Frame
frame7 sr ppc address ssw wb wba wbd =
    framed
    (word sr ∷ long ppc ∷ word 0x7008 ∷ long address ∷ word ssw ∷ word wb ∷ word 0 ∷ word 0 ∷ long address ∷ long wba ∷ long wbd
    ∷ long 0 ∷ long 0 ∷ long 0 ∷ long 0 ∷ long 0 ∷ long 0 ∷ long 0 ∷ [])

-- format 11, 92 bytes: special status word, data fault address, data output buffer, stage B address; the rest is 0
unfoldable pub frame11 : ℕ → ℕ → ℕ → ℕ → ℕ → ℕ → Frame
frame11 sr ppc ssw fault output stage =
    framed
    (word sr ∷ long ppc ∷ word 0xB008 ∷ word 0 ∷ word ssw ∷ word 0 ∷ word 0 ∷ long fault ∷ long 0 ∷ long output ∷ long 0 ∷ long 0
    ∷ long stage ∷ long 0 ∷ long 0 ∷ word 0 ∷ word 0 ∷ word 0 ∷ word 0
    ∷ long 0 ∷ long 0 ∷ long 0 ∷ long 0 ∷ long 0 ∷ long 0 ∷ long 0 ∷ long 0 ∷ long 0 ∷ [])

-- the data of a faulted write
unfoldable pub write_data : Cpu → Bool → ℕ
write_data c write = pick write (wdata_of c) 0

-- what `exception_address_error` stacks: kind 1; 2, 10; 7 to 9; 0, 3 to 6, 11
unfoldable pub address_frame : Cpu → ℕ → Bool → Bool → Frame
address_frame c a write instruction =
    pick (eqb (kind_of c) 1) (frame68000 (get_sr c) (ppc_of c) (ir_of c % 0x10000) a (fault_word (state_code c instruction) write instruction))
    (pick (is_pre68020 (kind_of c)) (frame8 (get_sr c) (ppc_of c) 0x800C)
    (pick (is040 (kind_of c)) (frame2 (get_sr c) (ppc_of c) (a - a % 2)) (frame0 (get_sr c) (ppc_of c))))

-- what `exception_bus_error` stacks: kind 1; 2, 10; 11; 7 to 9; 0, 3 to 6
unfoldable pub bus_frame : Cpu → ℕ → Bool → Bool → ℕ → ℕ → Frame
bus_frame c a write instruction z cause =
    pick (eqb (kind_of c) 1) (frame68000 (get_sr c) (ppc_of c) (ir_of c % 0x10000) a (fault_word (fault_code c instruction) write instruction))
    (pick (is_pre68020 (kind_of c)) (frame8 (get_sr c) (ppc_of c) 0x8008)
    (pick (is060 (kind_of c)) (frame4 (get_sr c) (ppc_of c) a (fslw060 write instruction z (fault_code c instruction) cause))
    (pick (is040 (kind_of c))
    (frame7 (get_sr c) (ppc_of c) a (ssw040 (fault_code c instruction) write z cause) (wb3s (fault_code c instruction) write z) (pick write a 0)
    (write_data c write))
    (frame11 (get_sr c) (ppc_of c) (ssw020 (fault_code c instruction) write instruction z) (pick instruction 0 a) (write_data c write) (pick instruction a 0)))))
