-- THE TABLE of differences from the manuals. A row names the parts, how the exception is called for, the exception, what differs, and when; behind it
-- stands what a program that runs there would notice. docs/DIFFERENCES.md is written from it.
-- `Holds` proves that nothing else differs in a direct entry that starts sound and is served, `Shown` that each row does.
use Rattle.std.specs.Prelude.{ℕ, Bool, true, false, not, ◌&&◌, ◌||◌, List, [], ◌∷◌, eqb, leb}
use Rattle.std.proofs.Math.Option.{Option, none, some}
use Rattle.manual.specs.Parts.{Family, mc68000, mc68010, mc68020, mc68030, mc68040, mc68060, number, has_master}
use Rattle.manual.specs.State.{State, is_set}
use Rattle.manual.specs.Vectors.{Class, instruction, trap, group2, interrupt, bus_error, address_error, protocol, configuration, fp_unimplemented, fp_disabled, place}
use Rattle.manual.specs.Formats.{Field, Span, whole, bits}

-- how an exception is called for: `take_exception` of its vector, or the call made for it
pub data Via : Type 0 where
  by_vector own : Via

abbrev pub way : Via → ℕ
way by_vector = 0
way own = 1

-- what differs: a field, by its offset and lowest bit; every field; every field of the frame at A7, not of one under it; the format, and with it every field from offset 6 on and the length; the length; the
-- status left; PC; the address on the pins
pub data What : Type 0 where
  field : ℕ → ℕ → What
  fields at_top format length status pc pins : What

-- when: always; where the manual's value is not 0; vector 6; vectors 15 and 64 on; in the master state; where the vector base is not 0; where the bus
-- failed, not the translation; an address past 24 bits on a part with 24 pins
pub data When : Type 0 where
  always nonzero chk vectored in_master based of_the_bus past24 : When

pub record Row : Type 0 where
  pub families : List Family
  pub ways : List Via
  pub classes : List Class
  pub what : What
  pub when : When

abbrev every : List Family
every = mc68000 ∷ mc68010 ∷ mc68020 ∷ mc68030 ∷ mc68040 ∷ mc68060 ∷ []

abbrev from68020 : List Family
from68020 = mc68020 ∷ mc68030 ∷ mc68040 ∷ mc68060 ∷ []

abbrev any : List Class
any = instruction ∷ trap ∷ group2 ∷ interrupt ∷ bus_error ∷ address_error ∷ protocol ∷ configuration ∷ fp_unimplemented ∷ fp_disabled ∷ []

abbrev errors : List Class
errors = bus_error ∷ address_error ∷ []

abbrev row : List Family → List Via → List Class → What → When → Row
row f v c what when = record { families = f; ways = v; classes = c; what = what; when = when }

unfoldable pub differences : List Row
differences =
    row (mc68000 ∷ []) (own ∷ []) errors (field 0x00 4) always  -- a handler reads R/W in the first word and finds bits of the program counter
    ∷ row (mc68000 ∷ []) (own ∷ []) errors (field 0x00 3) always  -- a handler reads I/N there
    ∷ row (mc68000 ∷ []) (own ∷ []) errors (field 0x00 0) always  -- a handler reads the function code there
    ∷ row (mc68000 ∷ []) (own ∷ []) errors (field 0x02 0) always  -- a handler takes another address for the one that failed
    ∷ row (mc68000 ∷ []) (own ∷ []) errors (field 0x08 0) always  -- a handler that returns puts another status back; RTE takes 6 of the 14 bytes
    ∷ row (mc68010 ∷ []) (own ∷ []) errors (field 0x08 13) nonzero  -- a handler cannot tell that an instruction was fetched
    ∷ row (mc68010 ∷ []) (own ∷ []) errors (field 0x08 12) nonzero  -- a handler cannot tell that a datum was read
    ∷ row (mc68010 ∷ []) (own ∷ []) (bus_error ∷ []) (field 0x08 10) nonzero  -- a handler cannot tell which byte of the bus was used
    ∷ row (mc68010 ∷ []) (own ∷ []) (bus_error ∷ []) (field 0x08 9) nonzero  -- a handler cannot tell a byte from a word
    ∷ row (mc68010 ∷ []) (own ∷ []) errors (field 0x08 8) nonzero  -- a handler takes every access for a write
    ∷ row (mc68010 ∷ []) (own ∷ []) errors (field 0x08 0) nonzero  -- a handler cannot tell the address space
    ∷ row (mc68010 ∷ []) (own ∷ []) errors (field 0x0A 0) nonzero  -- a handler does not learn which address failed; virtual memory cannot work
    ∷ row (mc68010 ∷ []) (own ∷ []) (bus_error ∷ []) (field 0x10 0) nonzero  -- a handler that makes the write itself writes 0
    ∷ row (mc68020 ∷ mc68030 ∷ mc68060 ∷ []) (own ∷ []) (address_error ∷ []) format always  -- a handler reads format 0: RTE takes 8 bytes, and the odd address is not told
    ∷ row (mc68040 ∷ []) (own ∷ []) (bus_error ∷ []) (field 0x0C 10) of_the_bus  -- a handler takes a physical bus error for a missing page
    ∷ row (mc68060 ∷ []) (own ∷ []) (bus_error ∷ []) (field 0x0C 21) always  -- a handler that goes by the manual's text takes a byte for a word, a word for a long; by Hatari ours is what the part does
    ∷ row (mc68060 ∷ []) (own ∷ []) (fp_disabled ∷ []) (field 0x02 0) always  -- a handler that emulates the instruction and returns runs it again; the 68060 software package copies +0xC to +2 before RTE, and does not notice
    ∷ row (mc68000 ∷ []) (by_vector ∷ []) errors fields always  -- a caller that raises an error by its vector gets a frame of 6 bytes without address
    ∷ row (mc68000 ∷ []) (by_vector ∷ []) errors length always  -- the stack is 8 bytes higher than a handler expects
    ∷ row (mc68010 ∷ mc68020 ∷ mc68030 ∷ mc68040 ∷ mc68060 ∷ []) (by_vector ∷ []) errors format always  -- a caller that raises an error by its vector gets a frame of 8 bytes without address
    ∷ row from68020 (by_vector ∷ []) (group2 ∷ []) format always  -- a handler finds no address of the instruction at +8
    ∷ row every (by_vector ∷ []) (group2 ∷ []) (field 0x02 0) chk  -- a return runs CHK again
    ∷ row (mc68020 ∷ mc68030 ∷ []) (by_vector ∷ []) (protocol ∷ []) format always  -- RTE takes 8 bytes, and the instruction's address is not told
    ∷ row (mc68030 ∷ []) (by_vector ∷ []) (configuration ∷ []) format always  -- RTE takes 8 bytes, and the instruction's address is not told
    ∷ row (mc68030 ∷ []) (by_vector ∷ []) (configuration ∷ []) (field 0x02 0) always  -- a return runs the instruction again
    ∷ row every (by_vector ∷ []) (interrupt ∷ []) status always  -- a handler that is entered so keeps the old mask: an interrupt of its own level comes in again
    ∷ row every (by_vector ∷ []) (interrupt ∷ []) (field 0x02 0) vectored  -- a return runs the interrupted instruction again
    ∷ row (mc68020 ∷ mc68030 ∷ mc68040 ∷ []) (by_vector ∷ []) (interrupt ∷ []) at_top in_master  -- a handler runs on the master stack, and no frame of format 1 lies on the interrupt stack
    ∷ row (mc68020 ∷ mc68030 ∷ mc68040 ∷ []) (by_vector ∷ []) (interrupt ∷ []) length in_master  -- A7 is the master stack's
    ∷ row (mc68000 ∷ []) (by_vector ∷ own ∷ []) any pc based  -- a record with a vector base takes its handlers from there; the part has no such register
    ∷ row (mc68020 ∷ []) (by_vector ∷ own ∷ []) any pins past24  -- addresses from 0x1000000 on are not those below it
    ∷ row (mc68040 ∷ []) (own ∷ []) (bus_error ∷ []) (field 0x0C 3) nonzero  -- a handler takes an access of MOVES to another address space for a normal one, or for a cache push or a table search
    ∷ row (mc68040 ∷ []) (own ∷ []) (bus_error ∷ []) (field 0x0E 3) nonzero  -- a handler that makes the write itself takes one of MOVES to another address space for a normal one
    ∷ row (mc68060 ∷ []) (own ∷ []) (bus_error ∷ []) (field 0x0C 19) nonzero  -- a handler takes an access of MOVES to another address space for a normal one, or for a cache push or a table search
    ∷ []

-- ---- where a row applies

abbrev member : {A : Type 0} → (A → ℕ) → A → List A → Bool
member f x [] = false
member f x (y ∷ ys) = eqb (f x) (f y) || member f x ys

abbrev pub not_zero : Option ℕ → Bool
not_zero none = false
not_zero (some n) = not (eqb n 0)

abbrev past : Option ℕ → Bool
past none = false
past (some a) = leb 0x1000000 a

-- for a state, an exception, its vector, and the manual's value of a field or an address
abbrev pub met : When → State → Class → ℕ → Option ℕ → Bool
met always s c v x = true
met nonzero s c v x = not_zero x
met chk s c v x = eqb v 6
met vectored s c v x = eqb v 15 || leb 64 v
met in_master s c v x = has_master s.family && is_set 12 s.status
met based s c v x = not (eqb s.vbr 0)
met of_the_bus s c v x = eqb s.fault.cause 8
met past24 s c v x = eqb s.lines 24 && past x

abbrev pub applies : State → Via → Class → ℕ → Option ℕ → Row → Bool
applies s w c v x r = (member number s.family r.families && (member way w r.ways && member place c r.classes)) && met r.when s c v x

abbrev pub lowest : Span → ℕ
lowest whole = 0
lowest (bits low n) = low

abbrev pub covers_field : What → Field → Bool
covers_field (field o l) t = eqb o t.offset && eqb l (lowest t.span)
covers_field fields t = true
covers_field at_top t = true
covers_field format t = leb 6 t.offset
covers_field length t = false
covers_field status t = false
covers_field pc t = false
covers_field pins t = false

abbrev is_at_top : What → Bool
is_at_top (field o l) = false
is_at_top fields = false
is_at_top at_top = true
is_at_top format = false
is_at_top length = false
is_at_top status = false
is_at_top pc = false
is_at_top pins = false

abbrev covers_length : What → Bool
covers_length (field o l) = false
covers_length fields = false
covers_length at_top = false
covers_length format = true
covers_length length = true
covers_length status = false
covers_length pc = false
covers_length pins = false

abbrev covers_status : What → Bool
covers_status (field o l) = false
covers_status fields = false
covers_status at_top = false
covers_status format = false
covers_status length = false
covers_status status = true
covers_status pc = false
covers_status pins = false

abbrev covers_pc : What → Bool
covers_pc (field o l) = false
covers_pc fields = false
covers_pc at_top = false
covers_pc format = false
covers_pc length = false
covers_pc status = false
covers_pc pc = true
covers_pc pins = false

abbrev covers_pins : What → Bool
covers_pins (field o l) = false
covers_pins fields = false
covers_pins at_top = false
covers_pins format = false
covers_pins length = false
covers_pins status = false
covers_pins pc = false
covers_pins pins = true

abbrev pub some_row : (Row → Bool) → List Row → Bool
some_row p [] = false
some_row p (r ∷ rs) = p r || some_row p rs

-- ---- whether a row of a table excludes a field, the length, the status, PC, an address on the pins

unfoldable pub field_differs : List Row → State → Via → Class → ℕ → Field → Bool
field_differs rows s w c v t = some_row (λ r. covers_field r.what t && applies s w c v t.value r) rows

-- the same, of the frame under one of format 1
unfoldable pub under_differs : List Row → State → Via → Class → ℕ → Field → Bool
under_differs rows s w c v t = some_row (λ r. (covers_field r.what t && not (is_at_top r.what)) && applies s w c v t.value r) rows

unfoldable pub length_differs : List Row → State → Via → Class → ℕ → Bool
length_differs rows s w c v = some_row (λ r. covers_length r.what && applies s w c v none r) rows

unfoldable pub status_differs : List Row → State → Via → Class → ℕ → Bool
status_differs rows s w c v = some_row (λ r. covers_status r.what && applies s w c v none r) rows

unfoldable pub pc_differs : List Row → State → Via → Class → ℕ → Bool
pc_differs rows s w c v = some_row (λ r. covers_pc r.what && applies s w c v none r) rows

unfoldable pub pins_differ : List Row → State → Via → Class → ℕ → ℕ → Bool
pins_differ rows s w c v a = some_row (λ r. covers_pins r.what && applies s w c v (some a) r) rows
