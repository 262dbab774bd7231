-- Which entries have their frame as data, and the frames.
use Rattle.std.specs.Prelude.{ℕ, ◌%◌, Bool, not, eqb, Some, None, Option}
use Rattle.types.specs.Kinds.{pick, either, is_pre68020, is040, is060}
use Rattle.types.specs.Vectors.{bus_error_vector, line1111}
use Rattle.types.specs.Causes.{cause_number, cause_of}
use Rattle.cpu.specs.declared.Cpu.{Cpu}
use Rattle.cpu.specs.Groups.{with_flags}
use Rattle.cpu.specs.Setters.{with_ppc, with_pending_fault_wdata}
use Rattle.cpu.specs.Fresh.{fresh_cpu}
use Rattle.frames.specs.declared.Frame.{Frame}
use Rattle.frames.specs.Frames.{bus_frame}
use Rattle.formats.specs.Formats.{disabled_frame}
use Rattle.status.specs.Status.{compose}
use Rattle.numbers.specs.declared.RawCall.{RawCall}
use Rattle.fast_plans.specs.declared.View.{View}
use Rattle.fast_frames.specs.declared.rows.FrameRow.{FrameRow}

abbrev pub row : ℕ → ℕ → ℕ → FrameRow
row n v a = record { bytes = n; vector = v; answer = a }

-- the bytes of a bus error's frame where all of it is guarded
unfoldable pub bus_bytes : ℕ → Option ℕ
bus_bytes kind = pick (is_pre68020 kind) None (pick (is060 kind) (Some 16) (pick (is040 kind) (Some 60) (Some 92)))

-- a bus error, where the record keeps no function code
abbrev pub bus_sized : Option ℕ → Option FrameRow
bus_sized None = None
bus_sized (Some n) = Some (row n bus_error_vector 50)

unfoldable pub bus_row : ℕ → ℕ → Option FrameRow
bus_row kind code = pick (eqb code 0) (bus_sized (bus_bytes kind)) None

-- the calls that such an entry may be
abbrev pub is_framed : ℕ → Bool
is_framed number = either (eqb number 9) (eqb number 11)

-- a floating-point unit that is disabled, on the 68060 alone
unfoldable pub disabled_row : ℕ → Option FrameRow
disabled_row kind = pick (is060 kind) (Some (row 16 line1111 34)) None

-- the entry of a call by number, on a kind, with what the record keeps as function code
unfoldable pub row_of : ℕ → ℕ → ℕ → Option FrameRow
row_of number kind code = pick (eqb number 9) (bus_row kind code) (pick (eqb number 11) (disabled_row kind) None)

-- a record with what a frame is made of, and fresh else
unfoldable pub bare_cpu : View → ℕ → Cpu
bare_cpu x wdata = with_flags (with_pending_fault_wdata (with_ppc (fresh_cpu x.kind) x.ppc) wdata) x.flags

unfoldable pub bus_frame_of : View → ℕ → RawCall → Frame
bus_frame_of x wdata c = bus_frame (bare_cpu x wdata) c.a (not (eqb c.b 0)) (not (eqb c.c 0)) c.d (cause_number (cause_of (c.e % 256)))

-- the frame of a call by number
unfoldable pub frame_of : View → ℕ → RawCall → Frame
frame_of x wdata c = pick (eqb c.number 9) (bus_frame_of x wdata c) (disabled_frame (compose x.flags) x.ppc 0x402C 0 x.ppc)
