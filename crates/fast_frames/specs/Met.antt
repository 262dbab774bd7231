-- A world and two calls that the fast way takes, so that the theorems of Matched speak of something.
use Rattle.std.specs.Prelude.{ℕ, ◌≡◌, refl, true, List, [], replicate}
use Rattle.std.proofs.Common.{lit<}
use Rattle.types.specs.Kinds.{is_pre68020, is040, is060, is_prefetch_kind}
use Rattle.cpu.specs.Fields.{set_a7}
use Rattle.cpu.specs.Fresh.{fresh_cpu, fresh_flow, fresh_regs, fresh_flags, fresh_queue, fresh_fault}
use Rattle.memory.specs.declared.Core.{Core}
use Rattle.memory.specs.Bytes.{put_long, put_word, get_long, get_word}
use Rattle.numbers.specs.declared.RawCall.{RawCall}
use Rattle.fast_plans.specs.Views.{view_of, span_of, is_other, accepts_of}
use Rattle.fast_plans.specs.Places.{fetches_of, top_of, spot_of}
use Rattle.fast.specs.Landings.{meets, queued_of, vector_at, landing_of}
use Rattle.fast_laws.specs.Patched.{Words}
use Rattle.fast_frames.specs.Rows.{bus_bytes, bus_row, disabled_row, row_of}
use Rattle.fast_frames.specs.Entries.{patch_for, written_of, land_of, place_of, enter_of, enter_by, go_of}
use Rattle.fast_frames.specs.Matched.{went_by}
use Rattle.fast_plans.specs.Quiet.{is_entry}

-- a fresh processor of a kind with A7 at 128, 256 bytes from 0 on and no window
unfoldable pub board : ℕ → Core
board kind = record { cpu = set_a7 (fresh_cpu kind) 128; bus = record { base = 0; windows = 0; starts = []; lengths = []; responses = []; events = 0 } }

-- vectors 2 and 11 say 192
abbrev pub bytes : List ℕ
bytes = put_long (put_long (replicate 256 0) 8 192) 44 192

abbrev pub call : ℕ → RawCall
call n = record { number = n; a = 0x1234; b = 0; c = 0; d = 4; e = 0 }

pub board_words : (kind : ℕ) → Words (board kind)
unfolding board set_a7 fresh_cpu fresh_flow fresh_regs fresh_queue
board_words kind = record { registers = lit< tt; pointers = lit< tt; pc = lit< tt; ppc = lit< tt; clocks = lit< tt }

-- a bus error on a 68040, and a disabled floating-point unit on a 68060
pub bus_enters : is_entry (went_by (board 9) (call 9) bytes (replicate 192 0)).patch.way ≡ true
unfolding board set_a7 fresh_cpu fresh_flow fresh_regs fresh_flags fresh_queue fresh_fault is_prefetch_kind is_pre68020 is040 is060 put_long put_word get_long get_word view_of span_of is_other accepts_of fetches_of top_of spot_of meets queued_of vector_at landing_of bus_bytes bus_row disabled_row row_of patch_for written_of land_of place_of enter_of enter_by go_of
bus_enters = refl

pub disabled_enters : is_entry (went_by (board 11) (call 11) bytes (replicate 192 0)).patch.way ≡ true
unfolding board set_a7 fresh_cpu fresh_flow fresh_regs fresh_flags fresh_queue fresh_fault is_prefetch_kind is_pre68020 is040 is060 put_long put_word get_long get_word view_of span_of is_other accepts_of fetches_of top_of spot_of meets queued_of vector_at landing_of bus_bytes bus_row disabled_row row_of patch_for written_of land_of place_of enter_of enter_by go_of
disabled_enters = refl
