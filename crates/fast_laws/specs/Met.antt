-- A world and two calls that the fast way takes, so that the theorems of Matched speak of something.
use Rattle.std.specs.Prelude.{ℕ, ◌≡◌, refl, true, List, [], replicate}
use Rattle.std.proofs.Common.{lit<}
use Rattle.types.specs.Kinds.{is_prefetch_kind}
use Rattle.cpu.specs.Fields.{set_a7}
use Rattle.cpu.specs.Clocks.{set_clocks}
use Rattle.cpu.specs.Fresh.{fresh_cpu, fresh_flow, fresh_regs, fresh_flags, fresh_queue, fresh_fault}
use Rattle.memory.specs.declared.Core.{Core}
use Rattle.memory.specs.Bytes.{put_long, put_word, get_long, get_word}
use Rattle.numbers.specs.declared.RawCall.{RawCall}
use Rattle.unfaulted.specs.Examples.{fresh}
use Rattle.fast_plans.specs.Views.{view_of, span_of, is_other, accepts_of}
use Rattle.fast_plans.specs.Places.{fetches_of, top_of, spot_of}
use Rattle.fast.specs.Landings.{meets, queued_of, vector_at, landing_of}
use Rattle.fast_plans.specs.Plans.{row_of, is_long, halts, entry_plan, entry_of, plan_of}
use Rattle.fast_plans.specs.Quiet.{is_quiet, quiet_of, calm_patch, is_entry, is_calm}
use Rattle.fast.specs.Patches.{patch_by, written_of, land_of, place_of, enter_of, enter_by, go_of}
use Rattle.fast_laws.specs.Patched.{Words}

-- a fresh 68000 with A7 at 128, 256 bytes from 0 on and no window
unfoldable pub board : Core
board = record { cpu = fresh; bus = record { base = 0; windows = 0; starts = []; lengths = []; responses = []; events = 0 } }

-- vector 8 says 64, and the words there say 0x1234 and 0x5678
abbrev pub bytes : List ℕ
bytes = put_long (put_long (replicate 256 0) 32 64) 64 0x12345678

abbrev pub call : ℕ → RawCall
call n = record { number = n; a = 8; b = 0; c = 0; d = 0; e = 0 }

pub board_words : Words board
unfolding board fresh set_clocks set_a7 fresh_cpu fresh_flow fresh_regs fresh_queue
board_words = record { registers = lit< tt; pointers = lit< tt; pc = lit< tt; ppc = lit< tt; clocks = lit< tt }

-- `take_exception` with vector 8 is an entry by the fast way
pub board_enters : is_entry (go_of (view_of board) (call 1) bytes (replicate 192 0)).patch.way ≡ true
unfolding board fresh set_clocks set_a7 fresh_cpu fresh_flow fresh_regs fresh_flags fresh_queue fresh_fault is_prefetch_kind put_long put_word get_long get_word view_of span_of is_other accepts_of fetches_of top_of spot_of meets queued_of vector_at landing_of row_of is_long halts entry_plan entry_of plan_of is_quiet patch_by written_of land_of place_of enter_of enter_by go_of
board_enters = refl

-- `set_irq` makes no access
pub board_calm : is_calm (go_of (view_of board) (call 20) bytes (replicate 192 0)).patch.way ≡ true
unfolding board fresh set_clocks set_a7 fresh_cpu fresh_flow fresh_regs fresh_flags fresh_queue fresh_fault put_long put_word view_of span_of is_other accepts_of is_quiet quiet_of calm_patch go_of
board_calm = refl
