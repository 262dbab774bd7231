-- Worlds that meet the premises, and what an entry leaves there.
use Rattle.std.specs.Prelude.{ℕ, ◌+◌, ◌-◌, ◌%◌, ◌≤◌, ◌<◌, ◌≡◌, refl, List, [], ◌∷◌, replicate}
use Rattle.std.proofs.Common.{inr, arith, lit≤, lit<}
use Rattle.types.specs.Kinds.{is060, is_prefetch_kind, mask_address}
use Rattle.cpu.specs.declared.Cpu.{Cpu}
use Rattle.cpu.specs.Fields.{kind_of, pc_of, ppc_of, vbr_of, a7_of, is_faulted, set_a7}
use Rattle.cpu.specs.Clocks.{prefetch_enabled, clocks_of, set_clocks}
use Rattle.cpu.specs.Fresh.{fresh_cpu, fresh_flow, fresh_regs, fresh_flags, fresh_queue}
use Rattle.memory.specs.declared.Bus.{Bus}
use Rattle.memory.specs.Bytes.{put_long, put_word, get_long, get_word}
use Rattle.status.specs.Status.{get_sr, compose, clear_trace}
use Rattle.status.specs.Banks.{enter_supervisor, set_sflag, restore_sp, put_s, backup_sp, sp_index}
use Rattle.steps.specs.Steps.{stacks_next, stacked_address}
use Rattle.formats.specs.Formats.{offset_word}
use Rattle.unfaulted.specs.Closed.{event, Room, Entering, clocks_after, entry_events, short_bytes, short_of, three_pieces, writes_of, clock_events, jump_events}
use Rattle.unfaulted.specs.Entries.{entering}

-- 256 bytes from 0 on, no window
abbrev pub board : Bus
board = record { base = 0; windows = 0; starts = []; lengths = []; responses = []; events = 0 }

-- vector 8 says 64, and the words there say 0x1234 and 0x5678
abbrev pub bytes : List ℕ
bytes = put_long (put_long (replicate 256 0) 32 64) 64 0x12345678

-- a fresh 68000 with A7 at 128 and 3 clocks that wait
unfoldable pub fresh : Cpu
fresh = set_clocks (set_a7 (fresh_cpu 1) 128) 3

room : (a n : ℕ) → 0 < n → a % 2 ≡ 0 → a + n ≤ 256 → mask_address 1 (a + n - 1) ≡ a + n - 1 → Room board 1 256 a n
room a n p e h m = record { windows = refl; even = e; some = p; low = omega arith; high = omega arith; top = omega arith; last = m }

-- it meets the premises of `take_exception` with vector 8: the frame lies at 122
pub fresh_enters : Entering board (enter_supervisor fresh) bytes (short_bytes (kind_of fresh)) 8 122 32 64 64 0x1234 0x5678
unfolding fresh set_clocks set_a7 fresh_cpu fresh_flow fresh_regs fresh_flags fresh_queue kind_of vbr_of a7_of is_faulted prefetch_enabled is_prefetch_kind short_bytes mask_address put_long put_word get_long get_word enter_supervisor clear_trace set_sflag restore_sp put_s backup_sp sp_index is060
fresh_enters =
    entering board fresh bytes 6 8 122 32 64 64 0x1234 0x5678 refl refl refl (room 122 6 (lit< tt) refl (lit≤ tt) refl)
    (record { vector = refl; vector_room = room 32 4 (lit< tt) refl (lit≤ tt) refl; handler = refl; queue = λ i. refl; queue_room = λ i. room 64 4 (lit< tt) refl (lit≤ tt) refl; first = λ i. refl; second = λ i. refl })
    (inr (lit≤ tt)) (λ i. inr (lit≤ tt))

-- its nine events: 3 + 4 clocks, PC low, the status, PC high, the release, the vector, the first word, 2 clocks, the second word
pub fresh_events : entry_events (clocks_after fresh 4) 122 (short_of (kind_of fresh) (get_sr fresh) (stacked_address fresh 8) (offset_word 8)) (prefetch_enabled fresh) 32 64 64 0x1234 0x5678
    ≡ event 5 0 7 ∷ event 3 126 0 ∷ event 3 122 0x2700 ∷ event 3 124 0 ∷ event 7 0 0 ∷ event 2 32 64 ∷ event 1 64 0x1234 ∷ event 5 0 2 ∷ event 1 66 0x5678 ∷ []
unfolding fresh set_clocks set_a7 fresh_cpu fresh_flow fresh_regs fresh_flags fresh_queue kind_of get_sr compose prefetch_enabled is_prefetch_kind clocks_after clocks_of entry_events short_of three_pieces writes_of clock_events jump_events stacked_address stacks_next pc_of ppc_of
fresh_events = refl
