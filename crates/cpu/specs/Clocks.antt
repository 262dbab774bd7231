-- Clocks that wait to be reported, and the prefetch queue.
use Rattle.std.specs.Prelude.{ℕ, ◌+◌, ◌%◌, ◌^◌, Bool, false, ◌==◌, nat_lt, slice_set}
use Rattle.types.specs.Kinds.{pick, is_prefetch_kind}
use Rattle.cpu.specs.declared.Cpu.{Cpu}
use Rattle.cpu.specs.Setters.{with_pending_sync_clocks, with_prefetch_count, with_prefetch_queue}

-- whether clocks wait to be reported
unfoldable pub has_clocks : Cpu → Bool
has_clocks c = nat_lt 0 c.queue.pending_sync_clocks

-- the clocks that wait to be reported
unfoldable pub clocks_of : Cpu → ℕ
clocks_of c = c.queue.pending_sync_clocks

-- whether just the first word is queued
unfoldable pub one_fetched : Cpu → Bool
one_fetched c = c.queue.prefetch_count == 1

-- `prefetch_enabled`: the kinds with a queue, while the bus is precise
unfoldable pub prefetch_enabled : Cpu → Bool
prefetch_enabled c = pick c.queue.precise_bus (is_prefetch_kind c.flow.cpu_type) false

-- n clocks wait to be reported
unfoldable pub set_clocks : Cpu → ℕ → Cpu
set_clocks c n = with_pending_sync_clocks c n

-- `internal_cycles`: clocks of internal processing wait for the next guarded access, modulo 2^32
unfoldable pub internal_cycles : Cpu → ℕ → Cpu
internal_cycles c n = pick (prefetch_enabled c) (set_clocks c ((clocks_of c + n) % 2 ^ 32)) c

-- nothing is queued
unfoldable pub clear_prefetch : Cpu → Cpu
clear_prefetch c = with_prefetch_count c 0

-- the first word is queued
unfoldable pub first_word : Cpu → ℕ → Cpu
first_word c w = with_prefetch_count (with_prefetch_queue c (slice_set c.queue.prefetch_queue 0 w)) 1

-- the second word is queued
unfoldable pub second_word : Cpu → ℕ → Cpu
second_word c w = with_prefetch_count (with_prefetch_queue c (slice_set c.queue.prefetch_queue 1 w)) 2
