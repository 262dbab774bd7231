-- Laws of the clocks that wait to be reported.
use Rattle.std.specs.Prelude.{◌≡◌, ℕ, ◌+◌, ◌%◌, ◌^◌, true, false, refl}
use Rattle.types.specs.Kinds.{is_prefetch_kind}
use Rattle.cpu.specs.declared.Cpu.{Cpu}
use Rattle.cpu.specs.Clocks.{prefetch_enabled, clocks_of, set_clocks, internal_cycles}
use Rattle.cpu.specs.Fresh.{fresh_cpu, fresh_flow, fresh_queue}

-- internal cycles add to the clocks that wait, modulo 2^32
pub clocks_added : (c : Cpu) (n : ℕ) → prefetch_enabled c ≡ true → clocks_of (internal_cycles c n) ≡ (clocks_of c + n) % 2 ^ 32
unfolding internal_cycles set_clocks clocks_of
clocks_added c n h = rw h

-- without a queue no clock waits
pub clocks_kept : (c : Cpu) (n : ℕ) → prefetch_enabled c ≡ false → internal_cycles c n ≡ c
unfolding internal_cycles
clocks_kept c n h = rw h

-- past 2^32 the sum wraps: 0xFFFFFFFF and 4 more leave 3
pub clocks_wrap : clocks_of (internal_cycles (set_clocks (fresh_cpu 1) 0xFFFFFFFF) 4) ≡ 3
unfolding clocks_of internal_cycles set_clocks fresh_cpu fresh_queue fresh_flow prefetch_enabled is_prefetch_kind
clocks_wrap = refl
