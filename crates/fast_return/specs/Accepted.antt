-- A call that is plainly accepted: tests that say more than the numbers 1, 2, 4, 5, 6 and 9 ask.
use Rattle.std.specs.Prelude.{ℕ, ◌+◌, ◌%◌, Bool, false, ◌==◌, nat_le, nat_lt}
use Rattle.types.specs.Kinds.{pick, either}
use Rattle.cpu.specs.declared.Cpu.{Cpu}
use Rattle.memory.specs.declared.Bus.{Bus}
use Rattle.memory.specs.declared.Core.{Core}

-- S is set, and M is clear or its own bit
unfoldable pub plain_flags : Cpu → Bool
plain_flags c = pick (c.flags.s_flag == 4) (either (c.flags.m_flag == 0) (c.flags.m_flag == 2)) false

-- the vector base is even and the function code below 8, whether or not they count; the kind is one of the twelve
unfoldable pub plain_cpu : Cpu → Bool
plain_cpu c =
    pick (c.flow.vbr % 2 == 0)
    (pick (nat_lt c.fault.mmu_fc_override.value 8)
    (pick (nat_lt c.flow.cpu_type 12) (plain_flags c) false) false) false

-- a store that number 5 accepts, and no window
unfoldable pub plain_bus : Bus → ℕ → Bool
plain_bus b n = pick (nat_le n 65536) (pick (nat_le (b.base + n) 0x100000000) (b.windows == 0) false) false

unfoldable pub accepts : Core → ℕ → Bool
accepts m n = pick (plain_bus m.bus n) (plain_cpu m.cpu) false
