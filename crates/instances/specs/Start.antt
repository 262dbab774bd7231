-- Where paper 01's instances start: "status 0x2700, PC 0x1000, PPC 0xFFE, A7 0x8000 unless said", on a fresh store.
use Rattle.std.specs.Prelude.{ℕ, zero, suc, ◌+◌, ◌*◌, ◌<◌, List, [], ◌∷◌, set, replicate}
use Rattle.std.proofs.Common.{arith}
use Rattle.cpu.specs.declared.Cpu.{Cpu}
use Rattle.cpu.specs.Groups.{with_regs, with_flow}
use Rattle.cpu.specs.Fields.{set_a7, set_pc}
use Rattle.cpu.specs.Fresh.{fresh_cpu}
use Rattle.pending.specs.Interrupts.{set_irq}
use Rattle.status.specs.Status.{set_sr_noint_nosp}
use Rattle.memory.specs.World.{World, world}

-- fields that no function of the record sets, and that an instance names
unfoldable pub set_ppc : Cpu → ℕ → Cpu
set_ppc c v = with_flow c (record { ppc = v; pc = c.flow.pc; vbr = c.flow.vbr; ir = c.flow.ir; fpiar = c.flow.fpiar; cpu_type = c.flow.cpu_type; run_mode = c.flow.run_mode; stopped = c.flow.stopped; exception_processing = c.flow.exception_processing; change_of_flow = c.flow.change_of_flow; loop_mode = c.flow.loop_mode; cycles_remaining = c.flow.cycles_remaining })

unfoldable pub set_vbr : Cpu → ℕ → Cpu
set_vbr c v = with_flow c (record { ppc = c.flow.ppc; pc = c.flow.pc; vbr = v; ir = c.flow.ir; fpiar = c.flow.fpiar; cpu_type = c.flow.cpu_type; run_mode = c.flow.run_mode; stopped = c.flow.stopped; exception_processing = c.flow.exception_processing; change_of_flow = c.flow.change_of_flow; loop_mode = c.flow.loop_mode; cycles_remaining = c.flow.cycles_remaining })

-- a saved stack pointer: 0 user, 4 interrupt, 6 master
unfoldable pub set_saved : Cpu → ℕ → ℕ → Cpu
set_saved c bank v = with_regs c (record { dar = c.regs.dar; dar_save = c.regs.dar_save; sp = set c.regs.sp bank v })

-- the record of an instance: a fresh one has the status 0x2700
unfoldable pub start : ℕ → Cpu
start kind = set_a7 (set_ppc (set_pc (fresh_cpu kind) 0x1000) 4094) 0x8000

-- with another status, the stack pointers as they are
unfoldable pub start_at : ℕ → ℕ → Cpu
start_at kind status = set_sr_noint_nosp (start kind) status

-- in supervisor state at an interrupt mask, with a level pending
unfoldable pub pending : ℕ → ℕ → ℕ → Cpu
pending kind mask level = set_irq (start_at kind (0x2000 + mask * 256)) level

-- the response that asks for the autovector: 0xFFFFFFFF
abbrev pub auto : ℕ
auto = 0xFFFFFFFF

-- a store at 0 with no windows, one response at every level, and a log of so many words
unfoldable pub holding : List ℕ → ℕ → ℕ → Cpu → World
holding s response words c = world (record { cpu = c; bus = record { base = 0; windows = 0; starts = replicate 8 0; lengths = replicate 8 0; responses = replicate 8 response; events = 0 } }) s (replicate words 0)

-- a fresh store: 65,536 zero bytes. antt computes on it as it is: no smaller one stands in
abbrev pub zeros : List ℕ
zeros = replicate 0x10000 0

unfoldable pub lent : ℕ → ℕ → Cpu → World
lent response words c = holding zeros response words c

-- a fresh store, and a log that is just long enough
unfoldable pub fresh : Cpu → World
fresh c = lent auto 192 c

-- a store with these bytes from an address on, and no other byte changed
unfoldable pub laid : List ℕ → ℕ → List ℕ → List ℕ
laid s a [] = s
laid s a (b ∷ bs) = laid (set s a b) (suc a) bs

-- what holds of each of the twelve kinds
abbrev pub EveryKind : (ℕ → Type 0) → Type 0
EveryKind P = (k : ℕ) → k < 12 → P k

pub every_kind : (P : ℕ → Type 0) → P 0 → P 1 → P 2 → P 3 → P 4 → P 5 → P 6 → P 7 → P 8 → P 9 → P 10 → P 11 → EveryKind P
every_kind P a b c d e f g h i j k l zero z = a
every_kind P a b c d e f g h i j k l (suc zero) z = b
every_kind P a b c d e f g h i j k l (suc (suc zero)) z = c
every_kind P a b c d e f g h i j k l (suc (suc (suc zero))) z = d
every_kind P a b c d e f g h i j k l (suc (suc (suc (suc zero)))) z = e
every_kind P a b c d e f g h i j k l (suc (suc (suc (suc (suc zero))))) z = f
every_kind P a b c d e f g h i j k l (suc (suc (suc (suc (suc (suc zero)))))) z = g
every_kind P a b c d e f g h i j k l (suc (suc (suc (suc (suc (suc (suc zero))))))) z = h
every_kind P a b c d e f g h i j k l (suc (suc (suc (suc (suc (suc (suc (suc zero)))))))) z = i
every_kind P a b c d e f g h i j k l (suc (suc (suc (suc (suc (suc (suc (suc (suc zero))))))))) z = j
every_kind P a b c d e f g h i j k l (suc (suc (suc (suc (suc (suc (suc (suc (suc (suc zero)))))))))) z = k
every_kind P a b c d e f g h i j k l (suc (suc (suc (suc (suc (suc (suc (suc (suc (suc (suc zero))))))))))) z = l
every_kind P a b c d e f g h i j k l (suc (suc (suc (suc (suc (suc (suc (suc (suc (suc (suc (suc n)))))))))))) z = absurd (omega arith)
