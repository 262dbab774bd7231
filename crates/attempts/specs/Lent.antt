-- The calls over a lent record. A refused one leaves the record as it came, every byte of it; an accepted one leaves the record of the
-- core, its flags as 0 and 1. Return and walk are those of `unwind`.
use Rattle.std.specs.Prelude.{ℕ, List, eqb}
use Rattle.types.specs.Kinds.{pick}
use Rattle.cpu.specs.declared.Cpu.{Cpu}
use Rattle.cpu.specs.Fresh.{fresh_cpu}
use Rattle.status.specs.Status.{get_sr, set_sr_noint_nosp}
use Rattle.status.specs.Banks.{backup_sp, restore_sp}
use Rattle.memory.specs.declared.Core.{Core}
use Rattle.memory.specs.World.{world}
use Rattle.numbers.specs.declared.RawCall.{RawCall}
use Rattle.boundary.specs.Calls.{Outcome, raw_call}
use Rattle.unwind.specs.Models.{Returned}
use Rattle.unwind.specs.Returns.{Walk}
use Rattle.unwind.specs.Unwind.{return_from, walk_from}
use Rattle.records.specs.declared.LentCpu.{LentCpu}
use Rattle.records.specs.declared.LentCore.{LentCore}
use Rattle.attempts.specs.declared.Said.{Said}
use Rattle.attempts.specs.declared.SaidReturn.{SaidReturn}
use Rattle.attempts.specs.declared.ServedReturn.{ServedReturn}
use Rattle.attempts.specs.declared.ServedStatus.{ServedStatus}
use Rattle.records.specs.Records.{raised_cpu, raised, lowered_cpu, lowered}

-- what a call leaves of all that was lent, and what it says
pub record Left : Type 0 where
  pub core : LentCore
  pub store : List ℕ
  pub log : List ℕ
  pub said : Said

abbrev pub left : LentCore → List ℕ → List ℕ → Said → Left
left c s l x = record { core = c; store = s; log = l; said = x }

abbrev pub says : ℕ → ℕ → ℕ → Said
says n a e = record { refused = n; answer = a; events = e }

-- the lent record c after a call that was refused by n, or left the record m
unfoldable pub record_after : LentCore → ℕ → Core → LentCore
record_after c n m = pick (eqb n 0) (lowered m) c

-- the call by number
unfoldable pub left_by : LentCore → Outcome → Left
left_by c x = left (record_after c x.refused x.after.core) x.after.store x.after.log (says x.refused x.answer x.events)

unfoldable pub lent_call : LentCore → List ℕ → List ℕ → RawCall → Left
lent_call c s l x = left_by c (raw_call (world (raised c) s l) x)

-- the return
abbrev pub served_return : LentCore → SaidReturn → ServedReturn
served_return c x = record { core = c; said = x }

unfoldable pub returned_by : LentCore → Returned → ServedReturn
returned_by c x = served_return (record_after c x.refused x.core) (record { refused = x.refused; row = x.row })

unfoldable pub lent_return : LentCore → List ℕ → ServedReturn
lent_return c s = returned_by c (return_from (raised c) s)

-- the walk of n into the buffer ws
unfoldable pub lent_walk : LentCore → List ℕ → ℕ → List ℕ → Walk
lent_walk c s n ws = walk_from (raised c) s n ws

-- a record after `new` and `set_cpu_type`
unfoldable pub lent_fresh : ℕ → LentCpu
lent_fresh k = lowered_cpu (fresh_cpu k)

-- the status register
unfoldable pub lent_sr : LentCpu → ℕ
lent_sr c = get_sr (raised_cpu c)

-- `set_sr`: the status under the kind's mask, M only with S, and the stacks swapped
unfoldable pub set_sr : Cpu → ℕ → Cpu
set_sr c sr = restore_sp (set_sr_noint_nosp (backup_sp c) sr)

-- the record with the status set, and the status as it reads then
abbrev pub served_status : LentCpu → ℕ → ServedStatus
served_status c n = record { cpu = c; status = n }

unfoldable pub lent_set_sr : LentCpu → ℕ → ServedStatus
lent_set_sr c sr = served_status (lowered_cpu (set_sr (raised_cpu c) sr)) (get_sr (set_sr (raised_cpu c) sr))
