-- What the bytes taken so far make of the session, and there is room for what one more may print.
use Rattle.std.proofs.Common.{◌≡◌, ◌≤◌, ◌+◌, take, []}
use Rattle.arrayvec.specs.ArrayVec.{array_vec_len}
use Rattle.memory.specs.World.{world}
use Rattle.sessions.specs.Sessions.{session}
use Rattle.sessions.specs.Input.{under, taken_all}
use Rattle.sessions.specs.Machines.{reading}
use Rattle.sessions.proofs.input.Reader.take_block.Given as goal

abbrev pub invariant-loop-used : goal.invariant-loop-used
invariant-loop-used l =
    (array_vec_len l.out + 82000 ≤ 163840)
    × (reading l.self l.store l.log l.out ≡ taken_all (under (session (world l.initial.self.machine.core l.initial.store l.initial.log) []) l.initial.self.line.items) (take l.used l.bytes))
