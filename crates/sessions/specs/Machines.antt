-- What the definitions see of a session's machine, and of one that reads, with the store, the log and the output that a call is lent.
use Rattle.std.specs.Prelude.{ℕ, List, ◌+◌, ◌≤◌}
use Rattle.arrayvec.specs.ArrayVec.{ArrayVec, array_vec_len}
use Rattle.memory.specs.World.{world}
use Rattle.sessions.specs.declared.Machine.{Machine}
use Rattle.sessions.specs.declared.input.Reader.{Reader}
use Rattle.sessions.specs.Sessions.{Session, session}
use Rattle.sessions.specs.Input.{Under, under}

abbrev pub seen : Machine → List ℕ → List ℕ → ArrayVec ℕ → Session
seen m store log out = session (world m.core store log) out.items

abbrev pub reading : Reader → List ℕ → List ℕ → ArrayVec ℕ → Under
reading r store log out = under (seen r.machine store log out) r.line.items

-- n bytes more can be printed before the buffer is full
abbrev pub HasRoom : ℕ → ArrayVec ℕ → Type 0
HasRoom n out = array_vec_len out + n ≤ 163840

-- at most n bytes more are printed by then
abbrev pub GrowsBy : ℕ → ArrayVec ℕ → ArrayVec ℕ → Type 0
GrowsBy n out by_then = array_vec_len by_then ≤ array_vec_len out + n
