-- What the definitions speak of: a frame, the record after a return, and record and bus after one, each with the number that refuses it, 0
-- for none.
use Rattle.std.specs.Prelude.{ℕ}
use Rattle.cpu.specs.declared.Cpu.{Cpu}
use Rattle.memory.specs.declared.Core.{Core}
use Rattle.unwind.specs.declared.returns.Row.{Row}

-- what a frame says, and its bytes; on kind 1 format and offset are 0
pub record Frame : Type 0 where
  pub refused : ℕ
  pub format : ℕ
  pub status : ℕ
  pub address : ℕ
  pub offset : ℕ
  pub size : ℕ

-- the record after a return and its row; or the record as it was and the number that refuses
pub record Back : Type 0 where
  pub cpu : Cpu
  pub refused : ℕ
  pub row : Row

-- record and bus after a return, and its row
pub record Returned : Type 0 where
  pub core : Core
  pub refused : ℕ
  pub row : Row
