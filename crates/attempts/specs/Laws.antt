-- What a host would ask of the lent record.
use Rattle.std.specs.Prelude.{ℕ, ◌≡◌, refl, Bool, true, false, List, eqb}
use Rattle.memory.specs.declared.Core.{Core}
use Rattle.memory.specs.World.{world}
use Rattle.answers.specs.declared.Call.{Call}
use Rattle.numbers.specs.Numbers.{bit, flag}
use Rattle.answers.specs.Answers.{refused_by, value_of, count_of}
use Rattle.calls.specs.Calls.{refusal, perform}
use Rattle.numbers.specs.declared.RawCall.{RawCall}
use Rattle.std.specs.Prelude.{Some, None}
use Rattle.boundary.specs.Calls.{decode, of_performed, raw_of, raw_call}
use Rattle.records.specs.declared.LentCore.{LentCore}
use Rattle.records.specs.Records.{raised_vector, raised_code, raised_flow, raised_queue, raised_fault, raised_resume, raised_cpu, raised, lowered_vector, lowered_code, lowered_flow, lowered_queue, lowered_fault, lowered_resume, lowered_cpu, lowered}
use Rattle.attempts.specs.Lent.{left, says, record_after, left_by, lent_call}

-- a byte of 0 or 1 comes back as it was, any other as 1
pub flag_zero : bit (flag 0) ≡ 0
unfolding flag
flag_zero = refl

pub flag_one : bit (flag 1) ≡ 1
unfolding flag
flag_one = refl

pub flag_other : (n : ℕ) → eqb n 0 ≡ false → bit (flag n) ≡ 1
unfolding flag
flag_other n h = simp h

-- a bool comes back from its byte
pub bit_back : (b : Bool) → flag (bit b) ≡ b
unfolding flag
bit_back true = refl
bit_back false = refl

-- the record of the core comes back from the lent one
pub lowered_back : (m : Core) → raised (lowered m) ≡ m
unfolding raised raised_cpu raised_flow raised_queue raised_fault raised_resume raised_vector raised_code lowered lowered_cpu lowered_flow lowered_queue lowered_fault lowered_resume lowered_vector lowered_code
lowered_back m = simp bit_back

module _ (c : LentCore) (s l : List ℕ) (x : RawCall) where
  -- a refused call leaves record, store and log as they came, every byte
  pub refused_leaves : (k : Call) → decode x ≡ Some k → eqb (refusal (world (raised c) s l) k) 0 ≡ false → lent_call c s l x ≡ left c s l (says (refusal (world (raised c) s l) k) 0 0)
  unfolding lent_call left_by raw_call raw_of of_performed perform refused_by value_of count_of record_after
  refused_leaves k d e = simp (d, e)

  -- and so does a number that names no call
  pub unknown_leaves : decode x ≡ None → lent_call c s l x ≡ left c s l (says 99 0 0)
  unfolding lent_call left_by raw_call raw_of record_after
  unknown_leaves d = simp d

  -- an accepted call leaves the record of the core
  pub accepted_leaves : (lent_call c s l x).said.refused ≡ 0 → raised (lent_call c s l x).core ≡ (raw_call (world (raised c) s l) x).after.core
  unfolding lent_call left_by record_after
  accepted_leaves e = simp (e, lowered_back)
