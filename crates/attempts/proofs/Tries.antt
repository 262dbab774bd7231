-- What the fast way reads of a lent record, and the attempt: from what each step ensures.
use Prim.Native.Nat.{ℕ}
use mathlib.Core.Path.{◌≡◌, sym, ◌∙◌}
use mathlib.Core.Bool.{Bool, true}
use mathlib.Core.List.{List}
use Rattle.cpu.specs.Fields.{wdata_of}
use Rattle.numbers.specs.declared.RawCall.{RawCall}
use Rattle.records.specs.declared.LentCore.{LentCore}
use Rattle.records.specs.Records.{raised, raised_cpu, raised_fault, raised_code}
use Rattle.fast_plans.specs.declared.View.{View}
use Rattle.fast_plans.specs.declared.Patch.{Patch}
use Rattle.fast_plans.specs.Views.{view_of}
use Rattle.fast_laws.specs.Patched.{Words, Fetched}
use Rattle.fast.specs.Patches.{ended, go_of}
use Rattle.fast_plans.specs.Quiet.{no_patch}
use Rattle.fast_frames.specs.Entries.{go_of as framed}
use Rattle.attempts.specs.declared.Attempted.{Attempted}
use Rattle.attempts.specs.Attempts.{is_tidy, attempted_by, Tried}
use Rattle.attempts.specs.Patched.{tidy, tried, not_tried}
use Rattle.attempts.specs.Framed.{tried_framed}

pub attempt_way : (c : LentCore) (call : RawCall) (s l : List ℕ) {b : Bool} {x : View} {q : Patch} {s1 l1 : List ℕ} {r : Attempted} → b ≡ is_tidy c → b ≡ true
    → Words (raised c)
    → x ≡ view_of (raised c) → ended q s1 l1 ≡ go_of x call s l → Fetched q → r ≡ attempted_by q → Tried c call s l r s1 l1
attempt_way c call s l {q = q} {s1 = s1} {l1 = l1} h0 h1 f h2 h3 w h4 =
    rw h4 (tried c call s l (ended q s1 l1) (tidy c (sym h0 ∙ h1)) f w (rw h2 at h3))

-- an entry whose frame is data
pub framed_way : (c : LentCore) (call : RawCall) (s l : List ℕ) {b : Bool} {x : View} {q : Patch} {s1 l1 : List ℕ} {r : Attempted} → b ≡ is_tidy c → b ≡ true
    → Words (raised c)
    → x ≡ view_of (raised c) → ended q s1 l1 ≡ framed x c.cpu.fault.pending_fault_wdata c.cpu.fault.mmu_fc_override.value call s l → Fetched q → r ≡ attempted_by q → Tried c call s l r s1 l1
unfolding raised raised_cpu raised_fault raised_code wdata_of
framed_way c call s l {q = q} {s1 = s1} {l1 = l1} h0 h1 f h2 h3 w h4 =
    rw h4 (tried_framed c call s l (ended q s1 l1) (tidy c (sym h0 ∙ h1)) f w (rw h2 at h3))

pub attempt_way_2 : (c : LentCore) (call : RawCall) (s l : List ℕ) {q : Patch} {r : Attempted} → q ≡ no_patch → r ≡ attempted_by q → Tried c call s l r s l
attempt_way_2 c call s l h0 h1 = rw (h1, h0) (not_tried c call s l)
