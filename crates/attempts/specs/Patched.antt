-- The lent record with a patch is the core's record with it, as it is lent, where every flag byte is 0 or 1.
use Rattle.std.specs.Prelude.{ℕ, zero, suc, ◌≤◌, ◌<◌, ◌≡◌, Bool, true, false, not, List, eqb, ltb}
use Rattle.std.proofs.Math.Path.{refl}
use Rattle.std.proofs.Common.{ap, arith, ltb-true, ltb-false}
use Rattle.types.specs.Kinds.{pick}
use Rattle.numbers.specs.Numbers.{bit, flag}
use Rattle.memory.specs.World.{world}
use Rattle.numbers.specs.declared.RawCall.{RawCall}
use Rattle.boundary.specs.Calls.{Outcome, outcome, raw_call}
use Rattle.records.specs.declared.LentCore.{LentCore}
use Rattle.records.specs.Records.{raised_vector, raised_code, raised_flow, raised_queue, raised_fault, raised_resume, raised_cpu, raised, lowered_vector, lowered_code, lowered_flow, lowered_queue, lowered_fault, lowered_resume, lowered_cpu, lowered}
use Rattle.fast_laws.specs.Patched.{patch_cpu, patch_of, calm_of, Words, Fetched}
use Rattle.fast_plans.specs.Views.{view_of}
use Rattle.fast.specs.Patches.{Ended, go_of}
use Rattle.fast_plans.specs.Patched.{patched_regs, patched_flags, calmed_flags, patched_cycles, patched_fpiar, patched_words, patched_count}
use Rattle.fast_plans.specs.Quiet.{no_patch, is_entry, is_calm, is_idle}
use Rattle.fast_laws.specs.Matched.{kept}
use Rattle.fast_laws.proofs.Matched.{entry_same, calm_same, idle_same}
use Rattle.attempts.specs.declared.Attempted.{Attempted}
use Rattle.attempts.specs.Lent.{left, says, record_after, left_by, lent_call}
use Rattle.attempts.specs.Attempts.{is_tidy, attempted_by, patched_flow, patched_queue, patched_fault, patched_cpu, patched_by, calmed_flow, calmed_cpu, calmed_by, Tried}

-- a byte of 0 or 1 comes back
tidy_byte : (n : ℕ) → ltb 1 n ≡ false → bit (flag n) ≡ n
unfolding flag
tidy_byte n e = go n (ltb-false 1 n e)
  where
    go : (k : ℕ) → k ≤ 1 → bit (not (eqb k 0)) ≡ k
    go zero h = refl
    go (suc zero) h = refl
    go (suc (suc k)) h = absurd (omega arith)

-- every flag byte that an entry leaves alone
pub record Tidy (c : LentCore) : Type 0 where
  pub exception : bit (flag c.cpu.flow.exception_processing) ≡ c.cpu.flow.exception_processing
  pub change : bit (flag c.cpu.flow.change_of_flow) ≡ c.cpu.flow.change_of_flow
  pub loop : bit (flag c.cpu.flow.loop_mode) ≡ c.cpu.flow.loop_mode
  pub precise : bit (flag c.cpu.queue.precise_bus) ≡ c.cpu.queue.precise_bus
  pub instruction : bit (flag c.cpu.fault.instruction_exception_vector.some) ≡ c.cpu.fault.instruction_exception_vector.some
  pub last : bit (flag c.cpu.fault.last_exception_vector.some) ≡ c.cpu.fault.last_exception_vector.some
  pub code : bit (flag c.cpu.fault.mmu_fc_override.some) ≡ c.cpu.fault.mmu_fc_override.some
  pub resume : bit (flag c.cpu.fault_resume.some) ≡ c.cpu.fault_resume.some

false_first : (b : Bool) {y : Bool} → pick b false y ≡ true → (b ≡ false) × (y ≡ true)
false_first true e = absurd (clash e)
  where
    clash : false ≡ true → ⊥
    clash h = let z : ◌≡◌ {A = ℕ} 0 1 = cc in omega arith
false_first false e = (refl, e)

pub tidy : (c : LentCore) → is_tidy c ≡ true → Tidy c
unfolding is_tidy
tidy c e =
    let t1 = false_first (ltb 1 c.cpu.flow.exception_processing) e in
    let t2 = false_first (ltb 1 c.cpu.flow.change_of_flow) t1.1 in
    let t3 = false_first (ltb 1 c.cpu.flow.loop_mode) t2.1 in
    let t4 = false_first (ltb 1 c.cpu.queue.precise_bus) t3.1 in
    let t5 = false_first (ltb 1 c.cpu.fault.instruction_exception_vector.some) t4.1 in
    let t6 = false_first (ltb 1 c.cpu.fault.last_exception_vector.some) t5.1 in
    let t7 = false_first (ltb 1 c.cpu.fault.mmu_fc_override.some) t6.1 in
    let t8 : c.cpu.fault_resume.some < 2 = ltb-true c.cpu.fault_resume.some 2 t7.1 in
    record {
      exception = tidy_byte _ t1.0;
      change = tidy_byte _ t2.0;
      loop = tidy_byte _ t3.0;
      precise = tidy_byte _ t4.0;
      instruction = tidy_byte _ t5.0;
      last = tidy_byte _ t6.0;
      code = tidy_byte _ t7.0;
      resume = tidy_byte _ (small c.cpu.fault_resume.some t8);
    }
  where
    small : (n : ℕ) → n < 2 → ltb 1 n ≡ false
    small zero h = refl
    small (suc zero) h = refl
    small (suc (suc n)) h = absurd (omega arith)

pub patched_law : (c : LentCore) (x : Attempted) → Tidy c → lowered (patch_of (raised c) x.patch) ≡ patched_by c x
unfolding lowered lowered_cpu lowered_flow lowered_queue lowered_fault lowered_resume lowered_vector lowered_code raised raised_cpu raised_flow raised_queue raised_fault raised_resume raised_vector raised_code patch_of patch_cpu patched_by patched_cpu patched_regs patched_flow patched_flags patched_queue patched_fault patched_cycles patched_fpiar patched_words patched_count
patched_law c x t =
    rw (t.exception, t.change, t.precise, t.code, t.resume) refl

pub calmed_law : (c : LentCore) (x : Attempted) → Tidy c → lowered (calm_of (raised c) x.patch) ≡ calmed_by c x
unfolding lowered lowered_cpu lowered_flow lowered_queue lowered_fault lowered_resume lowered_vector lowered_code raised raised_cpu raised_flow raised_queue raised_fault raised_resume raised_vector raised_code calm_of calmed_by calmed_cpu calmed_flow calmed_flags
calmed_law c x t = rw (t.exception, t.loop, t.precise, t.instruction, t.last, t.code, t.resume) refl

pub lent_law : (c : LentCore) → Tidy c → lowered (raised c) ≡ c
unfolding lowered lowered_cpu lowered_flow lowered_queue lowered_fault lowered_resume lowered_vector lowered_code raised raised_cpu raised_flow raised_queue raised_fault raised_resume raised_vector raised_code
lent_law c t = rw (t.exception, t.change, t.loop, t.precise, t.instruction, t.last, t.code, t.resume) refl

-- an outcome that is the call's, over the lent record
pub lent_by : (c : LentCore) (call : RawCall) (s l : List ℕ) (m : LentCore) (o : Outcome) → lowered o.after.core ≡ m → o.refused ≡ 0 → o ≡ raw_call (world (raised c) s l) call
    → left m o.after.store o.after.log (says 0 o.answer o.events) ≡ lent_call c s l call
unfolding lent_call left_by record_after
lent_by c call s l m o h z k = rw (← k, z, ← h) refl

-- what the fast way did is the call over the lent record
module _ (c : LentCore) (call : RawCall) (s l : List ℕ) (g : Ended) (t : Tidy c) (w : Words (raised c)) (q : Fetched g.patch) (e : g ≡ go_of (view_of (raised c)) call s l) where
  pub tried : Tried c call s l (attempted_by g.patch) g.store g.log
  unfolding attempted_by
  tried =
      record {
        idle = λ h. lent_by c call s l c (outcome (world (raised c) g.store g.log) 0 g.patch.answer g.patch.events) (lent_law c t) refl (rw (← e) at (idle_same (raised c) call s l (rw e at (ap is_idle h))));
        calm = λ h.
            lent_by c call s l (calmed_by c (attempted_by g.patch)) (outcome (world (calm_of (raised c) g.patch) g.store g.log) 0 g.patch.answer g.patch.events) (calmed_law c (attempted_by g.patch) t) refl
            (rw (← e) at (calm_same (raised c) call s l (rw e at (ap is_calm h))));
        fast = λ h.
            lent_by c call s l (patched_by c (attempted_by g.patch)) (outcome (world (patch_of (raised c) g.patch) g.store g.log) 0 g.patch.answer g.patch.events) (patched_law c (attempted_by g.patch) t) refl
            (rw (← e) at (entry_same (raised c) call s l w (rw e at q) (rw e at (ap is_entry h))));
        store = λ h. rw e (kept (view_of (raised c)) call s l (rw e at (ap is_entry h))).0;
        log = λ h. rw e (kept (view_of (raised c)) call s l (rw e at (ap is_entry h))).1;
      }

-- a call that is not tried
pub not_tried : (c : LentCore) (call : RawCall) (s l : List ℕ) → Tried c call s l (attempted_by no_patch) s l
unfolding attempted_by no_patch
not_tried c call s l =
    record { idle = λ h. absurd (clash (ap is_idle h)); calm = λ h. absurd (clash (ap is_calm h)); fast = λ h. absurd (clash (ap is_entry h)); store = λ h. refl; log = λ h. refl }
  where
    clash : false ≡ true → ⊥
    clash h = let z : ◌≡◌ {A = ℕ} 0 1 = cc in omega arith
