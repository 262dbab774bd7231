-- An entry whose frame is data, by its fast way, is the call over the lent record.
use Rattle.std.specs.Prelude.{◌≡◌, List, ℕ}
use Rattle.std.proofs.Math.Path.{refl}
use Rattle.std.proofs.Common.{sym, ap, ◌∙◌}
use Rattle.cpu.specs.Fields.{wdata_of}
use Rattle.memory.specs.World.{world}
use Rattle.numbers.specs.declared.RawCall.{RawCall}
use Rattle.boundary.specs.Calls.{outcome}
use Rattle.records.specs.declared.LentCore.{LentCore}
use Rattle.records.specs.Records.{raised}
use Rattle.fast_laws.specs.Patched.{patch_of, Words, Fetched}
use Rattle.fast_plans.specs.Views.{view_of}
use Rattle.fast.specs.Patches.{Ended}
use Rattle.fast_laws.specs.Accepts.{false_true}
use Rattle.fast_frames.specs.Matched.{kept, never_calm, never_idle, code_of, went_by, framed_same}
use Rattle.attempts.specs.Attempts.{attempted_by, patched_by, Tried}
use Rattle.attempts.specs.Patched.{Tidy, patched_law, lent_by}
use Rattle.fast_plans.specs.Quiet.{is_entry, is_calm, is_idle}

module _ (c : LentCore) (call : RawCall) (s l : List ℕ) (g : Ended) (t : Tidy c) (w : Words (raised c)) (q : Fetched g.patch) (e : g ≡ went_by (raised c) call s l) where
  pub tried_framed : Tried c call s l (attempted_by g.patch) g.store g.log
  unfolding attempted_by
  tried_framed =
      record {
        idle = λ h. false_true _ (sym (never_idle (view_of (raised c)) (wdata_of (raised c).cpu) (code_of (raised c).cpu) call s l) ∙ rw e at (ap is_idle h));
        calm = λ h. false_true _ (sym (never_calm (view_of (raised c)) (wdata_of (raised c).cpu) (code_of (raised c).cpu) call s l) ∙ rw e at (ap is_calm h));
        fast = λ h.
            lent_by c call s l (patched_by c (attempted_by g.patch)) (outcome (world (patch_of (raised c) g.patch) g.store g.log) 0 g.patch.answer g.patch.events) (patched_law c (attempted_by g.patch) t) refl
            (rw (← e) at (framed_same (raised c) call s l w (rw e at q) (rw e at (ap is_entry h))));
        store = λ h. rw e (kept (view_of (raised c)) (wdata_of (raised c).cpu) (code_of (raised c).cpu) call s l (rw e at (ap is_entry h))).0;
        log = λ h. rw e (kept (view_of (raised c)) (wdata_of (raised c).cpu) (code_of (raised c).cpu) call s l (rw e at (ap is_entry h))).1;
      }
