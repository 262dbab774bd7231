-- The return by a fast way: what an attempt says, and the record after it.
use Rattle.std.specs.Prelude.{ℕ, ◌≡◌, List}
use Rattle.std.proofs.Common.{sym, ap, ◌∙◌}
use Rattle.cpu.specs.Fields.{set_a7, set_pc}
use Rattle.cpu.specs.Clocks.{clear_prefetch}
use Rattle.status.specs.Status.{put_back_sr}
use Rattle.status.specs.Banks.{backup_sp, restore_sp}
use Rattle.memory.specs.declared.Core.{Core}
use Rattle.memory.specs.World.{put_cpu}
use Rattle.unwind.specs.Returns.{raise_a7, swap_sr, take_frame}
use Rattle.unwind.specs.Unwind.{return_from}
use Rattle.fast_return.specs.declared.ReturnPatch.{ReturnPatch}
use Rattle.fast_return.specs.Patch.{going, patch_back, patch_returned}
use Rattle.records.specs.declared.LentCore.{LentCore}
use Rattle.records.specs.declared.LentResume.{LentResume}
use Rattle.attempts.specs.declared.AttemptedReturn.{AttemptedReturn}
use Rattle.records.specs.Records.{raised_resume, raised_cpu, raised, lowered_resume, lowered_cpu, lowered}
use Rattle.attempts.specs.Lent.{record_after, served_return, returned_by, lent_return}

-- the lent record with the patch of a return
unfoldable pub restored_by : LentCore → AttemptedReturn → LentCore
restored_by c x = lowered (patch_back (raised c) (going x.patch))

-- an attempt that did the return, but for the patch
pub record TriedReturn (c : LentCore) (s : List ℕ) (x : AttemptedReturn) : Type 0 where
  pub same : served_return (restored_by c x) x.said ≡ lent_return c s

pub attempt_law : (c : LentCore) (s : List ℕ) (m : Core) (q : ReturnPatch) → m ≡ raised c → return_from m s ≡ patch_returned m (going q)
    → TriedReturn c s (record { said = record { refused = 0; row = q.row }; patch = q })
unfolding restored_by lent_return returned_by record_after patch_returned
attempt_law c s m q e h =
    record {
      same = sym (ap (returned_by c) (ap (λ (x : Core). return_from x s) (sym e) ∙ h ∙ ap (λ (x : Core). patch_returned x (going q)) e));
    }

-- what a faulted instruction keeps is not touched but for its flag
pub restored_law : (d : LentCore) (x : AttemptedReturn) (m e : Core) (l : LentCore) (r : LentResume) → m ≡ raised d → e ≡ patch_back m (going x.patch) → l ≡ lowered e → r ≡ lowered_resume (raised_resume d.cpu.fault_resume)
    → (record { cpu = record { regs = l.cpu.regs; flow = l.cpu.flow; flags = l.cpu.flags; queue = l.cpu.queue; fault = l.cpu.fault; fault_resume = r }; bus = l.bus }) ≡ restored_by d x
unfolding restored_by lowered lowered_cpu raised raised_cpu patch_back put_cpu take_frame clear_prefetch set_pc swap_sr restore_sp backup_sp raise_a7 set_a7 put_back_sr
restored_law d x m e l r h0 h1 h2 h3 = rw (h3, h2, h1, h0)
