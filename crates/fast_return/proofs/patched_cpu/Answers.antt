use Rattle.fast_return.proofs.Patches.{patched_way}
use Rattle.fast_return.proofs.patched_cpu.Goals as goal

pub returns : goal.returns
returns c = patched_way _ _ _ _ _ _ _ _ _ c.of.ensures c.kind-kind.ensures c.taken-y.ensures c.back_flags-flags.ensures c.banked_regs-regs.ensures c.set_pc.ensures c.clear_prefetch-d.ensures
