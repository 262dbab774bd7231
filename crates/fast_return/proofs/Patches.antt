-- The record after a frame, from the parts that are made of it.
use Rattle.std.proofs.Common.{◌≡◌, ℕ, ◌<◌, length}
use Rattle.cpu.specs.declared.Cpu.{Cpu}
use Rattle.cpu.specs.declared.Regs.{Regs}
use Rattle.cpu.specs.declared.Flags.{Flags}
use Rattle.cpu.specs.Groups.{with_regs, with_flags}
use Rattle.cpu.specs.Fields.{kind_of, set_pc}
use Rattle.cpu.specs.Clocks.{clear_prefetch}
use Rattle.unwind.specs.Models.{Frame}
use Rattle.unwind.specs.Returns.{take_frame}
use Rattle.fast_return.specs.declared.seen.Seen.{Seen}
use Rattle.fast_return.specs.Seen.{seen, take_seen, banked_regs, back_flags}
use Rattle.fast_return.specs.SeenLaws.{banked_take}

pub patched_way : (c : Cpu) (f : Frame) (k : ℕ) (x y : Seen) (flags : Flags) (regs : Regs) (at d : Cpu) → (x ≡ seen c) × (15 < length c.regs.dar) × (7 < length c.regs.sp) → k ≡ kind_of c → y ≡ take_seen k x f → flags ≡ back_flags k c.flags f.status → regs ≡ banked_regs c.regs y → at ≡ set_pc c f.address → d ≡ clear_prefetch at
    → with_flags (with_regs d regs) flags ≡ take_frame c f
patched_way c f k x y flags regs at d n h0 h2 h3 h4 h5 h6 = rw (h6, h5, h4, h3, h2, n.0, h0) (banked_take c f n.1 n.2)
