use Rattle.fast.proofs.Rooms.{old_way}
use Rattle.fast.proofs.stacks.old.Goals as goal

pub returns : goal.returns
returns c =
    old_way _ _ _ _ _ _ _ _ _ _ _ _ _ _ c.word.ensures (c.sync-a.ensures.0, c.sync-a.ensures.2) c.event.ensures (c.sync-b.ensures.0, c.sync-b.ensures.2) c.word-2.ensures c.word-3.ensures
