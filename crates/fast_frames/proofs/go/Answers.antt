use Rattle.std.proofs.Common.{sym, ◌∙◌}
use Rattle.fast_plans.specs.Laws.{accepted_room}
use Rattle.fast_frames.specs.Laws.{frame_fits}
use Rattle.fast_frames.proofs.go.Goals as goal

pub enter-requires : goal.enter-requires
enter-requires c =
    let r = accepted_room _ _ _ (sym c.accepts.ensures ∙ c.if-not-accepts.false) in
    (rw c.frame_of.ensures (frame_fits _ _ _ _ _ (sym c.in-Some.ensures)).sized, r.0, r.1)
