use Rattle.session.proofs.Plays.{at_start, prints, on_ok}
use Rattle.session.proofs.play_from_start.Goals as goal

pub returns : goal.returns
returns g c = on_ok c.play.result c.play.ensures (λ h. prints _ _ _ _ (at_start _ _ _ c.fresh_core.ensures c.new-out.ensures c.new.ensures) h)
