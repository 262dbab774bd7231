use Rattle.std.proofs.Common.{ap, take, rules}
use Rattle.session.proofs.Plays.{played_start, played_goes, played_ends, on_ok}
use Rattle.session.proofs.play.Goals as goal

pub loop-init : goal.loop-init
loop-init g c = played_start _ _ _

pub returns-then-n-eq0 : goal.returns-then-n-eq0
returns-then-n-eq0 g c =
    on_ok c.write_all.result c.write_all.ensures.bytes
    (λ h. played_ends _ _ _ _ _ _ _ _ _ _ _ c.loop.invariant (ap (λ k. take k c.read.new.buf) c.if-n-eq0.true) c.in_ok-n.ensures.bytes.0
    (c.in_ok-n.ensures.bytes.1 c.if-n-eq0.true (search rules)) c.finish.ensures.finished c.as_slice.ensures.value h)

pub loop-preserved : goal.loop-preserved
loop-preserved g c = played_goes _ _ _ _ _ _ _ _ _ _ c.loop.invariant c.in_ok-n.ensures.bytes.0 c.in_ok-take_read.ensures
