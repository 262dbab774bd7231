use Rattle.sessions.specs.Sessions.{fresh_core}
use Rattle.sessions.proofs.fresh_core.Goals as goal

pub returns : goal.returns
unfolding fresh_core
returns c = cc
