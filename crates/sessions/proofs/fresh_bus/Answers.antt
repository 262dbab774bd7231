use Rattle.std.proofs.Common.{refl}
use Rattle.sessions.specs.Sessions.{fresh_bus}
use Rattle.sessions.proofs.fresh_bus.Goals as goal

pub returns : goal.returns
unfolding fresh_bus
returns c = refl
