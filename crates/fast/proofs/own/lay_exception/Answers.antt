use Rattle.std.proofs.Common.{arith, rules}
use Rattle.fast.proofs.Rooms.{short_fits, any_fits}
use Rattle.fast.proofs.own.lay_exception.Goals as goal

pub short-requires : goal.short-requires
short-requires c = (short_fits _ _ _ c.requires.0 c.requires.1 c.in-Short.is, c.requires.1, omega (arith, c.tell_clocks-n.ensures.1), search rules)

pub three-requires : goal.three-requires
three-requires c = (any_fits _ _ _ c.requires.0 c.requires.1, c.requires.1, omega (arith, c.tell_clocks-n.ensures.1), search rules)
