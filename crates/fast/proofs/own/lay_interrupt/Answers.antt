use Rattle.std.proofs.Common.{arith, rules}
use Rattle.fast.proofs.Rooms.{late_fits, four_fits, any_fits}
use Rattle.fast.proofs.own.lay_interrupt.Goals as goal

pub short-requires : goal.short-requires
short-requires c = (late_fits _ _ _ c.requires.0 c.requires.1 c.in-Late.is, c.requires.1, omega (arith, c.tell_clocks-k.ensures.1), search rules)

pub four-requires : goal.four-requires
four-requires c = (four_fits _ _ _ c.requires.0 c.requires.1 c.in-Four.is, c.requires.1, omega (arith, c.tell_clocks-n.ensures.1), search rules)

pub old-requires : goal.old-requires
old-requires c = (any_fits _ _ _ c.requires.0 c.requires.1, c.requires.1, omega (arith, c.tell_clocks-n.ensures.1), search rules)
