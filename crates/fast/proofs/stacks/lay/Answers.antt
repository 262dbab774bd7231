use Rattle.std.proofs.Common.{arith, rules}
use Rattle.fast.proofs.Rooms.{short_fits, late_fits, four_fits, long_fits, any_fits}
use Rattle.fast.proofs.stacks.lay.Goals as goal

pub short-requires : goal.short-requires
short-requires c = (late_fits _ _ _ c.requires.0 c.requires.1 c.in-Late.is, c.requires.1, omega (arith, c.tell_clocks-k.ensures.1), search rules)

pub short-requires-in-Short : goal.short-requires-in-Short
short-requires-in-Short c = (short_fits _ _ _ c.requires.0 c.requires.1 c.in-Short.is, c.requires.1, omega (arith, c.tell_clocks-n.ensures.1), search rules)

pub long-requires : goal.long-requires
long-requires c = (long_fits _ _ _ c.requires.0 c.requires.1 c.in-Long.is, omega (arith, c.tell_clocks-n.ensures.1), search rules)

pub four-requires : goal.four-requires
four-requires c = (four_fits _ _ _ c.requires.0 c.requires.1 c.in-Four.is, c.requires.1, omega (arith, c.tell_clocks-n.ensures.1), search rules)

pub old-requires : goal.old-requires
old-requires c = (any_fits _ _ _ c.requires.0 c.requires.1, c.requires.1, omega (arith, c.tell_clocks-n.ensures.1), search rules)

pub three-requires : goal.three-requires
three-requires c = (any_fits _ _ _ c.requires.0 c.requires.1, c.requires.1, omega (arith, c.tell_clocks-n.ensures.1), search rules)

pub short-requires-in-Long : goal.short-requires-in-Long
short-requires-in-Long c =
    let f = long_fits _ _ _ c.requires.0 c.requires.1 c.in-Long.is in
    (record { place = omega (arith, f.place, c.long.ensures); address = omega (arith, f.address) }, c.requires.1, omega (arith, c.tell_clocks-n.ensures.1), search rules)
