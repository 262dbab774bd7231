use Rattle.std.proofs.Common.{arith, rules}
use Rattle.prints.specs.Prints.{more, refused_line}
use Rattle.prints.proofs.Joins.{join3, on_room, no_room}
use Rattle.prints.proofs.refused_line.Goals as goal

pub put_decimal-requires : goal.put_decimal-requires
put_decimal-requires g c = (search rules, omega (arith, c.remaining_capacity.ensures, c.if-remaining_capacity-ge-LINE_LIMIT.true, c.put.ensures.len))

pub push-requires : goal.push-requires
push-requires g c = (search rules, omega (arith, c.remaining_capacity.ensures, c.if-remaining_capacity-ge-LINE_LIMIT.true, c.put.ensures.len, c.put_decimal.ensures.bound))

pub returns-then-remaining_capacity-ge-LINE_LIMIT : goal.returns-then-remaining_capacity-ge-LINE_LIMIT
unfolding more refused_line
returns-then-remaining_capacity-ge-LINE_LIMIT g c = record {
  line = on_room _ _ _ _ (omega (arith, c.remaining_capacity.ensures, c.if-remaining_capacity-ge-LINE_LIMIT.true)) (join3 _ _ _ _ _ _ _ c.put.ensures.items c.put_decimal.ensures.items c.push.ensures.items);
  bound = omega (arith, c.put.ensures.len, c.put_decimal.ensures.bound, c.push.ensures.len);
}

pub returns-else-remaining_capacity-ge-LINE_LIMIT-clause-line : goal.returns-else-remaining_capacity-ge-LINE_LIMIT-clause-line
returns-else-remaining_capacity-ge-LINE_LIMIT-clause-line g c = no_room _ _ _ (omega (arith, c.remaining_capacity.ensures, c.if-remaining_capacity-ge-LINE_LIMIT.false))
