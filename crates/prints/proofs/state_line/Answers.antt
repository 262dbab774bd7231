use Rattle.std.proofs.Common.{arith, rules}
use Rattle.prints.specs.Prints.{more, state_line}
use Rattle.prints.proofs.Joins.{join5, on_room, no_room}
use Rattle.prints.proofs.state_line.Goals as goal

pub put_field-requires : goal.put_field-requires
put_field-requires g c = (search rules, omega (arith, c.remaining_capacity.ensures, c.if-remaining_capacity-ge-LINE_LIMIT.true, c.put_decimal.ensures.bound))

pub put_field-requires-then-remaining_capacity-ge-LINE_LIMIT : goal.put_field-requires-then-remaining_capacity-ge-LINE_LIMIT
put_field-requires-then-remaining_capacity-ge-LINE_LIMIT g c = (search rules, omega (arith, c.remaining_capacity.ensures, c.if-remaining_capacity-ge-LINE_LIMIT.true, c.put_decimal.ensures.bound, c.put_field.ensures.len))

pub put_field-requires-then-remaining_capacity-ge-LINE_LIMIT-2 : goal.put_field-requires-then-remaining_capacity-ge-LINE_LIMIT-2
put_field-requires-then-remaining_capacity-ge-LINE_LIMIT-2 g c = (search rules, omega (arith, c.remaining_capacity.ensures, c.if-remaining_capacity-ge-LINE_LIMIT.true, c.put_decimal.ensures.bound, c.put_field.ensures.len, c.put_field-then-remaining_capacity-ge-LINE_LIMIT.ensures.len))

pub push-requires : goal.push-requires
push-requires g c = (search rules, omega (arith, c.remaining_capacity.ensures, c.if-remaining_capacity-ge-LINE_LIMIT.true, c.put_decimal.ensures.bound, c.put_field.ensures.len, c.put_field-then-remaining_capacity-ge-LINE_LIMIT.ensures.len, c.put_field-then-remaining_capacity-ge-LINE_LIMIT-2.ensures.len))

pub returns-then-remaining_capacity-ge-LINE_LIMIT : goal.returns-then-remaining_capacity-ge-LINE_LIMIT
unfolding more state_line
returns-then-remaining_capacity-ge-LINE_LIMIT g c = record {
  line = on_room _ _ _ _ (omega (arith, c.remaining_capacity.ensures, c.if-remaining_capacity-ge-LINE_LIMIT.true)) (join5 _ _ _ _ _ _ _ _ _ _ _ c.put_decimal.ensures.items c.put_field.ensures.items c.put_field-then-remaining_capacity-ge-LINE_LIMIT.ensures.items c.put_field-then-remaining_capacity-ge-LINE_LIMIT-2.ensures.items c.push.ensures.items);
  bound = omega (arith, c.put_decimal.ensures.bound, c.put_field.ensures.len, c.put_field-then-remaining_capacity-ge-LINE_LIMIT.ensures.len, c.put_field-then-remaining_capacity-ge-LINE_LIMIT-2.ensures.len, c.push.ensures.len);
}

pub returns-else-remaining_capacity-ge-LINE_LIMIT-clause-line : goal.returns-else-remaining_capacity-ge-LINE_LIMIT-clause-line
returns-else-remaining_capacity-ge-LINE_LIMIT-clause-line g c = no_room _ _ _ (omega (arith, c.remaining_capacity.ensures, c.if-remaining_capacity-ge-LINE_LIMIT.false))
