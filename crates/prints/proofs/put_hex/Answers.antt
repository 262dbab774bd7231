use Rattle.std.proofs.Common.{arith, rules}
use Rattle.prints.proofs.Joins.{hex_none, hex_more, hex_all}
use Rattle.prints.proofs.put_hex.Goals as goal

pub loop-place-init : goal.loop-place-init
loop-place-init g c = (omega arith, c.requires.1, hex_none _ _ _, omega arith)

pub push-requires : goal.push-requires
push-requires g c = (search rules, omega (arith, c.loop-place.invariant.1, c.loop-place-test.true))

pub loop-place-preserved : goal.loop-place-preserved
loop-place-preserved g c = (omega (arith, c.loop-place.invariant.0), omega (arith, c.push.ensures.len, c.loop-place.invariant.1, c.loop-place-test.true), hex_more _ _ _ _ _ _ _ c.loop-place-test.true c.loop-place.invariant.0 c.loop-place.invariant.2 c.hex_byte.ensures c.push.ensures.items, omega (arith, c.push.ensures.len, c.loop-place.invariant.3, c.loop-place.invariant.0, c.loop-place-test.true))

pub returns : goal.returns
returns g c = record {
  items = hex_all _ _ _ _ _ c.loop-place-test.false c.loop-place.invariant.2;
  len = omega (arith, c.loop-place.invariant.3, c.loop-place-test.false);
}
