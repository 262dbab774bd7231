use Rattle.std.proofs.Common.{◌∙◌, ap, arith, rules, sym}
use Rattle.prints.specs.Prints.{more}
use Rattle.prints.proofs.Joins.{decimal_is, short_digits}
use Rattle.prints.proofs.put_decimal.Goals as goal

pub put-requires : goal.put-requires
put-requires g c = (search rules, omega (arith, short_digits _ _ c.args.v c.as_bytes.ensures.value c.format.ensures.text c.ranges.v.fits, c.requires))

pub returns : goal.returns
returns g c = record {
  items = c.put.ensures.items ∙ ap (more c.args.out.now.items) (c.as_bytes.ensures.value ∙ c.format.ensures.text ∙ sym (decimal_is c.args.v c.ranges.v.fits));
  bound = omega (arith, c.put.ensures.len, short_digits _ _ c.args.v c.as_bytes.ensures.value c.format.ensures.text c.ranges.v.fits);
}
