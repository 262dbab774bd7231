use Rattle.std.proofs.Common.{◌∙◌, arith}
use Rattle.lines.proofs.Digits.{number_none, number_read, read_stops, goes, read_ends, below, fits}
use Rattle.lines.proofs.numbers.number.Goals as goal

pub returns-then-is_empty : goal.returns-then-is_empty
returns-then-is_empty c = number_none _ _ _ (grind arith)

pub loop-b-init : goal.loop-b-init
loop-b-init c = (omega arith, omega arith, number_read _ _ _ (grind arith) c.if-limit-s.false)

pub overflow_mul-value : goal.overflow_mul-value
overflow_mul-value c = omega (arith, fits _ _ _ 0 _ c.loop-b.invariant.1 c.requires.1 (omega (arith, c.requires.0)) c.loop-b-test.true c.loop-b.invariant.0)

pub returns-in_err-value : goal.returns-in_err-value
returns-in_err-value c = c.from_residual.ensures ∙ read_stops _ _ _ _ _ c.requires.1 c.loop-b.invariant.2 c.loop-b-test.true (grind arith)

pub overflow_add-value : goal.overflow_add-value
overflow_add-value c = omega (arith, fits _ _ _ c.in_ok-value.field-0 _ c.loop-b.invariant.1 c.requires.1 (grind arith) c.loop-b-test.true c.loop-b.invariant.0)

pub loop-b-preserved : goal.loop-b-preserved
loop-b-preserved c = (c.loop-b.invariant.0, below _ _ _ c.in_ok-value.field-0 c.loop-b.invariant.1 c.requires.1 (grind arith), goes c.args.base c.loop-b.value c.loop-b.b-index c.in_ok-value.field-0 c.args.s.now _ c.requires.1 c.loop-b.invariant.2 c.loop-b-test.true (grind arith) (grind arith))

pub returns : goal.returns
returns c = read_ends _ _ _ _ _ c.loop-b.invariant.2 c.loop-b-test.false
