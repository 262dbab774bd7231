use Rattle.std.proofs.Common.{◌+◌, ◌∙◌, sym, ap}
use Rattle.lines.specs.Numbers.{number_of}
use Rattle.lines.proofs.Commands.{long_none, long_bad_address, long_bad_value, long_good, rest}
use Rattle.lines.proofs.long_fields.Goals as goal

pub returns-in_err-space : goal.returns-in_err-space
returns-in_err-space c = c.from_residual.ensures ∙ long_none _ (sym c.in_err-space.ensures.place)

pub returns-in_err-address : goal.returns-in_err-address
returns-in_err-address c = c.from_residual-in_err-address.ensures ∙ long_bad_address _ c.in_ok-space.space (sym c.in_ok-space.ensures.place) c.in_err-address.ensures

pub returns-in_err-value : goal.returns-in_err-value
returns-in_err-value c = c.from_residual-in_err-value.ensures ∙ long_bad_value _ c.in_ok-space.space (sym c.in_ok-space.ensures.place) (c.in_err-value.ensures ∙ ap (number_of 16 8) (rest c.args.fields.now (c.in_ok-space.space + 1)))

pub returns : goal.returns
returns c = long_good _ c.in_ok-space.space (sym c.in_ok-space.ensures.place) _ _ c.in_ok-address.ensures (c.in_ok-value.ensures ∙ ap (number_of 16 8) (rest c.args.fields.now (c.in_ok-space.space + 1)))
