use Rattle.std.proofs.Common.{arith}
use Rattle.lines.specs.Commands.{byte_in}
use Rattle.lines.proofs.numbers.byte_in.Goals as goal

pub returns-in_err-number : goal.returns-in_err-number
unfolding byte_in
returns-in_err-number c = grind arith

pub returns : goal.returns
unfolding byte_in
returns c = grind arith
