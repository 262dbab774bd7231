use Rattle.std.proofs.Common.{lt-ltb, le-ltb}
use Rattle.lines.specs.Commands.{command_of}
use Rattle.lines.proofs.parse.Goals as goal

pub returns-then-line-gt-LINE_LIMIT : goal.returns-then-line-gt-LINE_LIMIT
unfolding command_of
returns-then-line-gt-LINE_LIMIT c = rw (lt-ltb _ _ c.if-line-gt-LINE_LIMIT.true)

pub returns : goal.returns
unfolding command_of
returns c = rw (le-ltb _ _ c.if-line-gt-LINE_LIMIT.false) c.word_in.ensures
