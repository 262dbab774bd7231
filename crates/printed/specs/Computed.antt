-- One name for all that a worked session computes through: to unfold it is to unfold what its line names.
use Rattle.std.specs.Prelude.{ℕ, List}
use Rattle.cpu.specs.Fields.{set_ppc}
use Rattle.memory.specs.World.{poke_long}
use Rattle.answers.specs.Answers.{plain}
use Rattle.lines.specs.Numbers.{digit_of, reading, number_of}
use Rattle.lines.specs.Commands.{starts_with, space_in, byte_in, long_in, long_fields, ret_in, word_in, command_of}
use Rattle.prints.specs.Prints.{more, hex_byte, hex, decimal_of, state_line, row_line, refused_line}
use Rattle.sessions.specs.Walks.{row_texts, refusal_text, walk_text, walked}
use Rattle.sessions.specs.Sessions.{Session, fresh_bus, fresh_core, cleared, long_told, state_of, charge_of, answer_told, entered, interrupted, return_told, returned, act, step}
use Rattle.sessions.specs.Printed.{in_front, lines_of, steps}
use Rattle.rule3.specs.Computed.{nested}
use Rattle.printed.specs.Steps.{steps_of, nest_of}
use Rattle.printed.specs.Bytes.{printed_from}
use Rattle.printed.specs.Texts.{bytes_of}

unfoldable pub played : Session → List ℕ → List ℕ
unfolding nested plain set_ppc poke_long digit_of reading number_of starts_with space_in byte_in long_in long_fields ret_in word_in command_of more hex_byte hex decimal_of state_line row_line refused_line row_texts refusal_text walk_text walked fresh_bus fresh_core cleared long_told state_of charge_of answer_told entered interrupted return_told returned act step in_front lines_of steps steps_of nest_of printed_from bytes_of
played s input = printed_from s input
