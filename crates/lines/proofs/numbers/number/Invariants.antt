use Rattle.std.proofs.Common.{◌≡◌, ◌≤◌, ◌<◌, ◌^◌, length, drop}
use Rattle.lines.specs.Numbers.{reading, number_of}
use Rattle.lines.proofs.numbers.number.Given as goal

abbrev pub invariant-loop-b : goal.invariant-loop-b
invariant-loop-b l = (length l.s ≤ 8) × (l.value < 16 ^ l.b-index) × (reading l.base l.value (drop l.b-index l.s) ≡ number_of l.base l.limit l.s)
