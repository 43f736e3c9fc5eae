use Rattle.std.proofs.Common.{◌^◌, ◌<◌}
use Rattle.descent_lexer.proofs.item.Reading.holes.Given as goal

abbrev pub invariant-loop-letter : goal.invariant-loop-letter
invariant-loop-letter l = l.mask < 2 ^ 10

abbrev pub invariant-loop-item : goal.invariant-loop-item
invariant-loop-item l = l.mask < 2 ^ 10
