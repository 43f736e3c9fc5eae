use Rattle.std.proofs.Common.{◌≤◌, length}
use Rattle.descent_lexer.proofs.text.Text.of_template.Given as goal

abbrev pub invariant-loop-symbols : goal.invariant-loop-symbols
invariant-loop-symbols l = length l.rest ≤ length l.template

abbrev pub decreases-loop-symbols : goal.decreases-loop-symbols
decreases-loop-symbols l = length l.rest
