use Rattle.std.proofs.Common.{◌≤◌}
use Rattle.descent_lexer.specs.Text.{left}
use Rattle.descent_lexer.proofs.text.Text.peek.Given as goal

abbrev pub invariant-loop-self : goal.invariant-loop-self
invariant-loop-self l = left l.self ≤ left l.initial.self

abbrev pub decreases-loop-self : goal.decreases-loop-self
decreases-loop-self l = left l.self
