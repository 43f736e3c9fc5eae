-- Each turn leaves less of the text.
use Rattle.std.proofs.Common.{◌≤◌}
use Rattle.descent_lexer.specs.Text.{left}
use Rattle.descent.proofs.reader.Reader.name.Given as goal

abbrev pub invariant-loop-b : goal.invariant-loop-b
invariant-loop-b l = left l.self.text ≤ left l.fn.self.text

abbrev pub decreases-loop-b : goal.decreases-loop-b
decreases-loop-b l = left l.self.text
