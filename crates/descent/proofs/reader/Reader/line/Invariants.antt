-- Each turn leaves less of the text.
use Rattle.std.proofs.Common.{◌≤◌}
use Rattle.descent_lexer.specs.Text.{left}
use Rattle.descent.proofs.reader.Reader.line.Given as goal

abbrev pub invariant-loop-line : goal.invariant-loop-line
invariant-loop-line l = (left l.self.text ≤ left l.fn.self.text)

abbrev pub decreases-loop-line : goal.decreases-loop-line
decreases-loop-line l = left l.self.text
