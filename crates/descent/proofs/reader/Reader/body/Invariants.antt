-- Each turn leaves less of the text.
use Rattle.std.proofs.Common.{◌≤◌}
use Rattle.descent_lexer.specs.Text.{left}
use Rattle.descent.proofs.reader.Reader.body.Given as goal

abbrev pub invariant-loop-self : goal.invariant-loop-self
invariant-loop-self l = left l.self.text ≤ left l.fn.self.text

abbrev pub decreases-loop-self : goal.decreases-loop-self
decreases-loop-self l = left l.self.text
