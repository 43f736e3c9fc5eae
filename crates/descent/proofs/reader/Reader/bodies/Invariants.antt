use Rattle.std.proofs.Common.{◌≤◌}
use Rattle.descent_lexer.specs.Text.{left}
use Rattle.descent.proofs.reader.Reader.bodies.Given as goal

abbrev pub invariant-loop-pending : goal.invariant-loop-pending
invariant-loop-pending l =
    goal.iterator-loop-pending.can_next l.pending-iterator ×
    goal.iterator-loop-pending.is_finite l.pending-iterator ×
    (left l.self.text ≤ left l.fn.self.text)
