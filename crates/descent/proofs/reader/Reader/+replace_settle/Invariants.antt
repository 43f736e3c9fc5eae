-- Each replacement counts, and at most 64 are made; none of them reads on in the text.
use Rattle.std.proofs.Common.{◌≡◌, ◌+◌, ◌-◌, ◌*◌, ◌≤◌}
use Rattle.descent.proofs.reader.Reader.+replace_settle.Given as goal

abbrev pub decreases-settle : goal.decreases-settle
decreases-settle l = 2 * (65 - l.self.now.replaced) + 1

abbrev pub decreases-replace : goal.decreases-replace
decreases-replace l = 2 * (65 - l.self.now.replaced)

abbrev pub invariant-replace-loop-word : goal.invariant-replace-loop-word
invariant-replace-loop-word l =
    (goal.iterator-replace-loop-word).can_next l.word-iterator ×
    (goal.iterator-replace-loop-word).is_finite l.word-iterator ×
    (l.self.text ≡ l.initial.self.text) ×
    (l.initial.self.replaced ≤ l.self.replaced)
