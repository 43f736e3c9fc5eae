-- Frames nest at most 32 deep; at one depth commands read words, words their pieces, and pieces their expansions.
-- Each turn of a loop leaves less of the text.
use Rattle.std.proofs.Common.{◌+◌, ◌-◌, ◌*◌, ◌≤◌}
use Rattle.descent_lexer.specs.Text.{left}
use Rattle.descent.proofs.reader.Reader.+commands_dollar_double_quotes_group_operator_piece_substitution_word.Given as goal

abbrev pub decreases-commands : goal.decreases-commands
decreases-commands l = 8 * (33 - l.level.depth) + 7

abbrev pub decreases-operator : goal.decreases-operator
decreases-operator l = 8 * (33 - l.level.depth) + 6

abbrev pub decreases-group : goal.decreases-group
decreases-group l = 8 * (33 - l.level.depth) + 5

abbrev pub decreases-word : goal.decreases-word
decreases-word l = 8 * (33 - l.level.depth) + 4

abbrev pub decreases-piece : goal.decreases-piece
decreases-piece l = 8 * (33 - l.level.depth) + 3

abbrev pub decreases-double_quotes : goal.decreases-double_quotes
decreases-double_quotes l = 8 * (33 - l.level.depth) + 2

abbrev pub decreases-dollar : goal.decreases-dollar
decreases-dollar l = 8 * (33 - l.level.depth) + 1

abbrev pub decreases-substitution : goal.decreases-substitution
decreases-substitution l = 8 * (33 - l.level.depth)

abbrev pub invariant-commands-loop-sign : goal.invariant-commands-loop-sign
invariant-commands-loop-sign l = left l.self.text ≤ left l.fn.self.text

abbrev pub decreases-commands-loop-sign : goal.decreases-commands-loop-sign
decreases-commands-loop-sign l = left l.self.text

abbrev pub invariant-word-loop-sign : goal.invariant-word-loop-sign
invariant-word-loop-sign l = left l.self.text ≤ left l.fn.self.text - 1

abbrev pub decreases-word-loop-sign : goal.decreases-word-loop-sign
decreases-word-loop-sign l = left l.self.text

abbrev pub invariant-double_quotes-loop-sign : goal.invariant-double_quotes-loop-sign
invariant-double_quotes-loop-sign l = left l.self.text ≤ left l.fn.self.text - 1

abbrev pub decreases-double_quotes-loop-sign : goal.decreases-double_quotes-loop-sign
decreases-double_quotes-loop-sign l = left l.self.text
