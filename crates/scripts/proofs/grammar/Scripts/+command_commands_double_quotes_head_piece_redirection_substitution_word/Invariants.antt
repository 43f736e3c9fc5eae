-- Groups and substitutions nest no deeper than what is left; at one depth commands are made of words, and words of pieces.
use Rattle.std.proofs.Common.{◌+◌, ◌*◌}
use Rattle.scripts.proofs.grammar.Scripts.+command_commands_double_quotes_head_piece_redirection_substitution_word.Given as goal

abbrev pub decreases-commands : goal.decreases-commands
decreases-commands l = 8 * l.left + 7

abbrev pub decreases-command : goal.decreases-command
decreases-command l = 8 * l.left + 6

abbrev pub decreases-head : goal.decreases-head
decreases-head l = 8 * l.left + 5

abbrev pub decreases-redirection : goal.decreases-redirection
decreases-redirection l = 8 * l.left + 4

abbrev pub decreases-word : goal.decreases-word
decreases-word l = 8 * l.left + 3

abbrev pub decreases-piece : goal.decreases-piece
decreases-piece l = 8 * l.left + 2

abbrev pub decreases-double_quotes : goal.decreases-double_quotes
decreases-double_quotes l = 8 * l.left + 1

abbrev pub decreases-substitution : goal.decreases-substitution
decreases-substitution l = 8 * l.left
