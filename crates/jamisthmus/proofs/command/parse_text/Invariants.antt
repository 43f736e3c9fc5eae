use Rattle.std.specs.Vec.Iter.{into_iter_len}
use Rattle.jamisthmus.proofs.command.parse_text.Given as goal

-- the words that are left
abbrev pub decreases-loop-word : goal.decreases-loop-word
decreases-loop-word l = into_iter_len l.words
