use Rattle.std.proofs.Common.{◌≡◌, drop, vec_items}
use Rattle.journal.specs.Escapes.{unescaped, unescaped_from, behind}
use Rattle.journal.proofs.unescape.unescape.Given as goal

-- what the rest of the word stands for, behind the bytes so far, is what the word stands for
abbrev pub invariant-loop-b : goal.invariant-loop-b
invariant-loop-b l = behind (vec_items l.bytes) (unescaped_from l.place (drop l.b-index l.word)) ≡ unescaped l.word
