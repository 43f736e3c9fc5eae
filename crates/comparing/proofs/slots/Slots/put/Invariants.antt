-- What is left of the letters, behind what is there, comes to what all of them come to.
use Rattle.std.proofs.Common.{◌≡◌, ◌++◌, drop, map}
use Rattle.descent_lexer.specs.Letters.{letter_number}
use Rattle.comparing.proofs.slots.Slots.put.Given as goal

abbrev pub invariant-loop-letter : goal.invariant-loop-letter
invariant-loop-letter l =
    (l.self.counts ≡ l.initial.self.counts)
    × (l.self.records.items ≡ l.initial.self.records.items)
    × (l.self.letters.items ++ map letter_number (drop l.letter-index l.item.letters.items) ≡ l.initial.self.letters.items ++ map letter_number l.item.letters.items)
