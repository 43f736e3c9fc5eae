-- The numbers of letters: the mark's number times 256, and the byte.
use Rattle.std.specs.Prelude.{ℕ, ◌+◌}
use Rattle.descent_lexer.specs.declared.item.Letter.{Letter}
use Rattle.descent_lexer.specs.declared.item.Letter.TheVariants.{Bare, Quoted, Expansion, Body, Hole}

abbrev pub letter_number : Letter → ℕ
letter_number (Bare b) = b
letter_number (Quoted b) = 256 + b
letter_number (Expansion b) = 512 + b
letter_number (Body b) = 768 + b
letter_number (Hole digit) = 1024 + digit
