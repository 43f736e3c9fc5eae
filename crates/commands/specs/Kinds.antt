-- Kinds of items as numbers. Assumes nothing.
use Rattle.std.specs.Prelude.{ℕ}
use Rattle.tokens.specs.Operators.{code_of}
use Rattle.commands.specs.declared.item.Kind.{Kind}
use Rattle.commands.specs.declared.item.Kind.TheVariants.{Part, Open, Close, Word, Operator, Body}
use Rattle.commands.specs.Roles.{role_number}

abbrev pub kind_number : Kind → ℕ
kind_number Part = 1
kind_number Open = 2
kind_number Close = 3
kind_number (Word r) = 4
kind_number (Operator o) = 5
kind_number Body = 6

-- the role of a word, the operator's code, else 0
abbrev pub kind_code : Kind → ℕ
kind_code Part = 0
kind_code Open = 0
kind_code Close = 0
kind_code (Word r) = role_number r
kind_code (Operator o) = code_of o
kind_code Body = 0
