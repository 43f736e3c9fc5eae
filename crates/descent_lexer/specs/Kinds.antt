-- The numbers of the kinds of items, and of the role or operator that an item has.
use Rattle.std.specs.Prelude.{ℕ}
use Rattle.descent_lexer.specs.declared.item.Kind.{Kind}
use Rattle.descent_lexer.specs.declared.item.Kind.TheVariants.{Part, Open, Close, Word, Operator, Body}
use Rattle.descent_lexer.specs.Roles.{role_number}
use Rattle.descent_lexer.specs.Operators.{operator_number}

abbrev pub kind_number : Kind → ℕ
kind_number Part = 1
kind_number Open = 2
kind_number Close = 3
kind_number (Word role) = 4
kind_number (Operator operator) = 5
kind_number Body = 6

-- 0 where an item has neither
abbrev pub code_number : Kind → ℕ
code_number Part = 0
code_number Open = 0
code_number Close = 0
code_number (Word role) = role_number role
code_number (Operator operator) = operator_number operator
code_number Body = 0
