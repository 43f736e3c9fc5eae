-- The numbers of the operators.
use Rattle.std.specs.Prelude.{ℕ}
use Rattle.descent_lexer.specs.declared.item.Operator.{Operator}
use Rattle.descent_lexer.specs.declared.item.Operator.TheVariants.{Newline, And, AndIf, Pipe, OrIf, Semicolon, DoubleSemicolon, Open, Close, Less, Great, HereDocument, Append, LessAnd, GreatAnd, ReadWrite, HereDocumentTabs, Clobber}

abbrev pub operator_number : Operator → ℕ
operator_number Newline = 1
operator_number And = 2
operator_number AndIf = 3
operator_number Pipe = 4
operator_number OrIf = 5
operator_number Semicolon = 6
operator_number DoubleSemicolon = 7
operator_number Open = 8
operator_number Close = 9
operator_number Less = 10
operator_number Great = 11
operator_number HereDocument = 12
operator_number Append = 13
operator_number LessAnd = 14
operator_number GreatAnd = 15
operator_number ReadWrite = 16
operator_number HereDocumentTabs = 17
operator_number Clobber = 18
