-- The table of operators: rows by code, columns by byte class. Assumes nothing.
use Rattle.std.specs.Prelude.{ℕ, cond, List, [], ◌∷◌, Some, None, Option, ◌==◌}
use Rattle.tokens.specs.declared.class.Class.{Class}
use Rattle.tokens.specs.declared.class.Class.TheVariants as class
use Rattle.tokens.specs.declared.operator.Operator.{Operator}
use Rattle.tokens.specs.declared.operator.Operator.TheVariants as op
use Rattle.tokens.specs.Operators.{code_of}

abbrev pub column_of : Class → ℕ
column_of class.Newline = 0
column_of class.Blank = 1
column_of class.Amp = 2
column_of class.Bar = 3
column_of class.Semi = 4
column_of class.Open = 5
column_of class.Close = 6
column_of class.Less = 7
column_of class.Great = 8
column_of class.Minus = 9
column_of class.SingleQuote = 10
column_of class.DoubleQuote = 11
column_of class.Backslash = 12
column_of class.Dollar = 13
column_of class.Backquote = 14
column_of class.Hash = 15
column_of class.Other = 16

abbrev pub classes : List Class
classes = class.Newline ∷ class.Blank ∷ class.Amp ∷ class.Bar ∷ class.Semi ∷ class.Open ∷ class.Close ∷ class.Less ∷ class.Great ∷ class.Minus ∷ class.SingleQuote ∷ class.DoubleQuote ∷ class.Backslash ∷ class.Dollar ∷ class.Backquote ∷ class.Hash ∷ class.Other ∷ []

abbrev pub code_or0 : Option Operator → ℕ
code_or0 None = 0
code_or0 (Some o) = code_of o

abbrev pub operator_of : ℕ → Option Operator
operator_of n =
    (cond (n == 1) (Some op.Newline)
    (cond (n == 2) (Some op.Amp)
    (cond (n == 3) (Some op.AndIf)
    (cond (n == 4) (Some op.Bar)
    (cond (n == 5) (Some op.OrIf)
    (cond (n == 6) (Some op.Semi)
    (cond (n == 7) (Some op.DoubleSemi)
    (cond (n == 8) (Some op.Open)
    (cond (n == 9) (Some op.Close)
    (cond (n == 10) (Some op.Less)
    (cond (n == 11) (Some op.Great)
    (cond (n == 12) (Some op.Here)
    (cond (n == 13) (Some op.Append)
    (cond (n == 14) (Some op.LessAmp)
    (cond (n == 15) (Some op.GreatAmp)
    (cond (n == 16) (Some op.LessGreat)
    (cond (n == 17) (Some op.HereDash)
    (cond (n == 18) (Some op.Clobber)
    None))))))))))))))))))
