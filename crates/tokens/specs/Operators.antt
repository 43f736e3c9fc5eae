-- The operators: the code and the text of each, and how a begun one is lengthened. Assumes nothing.
use Rattle.std.specs.Prelude.{ℕ, Bool, true, false, List, [], ◌∷◌, ◌++◌, Some, None, codes, Option}
use Rattle.std.specs.Str.{bytes_eq}
use Rattle.tokens.specs.declared.class.Class.{Class}
use Rattle.tokens.specs.declared.class.Class.TheVariants as class
use Rattle.tokens.specs.declared.operator.Operator.{Operator}
use Rattle.tokens.specs.declared.operator.Operator.TheVariants.{Newline, Amp, AndIf, Bar, OrIf, Semi, DoubleSemi, Open, Close, Less, Great, Here, Append, LessAmp, GreatAmp, LessGreat, HereDash, Clobber}
use Rattle.tokens.specs.Bytes.{amp, bar, semi, less, great, minus}

abbrev pub code_of : Operator → ℕ
code_of Newline = 1
code_of Amp = 2
code_of AndIf = 3
code_of Bar = 4
code_of OrIf = 5
code_of Semi = 6
code_of DoubleSemi = 7
code_of Open = 8
code_of Close = 9
code_of Less = 10
code_of Great = 11
code_of Here = 12
code_of Append = 13
code_of LessAmp = 14
code_of GreatAmp = 15
code_of LessGreat = 16
code_of HereDash = 17
code_of Clobber = 18

abbrev pub text_of : Operator → List ℕ
text_of Newline = codes "\n"
text_of Amp = codes "&"
text_of AndIf = codes "&&"
text_of Bar = codes "|"
text_of OrIf = codes "||"
text_of Semi = codes ";"
text_of DoubleSemi = codes ";;"
text_of Open = codes "("
text_of Close = codes ")"
text_of Less = codes "<"
text_of Great = codes ">"
text_of Here = codes "<<"
text_of Append = codes ">>"
text_of LessAmp = codes "<&"
text_of GreatAmp = codes ">&"
text_of LessGreat = codes "<>"
text_of HereDash = codes "<<-"
text_of Clobber = codes ">|"

abbrev pub operators : List Operator
operators = Newline ∷ Amp ∷ AndIf ∷ Bar ∷ OrIf ∷ Semi ∷ DoubleSemi ∷ Open ∷ Close ∷ Less ∷ Great ∷ Here ∷ Append ∷ LessAmp ∷ GreatAmp ∷ LessGreat ∷ HereDash ∷ Clobber ∷ []

-- the operator among os that is written t
abbrev pub written : List ℕ → List Operator → Option Operator
written t [] = None
written t (o ∷ os) = elim (bytes_eq t (text_of o)) as (λ _. Option Operator) [ true ↦ Some o | false ↦ written t os ]

-- the operator that is o and one byte b more
abbrev pub with_byte : ℕ → Operator → Option Operator
with_byte b o = written (text_of o ++ (b ∷ [])) operators

-- a byte of the class lengthens the operator begun, to which
abbrev pub lengthened : Class → Operator → Option Operator
lengthened class.Newline o = None
lengthened class.Blank o = None
lengthened class.Amp o = with_byte amp o
lengthened class.Bar o = with_byte bar o
lengthened class.Semi o = with_byte semi o
lengthened class.Open o = None
lengthened class.Close o = None
lengthened class.Less o = with_byte less o
lengthened class.Great o = with_byte great o
lengthened class.Minus o = with_byte minus o
lengthened class.SingleQuote o = None
lengthened class.DoubleQuote o = None
lengthened class.Backslash o = None
lengthened class.Dollar o = None
lengthened class.Backquote o = None
lengthened class.Hash o = None
lengthened class.Other o = None

-- an operator that no byte lengthens is complete at once
abbrev pub may_lengthen : Operator → Bool
may_lengthen Newline = false
may_lengthen Amp = true
may_lengthen AndIf = false
may_lengthen Bar = true
may_lengthen OrIf = false
may_lengthen Semi = true
may_lengthen DoubleSemi = false
may_lengthen Open = false
may_lengthen Close = false
may_lengthen Less = true
may_lengthen Great = true
may_lengthen Here = true
may_lengthen Append = false
may_lengthen LessAmp = false
may_lengthen GreatAmp = false
may_lengthen LessGreat = false
may_lengthen HereDash = false
may_lengthen Clobber = false
