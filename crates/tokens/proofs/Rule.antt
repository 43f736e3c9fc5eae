-- The table of operators, row by row, against what lengthens each operator. Assumes nothing.
use Rattle.std.proofs.Common.{◌≡◌, ◌-◌, ◌<◌, List, ◌∷◌, get_or, map, replicate, Some, None, Option, refl, ap, ◌∙◌, rules}
use Rattle.std.proofs.lemmas.List.{get_or-map}
use Rattle.std.specs.Option.{ok_or}
use Rattle.std.specs.Result.{result_ok}
use Rattle.tokens.specs.declared.class.Class.{Class}
use Rattle.tokens.specs.declared.class.Class.TheVariants as class
use Rattle.tokens.specs.declared.operator.Operator.{Operator}
use Rattle.tokens.specs.declared.operator.Operator.TheVariants as op
use Rattle.tokens.specs.declared.table.Row.{Row}
use Rattle.tokens.specs.Operators.{code_of, operators, lengthened}
use Rattle.tokens.specs.Table.{column_of, classes, code_or0, operator_of}

-- an operator's row has the longer one's code under each class
abbrev row_of : Operator → Row
row_of o = record { next = map (λ c. code_or0 (lengthened c o)) classes }

-- no operator has code 0
abbrev pub rows : List Row
rows = record { next = replicate 17 0 } ∷ map row_of operators

pub class_at : (c : Class) → get_or classes (column_of c) class.Other ≡ c
class_at c = search rules

row_at : (o : Operator) (d : Row) → get_or rows (code_of o) d ≡ row_of o
row_at o d = search rules

pub entry : (o : Operator) (c : Class) (d : Row) → column_of c < 17 → get_or (get_or rows (code_of o) d).next (column_of c) 0 ≡ code_or0 (lengthened c o)
entry o c d h =
    ap (λ (r : Row). get_or r.next (column_of c) 0) (row_at o d)
    ∙ get_or-map (λ x. code_or0 (lengthened x o)) classes (column_of c) class.Other 0 h
    ∙ ap (λ x. code_or0 (lengthened x o)) (class_at c)

operator_at : (o : Operator) → get_or operators (code_of o - 1) op.Newline ≡ o
operator_at o = search rules

operator_back : (o : Operator) → operator_of (code_of o) ≡ Some o
operator_back o = search rules

pub code_back : (x : Option Operator) → operator_of (code_or0 x) ≡ x
code_back None = refl
code_back (Some o) = operator_back o

pub result_ok-ok_or : {A E : Type 0} (x : Option A) (e : E) → result_ok (ok_or x e) ≡ x
result_ok-ok_or None e = refl
result_ok-ok_or (Some a) e = refl
