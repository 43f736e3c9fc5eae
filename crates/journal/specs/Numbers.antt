-- What the numbers of a sheet stand for. Assumes nothing.
use Rattle.std.specs.Prelude.{◌≡◌, ℕ, ◌/◌, ◌<◌, cond, List, [], ◌∷◌, Some, None, Option, ◌==◌}
use Rattle.tokens.specs.declared.letter.Letter.{Letter}
use Rattle.tokens.specs.declared.letter.Mark.{Mark}
use Rattle.tokens.specs.declared.operator.Operator.{Operator}
use Rattle.tokens.specs.Letters.{letter_number, mark_of, letter_of}
use Rattle.tokens.specs.Table.{operator_of}
use Rattle.commands.specs.declared.item.Kind.{Kind}
use Rattle.commands.specs.declared.item.Kind.TheVariants as kind
use Rattle.commands.specs.declared.role.Role.{Role}
use Rattle.commands.specs.Kinds.{kind_number, kind_code}
use Rattle.commands.specs.Roles.{role_of}

abbrev pub word_of : Option Role → Option Kind
word_of None = None
word_of (Some r) = Some (kind.Word r)

abbrev pub operation_of : Option Operator → Option Kind
operation_of None = None
operation_of (Some o) = Some (kind.Operator o)

-- a record's kind and code as one kind
abbrev pub kind_of : ℕ → ℕ → Option Kind
kind_of n code =
    cond (n == 1) (Some kind.Part) (cond (n == 2) (Some kind.Open) (cond (n == 3) (Some kind.Close)
    (cond (n == 4) (word_of (role_of code)) (cond (n == 5) (operation_of (operator_of code)) (cond (n == 6) (Some kind.Body) None)))))

-- the mark of a run of letters, by its first
abbrev pub run_mark : List ℕ → Option Mark
run_mark [] = None
run_mark (n ∷ run) = mark_of (n / 256)

-- The laws: each kind and each letter is told by its numbers.
abbrev pub KindsComeBack : Type 0
KindsComeBack = (k : Kind) → kind_of (kind_number k) (kind_code k) ≡ Some k

abbrev pub LettersComeBack : Type 0
LettersComeBack = (l : Letter) → l.byte < 256 → letter_of (letter_number l) ≡ Some l
