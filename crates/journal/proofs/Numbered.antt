-- Kinds and letters are told by their numbers. Assumes nothing.
use Rattle.std.proofs.Common.{◌≡◌, ℕ, ◌+◌, ◌*◌, ◌/◌, ◌%◌, ◌<◌, Some, refl, ap, ◌∙◌, arith}
use Rattle.tokens.specs.declared.letter.Mark.{Mark}
use Rattle.tokens.specs.declared.letter.Mark.TheVariants as mark
use Rattle.tokens.specs.declared.operator.Operator.{Operator}
use Rattle.tokens.specs.declared.operator.Operator.TheVariants.{Newline, Amp, AndIf, Bar, OrIf, Semi, DoubleSemi, Open, Close, Less, Great, Here, Append, LessAmp, GreatAmp, LessGreat, HereDash, Clobber}
use Rattle.tokens.specs.Letters.{mark_number, letter_number, mark_of, under_mark}
use Rattle.tokens.specs.Operators.{code_of}
use Rattle.tokens.specs.Table.{operator_of}
use Rattle.commands.specs.declared.item.Kind.TheVariants as kind
use Rattle.commands.specs.declared.role.Role.{Role}
use Rattle.commands.specs.declared.role.Role.TheVariants.{Name, Arg, Assign, Target, Delim, Number}
use Rattle.commands.specs.Roles.{role_number, role_of}
use Rattle.journal.specs.Numbers.{word_of, operation_of, KindsComeBack, LettersComeBack}

roles : (r : Role) → role_of (role_number r) ≡ Some r
roles Name = refl
roles Arg = refl
roles Assign = refl
roles Target = refl
roles Delim = refl
roles Number = refl

operators : (o : Operator) → operator_of (code_of o) ≡ Some o
operators Newline = refl
operators Amp = refl
operators AndIf = refl
operators Bar = refl
operators OrIf = refl
operators Semi = refl
operators DoubleSemi = refl
operators Open = refl
operators Close = refl
operators Less = refl
operators Great = refl
operators Here = refl
operators Append = refl
operators LessAmp = refl
operators GreatAmp = refl
operators LessGreat = refl
operators HereDash = refl
operators Clobber = refl

pub kinds_come_back : KindsComeBack
kinds_come_back kind.Part = refl
kinds_come_back kind.Open = refl
kinds_come_back kind.Close = refl
kinds_come_back (kind.Word r) = ap word_of (roles r)
kinds_come_back (kind.Operator o) = ap operation_of (operators o)
kinds_come_back kind.Body = refl

marks : (m : Mark) → mark_of (mark_number m) ≡ Some m
marks mark.Bare = refl
marks mark.Quoted = refl
marks mark.Expansion = refl
marks mark.Body = refl

split : (m b : ℕ) → b < 256 → ((m * 256 + b) / 256 ≡ m) × ((m * 256 + b) % 256 ≡ b)
split m b h = (omega arith, omega arith)

pub letters_come_back : LettersComeBack
letters_come_back l h =
    let s = split (mark_number l.mark) l.byte h in
    ap (λ n. under_mark (mark_of n) (letter_number l % 256)) s.0 ∙ ap (λ n. under_mark (mark_of (mark_number l.mark)) n) s.1
    ∙ ap (λ o. under_mark o l.byte) (marks l.mark)
