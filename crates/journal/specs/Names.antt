-- The words by which kinds, roles, marks and styles are shown. Assumes nothing.
use Rattle.std.specs.Prelude.{ℕ, List, Some, None, codes, Option}
use Rattle.tokens.specs.declared.letter.Mark.{Mark}
use Rattle.tokens.specs.declared.letter.Mark.TheVariants as mark
use Rattle.tokens.specs.Operators.{text_of}
use Rattle.commands.specs.declared.item.Kind.{Kind}
use Rattle.commands.specs.declared.item.Kind.TheVariants as kind
use Rattle.commands.specs.declared.role.Role.{Role}
use Rattle.commands.specs.declared.role.Role.TheVariants.{Name, Arg, Assign, Target, Delim, Number}
use Rattle.journal.specs.declared.style.Style.{Style}
use Rattle.journal.specs.declared.style.Style.TheVariants.{Single, Backslash}

abbrev pub kind_name : Kind → List ℕ
kind_name kind.Part = codes "part"
kind_name kind.Open = codes "open"
kind_name kind.Close = codes "close"
kind_name (kind.Word r) = codes "word"
kind_name (kind.Operator o) = codes "operator"
kind_name kind.Body = codes "body"

abbrev pub role_name : Role → List ℕ
role_name Name = codes "name"
role_name Arg = codes "arg"
role_name Assign = codes "assign"
role_name Target = codes "target"
role_name Delim = codes "delim"
role_name Number = codes "number"

-- the role of a word, and the operator as it is written
abbrev pub code_name : Kind → Option (List ℕ)
code_name kind.Part = None
code_name kind.Open = None
code_name kind.Close = None
code_name (kind.Word r) = Some (role_name r)
code_name (kind.Operator o) = Some (text_of o)
code_name kind.Body = None

-- b bare, q quoted, e of an expansion, h of a here-document
abbrev pub mark_letter : Mark → ℕ
mark_letter mark.Bare = 98
mark_letter mark.Quoted = 113
mark_letter mark.Expansion = 101
mark_letter mark.Body = 104

abbrev pub style_name : Style → List ℕ
style_name Single = codes "single"
style_name Backslash = codes "backslash"
