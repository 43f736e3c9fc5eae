-- Expansions: what follows a `$`. Assumes nothing.
use Rattle.std.specs.Prelude.{ℕ, cond, List, [], ◌∷◌, length, Some, None, Option, ◌==◌}
use Rattle.basics.specs.declared.refusal.Reason.TheVariants as reason
use Rattle.tokens.specs.declared.begun.Begun.{Begun}
use Rattle.tokens.specs.declared.begun.Begun.TheVariants as begun
use Rattle.tokens.specs.declared.top.Top.TheVariants as top
use Rattle.tokens.specs.declared.letter.Mark.TheVariants.{Expansion}
use Rattle.tokens.specs.declared.operator.Operator.{Operator}
use Rattle.tokens.specs.Bytes.{class_of, is_name_start, is_name_byte, dollar, open_paren, open_brace, close_brace}
use Rattle.tokens.specs.Operators.{lengthened}
use Rattle.commands.specs.declared.awaited.Awaited.TheVariants as awaited
use Rattle.commands.specs.declared.stage.Stage.TheVariants.{Start}
use Rattle.commands.specs.declared.frame.Frame.TheVariants as frame
use Rattle.commands.specs.declared.item.Kind.TheVariants as kind
use Rattle.commands.specs.Redirections.{is_target}
use Rattle.reading.specs.declared.act.Act.TheVariants.{WordAtDollar, Item}
use Rattle.reading.specs.declared.act.At.TheVariants as at
use Rattle.reading.specs.States.{State, set_begun, command, gap, depth, room, top_of, assigned}
use Rattle.reading.specs.Steps.{Step, done, refuse, does, writes}
use Rattle.reading.specs.Words.{starting, enter, bare, quoted}
use Rattle.reading.specs.Operators.{give, begun_or_given}

-- letters of an expansion, of which u is begun after them
abbrev pub spelled : List ℕ → Begun → State → Step
spelled bs u i = starting i.word.mode WordAtDollar (writes Expansion bs (done (set_begun u (enter i))))

-- in a delimiter no expansion stands
abbrev pub no_expansion : State → Step
no_expansion i = starting i.word.mode WordAtDollar (refuse reason.HereDocument at.First)

-- the same where it is known to be one that is taken
abbrev pub expanded : List ℕ → Begun → State → Step
expanded bs u i = elim i.command.awaited as (λ _. Step) [ awaited.Nothing ↦ spelled bs u i | awaited.Target ↦ spelled bs u i | awaited.Delimiter d ↦ no_expansion i ]

-- the state in which a substitution begins; its frame keeps what the word around it needs
abbrev pub entered : State → State
entered i = record {
  begun = begun.Nothing;
  word = gap;
  frames = frame.Substitution (record { stage = i.command.stage; assign = assigned i.word.mode; target = is_target i.command.awaited; waiting = i.documents.outside }) ∷ i.frames;
  command = command Start awaited.Nothing;
  documents = record { letters = i.documents.letters; waiting = i.documents.waiting; outside = length i.documents.waiting };
}

-- `$(`: the word's letters so far are given, and a substitution opens
abbrev pub opens : State → Step
opens i =
    cond (room i) (starting i.word.mode WordAtDollar (does (Item kind.Part (depth i) at.Word) (does (Item kind.Open (depth i) at.Dollar) (done (entered i)))))
    (refuse reason.TooDeep at.Dollar)

abbrev pub substitutes : State → Step
substitutes i = elim i.command.awaited as (λ _. Step) [ awaited.Nothing ↦ opens i | awaited.Target ↦ opens i | awaited.Delimiter d ↦ no_expansion i ]

-- a `$` that begins no expansion is a letter
abbrev pub ordinary : State → Step
ordinary i = elim (top_of i.frames) as (λ _. Step) [ top.Command ↦ bare dollar WordAtDollar i | top.Single ↦ quoted dollar WordAtDollar i | top.Double ↦ quoted dollar WordAtDollar i ]

-- what is begun is settled, since what comes does not go on with it
abbrev pub settled : Begun → State → Step
settled begun.Nothing i = done i
settled begun.Dollar i = ordinary (set_begun begun.Nothing i)
settled begun.Paren i = substitutes i
settled begun.Name i = done (set_begun begun.Nothing i)
settled begun.Brace i = refuse reason.ExpansionNotTaken at.Dollar
settled begun.BraceName i = refuse reason.ExpansionNotTaken at.Dollar
settled (begun.Operator o) i = give o i

abbrev pub settle : State → Step
settle i = settled i.begun i

abbrev pub or_given : Operator → Option Operator → State → Step
or_given o None i = give o i
or_given o (Some p) i = begun_or_given p i

-- what is begun goes on with the byte b
abbrev pub gone_on : Begun → ℕ → State → Step
gone_on begun.Nothing b i = done i
gone_on begun.Dollar b i =
    cond (b == open_paren) (done (set_begun begun.Paren i))
    (cond (b == open_brace) (done (set_begun begun.Brace i))
    (expanded (dollar ∷ b ∷ []) (cond (is_name_start b) begun.Name begun.Nothing) i))
gone_on begun.Paren b i = refuse reason.ExpansionNotTaken at.Dollar
gone_on begun.Name b i = expanded (b ∷ []) begun.Name i
gone_on begun.Brace b i = cond (is_name_start b) (spelled (dollar ∷ open_brace ∷ b ∷ []) begun.BraceName i) (refuse reason.ExpansionNotTaken at.Dollar)
gone_on begun.BraceName b i =
    cond (is_name_byte b) (spelled (b ∷ []) begun.BraceName i)
    (cond (b == close_brace) (expanded (b ∷ []) begun.Nothing i) (refuse reason.ExpansionNotTaken at.Dollar))
gone_on (begun.Operator o) b i = or_given o (lengthened (class_of b) o) i

abbrev pub go_on : ℕ → State → Step
go_on b i = gone_on i.begun b i
