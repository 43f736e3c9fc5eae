-- What operators do to a command: what each needs, and where it leads. Assumes nothing.
use Rattle.std.specs.Prelude.{Some, None, Option}
use Rattle.tokens.specs.declared.operator.Operator.{Operator}
use Rattle.tokens.specs.declared.operator.Operator.TheVariants as op
use Rattle.commands.specs.declared.stage.Stage.{Stage}
use Rattle.commands.specs.declared.stage.Stage.TheVariants.{Start, Must, Head, Args, Done}
use Rattle.commands.specs.declared.sort.Sort.{Sort}
use Rattle.commands.specs.declared.sort.Sort.TheVariants.{Newline, Ends, Joins, Misplaced, Opens, Closes, Redirects}

abbrev pub sort_of : Operator → Sort
sort_of op.Newline = Newline
sort_of op.Amp = Ends
sort_of op.AndIf = Joins
sort_of op.Bar = Joins
sort_of op.OrIf = Joins
sort_of op.Semi = Ends
sort_of op.DoubleSemi = Misplaced
sort_of op.Open = Opens
sort_of op.Close = Closes
sort_of op.Less = Redirects
sort_of op.Great = Redirects
sort_of op.Here = Redirects
sort_of op.Append = Redirects
sort_of op.LessAmp = Redirects
sort_of op.GreatAmp = Redirects
sort_of op.LessGreat = Redirects
sort_of op.HereDash = Redirects
sort_of op.Clobber = Redirects

-- a command has to stand before it, and it leads to g
abbrev pub after_command : Stage → Stage → Option Stage
after_command g Start = None
after_command g Must = None
after_command g Head = Some g
after_command g Args = Some g
after_command g Done = Some g

-- the stage that it leads to, or none where it is out of place
abbrev pub leads_to : Sort → Stage → Option Stage
leads_to Newline Start = Some Start
leads_to Newline Must = Some Must
leads_to Newline Head = Some Start
leads_to Newline Args = Some Start
leads_to Newline Done = Some Start
leads_to Ends g = after_command Start g
leads_to Joins g = after_command Must g
leads_to Misplaced g = None
leads_to Opens Start = Some Must
leads_to Opens Must = Some Must
leads_to Opens Head = None
leads_to Opens Args = None
leads_to Opens Done = None
leads_to Closes Start = Some Done
leads_to Closes Must = None
leads_to Closes Head = Some Done
leads_to Closes Args = Some Done
leads_to Closes Done = Some Done
leads_to Redirects Start = Some Head
leads_to Redirects Must = Some Head
leads_to Redirects Head = Some Head
leads_to Redirects Args = Some Args
leads_to Redirects Done = Some Done
