-- Where a hole is taken. Assumes nothing.
use Rattle.std.specs.Prelude.{Bool, true, false, cond}
use Rattle.basics.specs.declared.refusal.Reason.TheVariants as reason
use Rattle.tokens.specs.declared.top.Top.{Top}
use Rattle.tokens.specs.declared.top.Top.TheVariants as top
use Rattle.tokens.specs.Expansions.{is_dollar}
use Rattle.commands.specs.declared.awaited.Awaited.{Awaited}
use Rattle.commands.specs.declared.awaited.Awaited.TheVariants as awaited
use Rattle.commands.specs.declared.stage.Stage.{Stage}
use Rattle.commands.specs.declared.stage.Stage.TheVariants.{Start, Must, Head, Args, Done}
use Rattle.reading.specs.declared.mode.Region.{Region}
use Rattle.reading.specs.declared.mode.Region.TheVariants as region
use Rattle.reading.specs.declared.act.Act.TheVariants.{WordHere}
use Rattle.reading.specs.declared.act.At.TheVariants as at
use Rattle.reading.specs.States.{State, Control, room, top_of, region_of, assigned}
use Rattle.reading.specs.Steps.{Step, done, refuse, ◌then◌, Move, plainly}
use Rattle.reading.specs.Words.{starting, enter}
use Rattle.reading.specs.Expansions.{settle}

-- before the command's name a hole is taken only in a word that is already an assignment
abbrev pub open_in_stage : Stage → Bool → Bool
open_in_stage Start assign = assign
open_in_stage Must assign = assign
open_in_stage Head assign = assign
open_in_stage Args assign = true
open_in_stage Done assign = true

abbrev pub open_to_hole : Awaited → Stage → Bool → Bool
open_to_hole awaited.Nothing g assign = open_in_stage g assign
open_to_hole awaited.Target g assign = true
open_to_hole (awaited.Delimiter d) g assign = false

abbrev pub not_taken : Step
not_taken = refuse reason.HoleNotTaken at.Here

-- what fills a hole may open quotes, so there has to be room for their frame
abbrev pub taken_if : Bool → Bool → State → Step
taken_if may fits i = cond may (cond fits (starting i.word.mode WordHere (done (enter i))) (refuse reason.TooDeep at.Here)) not_taken

-- where nothing is begun
abbrev pub hole_at : State → Top → Step
hole_at i top.Command = taken_if (open_to_hole i.command.awaited i.command.stage (assigned i.word.mode)) (room i) i
hole_at i top.Single = not_taken
hole_at i top.Double = not_taken

-- not directly after a `$`, since that would be an ordinary one
abbrev pub hole_after : State → Step
hole_after i = cond (is_dollar i.begun) not_taken (settle i then λ j. hole_at j (top_of j.frames))

abbrev pub hole_in : State → Region → Step
hole_in i region.Text = hole_after i
hole_in i region.Single = not_taken
hole_in i region.Comment = not_taken
hole_in i (region.Body n l) = not_taken

-- after a backslash what is begun is settled, and the hole is not taken
abbrev pub hole : Control → Move
hole c = plainly (elim c.escape as (λ _. Step) [ true ↦ settle c.at then λ j. not_taken | false ↦ hole_in c.at (region_of c.at.word.mode (top_of c.at.frames)) ])
