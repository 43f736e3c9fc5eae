-- Operators are begun, lengthened and given. Assumes nothing.
use Rattle.std.specs.Prelude.{ℕ, Bool, cond, [], ◌∷◌, length, take, Some, None, Option, nat_lt}
use Rattle.basics.specs.declared.refusal.Reason.TheVariants as reason
use Rattle.tokens.specs.declared.begun.Begun.TheVariants as begun
use Rattle.tokens.specs.declared.operator.Operator.{Operator}
use Rattle.tokens.specs.Operators.{may_lengthen}
use Rattle.commands.specs.declared.awaited.Awaited.TheVariants as awaited
use Rattle.commands.specs.declared.stage.Stage.{Stage}
use Rattle.commands.specs.declared.sort.Sort.{Sort}
use Rattle.commands.specs.declared.sort.Sort.TheVariants as sort
use Rattle.commands.specs.declared.frame.Frame.{Frame}
use Rattle.commands.specs.declared.frame.Frame.TheVariants as frame
use Rattle.commands.specs.declared.frame.Outer.{Outer}
use Rattle.commands.specs.declared.item.Kind.TheVariants as kind
use Rattle.commands.specs.declared.line.Line.TheVariants.{Fresh}
use Rattle.commands.specs.Stages.{sort_of, leads_to}
use Rattle.commands.specs.Redirections.{awaited_by}
use Rattle.reading.specs.declared.mode.Mode.TheVariants as mode
use Rattle.reading.specs.declared.act.Act.TheVariants.{OperatorHere, BodyNext, Item}
use Rattle.reading.specs.declared.act.At.TheVariants as at
use Rattle.reading.specs.States.{State, set_begun, set_word, set_frames, set_command, set_documents, set_letters, set_waiting, command, in_mode, gap, depth, room, waits, innermost, around}
use Rattle.reading.specs.Steps.{Step, done, refuse, does, ◌then◌}
use Rattle.reading.specs.Words.{word_ends}

-- the operator's item, and then the rest
abbrev pub giving : Operator → State → Step → Step
giving o i s = does (Item (kind.Operator o) (depth i) at.Operator) s

-- the body of the here-document n is read next, or, behind the last, no more of them wait
abbrev pub next_body : ℕ → State → Step
next_body n i =
    cond (nat_lt n (length i.documents.waiting)) (does BodyNext (done (set_word (in_mode (mode.Body n Fresh)) i)))
    (done (set_documents (set_waiting (take i.documents.outside i.documents.waiting) i.documents) (set_word gap i)))

-- what a substitution leaves: the word that it stands in goes on
abbrev pub left : Outer → State → State
left o i = record {
  begun = begun.Nothing;
  word = in_mode (mode.Mixed o.assign);
  frames = around i.frames;
  command = command o.stage (cond o.target awaited.Target awaited.Nothing);
  documents = record { letters = i.documents.letters; waiting = i.documents.waiting; outside = o.waiting };
}

abbrev pub leaves : Outer → State → Step
leaves u i = cond (waits i.documents) (refuse reason.HereDocument at.Operator) (does (Item kind.Close (depth i) at.Operator) (done (left u i)))

-- `)`, by the innermost frame
abbrev pub closes : Operator → Stage → Option Frame → State → Step
closes o g None i = refuse reason.OutOfPlace at.Operator
closes o g (Some frame.Single) i = refuse reason.OutOfPlace at.Operator
closes o g (Some frame.Double) i = refuse reason.OutOfPlace at.Operator
closes o g (Some frame.Group) i = giving o i (done (set_command (command g awaited.Nothing) (set_frames (around i.frames) (set_begun begun.Nothing i))))
closes o g (Some (frame.Substitution u)) i = leaves u i

-- an operator in its place, which leads to the stage g
abbrev pub led : Operator → Stage → Sort → State → Step
led o g sort.Newline i = giving o i (next_body i.documents.outside (set_command (command g awaited.Nothing) (set_begun begun.Nothing i)))
led o g sort.Ends i = giving o i (done (set_command (command g awaited.Nothing) (set_begun begun.Nothing i)))
led o g sort.Joins i = giving o i (done (set_command (command g awaited.Nothing) (set_begun begun.Nothing i)))
led o g sort.Misplaced i = refuse reason.OutOfPlace at.Operator
led o g sort.Opens i =
    cond (room i) (giving o i (done (set_command (command g awaited.Nothing) (set_frames (frame.Group ∷ i.frames) (set_begun begun.Nothing i)))))
    (refuse reason.TooDeep at.Operator)
led o g sort.Closes i = closes o g (innermost i.frames) i
led o g sort.Redirects i = giving o i (done (set_command (command g (awaited_by o)) (set_documents (set_letters [] i.documents) (set_begun begun.Nothing i))))

abbrev pub placed : Operator → Option Stage → State → Step
placed o None i = refuse reason.OutOfPlace at.Operator
placed o (Some g) i = led o g (sort_of o) i

-- the operator is given; where a redirection awaits its word, only a word may stand
abbrev pub give : Operator → State → Step
give o i = elim i.command.awaited as (λ _. Step) [
  | awaited.Nothing ↦ placed o (leads_to (sort_of o) i.command.stage) i
  | awaited.Target ↦ refuse reason.OutOfPlace at.Operator
  | awaited.Delimiter d ↦ refuse reason.OutOfPlace at.Operator
]

-- the operator is begun, or given at once if no byte lengthens it
abbrev pub begun_or_given : Operator → State → Step
begun_or_given o i = cond (may_lengthen o) (done (set_begun (begun.Operator o) i)) (give o i)

-- a word ends, and an operator begins
abbrev pub begin : Bool → Operator → State → Step
begin redirected o i = word_ends redirected i then λ j. does OperatorHere (begun_or_given o j)
