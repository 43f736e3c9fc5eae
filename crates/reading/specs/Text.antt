-- What a byte does in command text, in quotes, after a backslash, in a comment and in a body. Assumes nothing.
use Rattle.std.specs.Prelude.{ℕ, ◌+◌, true, false, cond, ◌∷◌, take, ◌==◌, slice_index_or}
use Rattle.basics.specs.declared.refusal.Reason.TheVariants as reason
use Rattle.tokens.specs.declared.begun.Begun.TheVariants as begun
use Rattle.tokens.specs.declared.top.Top.{Top}
use Rattle.tokens.specs.declared.top.Top.TheVariants as top
use Rattle.tokens.specs.declared.class.Class.{Class}
use Rattle.tokens.specs.declared.class.Class.TheVariants as class
use Rattle.tokens.specs.declared.operator.Operator.TheVariants as op
use Rattle.tokens.specs.declared.letter.Mark.TheVariants as mark
use Rattle.basics.specs.Bytes.{newline, single_quote, backslash}
use Rattle.tokens.specs.Bytes.{class_of, double_quote, dollar, backquote}
use Rattle.tokens.specs.Expansions.{goes_on, is_quotable}
use Rattle.tokens.specs.Letters.{marked}
use Rattle.commands.specs.declared.frame.Frame.{Frame}
use Rattle.commands.specs.declared.frame.Frame.TheVariants as frame
use Rattle.commands.specs.declared.line.Line.{Line}
use Rattle.commands.specs.declared.line.Gives.{Gives}
use Rattle.commands.specs.declared.line.Gives.TheVariants as gives
use Rattle.commands.specs.declared.line.LineByte.{LineByte}
use Rattle.commands.specs.declared.item.Kind.TheVariants as kind
use Rattle.commands.specs.Bodies.{Document, no_document, line_byte}
use Rattle.reading.specs.declared.mode.Mode.TheVariants as mode
use Rattle.reading.specs.declared.act.Act.TheVariants.{WordHere, WordAtBackslash, DollarHere, Letter, Item}
use Rattle.reading.specs.declared.act.At.TheVariants as at
use Rattle.reading.specs.States.{State, set_begun, set_word, set_frames, in_mode, depth, room, top_of, around}
use Rattle.reading.specs.Steps.{Step, done, refuse, does, ◌then◌, writes}
use Rattle.reading.specs.Words.{starting, enter, bare, quoted, word_ends}
use Rattle.reading.specs.Operators.{begin, next_body}
use Rattle.reading.specs.Expansions.{settle, go_on}

-- a quote mark opens a frame in a word
abbrev pub push : Frame → State → Step
push f i = cond (room i) (starting i.word.mode WordHere (done (set_frames (f ∷ i.frames) (enter i)))) (refuse reason.TooDeep at.Here)

-- its fellow closes it
abbrev pub pop : State → Step
pop i = done (set_frames (around i.frames) i)

abbrev pub dollar_here : State → Step
dollar_here i = does DollarHere (done (set_begun begun.Dollar i))

-- `#` begins a comment where no word is begun
abbrev pub comment_or_letter : ℕ → State → Step
comment_or_letter b i = elim i.word.mode as (λ _. Step) [
  | mode.Gap ↦ done (set_word (in_mode mode.Comment) i)
  | mode.Comment ↦ done i
  | mode.Plain o ↦ bare b WordHere i
  | mode.Mixed y ↦ bare b WordHere i
  | mode.Body n l ↦ done i
]

-- where nothing is begun; a backslash was seen to before
abbrev pub in_command : Class → ℕ → State → Step
in_command class.Newline b i = begin false op.Newline i
in_command class.Blank b i = word_ends false i
in_command class.Amp b i = begin false op.Amp i
in_command class.Bar b i = begin false op.Bar i
in_command class.Semi b i = begin false op.Semi i
in_command class.Open b i = begin false op.Open i
in_command class.Close b i = begin false op.Close i
in_command class.Less b i = begin true op.Less i
in_command class.Great b i = begin true op.Great i
in_command class.Minus b i = bare b WordHere i
in_command class.SingleQuote b i = push frame.Single i
in_command class.DoubleQuote b i = push frame.Double i
in_command class.Backslash b i = done i
in_command class.Dollar b i = dollar_here i
in_command class.Backquote b i = refuse reason.ExpansionNotTaken at.Here
in_command class.Hash b i = comment_or_letter b i
in_command class.Other b i = bare b WordHere i

abbrev pub in_double : ℕ → State → Step
in_double b i =
    cond (b == double_quote) (pop i)
    (cond (b == dollar) (dollar_here i)
    (cond (b == backquote) (refuse reason.ExpansionNotTaken at.Here)
    (quoted b WordHere i)))

abbrev pub in_single : ℕ → State → Step
in_single b i = cond (b == single_quote) (pop i) (quoted b WordHere i)

-- the byte's own work, by the innermost frame
abbrev pub work : ℕ → State → Top → Step
work b i top.Command = in_command (class_of b) b i
work b i top.Single = in_single b i
work b i top.Double = in_double b i

-- in command text and double quotes: what is begun goes on or is settled
abbrev pub in_text : ℕ → State → Step
in_text b i = cond (goes_on i.begun b) (go_on b i) (settle i then λ j. work b j (top_of j.frames))

-- after a backslash that stands: in double quotes it quotes few bytes, and before any other is itself a letter
abbrev pub escaped : ℕ → State → Top → Step
escaped b i top.Command = quoted b WordAtBackslash i
escaped b i top.Single = quoted b WordAtBackslash i
escaped b i top.Double = cond (is_quotable b) (quoted b WordAtBackslash i) (quoted backslash WordAtBackslash i then λ j. in_double b j)

abbrev pub in_comment : ℕ → State → Step
in_comment b i = cond (b == newline) (begin false op.Newline i) (done i)

-- here-documents

-- the here-document n is read
abbrev pub document : ℕ → State → Document
document n i = slice_index_or i.documents.waiting n no_document

abbrev pub body_ends : ℕ → State → Step
body_ends n i = does (Item kind.Body (depth i) at.Body) (next_body (n + 1) i)

abbrev pub body_goes : ℕ → ℕ → Gives → Line → State → Step
body_goes b n gives.Nothing l i = done (set_word (in_mode (mode.Body n l)) i)
body_goes b n (gives.Letters k) l i = writes mark.Body (take k (document n i).delimiter) (done i) then λ j. does (Letter (marked mark.Body b)) (done (set_word (in_mode (mode.Body n l)) j))
body_goes b n gives.Ends l i = body_ends n i

abbrev pub in_body : ℕ → ℕ → Line → State → Step
in_body b n l i = let r : LineByte = line_byte (document n i) l b in body_goes b n r.gives r.line i
