-- Runs of letters: where a byte that is a letter does nothing else. Assumes nothing.
use Rattle.std.specs.Prelude.{ℕ, Bool, true, false, not, ◌&&◌, ◌==◌}
use Rattle.basics.specs.Bytes.{newline, single_quote, backslash}
use Rattle.tokens.specs.declared.begun.Begun.{Begun}
use Rattle.tokens.specs.declared.begun.Begun.TheVariants as begun
use Rattle.tokens.specs.declared.class.Class.{Class}
use Rattle.tokens.specs.declared.class.Class.TheVariants as class
use Rattle.tokens.specs.declared.top.Top.{Top}
use Rattle.tokens.specs.declared.top.Top.TheVariants as top
use Rattle.tokens.specs.Bytes.{class_of, ends_word}
use Rattle.tokens.specs.declared.letter.Mark.TheVariants as mark
use Rattle.tokens.specs.Letters.{marked}
use Rattle.tokens.specs.Expansions.{is_quotable}
use Rattle.commands.specs.declared.line.Line.{Line}
use Rattle.commands.specs.declared.line.Line.TheVariants as line
use Rattle.commands.specs.declared.stage.Stage.{Stage}
use Rattle.commands.specs.declared.stage.Stage.TheVariants.{Start, Must, Head, Args, Done}
use Rattle.reading.specs.declared.mode.Mode.{Mode}
use Rattle.reading.specs.declared.mode.Mode.TheVariants as mode
use Rattle.reading.specs.declared.act.Act.TheVariants.{Letter, WordHere}
use Rattle.reading.specs.States.{State, in_mode, set_word, top_of}
use Rattle.reading.specs.Steps.{Step, does, done}
use Rattle.reading.specs.Text.{in_command, in_double, in_single}
use Rattle.reading.specs.Words.{bare, quoted}
use Rattle.reader.specs.declared.runs.Run.{Run}
use Rattle.reader.specs.declared.runs.Run.TheVariants as run

-- in command text a byte of the class is a bare letter, wherever a word may stand
abbrev pub is_letter : Class → Bool
is_letter class.Newline = false
is_letter class.Blank = false
is_letter class.Amp = false
is_letter class.Bar = false
is_letter class.Semi = false
is_letter class.Open = false
is_letter class.Close = false
is_letter class.Less = false
is_letter class.Great = false
is_letter class.Minus = true
is_letter class.SingleQuote = false
is_letter class.DoubleQuote = false
is_letter class.Backslash = false
is_letter class.Dollar = false
is_letter class.Backquote = false
is_letter class.Hash = false
is_letter class.Other = true

-- the run, where nothing is begun
abbrev pub unless_begun : Begun → Run → Run
unless_begun begun.Nothing r = r
unless_begun begun.Dollar r = run.Nowhere
unless_begun begun.Paren r = run.Nowhere
unless_begun begun.Name r = run.Nowhere
unless_begun begun.Brace r = run.Nowhere
unless_begun begun.BraceName r = run.Nowhere
unless_begun (begun.Operator o) r = run.Nowhere

abbrev pub text_run : Begun → Top → Run
text_run g top.Command = unless_begun g run.Bare
text_run g top.Single = run.Single
text_run g top.Double = unless_begun g run.Double

-- only a line that is known not to be the delimiter
abbrev pub body_run : ℕ → Line → Run
body_run n line.Fresh = run.Nowhere
body_run n line.Tabs = run.Nowhere
body_run n (line.Same k) = run.Nowhere
body_run n line.Other = run.Body n

abbrev pub run_in : Begun → Top → Mode → Run
run_in g t mode.Gap = text_run g t
run_in g t mode.Comment = run.Nowhere
run_in g t (mode.Plain o) = text_run g t
run_in g t (mode.Mixed y) = text_run g t
run_in g t (mode.Body n l) = body_run n l

abbrev pub run_of : State → Run
run_of i = run_in i.begun (top_of i.frames) i.word.mode

abbrev pub is_backslash : Class → Bool
is_backslash class.Newline = false
is_backslash class.Blank = false
is_backslash class.Amp = false
is_backslash class.Bar = false
is_backslash class.Semi = false
is_backslash class.Open = false
is_backslash class.Close = false
is_backslash class.Less = false
is_backslash class.Great = false
is_backslash class.Minus = false
is_backslash class.SingleQuote = false
is_backslash class.DoubleQuote = false
is_backslash class.Backslash = true
is_backslash class.Dollar = false
is_backslash class.Backquote = false
is_backslash class.Hash = false
is_backslash class.Other = false

-- the command's name has not come
abbrev pub is_before_name : Stage → Bool
is_before_name Start = true
is_before_name Must = true
is_before_name Head = true
is_before_name Args = false
is_before_name Done = false

abbrev pub is_plain : Mode → Bool
is_plain mode.Gap = false
is_plain mode.Comment = false
is_plain (mode.Plain o) = true
is_plain (mode.Mixed y) = false
is_plain (mode.Body n l) = false

-- the word that is read is plain, and would be a command's name
abbrev pub may_be_name : State → Bool
may_be_name i = is_before_name i.command.stage && is_plain i.word.mode

-- a byte of the class behind bare letters does its own work and nothing else: it is no backslash, and ends no word that may be replaced
abbrev pub is_own_work : Class → State → Bool
is_own_work k i = not (is_backslash k) && not (ends_word k && may_be_name i)

-- the byte is a letter of the run
abbrev pub has_letter : Run → ℕ → Bool
has_letter run.Nowhere b = false
has_letter run.Bare b = is_letter (class_of b)
has_letter run.Single b = not (b == single_quote)
has_letter run.Double b = not (is_quotable b)
has_letter (run.Body n) b = not (b == newline)

-- what a letter of the run does
abbrev pub letter_of : Run → ℕ → State → Step
letter_of run.Nowhere b i = done i
letter_of run.Bare b i = bare b WordHere i
letter_of run.Single b i = quoted b WordHere i
letter_of run.Double b i = quoted b WordHere i
letter_of (run.Body n) b i = does (Letter (marked mark.Body b)) (done (set_word (in_mode (mode.Body n line.Other)) i))

-- a byte that is no letter of the run does its own work and nothing else
abbrev pub has_work : Run → ℕ → State → Bool
has_work run.Nowhere b i = false
has_work run.Bare b i = is_own_work (class_of b) i
has_work run.Single b i = not (b == backslash)
has_work run.Double b i = not (b == backslash)
has_work (run.Body n) b i = false

-- and what that is
abbrev pub work_of : Run → ℕ → State → Step
work_of run.Nowhere b i = done i
work_of run.Bare b i = in_command (class_of b) b i
work_of run.Single b i = in_single b i
work_of run.Double b i = in_double b i
work_of (run.Body n) b i = done i
