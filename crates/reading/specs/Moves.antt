-- What each symbol, and the end, does to the whole control; and the word that it may replace. Assumes nothing.
use Rattle.std.specs.Prelude.{ℕ, Bool, true, false, cond, not, ◌&&◌, ◌||◌, List, Some, None, Option, ◌==◌, nat_lt}
use Rattle.basics.specs.declared.refusal.Reason.TheVariants as reason
use Rattle.tokens.specs.declared.top.Top.{Top}
use Rattle.tokens.specs.declared.top.Top.TheVariants as top
use Rattle.basics.specs.Bytes.{newline, backslash}
use Rattle.tokens.specs.Bytes.{class_of, ends_word, redirects}
use Rattle.tokens.specs.Openings.{is_number}
use Rattle.tokens.specs.Expansions.{is_nothing}
use Rattle.commands.specs.declared.stage.Stage.{Stage}
use Rattle.commands.specs.declared.stage.Stage.TheVariants.{Start, Must, Head, Args, Done}
use Rattle.commands.specs.Bodies.{line_is}
use Rattle.commands.specs.Roles.{is_name_use}
use Rattle.commands.specs.Redirections.{is_free}
use Rattle.reading.specs.declared.mode.Mode.{Mode}
use Rattle.reading.specs.declared.mode.Mode.TheVariants as mode
use Rattle.reading.specs.declared.mode.Region.{Region}
use Rattle.reading.specs.declared.mode.Region.TheVariants as region
use Rattle.reading.specs.declared.act.Act.TheVariants.{BackslashHere}
use Rattle.reading.specs.declared.act.At.TheVariants as at
use Rattle.reading.specs.States.{State, Control, set_word, gap, calm, waits, depth, top_of, region_of}
use Rattle.reading.specs.Steps.{Step, done, refuse, does, ◌then◌, Move, plainly}
use Rattle.reading.specs.Words.{word_ends, use_here}
use Rattle.reading.specs.Expansions.{settle}
use Rattle.reading.specs.Text.{in_text, in_single, in_comment, in_body, escaped, document, body_ends}

-- bytes

abbrev pub backslash_here : State → Move
backslash_here i = record { step = does BackslashHere (done i); escape = true }

abbrev pub byte_in : ℕ → State → Region → Move
byte_in b i region.Text = cond (b == backslash) (backslash_here i) (plainly (in_text b i))
byte_in b i region.Single = plainly (in_single b i)
byte_in b i region.Comment = plainly (in_comment b i)
byte_in b i (region.Body n l) = plainly (in_body b n l i)

-- a backslash and a newline are dropped; before any other byte the backslash stands, and what is begun is settled
abbrev pub byte_escaped : ℕ → State → Step
byte_escaped b i = cond (b == newline) (done i) (settle i then λ j. escaped b j (top_of j.frames))

abbrev pub byte : ℕ → Control → Move
byte b c = elim c.escape as (λ _. Move) [
  | true ↦ plainly (byte_escaped b c.at)
  | false ↦ byte_in b c.at (region_of c.at.word.mode (top_of c.at.frames))
]

-- the end of an alias's value ends the word
abbrev pub alias_end : Control → Move
alias_end c = plainly (settle c.at then λ j. word_ends false j)

-- the end of the text

abbrev pub is_must : Stage → Bool
is_must Start = false
is_must Must = true
is_must Head = false
is_must Args = false
is_must Done = false

abbrev pub unfinished : State → Bool
unfinished i = is_must i.command.stage || (not (is_free i.command.awaited) || nat_lt 0 (depth i))

abbrev pub finish : State → Step
finish i = cond (unfinished i) (refuse reason.Unfinished at.Here) (cond (waits i.documents) (refuse reason.HereDocument at.Here) (done i))

-- the last line of a body may lack its newline
abbrev pub last_line : State → Step
last_line i = elim i.word.mode as (λ _. Step) [
  | mode.Gap ↦ done i
  | mode.Comment ↦ done i
  | mode.Plain o ↦ done i
  | mode.Mixed y ↦ done i
  | mode.Body n l ↦ cond (line_is (document n i) l) (body_ends n i) (done i)
]

abbrev pub end_in : State → Top → Step
end_in i top.Command = word_ends false i then λ j. last_line j then λ k. finish k
end_in i top.Single = refuse reason.OpenQuote at.Here
end_in i top.Double = refuse reason.OpenQuote at.Here

-- what is begun is settled first
abbrev pub end : Control → Move
end c = plainly (settle c.at then λ j. cond c.escape (refuse reason.OpenQuote at.Here) (end_in j (top_of j.frames)))

-- replaced words

-- an IO number, which is no name, if a redirection follows
abbrev pub plain_name : Bool → Mode → Bool
plain_name redirected mode.Gap = false
plain_name redirected mode.Comment = false
plain_name redirected (mode.Plain o) = not (redirected && is_number o)
plain_name redirected (mode.Mixed y) = false
plain_name redirected (mode.Body n l) = false

-- a plain word stands that would be a command's name
abbrev pub name_here : Bool → State → Bool
name_here redirected i = is_nothing i.begun && (plain_name redirected i.word.mode && (is_free i.command.awaited && is_name_use (use_here i)))

abbrev pub named_in : Bool → State → Top → Bool
named_in redirected i top.Command = name_here redirected i
named_in redirected i top.Single = false
named_in redirected i top.Double = false

abbrev pub named : Bool → Control → Bool
named redirected c = elim c.escape as (λ _. Bool) [ true ↦ false | false ↦ named_in redirected c.at (top_of c.at.frames) ]

-- the bytes of such a word, where it ends
abbrev pub name : Bool → Control → Option (List ℕ)
name redirected c = cond (named redirected c) (Some c.at.word.kept) None

-- the same where the byte b comes
abbrev pub name_before : ℕ → Control → Option (List ℕ)
name_before b c = cond (ends_word (class_of b)) (name (redirects (class_of b)) c) None

-- a replaced word is gone
abbrev pub without_word : Control → Control
without_word c = calm (set_word gap c.at)
