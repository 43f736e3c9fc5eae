-- What the reader goes by: its control, apart from all that it writes. Assumes nothing.
use Rattle.std.specs.Prelude.{ℕ, Bool, false, List, [], length, Some, None, Option, nat_lt}
use Rattle.basics.specs.Stacks as stacks
use Rattle.tokens.specs.declared.begun.Begun.{Begun}
use Rattle.tokens.specs.declared.begun.Begun.TheVariants as begun
use Rattle.tokens.specs.declared.top.Top.{Top}
use Rattle.tokens.specs.declared.top.Top.TheVariants as top
use Rattle.tokens.specs.Openings.{is_assign}
use Rattle.commands.specs.declared.stage.Stage.{Stage}
use Rattle.commands.specs.declared.stage.Stage.TheVariants.{Start}
use Rattle.commands.specs.declared.awaited.Awaited.{Awaited}
use Rattle.commands.specs.declared.awaited.Awaited.TheVariants as awaited
use Rattle.commands.specs.declared.frame.Frame.{Frame}
use Rattle.commands.specs.declared.frame.Frame.TheVariants as frame
use Rattle.commands.specs.Bodies.{Document}
use Rattle.reading.specs.declared.mode.Mode.{Mode}
use Rattle.reading.specs.declared.mode.Mode.TheVariants as mode
use Rattle.reading.specs.declared.mode.Region.{Region}
use Rattle.reading.specs.declared.mode.Region.TheVariants as region

-- the word, comment or body that is read; of a plain word its first bytes are kept, of any other none
pub record Word : Type 0 where
  pub mode : Mode
  pub kept : List ℕ

pub record Command : Type 0 where
  pub stage : Stage
  pub awaited : Awaited

-- here-documents: the letters of the delimiter that is read; those that wait for their bodies, in order and over all nesting; and how many of them stand outside the innermost substitution
pub record Documents : Type 0 where
  pub letters : List ℕ
  pub waiting : List Document
  pub outside : ℕ

pub record State : Type 0 where
  pub begun : Begun
  pub word : Word
  pub frames : List Frame
  pub command : Command
  pub documents : Documents

-- a state, and whether an unquoted backslash stands before the next symbol
pub record Control : Type 0 where
  pub escape : Bool
  pub at : State

abbrev pub set_begun : Begun → State → State
set_begun x i = record { begun = x; word = i.word; frames = i.frames; command = i.command; documents = i.documents }

abbrev pub set_word : Word → State → State
set_word x i = record { begun = i.begun; word = x; frames = i.frames; command = i.command; documents = i.documents }

abbrev pub set_frames : List Frame → State → State
set_frames x i = record { begun = i.begun; word = i.word; frames = x; command = i.command; documents = i.documents }

abbrev pub set_command : Command → State → State
set_command x i = record { begun = i.begun; word = i.word; frames = i.frames; command = x; documents = i.documents }

abbrev pub set_documents : Documents → State → State
set_documents x i = record { begun = i.begun; word = i.word; frames = i.frames; command = i.command; documents = x }

abbrev pub set_letters : List ℕ → Documents → Documents
set_letters x d = record { letters = x; waiting = d.waiting; outside = d.outside }

abbrev pub set_waiting : List Document → Documents → Documents
set_waiting x d = record { letters = d.letters; waiting = x; outside = d.outside }

abbrev pub command : Stage → Awaited → Command
command g a = record { stage = g; awaited = a }

-- in a mode that keeps no bytes
abbrev pub in_mode : Mode → Word
in_mode m = record { mode = m; kept = [] }

abbrev pub gap : Word
gap = in_mode mode.Gap

abbrev pub calm : State → Control
calm i = record { escape = false; at = i }

-- where every reading begins
abbrev pub fresh : Control
fresh = calm (record { begun = begun.Nothing; word = gap; frames = []; command = command Start awaited.Nothing; documents = record { letters = []; waiting = []; outside = 0 } })

abbrev pub depth : State → ℕ
depth i = length i.frames

-- there is room for a frame: at most 32 stand open
abbrev pub room : State → Bool
room i = nat_lt (length i.frames) 32

-- a here-document of the innermost substitution, or of the bottom, waits for its body
abbrev pub waits : Documents → Bool
waits d = nat_lt d.outside (length d.waiting)

abbrev pub innermost : List Frame → Option Frame
innermost fs = stacks.top fs

-- the frames around the innermost
abbrev pub around : List Frame → List Frame
around fs = stacks.below fs

-- what the innermost frame makes of the text
abbrev pub frame_top : Option Frame → Top
frame_top None = top.Command
frame_top (Some frame.Group) = top.Command
frame_top (Some (frame.Substitution o)) = top.Command
frame_top (Some frame.Single) = top.Single
frame_top (Some frame.Double) = top.Double

abbrev pub top_of : List Frame → Top
top_of fs = frame_top (innermost fs)

abbrev pub textual : Top → Region
textual top.Command = region.Text
textual top.Single = region.Single
textual top.Double = region.Text

abbrev pub region_of : Mode → Top → Region
region_of mode.Gap t = textual t
region_of mode.Comment t = region.Comment
region_of (mode.Plain o) t = textual t
region_of (mode.Mixed y) t = textual t
region_of (mode.Body n l) t = region.Body n l

-- the word is an assignment if it is before the command's name
abbrev pub assigned : Mode → Bool
assigned mode.Gap = false
assigned mode.Comment = false
assigned (mode.Plain o) = is_assign o
assigned (mode.Mixed y) = y
assigned (mode.Body n l) = false
