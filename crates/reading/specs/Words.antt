-- A word begins, goes on and ends. Assumes nothing.
use Rattle.std.specs.Prelude.{ℕ, Bool, false, cond, ◌&&◌, ◌||◌, List, [], ◌∷◌, ◌++◌, length, Some, None, Option, nat_le, nat_lt}
use Rattle.basics.specs.declared.refusal.Reason.TheVariants as reason
use Rattle.tokens.specs.declared.begun.Begun.TheVariants as begun
use Rattle.tokens.specs.declared.letter.Mark.TheVariants.{Bare, Quoted}
use Rattle.basics.specs.Bytes.{newline}
use Rattle.tokens.specs.Letters.{marked}
use Rattle.tokens.specs.Openings.{opened, further, is_number, kept}
use Rattle.tokens.specs.Expansions.{among}
use Rattle.commands.specs.declared.awaited.Awaited.{Awaited}
use Rattle.commands.specs.declared.awaited.Awaited.TheVariants as awaited
use Rattle.commands.specs.declared.role.Role.{Role}
use Rattle.commands.specs.declared.role.Role.TheVariants as role
use Rattle.commands.specs.declared.role.Use.{Use}
use Rattle.commands.specs.declared.item.Kind.TheVariants as kind
use Rattle.commands.specs.Roles.{is_reserved, use_of}
use Rattle.reading.specs.declared.mode.Mode.{Mode}
use Rattle.reading.specs.declared.mode.Mode.TheVariants as mode
use Rattle.reading.specs.declared.act.Act.{Act}
use Rattle.reading.specs.declared.act.Act.TheVariants.{Letter, Item}
use Rattle.reading.specs.declared.act.At.TheVariants as at
use Rattle.reading.specs.States.{Word, Command, Documents, State, set_word, set_command, set_documents, set_letters, set_waiting, command, in_mode, gap, depth, assigned}
use Rattle.reading.specs.Steps.{Step, done, refuse, does}

-- where no word is begun, the act that begins one; then the rest
abbrev pub starting : Mode → Act → Step → Step
starting mode.Gap a s = does a s
starting mode.Comment a s = s
starting (mode.Plain o) a s = s
starting (mode.Mixed y) a s = s
starting (mode.Body n l) a s = s

-- a word is entered, or gone on with, that is not plain
abbrev pub enter : State → State
enter i = record { begun = begun.Nothing; word = in_mode (mode.Mixed (assigned i.word.mode)); frames = i.frames; command = i.command; documents = i.documents }

-- a bare byte more
abbrev pub longer : ℕ → Word → Word
longer b w = elim w.mode as (λ _. Word) [
  | mode.Gap ↦ record { mode = mode.Plain (opened b); kept = b ∷ [] }
  | mode.Comment ↦ w
  | mode.Plain o ↦ record { mode = mode.Plain (further o b); kept = kept w.kept b }
  | mode.Mixed y ↦ w
  | mode.Body n l ↦ w
]

-- of an awaited delimiter the letters are kept, one more than it may have
abbrev pub with_letter : Awaited → ℕ → List ℕ → List ℕ
with_letter awaited.Nothing b ls = ls
with_letter awaited.Target b ls = ls
with_letter (awaited.Delimiter d) b ls = kept ls b

abbrev pub noted : ℕ → State → State
noted b i = set_documents (set_letters (with_letter i.command.awaited b i.documents.letters) i.documents) i

-- a bare letter; `from` says where a word begins with it
abbrev pub bare : ℕ → Act → State → Step
bare b from i = starting i.word.mode from (does (Letter (marked Bare b)) (done (noted b (set_word (longer b i.word) i))))

abbrev pub quoted : ℕ → Act → State → Step
quoted b from i = starting i.word.mode from (does (Letter (marked Quoted b)) (done (noted b (enter i))))

-- the word is given in a role, and the command goes on
abbrev pub given_as : Role → Command → State → Step
given_as r c i = does (Item (kind.Word r) (depth i) at.Word) (done (set_command c (set_word gap i)))

-- a delimiter has at most 32 letters and no newline, and at most 8 wait
abbrev pub bad_delimiter : Documents → Bool
bad_delimiter d = nat_lt 32 (length d.letters) || (among newline d.letters || nat_le 8 (length d.waiting))

abbrev pub queued : Bool → Documents → Documents
queued dash d = set_waiting (d.waiting ++ (record { dash = dash; delimiter = d.letters } ∷ [])) d

abbrev pub delimited : Bool → State → Step
delimited dash i =
    cond (bad_delimiter i.documents) (refuse reason.HereDocument at.First)
    (given_as role.Delim (command i.command.stage awaited.Nothing) (set_documents (queued dash i.documents) i))

abbrev pub by_use : Option Use → State → Step
by_use None i = refuse reason.OutOfPlace at.First
by_use (Some u) i = given_as u.role (command u.stage awaited.Nothing) i

-- the word is plain and reserved
abbrev pub reserved : Word → Bool
reserved w = elim w.mode as (λ _. Bool) [ mode.Gap ↦ false | mode.Comment ↦ false | mode.Plain o ↦ is_reserved w.kept | mode.Mixed y ↦ false | mode.Body n l ↦ false ]

abbrev pub use_here : State → Option Use
use_here i = use_of i.command.stage (reserved i.word) (assigned i.word.mode)

-- a word in command text, by whether it is an IO number: one may not stand where a redirection awaits its word
abbrev pub used : Bool → State → Step
used number i = elim i.command.awaited as (λ _. Step) [
  | awaited.Nothing ↦ cond number (given_as role.Number i.command i) (by_use (use_here i) i)
  | awaited.Target ↦ cond number (refuse reason.OutOfPlace at.First) (given_as role.Target (command i.command.stage awaited.Nothing) i)
  | awaited.Delimiter dash ↦ cond number (refuse reason.OutOfPlace at.First) (delimited dash i)
]

-- the word ends, if there is one; directly before `<` or `>` a plain word of digits is an IO number
abbrev pub word_ends : Bool → State → Step
word_ends redirected i = elim i.word.mode as (λ _. Step) [
  | mode.Gap ↦ done i
  | mode.Comment ↦ done (set_word gap i)
  | mode.Plain o ↦ used (redirected && is_number o) i
  | mode.Mixed y ↦ used false i
  | mode.Body n l ↦ done i
]
