-- The state that the reader holds. Assumes nothing.
use Rattle.basics.specs.Stacks.{entries}
use Rattle.tokens.specs.Keeping.{kept_bytes}
use Rattle.commands.specs.Queues.{waiting_of}
use Rattle.reader.specs.declared.state.Word as held_word
use Rattle.reader.specs.declared.state.Command as held-command
use Rattle.reader.specs.declared.state.Documents as held-documents
use Rattle.reader.specs.declared.state.State as held-state
use Rattle.reader.specs.declared.state.Reader as held-reader
use Rattle.reading.specs.States.{Word, Command, Documents, State, Control}

abbrev pub word_of : held_word.Word → Word
word_of w = record { mode = w.mode; kept = kept_bytes w.kept }

abbrev pub command_of : held-command.Command → Command
command_of c = record { stage = c.stage; awaited = c.awaited }

abbrev pub documents_of : held-documents.Documents → Documents
documents_of d = record { letters = kept_bytes d.letters; waiting = waiting_of d.waiting; outside = d.outside }

abbrev pub state_of : held-state.State → State
state_of s = record { begun = s.begun; word = word_of s.word; frames = entries s.frames; command = command_of s.command; documents = documents_of s.documents }

abbrev pub control_of : held-reader.Reader → Control
control_of r = record { escape = r.escape; at = state_of r.at }
