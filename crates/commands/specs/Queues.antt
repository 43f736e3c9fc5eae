-- Here-documents as they are held, and as they are looked at. Assumes nothing.
use Rattle.std.specs.Prelude.{List, map}
use Rattle.tokens.specs.Keeping.{kept_bytes}
use Rattle.commands.specs.Bodies.{Document}
use Rattle.commands.specs.declared.body.Document.{Document as Look}
use Rattle.commands.specs.declared.queue.Waiting.{Waiting}
use Rattle.commands.specs.declared.queue.Queue.{Queue}

abbrev pub document_of : Waiting → Document
document_of w = record { dash = w.dash; delimiter = kept_bytes w.delimiter }

abbrev pub waiting_of : Queue → List Document
waiting_of q = map document_of q.held.items

abbrev pub seen : Look → Document
seen d = record { dash = d.dash; delimiter = d.delimiter.now }
