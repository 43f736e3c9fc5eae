use Rattle.std.proofs.Common.{map, sym, ap, ◌∙◌}
use Rattle.std.proofs.lemmas.List.{take-map}
use Rattle.commands.specs.Queues.{document_of}
use Rattle.commands.proofs.queue.Queue.cut.Goals as goal

pub returns : goal.returns
returns c = ap (map document_of) c.truncate.ensures.items ∙ sym (take-map document_of c.args.n c.args.self.now.held.items)
