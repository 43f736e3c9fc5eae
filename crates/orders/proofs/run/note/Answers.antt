use Rattle.std.proofs.Common.{sym}
use Rattle.std.proofs.lemmas.List.{set_past}
use Rattle.orders.proofs.run.note.Goals as goal

pub returns-else-i-outcomes : goal.returns-else-i-outcomes
returns-else-i-outcomes c = sym (set_past c.args.outcomes.now c.args.i c.args.outcome c.if-i-outcomes.false)
