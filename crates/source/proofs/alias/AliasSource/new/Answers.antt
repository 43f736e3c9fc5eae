use Rattle.std.proofs.Common.{arith}
use Rattle.source.proofs.Open.{none_open}
use Rattle.source.proofs.alias.AliasSource.new.Goals as goal

pub invariant_of-result : goal.invariant_of-result
invariant_of-result g c = rw c.new.ensures (none_open c.args.table.now, omega arith)
