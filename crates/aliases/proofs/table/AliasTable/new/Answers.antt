use Rattle.std.proofs.Common.{refl, arith}
use Rattle.aliases.proofs.table.AliasTable.new.Goals as goal

pub invariant_of-result : goal.invariant_of-result
invariant_of-result c = record { within = (omega arith, refl); different = refl }
