use Rattle.std.proofs.Common.{arith}
use Rattle.tokens.proofs.Rule.{entry}
use Rattle.tokens.proofs.table.next_code.Goals as goal

pub returns : goal.returns
returns c = rw (c.row.ensures.is, c.column.ensures.is) (entry c.args.o c.args.c _ (omega arith))
