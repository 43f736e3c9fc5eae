use Rattle.std.proofs.Common.{arith}
use Rattle.quoting.specs.Singly.{single_length}
use Rattle.quoting.proofs.single.SinglePieces.form_length.Goals as goal

pub returns : goal.returns
returns c = omega (arith, single_length c.args.text.now)
