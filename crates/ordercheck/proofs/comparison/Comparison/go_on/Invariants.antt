-- Each turn makes at least one of the calls that are left.
use Rattle.std.proofs.Common.{length}
use Rattle.ordercheck.proofs.comparison.Comparison.go_on.Given as goal

abbrev pub decreases-loop-rest : goal.decreases-loop-rest
decreases-loop-rest g l = length l.rest
