-- Each turn takes something off the template.
use Rattle.std.proofs.Common.{length}
use Rattle.comparing.proofs.fill.script_of.Given as goal

abbrev pub decreases-loop-b : goal.decreases-loop-b
decreases-loop-b g l = length l.rest
