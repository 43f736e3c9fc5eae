use Rattle.commands.proofs.ByLines.{bodies_go_by_lines}
use Rattle.commands.proofs.laws.bodies_go_by_lines.Goals as goal

pub returns : goal.returns
returns c = bodies_go_by_lines
