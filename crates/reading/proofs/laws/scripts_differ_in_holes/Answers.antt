use Rattle.reading.proofs.Filling.{scripts_differ_in_holes_alone}
use Rattle.reading.proofs.laws.scripts_differ_in_holes.Goals as goal

pub returns : goal.returns
returns c = scripts_differ_in_holes_alone
