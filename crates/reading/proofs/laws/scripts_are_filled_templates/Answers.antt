use Rattle.reading.proofs.Filling.{script_reads_as_template_filled}
use Rattle.reading.proofs.laws.scripts_are_filled_templates.Goals as goal

pub returns : goal.returns
returns c = script_reads_as_template_filled
