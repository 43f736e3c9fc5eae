use Rattle.quoting.proofs.Lawfully.{takes_lawful_forms}
use Rattle.quoting.proofs.trip.unquoting_takes_lawful_forms.Goals as goal

pub returns : goal.returns
returns c = takes_lawful_forms
