use Rattle.journal.proofs.Back.{escapes_come_back}
use Rattle.journal.proofs.laws.escapes_come_back.Goals as goal

pub returns : goal.returns
returns c = escapes_come_back
