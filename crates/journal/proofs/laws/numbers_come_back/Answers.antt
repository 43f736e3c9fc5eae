use Rattle.journal.proofs.Numbered.{kinds_come_back, letters_come_back}
use Rattle.journal.proofs.laws.numbers_come_back.Goals as goal

pub returns : goal.returns
returns c = record { kinds = kinds_come_back; letters = letters_come_back }
