use Rattle.reading.proofs.Quoting.{form_is_one_words_letters}
use Rattle.reading.proofs.laws.forms_are_letters.Goals as goal

pub returns : goal.returns
returns c = form_is_one_words_letters
