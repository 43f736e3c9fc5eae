use Rattle.reading.proofs.Plains.{kept_bytes_tell_the_word}
use Rattle.reading.proofs.laws.kept_bytes_tell_the_word.Goals as goal

pub returns : goal.returns
returns c = kept_bytes_tell_the_word
