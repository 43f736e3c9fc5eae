use Rattle.orders.proofs.Soundness.{books_are_sound}
use Rattle.orders.proofs.laws.books_are_sound.Goals as goal

pub returns : goal.returns
returns c = books_are_sound
