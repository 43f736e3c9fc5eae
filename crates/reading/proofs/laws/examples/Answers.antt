use Rattle.std.proofs.Common.{refl}
use Rattle.reading.specs.Placed.{placed}
use Rattle.reading.proofs.laws.examples.Goals as goal

pub returns : goal.returns
unfolding placed
returns c = ((refl, refl), (refl, refl), (refl, refl), (refl, refl), (refl, refl), refl, refl, (refl, refl), refl, refl, refl, refl, refl, refl)
