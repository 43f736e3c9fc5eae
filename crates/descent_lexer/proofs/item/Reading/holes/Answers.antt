use Rattle.std.proofs.lemmas.Nat.{or_lt}
use Rattle.descent_lexer.proofs.item.Reading.holes.Goals as goal

pub loop-letter-preserved : goal.loop-letter-preserved
loop-letter-preserved c = or_lt 10 c.loop-letter.mask c.hole_bit-mask.result c.loop-letter.invariant c.hole_bit-mask.ensures
