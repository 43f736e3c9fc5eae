use Rattle.tokens.proofs.Classes.{class_is}
use Rattle.tokens.proofs.class.class_of.Goals as goal

pub returns-then-b-lt128 : goal.returns-then-b-lt128
returns-then-b-lt128 c = class_is c.args.b c.if-b-lt128.true
