use Rattle.aliases.specs.Tables.{aliases_of}
use Rattle.orders.proofs.Booking.{taken}
use Rattle.orders.proofs.contents.Contents.load.Goals as goal

pub keep-requires-clause-holes_value : goal.keep-requires-clause-holes_value
keep-requires-clause-holes_value c = (taken (aliases_of c.args.self.now.aliases).named c.args.template.now c.in_ok-holes.holes c.in_ok-holes.ensures.masked).1
