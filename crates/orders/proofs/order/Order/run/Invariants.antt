use Rattle.std.proofs.Common.{◌≡◌}
use Rattle.orders.specs.Holding.{book_of}
use Rattle.orders.specs.Desk.{desk_of, SamePlaces}
use Rattle.orders.proofs.Running.{Left}
use Rattle.orders.proofs.order.Order.run.Given as goal

abbrev pub invariant-loop-i : goal.invariant-loop-i
invariant-loop-i g l = record {
  left : Left (g.Q.Quoter.form l.initial.self.quoter) l.calls (book_of l.initial.self.contents) (desk_of l.initial.desk) l.initial.outcomes l.i (book_of l.self.contents) (desk_of l.desk) l.outcomes;
  quoter : l.self.quoter ≡ l.initial.self.quoter;
  places : SamePlaces l.initial.desk l.desk;
}
