use Rattle.std.proofs.Common.{◌<◌, ℕ, List, length, get_or, set, ap, ◌∙◌, arith}
use Rattle.orders.specs.Holding.{book_of}
use Rattle.orders.specs.Desk.{desk_of, said, desk_next}
use Rattle.orders.specs.Requests.{request_of}
use Rattle.orders.proofs.Running.{goes}
use Rattle.orders.proofs.order.Order.run.Goals as goal

pub loop-i-preserved : goal.loop-i-preserved
loop-i-preserved g c =
    let more : c.loop-i.i < length c.args.calls.now = omega arith in
    let form : g.row.Q.Denot → List ℕ → List ℕ = g.Q.Quoter.form in
    let b = book_of c.loop-i.self.contents in
    let k = desk_of c.loop-i.desk in
    let q = request_of (get_or c.args.calls.now c.loop-i.i _) in
    let inv = c.loop-i.invariant in
    let e = c.make-outcome.ensures in
    record {
      left = goes _ _ _ _ _ c.loop-i.i b _ k _ c.loop-i.outcomes _ _ more inv.left
          e.book
          (e.desk ∙ ap (λ x. desk_next (form x) b k q) inv.quoter)
          (c.note.ensures ∙ ap (λ o. set c.loop-i.outcomes c.loop-i.i o) (e.said ∙ ap (λ x. said (form x) b k q) inv.quoter));
      quoter = e.quoter ∙ inv.quoter;
      places = record {
        page = e.places.page ∙ inv.places.page;
        sheet = e.places.sheet ∙ inv.places.sheet;
        slots = record { records = e.places.slots.records ∙ inv.places.slots.records; letters = e.places.slots.letters ∙ inv.places.slots.letters };
      };
    }
