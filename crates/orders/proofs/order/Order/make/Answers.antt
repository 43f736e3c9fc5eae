use Rattle.std.proofs.Common.{sym, ap, ◌∙◌}
use Rattle.std.proofs.lemmas.Result.{err_from_is_err_and}
use Rattle.listing.specs.Listing.{Left}
use Rattle.orders.specs.declared.call.Call.{Call}
use Rattle.orders.specs.declared.outcome.Done.TheVariants.{Accepted}
use Rattle.orders.specs.Book.{alias_check, load_check, next}
use Rattle.orders.specs.Holding.{book_of}
use Rattle.orders.specs.Desk.{desk, desk_of, list_said, said, desk_next}
use Rattle.orders.specs.Requests.{request_of}
use Rattle.orders.proofs.Booking.{accepts, refuses}
use Rattle.orders.proofs.order.Order.make.Goals as goal

pub returns-in_err-alias-in-Alias-clause-said : goal.returns-in_err-alias-in-Alias-clause-said
returns-in_err-alias-in-Alias-clause-said g c =
    let p = err_from_is_err_and c.from_residual.result c.from_residual.ensures.1 in
    rw (p.1, p.2) (
    refuses (alias_check (book_of c.args.self.now.contents) c.in-Alias.name.now c.in-Alias.value.now) Accepted _ c.in_err-alias-in-Alias.ensures.call.said
    ∙ ap (λ (q : Call). said (g.Q.Quoter.form c.args.self.now.quoter) (book_of c.args.self.now.contents) (desk_of c.args.desk.now) (request_of q)) (sym c.in-Alias.is))

pub returns-in_ok-load-in-Load-clause-said : goal.returns-in_ok-load-in-Load-clause-said
returns-in_ok-load-in-Load-clause-said g c =
    accepts (load_check (book_of c.args.self.now.contents) c.in-Load.template.now) Accepted _ c.in_ok-load-in-Load.ensures.call.said
    ∙ ap (λ (q : Call). said (g.Q.Quoter.form c.args.self.now.quoter) (book_of c.args.self.now.contents) (desk_of c.args.desk.now) (request_of q)) (sym c.in-Load.is)

pub returns-in_ok-load-in-Load-clause-book : goal.returns-in_ok-load-in-Load-clause-book
returns-in_ok-load-in-Load-clause-book g c = c.load.ensures.call.book ∙ ap (λ (q : Call). next (book_of c.args.self.now.contents) (request_of q)) (sym c.in-Load.is)

pub returns-in_err-load-in-Load-clause-said : goal.returns-in_err-load-in-Load-clause-said
returns-in_err-load-in-Load-clause-said g c =
    let p = err_from_is_err_and c.from_residual-in_err-load-in-Load.result c.from_residual-in_err-load-in-Load.ensures.1 in
    rw (p.1, p.2) (
    refuses (load_check (book_of c.args.self.now.contents) c.in-Load.template.now) Accepted _ c.in_err-load-in-Load.ensures.call.said
    ∙ ap (λ (q : Call). said (g.Q.Quoter.form c.args.self.now.quoter) (book_of c.args.self.now.contents) (desk_of c.args.desk.now) (request_of q)) (sym c.in-Load.is))

pub returns-in_err-load-in-Load-clause-book : goal.returns-in_err-load-in-Load-clause-book
returns-in_err-load-in-Load-clause-book g c = c.load.ensures.call.book ∙ ap (λ (q : Call). next (book_of c.args.self.now.contents) (request_of q)) (sym c.in-Load.is)

pub returns-in-List-clause-said : goal.returns-in-List-clause-said
returns-in-List-clause-said g c =
    ap (λ (x : Left). list_said x.said) c.in_ok-list-in-List.ensures.left ∙ ap (λ (q : Call). said (g.Q.Quoter.form c.args.self.now.quoter) (book_of c.args.self.now.contents) (desk_of c.args.desk.now) (request_of q)) (sym c.in-List.is)

pub returns-in-List-clause-desk : goal.returns-in-List-clause-desk
returns-in-List-clause-desk g c =
    ap (λ (x : Left). desk c.args.desk.now.page.now x.sheet) c.list.ensures.left ∙ ap (λ (q : Call). desk_next (g.Q.Quoter.form c.args.self.now.quoter) (book_of c.args.self.now.contents) (desk_of c.args.desk.now) (request_of q)) (sym c.in-List.is)

pub returns-in_err-list-in-List-clause-said : goal.returns-in_err-list-in-List-clause-said
returns-in_err-list-in-List-clause-said g c =
    let p = err_from_is_err_and c.from_residual-in_err-list-in-List.result c.from_residual-in_err-list-in-List.ensures.1 in
    rw (p.1, p.2) (ap (λ (x : Left). list_said x.said) c.in_err-list-in-List.ensures.left ∙ ap (λ (q : Call). said (g.Q.Quoter.form c.args.self.now.quoter) (book_of c.args.self.now.contents) (desk_of c.args.desk.now) (request_of q)) (sym c.in-List.is))

pub returns-in_err-list-in-List-clause-desk : goal.returns-in_err-list-in-List-clause-desk
returns-in_err-list-in-List-clause-desk g c =
    ap (λ (x : Left). desk c.args.desk.now.page.now x.sheet) c.list.ensures.left ∙ ap (λ (q : Call). desk_next (g.Q.Quoter.form c.args.self.now.quoter) (book_of c.args.self.now.contents) (desk_of c.args.desk.now) (request_of q)) (sym c.in-List.is)
