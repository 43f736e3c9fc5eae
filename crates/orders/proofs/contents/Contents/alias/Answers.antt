use Rattle.std.proofs.Common.{sym, ap, ◌∙◌}
use Rattle.basics.specs.Checks.{answer, unless}
use Rattle.aliases.specs.Aliases.{define_check, defined}
use Rattle.orders.specs.Book.{none_loaded}
use Rattle.orders.specs.Holding.{book_of}
use Rattle.orders.proofs.Booking.{book, by_aliases, heard}
use Rattle.orders.proofs.contents.Contents.alias.Goals as goal

pub returns : goal.returns
returns c =
    let s = c.args.self.now in
    let b = book_of s in
    let d = define_check b.aliases c.args.name.now c.args.value.now in
    let new = defined b.aliases c.args.name.now c.args.value.now in
    let f = heard (none_loaded b) d _ c.in_ok-none_loaded.ensures in
    record {
      said = c.define.ensures.said ∙ ap (λ x. answer x tt) (sym f);
      book = ap (book b.loaded b.texts) c.define.ensures.after ∙ by_aliases d b.aliases new b.loaded b.texts ∙ ap (λ x. unless x b (book b.loaded b.texts new)) (sym f);
      kept = λ h. ap (λ x. record { aliases = x; loaded = s.loaded; template = s.template; texts = s.texts; bound = s.bound }) (c.define.ensures.kept h);
    }
