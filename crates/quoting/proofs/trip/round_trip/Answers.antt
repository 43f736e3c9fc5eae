use Rattle.std.proofs.Common.{◌≡◌, ◌≤◌, length, take, drop, sym, ap, ◌∙◌}
use Rattle.std.proofs.lemmas.List.{take_at}
use Rattle.std.proofs.lemmas.Bool.{leb-true, cond-true}
use Rattle.basics.specs.Pages.{over}
use Rattle.basics.proofs.Over.{written_fits}
use Rattle.quoting.specs.Forms.{unquoted}
use Rattle.quoting.specs.Trips.{told_back, left_back}
use Rattle.quoting.specs.Unquoting.{answered, left}
use Rattle.quoting.proofs.Lawfully.{fitted_ok, returned}
use Rattle.quoting.proofs.trip.round_trip.Goals as goal

pub returns : goal.returns
returns g c =
    let form = g.Q.Quoter.form c.args.quoter.now in
    let text = c.args.text.now in
    let page = c.args.page.now in
    let part = c.args.part.now in
    let n = c.in_ok-n.n in
    let ok = fitted_ok (length (form text)) (length page) n (sym c.write.ensures.said ∙ c.in_ok-n.was) in
    let fits : length (form text) ≤ length page = leb-true (length (form text)) (length page) ok.0 in
    let after : c.write.new.part ≡ over (form text) page = c.write.ensures.put ∙ written_fits (form text) page fits in
    let front : take n c.write.new.part ≡ form text = ap (take n) after ∙ take_at (form text) (drop (length (form text)) page) n ok.1 in
    let said : c.unquote.result ≡ told_back (form text) page part =
    c.unquote.ensures.said ∙ ap (λ f. answered (unquoted f) (length part)) front ∙ sym (cond-true _ _ _ ok.0) in
    let read : c.unquote.new.part ≡ left_back (form text) page part =
    c.unquote.ensures.put ∙ ap (λ f. left (unquoted f) part) front ∙ sym (cond-true _ _ _ ok.0) in
    record { said = said; wrote = c.write.ensures.put; read = read; returns = returned form text page part c.unquote.new.part c.unquote.result said read }
