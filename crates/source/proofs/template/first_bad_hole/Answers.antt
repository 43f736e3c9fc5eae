use Rattle.std.proofs.Common.{◌≡◌, true, false, drop, rules, of_calls}
use Rattle.std.proofs.lemmas.Iterator.{first_from_Range}
use Rattle.source.specs.Symbols.{hole_spoiled}
use Rattle.source.proofs.Templates.{searched}
use Rattle.source.proofs.template.first_bad_hole.Goals as goal

pub returns : goal.returns
returns c =
    let t = c.args.template.now in
    searched t c.find.result (first_from_Range _ _ _ c.find.result (λ i. hole_spoiled (drop i t) ≡ true) (λ i. hole_spoiled (drop i t) ≡ false) c.find.ensures.ran
    (λ x q h. search (rules, of_calls)) (λ x q h. search (rules, of_calls)))
