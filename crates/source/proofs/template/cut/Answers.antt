use Rattle.std.proofs.Common.{◌≡◌, ◌-◌, get_or, drop, Some, Option, sym, ap, ◌∙◌, rules}
use Rattle.std.proofs.lemmas.List.{take_rest}
use Rattle.source.specs.declared.symbol.Sign.{Sign}
use Rattle.source.specs.declared.symbol.Sign.TheVariants.{Byte, Hole}
use Rattle.source.specs.Symbols.{first_sign, width}
use Rattle.source.proofs.template.cut.Goals as goal

pub returns-in-64 : goal.returns-in-64
returns-in-64 c =
    let text = c.args.text.now in
    let e : first_sign text ≡ Some (Hole (get_or text 2 0 - 48)) = search rules in
    record { sign = sym e; rest = take_rest text 4 ∙ sym (ap (λ (s : Option Sign). drop (width s) text) e) }

pub returns-in-len1-up : goal.returns-in-len1-up
returns-in-len1-up c =
    let text = c.args.text.now in
    let e : first_sign text ≡ Some (Byte (get_or text 0 0)) = search rules in
    record { sign = sym e; rest = take_rest text 1 ∙ sym (ap (λ (s : Option Sign). drop (width s) text) e) }
