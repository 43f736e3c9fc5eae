use Rattle.std.proofs.Common.{◌≡◌, ◌-◌, ◌^◌, ◌<◌, false, [], ap, ◌∙◌, subst, rules}
use Rattle.std.specs.Fmt.{DisplaysOnOk, format_spec, padded_integral, styled_digits_output}
use Rattle.std.specs.Option.{option_map}
use Rattle.journal.specs.Escapes.{is_plain}
use Rattle.journal.proofs.Shown.{escape_shown}
use Rattle.journal.proofs.escape.EscapedByteDisplay.fmt.Goals as goal

pub returns-else-is_plain-clause-writes : goal.returns-else-is_plain-clause-writes
returns-else-is_plain-clause-writes g c =
    let b = c.args.self.now.0 in
    let byte : b < 256 = search rules in
    let escaped : is_plain b ≡ false = search rules in
    let shown =
    ap (λ s. styled_digits_output c.in_radix.result s) c.laid_out.ensures
    ∙ ap (λ o. option_map (padded_integral (format_spec 32 0 4 2 (2 ^ 64 - 1)) false []) o) c.in_radix.ensures
    in
    subst (λ o. DisplaysOnOk {W = g.row.W.Denot} g.W.Write.write_str_gives c.args.f.now c.write-else-is_plain.result o c.write-else-is_plain.new.self)
    (escape_shown b byte escaped shown) c.write-else-is_plain.ensures.writes
