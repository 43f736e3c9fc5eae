-- What is written of an escaped byte. Assumes nothing.
use Rattle.std.proofs.Common.{◌≡◌, ℕ, ◌-◌, ◌^◌, ◌<◌, true, false, List, [], ◌∷◌, Some, Option, sym, ap, ◌∙◌}
use Rattle.std.specs.Fmt.{◌++?◌, digits, format_spec, padded_integral}
use Rattle.std.proofs.lemmas.Bool.{cond-false}
use Rattle.std.proofs.lemmas.Fmt.{hex_byte}
use Rattle.journal.specs.Escapes.{percent, is_plain, escaped_byte}

-- two digits behind a `%`
pub escape_shown : (b : ℕ) → b < 256 → is_plain b ≡ false → {o : Option (List ℕ)} → o ≡ Some (padded_integral (format_spec 32 0 4 2 (2 ^ 64 - 1)) false [] (digits 16 true b))
    → (Some (percent ∷ []) ++? o) ≡ Some (escaped_byte b)
escape_shown b h p e =
    ap (λ o. Some (percent ∷ []) ++? o) e
    ∙ ap (λ x. Some (percent ∷ x)) (hex_byte true b h)
    ∙ ap (λ x. Some x) (sym (cond-false (is_plain b) _ _ p))
