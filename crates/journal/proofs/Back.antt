-- What was escaped is given back. Assumes nothing.
use Rattle.std.proofs.Common.{◌≡◌, ℕ, ◌+◌, ◌*◌, ◌/◌, ◌%◌, ◌<◌, Bool, true, false, cond, List, [], ◌∷◌, ◌++◌, Some, refl, ap, ◌∙◌, arith, rules}
use Rattle.journal.specs.declared.unescape.Place.TheVariants.{Outside}
use Rattle.journal.specs.declared.unescape.Piece.TheVariants.{Gives}
use Rattle.journal.specs.Escapes.{percent, is_plain, digit, escaped, digit_value, first_digit, second_digit, piece, pieced, unescaped_from, with_byte, EscapesComeBack}

digit_back : (n : ℕ) → n < 16 → digit_value (digit n) ≡ Some n
digit_back n h = search rules

plain_back : (b : ℕ) → is_plain b ≡ true → piece Outside b ≡ Some (Gives b)
plain_back b e = search rules

byte_back : (b : ℕ) → b < 256 → b / 16 % 16 * 16 + b % 16 % 16 ≡ b
byte_back b h = search rules

-- one byte, escaped in front of any word
one_back : (b : ℕ) → b < 256 → (plain : Bool) → is_plain b ≡ plain → (word : List ℕ)
    → unescaped_from Outside (cond plain (b ∷ []) (percent ∷ digit (b / 16) ∷ digit (b % 16) ∷ []) ++ word) ≡ with_byte b (unescaped_from Outside word)
one_back b h true e word = ap (λ x. pieced x (λ p. unescaped_from p word)) (plain_back b e)
one_back b h false e word =
    let low : b % 16 < 16 = omega arith in
    let high : b / 16 < 16 = omega arith in
    ap (λ x. pieced (first_digit x) (λ p. unescaped_from p (digit (b % 16) ∷ word))) (digit_back (b / 16) high)
    ∙ ap (λ x. pieced (second_digit (b / 16) x) (λ p. unescaped_from p word)) (digit_back (b % 16) low)
    ∙ ap (λ x. with_byte x (unescaped_from Outside word)) (byte_back b h)

pub escapes_come_back : EscapesComeBack
escapes_come_back [] h = refl
escapes_come_back (b ∷ bytes) h = one_back b h.0 (is_plain b) refl (escaped bytes) ∙ ap (with_byte b) (escapes_come_back bytes h.1)
