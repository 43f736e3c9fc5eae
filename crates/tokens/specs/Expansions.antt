-- What is begun, and whether a byte goes on with it. Assumes nothing.
use Rattle.std.specs.Prelude.{ℕ, Bool, true, false, ◌||◌, List, is_some, codes, ◌==◌}
use Rattle.std.specs.List.{list_any}
use Rattle.tokens.specs.declared.begun.Begun.{Begun}
use Rattle.tokens.specs.declared.begun.Begun.TheVariants as begun
use Rattle.tokens.specs.Bytes.{class_of, is_digit, is_name_start, is_name_byte, open_paren, open_brace}
use Rattle.tokens.specs.Operators.{lengthened}

-- the byte is in the text
abbrev pub among : ℕ → List ℕ → Bool
among b text = list_any (λ x. x == b) text

-- the parameters of one byte: `$1`, `$@` and their like
abbrev pub is_special : ℕ → Bool
is_special b = is_digit b || among b (codes "@*#?-$!")

-- the bytes that a backslash quotes in double quotes
abbrev pub is_quotable : ℕ → Bool
is_quotable b = among b (codes "$`\"\\")

-- the byte belongs to what is begun. All that may follow `${` does: what is no name there is refused.
abbrev pub goes_on : Begun → ℕ → Bool
goes_on begun.Nothing b = false
goes_on begun.Dollar b = b == open_paren || (b == open_brace || (is_name_start b || is_special b))
goes_on begun.Paren b = b == open_paren
goes_on begun.Name b = is_name_byte b
goes_on begun.Brace b = true
goes_on begun.BraceName b = true
goes_on (begun.Operator o) b = is_some (lengthened (class_of b) o)

abbrev pub is_dollar : Begun → Bool
is_dollar begun.Nothing = false
is_dollar begun.Dollar = true
is_dollar begun.Paren = false
is_dollar begun.Name = false
is_dollar begun.Brace = false
is_dollar begun.BraceName = false
is_dollar (begun.Operator o) = false

abbrev pub is_nothing : Begun → Bool
is_nothing begun.Nothing = true
is_nothing begun.Dollar = false
is_nothing begun.Paren = false
is_nothing begun.Name = false
is_nothing begun.Brace = false
is_nothing begun.BraceName = false
is_nothing (begun.Operator o) = false
