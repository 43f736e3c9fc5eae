-- How the names and the values of aliases are spelled, and the refusals of others. Assumes nothing.
use Rattle.std.specs.Prelude.{ℕ, Bool, false, not, ◌&&◌, ◌||◌, List, [], ◌∷◌, length, codes, Option, ◌==◌, nat_le, nat_lt}
use Rattle.std.specs.List.{list_all}
use Rattle.basics.specs.Searches.{first_where}
use Rattle.basics.specs.Checks.{refuse_if, refuse_at, or_else}
use Rattle.basics.specs.declared.refusal.Refusal.{Refusal}
use Rattle.basics.specs.declared.refusal.Reason.TheVariants.{TooLong, BadAlias}

abbrev pub among : ℕ → List ℕ → Bool
among b [] = false
among b (c ∷ cs) = b == c || among b cs

abbrev pub between : ℕ → ℕ → ℕ → Bool
between low high b = nat_le low b && nat_le b high

abbrev pub is_lower : ℕ → Bool
is_lower = between 97 122

abbrev pub is_upper : ℕ → Bool
is_upper = between 65 90

abbrev pub is_digit : ℕ → Bool
is_digit = between 48 57

-- a blank is a space or a tab
abbrev pub is_blank : ℕ → Bool
is_blank b = b == 32 || b == 9

-- a name has letters, digits and some marks
abbrev pub is_name_byte : ℕ → Bool
is_name_byte b = is_lower b || (is_upper b || (is_digit b || among b (codes "_!%,@")))

-- a value has no byte 0, no newline, no operator byte, no quote, no expansion and no comment
abbrev pub is_value_byte : ℕ → Bool
is_value_byte b = not (b == 0 || (b == 10 || among b (codes "|&;<>()$`\\\"'#")))

-- a name has at most 16 bytes and a value at most 64
abbrev pub length_check : List ℕ → List ℕ → Option Refusal
length_check name value = refuse_if (nat_lt 16 (length name) || nat_lt 64 (length value)) TooLong 0

-- a name has at least one byte, and none but a name's
abbrev pub name_check : List ℕ → Option Refusal
name_check name = or_else (refuse_at (first_where (λ b. not (is_name_byte b)) name) BadAlias) (refuse_if (length name == 0) BadAlias 0)

-- a value has none but a value's bytes, and at least one that is no blank
abbrev pub value_check : List ℕ → Option Refusal
value_check value =
    or_else (refuse_at (first_where (λ b. not (is_value_byte b)) value) BadAlias)
    (refuse_if (list_all is_blank value) BadAlias 0)

-- what is checked of a name and a value alone, in this order
abbrev pub spelling_check : List ℕ → List ℕ → Option Refusal
spelling_check name value = or_else (length_check name value) (or_else (name_check name) (value_check value))
