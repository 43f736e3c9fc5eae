-- Which bytes are which.
use Rattle.std.specs.Prelude.{ℕ, Bool, ◌&&◌, ◌||◌, ◌==◌, nat_le}

-- a space or a tab
abbrev pub is_blank : ℕ → Bool
is_blank b = b == 32 || b == 9

abbrev pub is_digit : ℕ → Bool
is_digit b = nat_le 48 b && nat_le b 57

-- `_` or a letter
abbrev pub begins_name : ℕ → Bool
begins_name b = b == 95 || ((nat_le 97 b && nat_le b 122) || (nat_le 65 b && nat_le b 90))

abbrev pub is_in_name : ℕ → Bool
is_in_name b = begins_name b || is_digit b

-- newline, then & ( ) ; < > |
abbrev pub begins_operator : ℕ → Bool
begins_operator b =
    (b == 10) || (b == 38 || (b == 40 || (b == 41 || (b == 59 || (b == 60 || (b == 62 || b == 124))))))

-- ! # $ * - ? @ or a digit
abbrev pub is_parameter : ℕ → Bool
is_parameter b =
    (b == 33) || (b == 35 || (b == 36 || (b == 42 || (b == 45 || (b == 63 || (b == 64 || is_digit b))))))
