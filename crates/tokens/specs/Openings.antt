-- How a word opens, and how much of a plain word is kept. Assumes nothing.
use Rattle.std.specs.Prelude.{ℕ, Bool, true, false, cond, List, [], ◌∷◌, ◌++◌, length, ◌==◌, nat_lt}
use Rattle.tokens.specs.declared.opening.Opening.{Opening}
use Rattle.tokens.specs.declared.opening.Opening.TheVariants.{Digits, Name, Assign, Other}
use Rattle.tokens.specs.Bytes.{is_digit, is_name_start, is_name_byte, equals}

-- with its first byte
abbrev pub opened : ℕ → Opening
opened b = cond (is_digit b) Digits (cond (is_name_start b) Name Other)

-- with a further bare byte
abbrev pub further : Opening → ℕ → Opening
further Digits b = cond (is_digit b) Digits Other
further Name b = cond (is_name_byte b) Name (cond (b == equals) Assign Other)
further Assign b = Assign
further Other b = Other

abbrev pub is_assign : Opening → Bool
is_assign Digits = false
is_assign Name = false
is_assign Assign = true
is_assign Other = false

abbrev pub is_number : Opening → Bool
is_number Digits = true
is_number Name = false
is_number Assign = false
is_number Other = false

-- one byte more of those that are kept. No alias's name and no reserved word is as long as 33 bytes, so the first 33 of a word tell whether it is one.
abbrev pub kept : List ℕ → ℕ → List ℕ
kept w b = cond (nat_lt (length w) 33) (w ++ (b ∷ [])) w
