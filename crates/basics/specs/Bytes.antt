-- Bytes by the names that a shell gives them, and what is asked of a text. Assumes nothing.
use Rattle.std.specs.Prelude.{ℕ, ◌-◌, ◌^◌, min, ◌≢◌, List, count_by, nat_eq}
use Rattle.std.specs.List.{AllByRecursion}

abbrev pub newline : ℕ
newline = 10

abbrev pub single_quote : ℕ
single_quote = 39

abbrev pub backslash : ℕ
backslash = 92

-- how often a byte stands in a text
abbrev pub occurrences : ℕ → List ℕ → ℕ
occurrences b text = count_by (λ x. nat_eq x b) text

-- no byte 0 stands in the text
abbrev pub ZeroFree : List ℕ → Type 0
ZeroFree text = AllByRecursion (λ b. b ≢ 0) text

-- a length as a `usize` tells it: the largest `usize` stands for itself and for all that is longer
abbrev pub told : ℕ → ℕ
told n = min n (2 ^ 64 - 1)
