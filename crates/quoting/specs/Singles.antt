-- The form of `Single`: the text in single quotes, each ' in it as '\''. Assumes nothing.
use Rattle.std.specs.Prelude.{ℕ, cond, List, [], ◌∷◌, ◌++◌, codes, ◌==◌}
use Rattle.std.specs.List.{flat_map}
use Rattle.basics.specs.Bytes.{single_quote}

-- a byte of the text, inside the quotes
abbrev pub inside : ℕ → List ℕ
inside b = cond (b == single_quote) (codes "'\\''") (b ∷ [])

abbrev pub single : List ℕ → List ℕ
single text = codes "'" ++ flat_map inside text ++ codes "'"
