-- The form of `Backslash`: a backslash before each byte, a newline as ' newline ', and '' for the empty text. Assumes nothing.
use Rattle.std.specs.Prelude.{ℕ, cond, List, [], ◌∷◌, codes, ◌==◌}
use Rattle.std.specs.List.{flat_map}
use Rattle.basics.specs.Bytes.{newline, backslash}

abbrev pub escaped : ℕ → List ℕ
escaped b = cond (b == newline) (codes "'\n'") (backslash ∷ b ∷ [])

abbrev pub backslashed : List ℕ → List ℕ
backslashed [] = codes "''"
backslashed (b ∷ text) = flat_map escaped (b ∷ text)

-- what stands around the pieces: only the empty text has quotes
abbrev pub brink : List ℕ → List ℕ
brink [] = codes "'"
brink (b ∷ text) = []
