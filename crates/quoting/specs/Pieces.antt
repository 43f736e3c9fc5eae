-- Forms that are an edge, a piece for each byte of the text, and the edge again. Assumes nothing.
use Rattle.std.specs.Prelude.{ℕ, List, ◌++◌}
use Rattle.std.specs.List.{flat_map}

abbrev pub pieced : (List ℕ → List ℕ) → (ℕ → List ℕ) → List ℕ → List ℕ
pieced edge piece text = edge text ++ flat_map piece text ++ edge text
