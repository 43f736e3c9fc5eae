-- Searches of a text by a test of its bytes. Assumes nothing.
use Rattle.std.specs.Prelude.{ℕ, Bool, List, Option, nat_eq, position}

-- the index of the first byte that passes the test
abbrev pub first_where : (ℕ → Bool) → List ℕ → Option ℕ
first_where test text = position test text

abbrev pub first_zero : List ℕ → Option ℕ
first_zero text = first_where (λ b. nat_eq b 0) text
