-- A page after a write. Assumes nothing.
use Rattle.std.specs.Prelude.{ℕ, cond, List, ◌++◌, length, take, drop, nat_le}

-- a piece in the page from `at` on, the rest as it was
abbrev pub pasted : {X : Type 0} → ℕ → List X → List X → List X
pasted at piece page = take at page ++ (piece ++ drop (length piece) (drop at page))

-- xs over the start of the page, the rest as it was
abbrev pub over : {X : Type 0} → List X → List X → List X
over xs page = xs ++ drop (length xs) page

-- the same where xs fits, else the page as it was
abbrev pub written : {X : Type 0} → List X → List X → List X
written xs page = cond (nat_le (length xs) (length page)) (over xs page) page
