-- A stack as the list of what it holds, the top first. Assumes nothing.
use Rattle.std.specs.Prelude.{ℕ, List, [], ◌∷◌, drop, Some, None, Option}
use Rattle.basics.specs.declared.stack.Stack.{Stack}

-- what a stack holds, the top first
abbrev pub entries : {T : Type 0} {N : ℕ} → Stack T N → List T
entries s = drop s.from s.held

abbrev pub top : {X : Type 0} → List X → Option X
top [] = None
top (x ∷ xs) = Some x

abbrev pub below : {X : Type 0} → List X → List X
below [] = []
below (x ∷ xs) = xs
