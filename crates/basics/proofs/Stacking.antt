-- What is below a stack's top. Assumes nothing.
use Rattle.std.proofs.Common.{◌≡◌, List, [], ◌∷◌, drop, refl}
use Rattle.basics.specs.Stacks.{below}

pub below_is_rest : {X : Type 0} (xs : List X) → below xs ≡ drop 1 xs
below_is_rest [] = refl
below_is_rest (x ∷ xs) = refl
