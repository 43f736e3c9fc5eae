-- One more digit of a mask's holes. Assumes nothing.
use Rattle.std.proofs.Common.{◌≡◌, ℕ, ◌+◌, ◌-◌, ◌<◌, true, false, List, ◌∷◌, suc, ap, ◌∙◌, arith}
use Rattle.std.specs.Prelude.{filter}
use Rattle.std.specs.List.{range_with_len}
use Rattle.std.proofs.lemmas.Bool.{cond-true, cond-false}
use Rattle.views.specs.Holes.{has_hole}

-- the holes from a digit on
abbrev pub holes_from : ℕ → ℕ → List ℕ
holes_from mask d = filter (has_hole mask) (range_with_len d (10 - d))

module _ (mask d : ℕ) (h : d < 10) where
  split : 10 - d ≡ suc (10 - (d + 1))
  split = omega arith

  pub from_a_hole : has_hole mask d ≡ true → holes_from mask d ≡ d ∷ holes_from mask (d + 1)
  from_a_hole e = ap (λ n. filter (has_hole mask) (range_with_len d n)) split ∙ cond-true (has_hole mask d) _ _ e

  pub from_none : has_hole mask d ≡ false → holes_from mask d ≡ holes_from mask (d + 1)
  from_none e = ap (λ n. filter (has_hole mask) (range_with_len d n)) split ∙ cond-false (has_hole mask d) _ _ e
