-- What only notes places. Assumes nothing.
use Rattle.std.proofs.Common.{◌≡◌, ℕ, List, [], ◌∷◌, Ok, refl, ap}
use Rattle.reading.specs.declared.act.Act.{Act}
use Rattle.reading.specs.Listed.{Entry, noted, placing}
use Rattle.reading.specs.Laid.{and}
use Rattle.listing.specs.Noting.{Noted, beside, entered, acted}
use Rattle.listing.specs.Masks.{keep}

kept : (es : List Entry) (m : ℕ) → entered keep es m ≡ Ok m
kept [] m = refl
kept (e ∷ es) m = kept es m

pub notes : (a : Act) (p : ℕ) (s : Noted ℕ) → acted keep a p s ≡ Ok (beside (noted a p s.places) s.left)
notes a p s = ap (λ r. and r (λ x. Ok (beside (noted a p s.places) x))) (kept (placing.gives a p s.places) s.left)
