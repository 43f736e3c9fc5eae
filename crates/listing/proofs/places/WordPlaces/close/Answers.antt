use Rattle.std.proofs.Common.{◌≡◌, ℕ, ◌+◌, List, [], ◌∷◌, refl}
use Rattle.std.specs.Option.{unwrap_or}
use Rattle.basics.specs.Stacks.{top, below, entries}
use Rattle.reading.specs.Listed.{WordPlaces, closed}
use Rattle.listing.proofs.places.WordPlaces.close.Goals as goal

-- a word's places where a substitution in it closes
closing : (word all p : ℕ) (outer : List ℕ)
    → ◌≡◌ {A = WordPlaces} (record { word = p + 1; all = unwrap_or (top outer) 0; outer = below outer }) (closed p (record { word = word; all = all; outer = outer }))
closing word all p [] = refl
closing word all p (q ∷ qs) = refl

pub returns : goal.returns
returns c =
    let w = c.args.self.now in
    rw (c.pop.ensures, c.unwrap_or-self.ensures, c.top.ensures) (closing w.word w.all c.args.place (entries w.outer))
