-- The places that are kept in memory, and beside them anything else that a reading leaves. Assumes nothing.
use Rattle.std.specs.Prelude.{ℕ, List, [], ◌∷◌, Ok, Result}
use Rattle.basics.specs.Stacks.{entries}
use Rattle.basics.specs.declared.refusal.Refusal.{Refusal}
use Rattle.reading.specs.declared.act.Act.{Act}
use Rattle.reading.specs.Laid.{and}
use Rattle.reading.specs.Listed as reading
use Rattle.reading.specs.Listed.{Entry, noted, placing}
use Rattle.listing.specs.declared.places.WordPlaces.{WordPlaces}
use Rattle.listing.specs.declared.places.Places.{Places}

abbrev pub words_of : WordPlaces → reading.WordPlaces
words_of w = record { word = w.word; all = w.all; outer = entries w.outer }

abbrev pub places_of : Places → reading.Places
places_of r = record { words = words_of r.words; marks = record { backslash = r.marks.backslash; dollar = r.marks.dollar; operator = r.marks.operator; body = r.marks.body } }

-- places, and what is left besides
pub record Noted (X : Type 0) : Type 0 where
  pub places : reading.Places
  pub left : X

abbrev pub beside : {X : Type 0} → reading.Places → X → Noted X
beside r x = record { places = r; left = x }

-- entries one after another
abbrev pub entered : {X : Type 0} → (Entry → X → Result X Refusal) → List Entry → X → Result X Refusal
entered enter [] x = Ok x
entered enter (e ∷ es) x = and (enter e x) (λ y. entered enter es y)

-- an act at a place: what it writes is entered, and what it says of places is noted
abbrev pub acted : {X : Type 0} → (Entry → X → Result X Refusal) → Act → ℕ → Noted X → Result (Noted X) Refusal
acted enter a p s = and (entered enter (placing.gives a p s.places) s.left) (λ x. Ok (beside (noted a p s.places) x))
