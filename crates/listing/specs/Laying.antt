-- A reading laid on anything that takes entries and holes, one after another. Assumes nothing.
use Rattle.std.specs.Prelude.{ℕ, List, [], ◌∷◌, Ok, Err, Result}
use Rattle.basics.specs.declared.refusal.Refusal.{Refusal}
use Rattle.reading.specs.Laid.{and}
use Rattle.reading.specs.Readings.{Event, act, hole, Ending, ended, refused, Reading}
use Rattle.reading.specs.Listed.{Entry, refusal_at}
use Rattle.reader.specs.Sheets.{Sheets}
use Rattle.listing.specs.Noting.{Noted, beside, acted}

abbrev pub ending : {X : Type 0} → Ending Refusal → X → Result X Refusal
ending ended x = Ok x
ending (refused f) x = Err f

module _ {X : Type 0} (enter : Entry → X → Result X Refusal) (fill : ℕ → X → Result X Refusal) where
  abbrev pub events_laid : List (Event Entry) → Ending Refusal → X → Result X Refusal
  events_laid [] e x = ending e x
  events_laid (act b ∷ xs) e x = and (enter b x) (λ y. events_laid xs e y)
  events_laid (hole d ∷ xs) e x = and (fill d x) (λ y. events_laid xs e y)

  abbrev pub laying : Reading Entry Refusal → X → Result X Refusal
  laying r x = events_laid r.events r.ending x

  -- the same beside the places that are noted
  abbrev pub noting : Sheets (Noted X)
  noting = record {
    written = acted enter;
    placed = λ f p s. refusal_at f p s.places;
    filled = λ d s. and (fill d s.left) (λ x. Ok (beside s.places x));
    word = λ s. s.places.words.all;
  }

-- what is left besides the places
abbrev pub left_of : {X : Type 0} → Result (Noted X) Refusal → Result X Refusal
left_of r = and r (λ s. Ok s.left)
