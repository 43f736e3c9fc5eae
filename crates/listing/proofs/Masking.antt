-- The holes that are left are the holes that are read. Assumes nothing.
use Rattle.std.proofs.Common.{◌≡◌, ℕ, List, [], ◌∷◌, Result, sym, refl, ap, ◌∙◌}
use Rattle.basics.specs.declared.refusal.Refusal.{Refusal}
use Rattle.aliases.specs.declared.table.AliasTable.{AliasTable}
use Rattle.aliases.specs.Tables.{aliases_of}
use Rattle.source.specs.declared.symbol.Symbol.{Symbol}
use Rattle.source.specs.Front.{Front}
use Rattle.source.specs.Fronts.{front}
use Rattle.reading.specs.States.{fresh}
use Rattle.reading.specs.Readings.{Event, act, hole, Ending}
use Rattle.reading.specs.Listed.{Places, Entry, nowhere, reading}
use Rattle.reader.specs.Held.{result_of}
use Rattle.reader.specs.Turns.{reads_from}
use Rattle.listing.specs.Noting.{Noted, beside}
use Rattle.listing.specs.Masks.{keep, take_hole, with_hole}
use Rattle.listing.specs.Laying.{ending, events_laid, noting, left_of}
use Rattle.listing.specs.Checking.{holes_read}
use Rattle.listing.proofs.Linking.{reading_is}
use Rattle.listing.proofs.Lists.{begins, left_result}

holes_laid : (xs : List (Event Entry)) (e : Ending Refusal) (m : ℕ) → events_laid keep take_hole xs e m ≡ ending e (holes_read xs m)
holes_laid [] e m = refl
holes_laid (act b ∷ xs) e m = holes_laid xs e m
holes_laid (hole d ∷ xs) e m = holes_laid xs e (with_hole d m)

-- from a source of which no word is replaced yet
pub holes_from : {X : Type 0} (source : Front) (t : AliasTable) (ss : List Symbol) (e : ℕ) (q : Places) (m : ℕ) (r : Result X Refusal) (o : Noted ℕ) →
    result_of r o ≡ reads_from (noting keep take_hole) source fresh (beside q m) → source ≡ front ss e t → q ≡ nowhere →
    result_of r o.left ≡ ending (reading (aliases_of t).named ss e).ending (holes_read (reading (aliases_of t).named ss e).events m)
holes_from source t ss e q m r o p a h =
    sym (left_result r o)
    ∙ ap left_of (p ∙ begins (noting keep take_hole) source t ss e (beside q m) (beside nowhere m) a (ap (λ x. beside x m) h))
    ∙ sym (reading_is keep take_hole (aliases_of t).named (λ x. (x, refl)) e 64 ss [] fresh (beside nowhere m))
    ∙ holes_laid (reading (aliases_of t).named ss e).events (reading (aliases_of t).named ss e).ending m
