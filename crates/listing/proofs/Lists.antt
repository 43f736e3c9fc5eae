-- A list on free slots. Assumes nothing.
use Rattle.std.proofs.Common.{◌≡◌, ℕ, ◌+◌, ◌^◌, ◌<◌, List, [], take, Some, Ok, Err, Result, sym, refl, ap, ◌∙◌, arith}
use Rattle.std.specs.Option.{unwrap_or}
use Rattle.std.proofs.lemmas.List.{take-take}
use Rattle.basics.specs.declared.refusal.Refusal.{Refusal}
use Rattle.source.specs.declared.symbol.Symbol.{Symbol}
use Rattle.source.specs.Front.{Front}
use Rattle.source.specs.Fronts.{front}
use Rattle.aliases.specs.declared.table.AliasTable.{AliasTable}
use Rattle.aliases.specs.Tables.{aliases_of}
use Rattle.reading.specs.States.{fresh}
use Rattle.reading.specs.Laid.{and}
use Rattle.reading.specs.Readings.{Aliases, Reading}
use Rattle.reading.specs.Listed.{Places, Entry, nowhere, reading}
use Rattle.reader.specs.Held.{result_of}
use Rattle.reader.specs.Sheets.{Sheets}
use Rattle.reader.specs.Onto.{read_on}
use Rattle.reader.specs.Turns.{reads_from}
use Rattle.listing.specs.declared.record.Record.{Record}
use Rattle.listing.specs.Noting.{Noted, beside}
use Rattle.listing.specs.Writing.{Slots, entry, no_hole, without_letters}
use Rattle.listing.specs.Laying.{noting, left_of}
use Rattle.listing.specs.Listing.{Pages, blank, counts_of, no_counts, on_slots, counting, taken}
use Rattle.listing.proofs.Linking.{reading_is}
use Rattle.listing.proofs.Views.{View, view_of}
use Rattle.listing.proofs.Sheeting.{events_seen, events_view, Shown, shown, counted, fit, all}

-- a source of which no word is replaced yet
pub begins : {S : Type 0} (W : Sheets S) (source : Front) (t : AliasTable) (ss : List Symbol) (e : ℕ) (s u : S) → source ≡ front ss e t → s ≡ u →
    reads_from W source fresh s ≡ read_on W (aliases_of t).named e 64 ss [] fresh u
begins W source t ss e s u p q = ap (λ x. reads_from W x fresh s) p ∙ ap (λ x. read_on W (aliases_of t).named e 64 ss [] fresh x) q

pub left_result : {X Y : Type 0} (r : Result X Refusal) (o : Noted Y) → left_of (result_of r o) ≡ result_of r o.left
left_result (Ok x) o = refl
left_result (Err e) o = refl

-- what is seen after the reading
pub read_view : {X : Type 0} (al : Aliases) (ss : List Symbol) (e : ℕ) (s : Slots) (r : Result X Refusal) (o : Noted Slots) → result_of r o ≡ read_on (noting entry no_hole) al e 64 ss [] fresh (beside nowhere s) →
    and (result_of r o.left) (λ t. Ok (view_of t)) ≡ events_seen (reading al ss e).events (reading al ss e).ending (view_of s)
read_view al ss e s r o p =
    ap (λ z. and z (λ t. Ok (view_of t))) (sym (left_result r o) ∙ ap left_of p ∙ sym (reading_is entry no_hole al (λ x. (without_letters x, refl)) e 64 ss [] fresh (beside nowhere s)))
    ∙ events_view (reading al ss e).events (reading al ss e).ending s

-- the same from a source of which no word is replaced yet
pub seen_from : {X : Type 0} (source : Front) (t : AliasTable) (ss : List Symbol) (e : ℕ) (q : Places) (s : Slots) (r : Result X Refusal) (o : Noted Slots) →
    result_of r o ≡ reads_from (noting entry no_hole) source fresh (beside q s) → source ≡ front ss e t → q ≡ nowhere →
    and (result_of r o.left) (λ t. Ok (view_of t)) ≡ events_seen (reading (aliases_of t).named ss e).events (reading (aliases_of t).named ss e).ending (view_of s)
seen_from source t ss e q s r o p a h =
    read_view (aliases_of t).named ss e s r o (p ∙ begins (noting entry no_hole) source t ss e (beside q s) (beside nowhere s) a (ap (λ x. beside x s) h))

module _ (nr nl b rn ln : ℕ) (short : b + nl < 2 ^ 64) (r : Reading Entry Refusal) where
  abbrev start : View
  start = record { given = no_counts; waiting = Some 0; records = []; letters = []; record_room = nr; letter_room = nl; before = b; record_name = rn; letter_name = ln }

  shown_is : and (events_seen r.events r.ending start) (λ v. Ok (shown v)) ≡ and (on_slots b nr nl r) (λ p. Ok (counted nr nl b rn ln short p))
  shown_is =
      ap (λ v. and (events_seen r.events r.ending v) (λ u. Ok (shown u))) (sym (fit nr nl b rn ln short blank [] (omega arith)))
      ∙ all nr nl b rn ln short r.events r.ending blank [] (omega arith)

  module _ (t : Slots) (rs : List Record) (ls : List ℕ) (tie-records : rn ≡ t.records.ghost_name → rs ≡ t.records.now) (tie-letters : ln ≡ t.letters.ghost_name → ls ≡ t.letters.now) where
    close : (o : Result Pages Refusal) → Ok (shown (view_of t)) ≡ and o (λ p. Ok (counted nr nl b rn ln short p)) → taken (Ok t.given) rs ls ≡ and o counting
    close (Err e) q = let z : ◌≡◌ {A = ℕ} 0 1 = cc in absurd (omega arith)
    close (Ok p) q =
        let e : shown (view_of t) ≡ counted nr nl b rn ln short p = cc in
        let g = t.given.letters in
        let records : take t.given.records t.records.now ≡ p.records = ap (λ (x : Shown). x.records) e in
        let letters : take g (take (g + unwrap_or t.waiting 0) t.letters.now) ≡ p.letters = ap (λ (x : Shown). x.letters) e in
        let counts : t.given ≡ counts_of p = ap (λ (x : Shown). x.counts) e in
        let at_records : rs ≡ t.records.now = tie-records (sym (ap (λ (x : Shown). x.record_name) e)) in
        let at_letters : ls ≡ t.letters.now = tie-letters (sym (ap (λ (x : Shown). x.letter_name) e)) in
        ap (λ x. taken (Ok t.given) x ls) at_records ∙ ap (λ x. taken (Ok t.given) t.records.now x) at_letters
        ∙ ap (λ x. Ok (record { pages = record { records = x; letters = take g t.letters.now }; counts = t.given })) records
        ∙ ap (λ x. Ok (record { pages = record { records = p.records; letters = x }; counts = t.given })) (sym (take-take g (g + unwrap_or t.waiting 0) t.letters.now (omega arith)) ∙ letters)
        ∙ ap (λ x. Ok (record { pages = p; counts = x })) counts

    pub accepted : Ok (view_of t) ≡ events_seen r.events r.ending start → taken (Ok t.given) rs ls ≡ and (on_slots b nr nl r) counting
    accepted q = close (on_slots b nr nl r) (ap (λ z. and z (λ v. Ok (shown v))) q ∙ shown_is)

  turned_away : (f : Refusal) (o : Result Pages Refusal) → Err f ≡ and o (λ p. Ok (counted nr nl b rn ln short p)) → Err f ≡ and o counting
  turned_away f (Ok p) q = let z : ◌≡◌ {A = ℕ} 0 1 = cc in absurd (omega arith)
  turned_away f (Err g) q = let e : f ≡ g = cc in ap Err e

  pub refused : (f : Refusal) → Err f ≡ events_seen r.events r.ending start → Err f ≡ and (on_slots b nr nl r) counting
  refused f q = turned_away f (on_slots b nr nl r) (ap (λ z. and z (λ v. Ok (shown v))) q ∙ shown_is)
