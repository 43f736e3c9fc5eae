-- Letters written as they come make the items' letters. Assumes nothing.
use Rattle.std.proofs.Common.{◌≡◌, ℕ, ◌+◌, ◌-◌, ◌^◌, ◌<◌, ◌≤◌, min, cond, ltb, leb, List, [], ◌∷◌, ◌++◌, length, take, Some, None, Ok, Err, Option, Result, sym, refl, ap, ◌∙◌, inl, inr, arith}
use Rattle.std.proofs.lemmas.List.{append-nil, append_assoc, length-append, length_push, take_all, take_at}
use Rattle.std.proofs.lemmas.Bool.{cases_lt, cases_Bool, and_left, and_right, and_from, and_parts, leb-true, cond-true, cond-false, lt-ltb, le-ltb, le-leb, lt-leb}
use Rattle.basics.specs.Checks.{refusal}
use Rattle.basics.specs.declared.refusal.Refusal.{Refusal}
use Rattle.basics.specs.declared.refusal.Reason.TheVariants.{NoRoom}
use Rattle.tokens.specs.declared.letter.Letter.{Letter}
use Rattle.tokens.specs.Letters.{letter_number}
use Rattle.reading.specs.Items.{Written, letter, item, forget, ItemLetter, known, filled_by}
use Rattle.reading.specs.Laid.{and}
use Rattle.reading.specs.Readings.{Event, act, hole, Ending, ended, refused}
use Rattle.reading.specs.Listed.{Entry, Listed, listed_from}
use Rattle.listing.specs.declared.record.Record.{Record}
use Rattle.listing.specs.declared.record.Counts.{Counts}
use Rattle.listing.specs.Writing.{Slots, entry, no_hole}
use Rattle.listing.specs.Laying.{ending, events_laid}
use Rattle.listing.specs.Listing.{Pages, counts_of, numbers, record_of, put, fits, laid_items}
use Rattle.listing.proofs.Views.{View, view_of, lettered, itemed, forgotten, seen, entry_view}

-- what is seen of events
abbrev pub events_seen : List (Event Entry) → Ending Refusal → View → Result View Refusal
events_seen [] e v = ending e v
events_seen (act b ∷ xs) e v = and (seen b.what b.place v) (λ u. events_seen xs e u)
events_seen (hole d ∷ xs) e v = events_seen xs e v

end_view : (e : Ending Refusal) (s : Slots) → and (ending e s) (λ t. Ok (view_of t)) ≡ ending e (view_of s)
end_view ended s = refl
end_view (refused f) s = refl

one_more : {X : Type 0} (r : Result Slots Refusal) (f : Slots → Result X Refusal) (g : View → Result X Refusal) → ((t : Slots) → f t ≡ g (view_of t)) → and r f ≡ and (and r (λ t. Ok (view_of t))) g
one_more (Ok t) f g h = h t
one_more (Err e) f g h = refl

shift : {X Y Z : Type 0} (r : Result X Refusal) (f : X → Result Y Refusal) (g : Y → Result Z Refusal) → and (and r f) g ≡ and r (λ t. and (f t) g)
shift (Ok x) f g = refl
shift (Err e) f g = refl

pub events_view : (xs : List (Event Entry)) (e : Ending Refusal) (s : Slots) → and (events_laid entry no_hole xs e s) (λ t. Ok (view_of t)) ≡ events_seen xs e (view_of s)
events_view [] e s = end_view e s
events_view (act b ∷ xs) e s =
    shift (entry b s) (λ t. events_laid entry no_hole xs e t) (λ t. Ok (view_of t))
    ∙ one_more (entry b s) (λ t. and (events_laid entry no_hole xs e t) (λ u. Ok (view_of u))) (λ v. events_seen xs e v) (λ t. events_view xs e t)
    ∙ ap (λ r. and r (λ v. events_seen xs e v)) (entry_view b.what b.place s)
events_view (hole d ∷ xs) e s = events_view xs e s

numbers_known : (acc : List ItemLetter) (l : Letter) → numbers (acc ++ (known l ∷ [])) ≡ numbers acc ++ (letter_number l ∷ [])
numbers_known [] l = refl
numbers_known (known k ∷ acc) l = ap (λ ns. letter_number k ∷ ns) (numbers_known acc l)
numbers_known (filled_by d ∷ acc) l = numbers_known acc l

numbers_hole : (acc : List ItemLetter) (d : ℕ) → numbers (acc ++ (filled_by d ∷ [])) ≡ numbers acc
numbers_hole [] d = refl
numbers_hole (known k ∷ acc) d = ap (λ ns. letter_number k ∷ ns) (numbers_hole acc d)
numbers_hole (filled_by e ∷ acc) d = numbers_hole acc d

-- a view by its end: what counts, and whose slots they are
pub record Shown : Type 0 where
  pub records : List Record
  pub letters : List ℕ
  pub counts : Counts
  pub record_name : ℕ
  pub letter_name : ℕ

abbrev pub shown : View → Shown
shown v = record { records = v.records; letters = take v.given.letters v.letters; counts = v.given; record_name = v.record_name; letter_name = v.letter_name }

module _ (nr nl b rn ln : ℕ) (short : b + nl < 2 ^ 64) where
  abbrev pub counted : Pages → Shown
  counted p = record { records = p.records; letters = p.letters; counts = counts_of p; record_name = rn; letter_name = ln }

  abbrev on_pages : Pages → Option ℕ → List ℕ → View
  on_pages s o ls = record { given = counts_of s; waiting = o; records = s.records; letters = ls; record_room = nr; letter_room = nl; before = b; record_name = rn; letter_name = ln }

  -- the letters acc wait behind the pages s, unless there is no room for them
  abbrev pub state : Pages → List ℕ → View
  state s acc = cond (leb (length s.letters + length acc) nl) (on_pages s (Some (length acc)) (s.letters ++ acc)) (on_pages s None s.letters)

  pub fit : (s : Pages) (acc : List ℕ) → length s.letters + length acc ≤ nl → state s acc ≡ on_pages s (Some (length acc)) (s.letters ++ acc)
  fit s acc h = cond-true (leb (length s.letters + length acc) nl) _ _ (le-leb (length s.letters + length acc) nl h)

  over : (s : Pages) (acc : List ℕ) → nl < length s.letters + length acc → state s acc ≡ on_pages s None s.letters
  over s acc h = cond-false (leb (length s.letters + length acc) nl) _ _ (lt-leb (length s.letters + length acc) nl h)

  -- whatever waits, the letters that count are those of the pages
  fronts : (s : Pages) (acc : List ℕ) → take (length s.letters) (s.letters ++ acc) ≡ s.letters
  fronts s acc = take_at s.letters acc (length s.letters) refl

  own : (s : Pages) → take (length s.letters) s.letters ≡ s.letters
  own s = take_all (length s.letters) s.letters (omega arith)

  letter_is : (s : Pages) (acc : List ℕ) (x : ℕ) → lettered x (state s acc) ≡ state s (acc ++ (x ∷ []))
  letter_is s acc x =
      let k : length (acc ++ (x ∷ [])) ≡ length acc + 1 = length_push acc x in
      elim (cases_lt nl (length s.letters + length acc)) [
        | inl h ↦ ap (lettered x) (over s acc h) ∙ sym (over s (acc ++ (x ∷ [])) (omega arith))
        | inr h ↦
            ap (lettered x) (fit s acc h)
            ∙ elim (cases_lt (length s.letters + length acc) nl) [
              | inl j ↦
                  cond-true (ltb (length s.letters + length acc) nl) _ _ (lt-ltb (length s.letters + length acc) nl j)
                  ∙ ap (λ n. on_pages s (Some n) ((s.letters ++ acc) ++ (x ∷ []))) (sym k)
                  ∙ ap (λ ls. on_pages s (Some (length (acc ++ (x ∷ [])))) ls) (append_assoc s.letters acc (x ∷ []))
                  ∙ sym (fit s (acc ++ (x ∷ [])) (omega arith))
              | inr j ↦
                  cond-false (ltb (length s.letters + length acc) nl) _ _ (le-ltb (length s.letters + length acc) nl j)
                  ∙ ap (λ ls. on_pages s None ls) (fronts s acc)
                  ∙ sym (over s (acc ++ (x ∷ [])) (omega arith))
            ]
      ]

  forgotten_is : (s : Pages) (acc : List ℕ) → length s.letters ≤ nl → forgotten (state s acc) ≡ state s []
  forgotten_is s acc h =
      elim (cases_lt nl (length s.letters + length acc)) [
        | inl j ↦ ap forgotten (over s acc j) ∙ ap (λ ls. on_pages s (Some 0) ls) (own s ∙ sym (append-nil s.letters))
        | inr j ↦ ap forgotten (fit s acc j) ∙ ap (λ ls. on_pages s (Some 0) ls) (fronts s acc ∙ sym (append-nil s.letters))
      ]
      ∙ sym (fit s [] (omega arith))

  shown_state : (s : Pages) (acc : List ℕ) → shown (state s acc) ≡ counted s
  shown_state s acc =
      let at : List ℕ → Shown = λ ls. record { records = s.records; letters = ls; counts = counts_of s; record_name = rn; letter_name = ln } in
      elim (cases_lt nl (length s.letters + length acc)) [
        | inl j ↦ ap shown (over s acc j) ∙ ap at (own s)
        | inr j ↦ ap shown (fit s acc j) ∙ ap at (fronts s acc)
      ]

  -- the place of an item's letters is told as it is
  unsaturated : (n : ℕ) → n ≤ nl → min (b + n) (2 ^ 64 - 1) ≡ b + n
  unsaturated n h = omega arith

  item_is : (x : Listed) (s : Pages) → itemed x.item.kind x.item.depth x.place (state s (numbers x.item.letters)) ≡ cond (fits nr nl x s) (Ok (state (put b x s) [])) (Err (refusal NoRoom 0))
  item_is x s =
      let rs = s.records in
      let acc = numbers x.item.letters in
      let r = record_of x (b + length s.letters) in
      let n : length (s.letters ++ acc) ≡ length s.letters + length acc = length-append s.letters acc in
      elim (cases_lt nl (length s.letters + length acc)) [
        | inl h ↦
            ap (itemed x.item.kind x.item.depth x.place) (over s acc h)
            ∙ sym (cond-false (fits nr nl x s) _ _ (and_right _ _ (lt-leb (length s.letters + length acc) nl h)))
        | inr h ↦
            ap (itemed x.item.kind x.item.depth x.place) (fit s acc h)
            ∙ elim (cases_lt (length rs) nr) [
              | inl j ↦
                  cond-true (ltb (length rs) nr) _ _ (lt-ltb (length rs) nr j)
                  ∙ ap (λ m. Ok (record (on_pages s (Some 0) (s.letters ++ acc)) { given = record { records = length rs + 1; letters = length s.letters + length acc }; records = rs ++ (record r { first = m } ∷ []) })) (unsaturated (length s.letters) (omega arith))
                  ∙ ap (λ m. Ok (record (on_pages s (Some 0) (s.letters ++ acc)) { given = record { records = m; letters = length s.letters + length acc }; records = rs ++ (r ∷ []) })) (sym (length_push rs r))
                  ∙ ap (λ m. Ok (record (on_pages s (Some 0) (s.letters ++ acc)) { given = record { records = length (rs ++ (r ∷ [])); letters = m }; records = rs ++ (r ∷ []) })) (sym n)
                  ∙ ap (λ ls. Ok (on_pages (put b x s) (Some 0) ls)) (sym (append-nil (s.letters ++ acc)))
                  ∙ ap Ok (sym (fit (put b x s) [] (omega arith)))
                  ∙ sym (cond-true (fits nr nl x s) _ _ (and_from _ _ (lt-ltb (length rs) nr j) (le-leb (length s.letters + length acc) nl h)))
              | inr j ↦
                  cond-false (ltb (length rs) nr) _ _ (le-ltb (length rs) nr j)
                  ∙ sym (cond-false (fits nr nl x s) _ _ (and_left _ _ (le-ltb (length rs) nr j)))
            ]
      ]

  abbrev show : Result View Refusal → Result Shown Refusal
  show r = and r (λ v. Ok (shown v))

  abbrev count : Result Pages Refusal → Result Shown Refusal
  count r = and r (λ p. Ok (counted p))

  by : (xs : List (Event Entry)) (e : Ending Refusal) (s : Pages) (acc : List ItemLetter) → length s.letters ≤ nl →
      ((t : Pages) (more : List ItemLetter) → length t.letters ≤ nl → show (events_seen xs e (state t (numbers more))) ≡ count (laid_items b nr nl (listed_from more xs) e t)) → (w : Written) (p : ℕ) →
      show (and (seen w p (state s (numbers acc))) (λ u. events_seen xs e u)) ≡ count (laid_items b nr nl (listed_from acc (act (record { what = w; place = p }) ∷ xs)) e s)
  by xs e s acc h ih (letter l) p =
      ap (λ u. show (events_seen xs e u)) (letter_is s (numbers acc) (letter_number l) ∙ ap (state s) (sym (numbers_known acc l)))
      ∙ ih s (acc ++ (known l ∷ [])) h
  by xs e s acc h ih forget p = ap (λ u. show (events_seen xs e u)) (forgotten_is s (numbers acc) h) ∙ ih s [] h
  by xs e s acc h ih (item k n) p =
      let x : Listed = record { item = record { kind = k; depth = n; letters = acc }; place = p } in
      ap (λ r. show (and r (λ u. events_seen xs e u))) (item_is x s)
      ∙ elim (cases_Bool (fits nr nl x s)) [
        | inl t ↦ rw (t) (ih (put b x s) [] (omega (arith, length-append s.letters (numbers acc), leb-true (length s.letters + length (numbers acc)) nl (and_parts _ _ t).1)))
        | inr t ↦ rw (t) refl
      ]

  pub all : (xs : List (Event Entry)) (e : Ending Refusal) (s : Pages) (acc : List ItemLetter) → length s.letters ≤ nl →
      show (events_seen xs e (state s (numbers acc))) ≡ count (laid_items b nr nl (listed_from acc xs) e s)
  all [] ended s acc h = ap Ok (shown_state s (numbers acc))
  all [] (refused f) s acc h = refl
  all (hole d ∷ xs) e s acc h =
      ap (λ ns. show (events_seen xs e (state s ns))) (sym (numbers_hole acc d)) ∙ all xs e s (acc ++ (filled_by d ∷ [])) h
  all (act x ∷ xs) e s acc h = by xs e s acc h (λ t more k. all xs e t more k) x.what x.place
