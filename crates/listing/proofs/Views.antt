-- Slots as far as they are filled. Assumes nothing.
use Rattle.std.proofs.Common.{◌≡◌, ℕ, ◌+◌, ◌-◌, ◌^◌, min, cond, ltb, List, [], ◌∷◌, ◌++◌, length, take, set, Some, None, Ok, Err, Option, Result, sym, refl, ap, ◌∙◌, inl, inr, arith, length-set}
use Rattle.std.specs.Option.{unwrap_or}
use Rattle.std.proofs.lemmas.List.{take_more_set, take-take}
use Rattle.std.proofs.lemmas.Bool.{cases_lt, lt-ltb, le-ltb}
use Rattle.basics.specs.Checks.{refusal}
use Rattle.basics.specs.declared.refusal.Refusal.{Refusal}
use Rattle.basics.specs.declared.refusal.Reason.TheVariants.{NoRoom}
use Rattle.tokens.specs.Letters.{letter_number}
use Rattle.commands.specs.declared.item.Kind.{Kind}
use Rattle.commands.specs.Kinds.{kind_number, kind_code}
use Rattle.reading.specs.Items.{Written, letter, item, forget}
use Rattle.reading.specs.Laid.{and}
use Rattle.listing.specs.declared.record.Record.{Record}
use Rattle.listing.specs.declared.record.Counts.{Counts}
use Rattle.listing.specs.Writing.{Slots, waits, letter_behind, item_with, without_letters, entry}

pub record View : Type 0 where
  pub given : Counts
  pub waiting : Option ℕ
  pub records : List Record
  pub letters : List ℕ
  pub record_room : ℕ
  pub letter_room : ℕ
  pub before : ℕ
  pub record_name : ℕ
  pub letter_name : ℕ

abbrev pub view_of : Slots → View
view_of s = record { given = s.given; waiting = s.waiting; records = take s.given.records s.records.now; letters = take (s.given.letters + unwrap_or s.waiting 0) s.letters.now; record_room = length s.records.now; letter_room = length s.letters.now; before = s.before; record_name = s.records.ghost_name; letter_name = s.letters.ghost_name }

abbrev pub lettered_behind : Option ℕ → ℕ → View → View
lettered_behind None x v = v
lettered_behind (Some n) x v =
    cond (ltb (v.given.letters + n) v.letter_room)
    (record v { waiting = Some (n + 1); letters = v.letters ++ (x ∷ []) })
    (record v { waiting = None; letters = take v.given.letters v.letters })

abbrev pub lettered : ℕ → View → View
lettered x v = lettered_behind v.waiting x v

abbrev pub recorded : Kind → ℕ → ℕ → ℕ → View → Record
recorded k d p n v = record { kind = kind_number k; code = kind_code k; depth = d; first = min (v.before + v.given.letters) (2 ^ 64 - 1); count = n; place = p }

abbrev pub itemed_with : Option ℕ → Kind → ℕ → ℕ → View → Result View Refusal
itemed_with None k d p v = Err (refusal NoRoom 0)
itemed_with (Some n) k d p v =
    cond (ltb v.given.records v.record_room)
    (Ok (record v { given = record { records = v.given.records + 1; letters = v.given.letters + n }; waiting = Some 0; records = v.records ++ (recorded k d p n v ∷ []) }))
    (Err (refusal NoRoom 0))

abbrev pub itemed : Kind → ℕ → ℕ → View → Result View Refusal
itemed k d p v = itemed_with v.waiting k d p v

abbrev pub forgotten : View → View
forgotten v = record v { waiting = Some 0; letters = take v.given.letters v.letters }

abbrev pub seen : Written → ℕ → View → Result View Refusal
seen (letter l) p v = Ok (lettered (letter_number l) v)
seen (item k n) p v = itemed k n p v
seen forget p v = Ok (forgotten v)

letter_view : (o : Option ℕ) (x : ℕ) (s : Slots) → view_of (letter_behind o x (waits o s)) ≡ lettered_behind o x (view_of (waits o s))
letter_view None x s = refl
letter_view (Some n) x s =
    let at = s.given.letters + n in
    let ls = s.letters.now in
    elim (cases_lt at (length ls)) [
      | inl h ↦
          let more : s.given.letters + (n + 1) ≡ at + 1 = omega arith in
          let last : take (s.given.letters + (n + 1)) (set ls at x) ≡ take at ls ++ (x ∷ []) = ap (λ m. take m (set ls at x)) more ∙ take_more_set ls at x h in
          rw (lt-ltb at (length ls) h) (
          ap (λ ms. record (view_of (waits (Some (n + 1)) s)) { letters = ms; letter_room = length (set ls at x) }) last
          ∙ ap (λ m. record (view_of (waits (Some (n + 1)) s)) { letters = take at ls ++ (x ∷ []); letter_room = m }) (length-set ls at x))
      | inr h ↦
          let none : s.given.letters + 0 ≡ s.given.letters = omega arith in
          rw (le-ltb at (length ls) h) (
          ap (λ ms. record (view_of (waits None s)) { letters = ms }) (ap (λ m. take m ls) none ∙ sym (take-take s.given.letters at ls (omega arith))))
    ]

item_view : (o : Option ℕ) (k : Kind) (d p : ℕ) (s : Slots) → and (item_with o k d p (waits o s)) (λ t. Ok (view_of t)) ≡ itemed_with o k d p (view_of (waits o s))
item_view None k d p s = refl
item_view (Some n) k d p s =
    let rs = s.records.now in
    let c = s.given.records in
    let v = view_of (waits (Some n) s) in
    let x = recorded k d p n v in
    elim (cases_lt c (length rs)) [
      | inl h ↦
          let all : s.given.letters + n + 0 ≡ s.given.letters + n = omega arith in
          rw (lt-ltb c (length rs) h) (
          ap (λ m. Ok (record v { given = record { records = c + 1; letters = s.given.letters + n }; waiting = Some 0; records = take (c + 1) (set rs c x); record_room = length (set rs c x); letters = take m s.letters.now })) all
          ∙ ap (λ ms. Ok (record v { given = record { records = c + 1; letters = s.given.letters + n }; waiting = Some 0; records = ms; record_room = length (set rs c x) })) (take_more_set rs c x h)
          ∙ ap (λ m. Ok (record v { given = record { records = c + 1; letters = s.given.letters + n }; waiting = Some 0; records = take c rs ++ (x ∷ []); record_room = m })) (length-set rs c x))
      | inr h ↦ rw (le-ltb c (length rs) h) refl
    ]

forget_view : (s : Slots) → view_of (without_letters s) ≡ forgotten (view_of s)
forget_view s =
    let none : s.given.letters + 0 ≡ s.given.letters = omega arith in
    ap (λ ms. record (view_of (waits (Some 0) s)) { letters = ms })
    (ap (λ m. take m s.letters.now) none ∙ sym (take-take s.given.letters (s.given.letters + unwrap_or s.waiting 0) s.letters.now (omega arith)))

-- what is written, by what is seen
pub entry_view : (w : Written) (p : ℕ) (s : Slots) → and (entry (record { what = w; place = p }) s) (λ t. Ok (view_of t)) ≡ seen w p (view_of s)
entry_view (letter l) p s = ap Ok (letter_view s.waiting (letter_number l) s)
entry_view (item k n) p s = item_view s.waiting k n p s
entry_view forget p s = ap Ok (forget_view s)
