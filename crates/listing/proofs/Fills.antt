-- Free slots after a list. Assumes nothing.
use Rattle.std.proofs.Common.{◌≡◌, ℕ, ◌+◌, ◌-◌, ◌≤◌, Bool, true, false, ltb, List, ◌++◌, length, take, drop, replicate, Some, None, Ok, Err, Option, Result, sym, refl, ap, ◌∙◌, inl, inr, arith, length-drop}
use borrow.Rule.Slice.PartMut.{put_mid}
use Rattle.std.specs.Result.{ResultUnwrapsOrElse}
use Rattle.std.proofs.lemmas.List.{append-nil, length-take, take_all, drop_all}
use Rattle.std.proofs.lemmas.Bool.{cases_lt, lt-ltb}
use Rattle.basics.specs.Checks.{answer, or_else, refuse_if}
use Rattle.basics.specs.declared.refusal.Reason.TheVariants.{TooLong}
use Rattle.basics.specs.declared.refusal.Refusal.{Refusal}
use Rattle.reading.specs.Laid.{and}
use Rattle.listing.specs.declared.record.Record.{Record}
use Rattle.listing.specs.declared.record.Counts.{Counts}
use Rattle.reading.specs.Readings.{Aliases}
use Rattle.reading.specs.Listed.{script_reading}
use Rattle.listing.specs.Listing.{on_slots, listed_on, Pages, Taken, taken, counts_of, counting, used, no_record, padded, Filled, filled, filling, Within, script_check, unless_refused, Held, held, Left, left, more, after}

abbrev cleared : {X : Type 0} → ℕ → X → List X → List X
cleared n z xs = take n xs ++ replicate (length xs - n) z

module _ (nr nl : ℕ) (rs : List Record) (ls : List ℕ) (same-records : length rs ≡ nr) (same-letters : length ls ≡ nl) where
  abbrev cleared_past : Result Counts Refusal → Filled
  cleared_past r = filled r (cleared (used r).records no_record rs) (cleared (used r).letters 0 ls)

  in_full : (r : Result Counts Refusal) (o : Result Pages Refusal) → taken r rs ls ≡ and o counting → cleared_past r ≡ filling nr nl o
  in_full (Ok n) (Ok p) e =
      let k : record { pages = record { records = take n.records rs; letters = take n.letters ls }; counts = n } ≡ record { pages = p; counts = counts_of p } = cc in
      let m : n ≡ counts_of p = ap (λ (t : Taken). t.counts) k in
      let a : take n.records rs ≡ p.records = ap (λ (t : Taken). t.pages.records) k in
      let b : take n.letters ls ≡ p.letters = ap (λ (t : Taken). t.pages.letters) k in
      ap (λ x. filled (Ok n) (x ++ replicate (length rs - n.records) no_record) (cleared n.letters 0 ls)) a
      ∙ ap (λ x. filled (Ok n) (p.records ++ replicate (length rs - n.records) no_record) (x ++ replicate (length ls - n.letters) 0)) b
      ∙ ap (λ x. filled (Ok n) (p.records ++ replicate (x - n.records) no_record) (p.letters ++ replicate (length ls - n.letters) 0)) same-records
      ∙ ap (λ x. filled (Ok n) (p.records ++ replicate (nr - n.records) no_record) (p.letters ++ replicate (x - n.letters) 0)) same-letters
      ∙ ap (λ (x : Counts). filled (Ok x) (p.records ++ replicate (nr - x.records) no_record) (p.letters ++ replicate (nl - x.letters) 0)) m
  in_full (Ok n) (Err f) e = let z : ◌≡◌ {A = ℕ} 0 1 = cc in absurd (omega arith)
  in_full (Err f) (Ok p) e = let z : ◌≡◌ {A = ℕ} 0 1 = cc in absurd (omega arith)
  in_full (Err f) (Err g) e =
      let k : f ≡ g = cc in
      let a : length rs - 0 ≡ nr = omega (arith, same-records) in
      let b : length ls - 0 ≡ nl = omega (arith, same-letters) in
      ap (λ x. filled (Err f) (replicate x no_record) (replicate (length ls - 0) 0)) a
      ∙ ap (λ x. filled (Err f) (replicate nr no_record) (replicate x 0)) b
      ∙ ap (λ x. filled (Err x) (replicate nr no_record) (replicate nl 0)) k

  -- what is said and what is cleared past it
  pub fills : (r : Result Counts Refusal) (n : Counts) (o : Result Pages Refusal) (xs : List Record) (ys : List ℕ) → taken r rs ls ≡ and o counting → n ≡ used r → xs ≡ cleared n.records no_record rs → ys ≡ cleared n.letters 0 ls → filled r xs ys ≡ filling nr nl o
  fills r n o xs ys e u a b =
      ap (λ x. filled r x ys) a ∙ ap (λ y. filled r (cleared n.records no_record rs) y) b
      ∙ ap (λ (x : Counts). filled r (cleared x.records no_record rs) (cleared x.letters 0 ls)) u
      ∙ in_full r o e

  -- as many as are said to be taken there are
  within_slots : (r : Result Counts Refusal) (o : Result Pages Refusal) → taken r rs ls ≡ and o counting → Within r nr nl
  within_slots (Ok n) (Ok p) e =
      let k : record { pages = record { records = take n.records rs; letters = take n.letters ls }; counts = n } ≡ record { pages = p; counts = counts_of p } = cc in
      let a : n.records ≡ length p.records = ap (λ (t : Taken). t.counts.records) k in
      let b : n.letters ≡ length p.letters = ap (λ (t : Taken). t.counts.letters) k in
      let u : length (take n.records rs) ≡ length p.records = ap (λ (t : Taken). length t.pages.records) k in
      let v : length (take n.letters ls) ≡ length p.letters = ap (λ (t : Taken). length t.pages.letters) k in
      (omega (arith, length-take n.records rs, same-records), omega (arith, length-take n.letters ls, same-letters))
  within_slots (Ok n) (Err f) e = let z : ◌≡◌ {A = ℕ} 0 1 = cc in absurd (omega arith)
  within_slots (Err f) o e = tt

  pub within : (r : Result Counts Refusal) (o : Result Pages Refusal) → taken r rs ls ≡ and o counting → Within r nr nl
  within r o e = within_slots r o e

-- what stands for a refused list's counts
pub defaulted : (r : Result Counts Refusal) (n : Counts) → ResultUnwrapsOrElse r (λ c. (c.records ≡ 0) × (c.letters ≡ 0)) n → n ≡ used r
defaulted (Ok c) n h = h
defaulted (Err f) n h = λ i. record { records = h.0 i; letters = h.1 i }

-- a script's check

pub passed : {X : Type 0} (o : Option Refusal) (x : Unit {0}) (r : Result X Refusal) → Ok x ≡ answer o tt → unless_refused o r ≡ r
passed None x r e = refl
passed (Some f) x r e = let z : ◌≡◌ {A = ℕ} 0 1 = cc in absurd (omega arith)

pub stopped : {X : Type 0} (o : Option Refusal) (f : Refusal) (r : Result X Refusal) → Err f ≡ answer {X = Unit {0}} o tt → Err f ≡ unless_refused o r
stopped None f r e = let z : ◌≡◌ {A = ℕ} 0 1 = cc in absurd (omega arith)
stopped (Some g) f r e = let k : f ≡ g = cc in ap Err k

too_long : (b : Bool) (o : Option Refusal) (x : Unit {0}) → Ok x ≡ answer (or_else (refuse_if b TooLong 0) o) tt → b ≡ false
too_long false o x e = refl
too_long true o x e = let z : ◌≡◌ {A = ℕ} 0 1 = cc in absurd (omega arith)

-- a text that passes is as long as it may be
pub whole : (limit : ℕ) (s : List ℕ) (o : Option Refusal) (x : Unit {0}) → Ok x ≡ answer (or_else (refuse_if (ltb limit (length s)) TooLong 0) o) tt → take limit s ≡ s
whole limit s o x e =
    elim (cases_lt limit (length s)) [
      | inl h ↦ let k : true ≡ false = sym (lt-ltb limit (length s) h) ∙ too_long (ltb limit (length s)) o x e in let z : ◌≡◌ {A = ℕ} 0 1 = cc in absurd (omega arith)
      | inr h ↦ take_all limit s h
    ]

-- behind the counts

pub past : {X : Type 0} (a k : ℕ) (xs ys zs : List X) → zs ≡ put_mid a k xs ys → length xs ≤ a + k → zs ≡ take a xs ++ ys
past a k xs ys zs e h =
    let n : length (drop a xs) ≤ k = omega (arith, length-drop a xs) in
    e ∙ ap (λ z. take a xs ++ (ys ++ z)) (drop_all k (drop a xs) n) ∙ ap (λ z. take a xs ++ z) (append-nil ys)

pub free : {X : Type 0} (a : ℕ) (xs : List X) → length (take (length xs - a) (drop a xs)) ≡ length xs - a
free a xs = omega (arith, length-take (length xs - a) (drop a xs), length-drop a xs)

module _ (h : Held) (al : Aliases) (s : List ℕ) where
  abbrev nr : ℕ
  nr = length h.records - h.counts.records

  abbrev nl : ℕ
  nl = length h.letters - h.counts.letters

  abbrev ended_as : Result ℕ Refusal → Counts → List Record → List ℕ → Left
  ended_as r c xs ys = left r (held c (take h.counts.records h.records ++ xs) (take h.counts.letters h.letters ++ ys))

  ok_left : (n : Counts) (xs : List Record) (ys : List ℕ) (o : Result Pages Refusal) → filled (Ok n) xs ys ≡ filling nr nl o → ended_as (Ok n.records) (more h.counts n) xs ys ≡ after h o
  ok_left n xs ys (Ok p) e =
      let k : ◌≡◌ {A = Result Counts Refusal} (Ok n) (Ok (counts_of p)) = ap (λ (f : Filled). f.said) e in
      let m : n ≡ counts_of p = cc in
      let a : xs ≡ padded nr no_record p.records = ap (λ (f : Filled). f.records) e in
      let b : ys ≡ padded nl 0 p.letters = ap (λ (f : Filled). f.letters) e in
      ap (λ (x : Counts). ended_as (Ok x.records) (more h.counts x) xs ys) m
      ∙ ap (λ x. ended_as (Ok (length p.records)) (more h.counts (counts_of p)) x ys) a
      ∙ ap (λ y. ended_as (Ok (length p.records)) (more h.counts (counts_of p)) (padded nr no_record p.records) y) b
  ok_left n xs ys (Err f) e =
      let k : ◌≡◌ {A = Result Counts Refusal} (Ok n) (Err f) = ap (λ (x : Filled). x.said) e in
      let z : ◌≡◌ {A = ℕ} 0 1 = cc in absurd (omega arith)

  err_left : (f : Refusal) (xs : List Record) (ys : List ℕ) (o : Result Pages Refusal) → filled (Err f) xs ys ≡ filling nr nl o → ended_as (Err f) h.counts xs ys ≡ after h o
  err_left f xs ys (Ok p) e =
      let k : ◌≡◌ {A = Result Counts Refusal} (Err f) (Ok (counts_of p)) = ap (λ (x : Filled). x.said) e in
      let z : ◌≡◌ {A = ℕ} 0 1 = cc in absurd (omega arith)
  err_left f xs ys (Err g) e =
      let k : ◌≡◌ {A = Result Counts Refusal} (Err f) (Err g) = ap (λ (x : Filled). x.said) e in
      let m : f ≡ g = cc in
      let a : xs ≡ replicate nr no_record = ap (λ (x : Filled). x.records) e in
      let b : ys ≡ replicate nl 0 = ap (λ (x : Filled). x.letters) e in
      ap (λ x. ended_as (Err x) h.counts xs ys) m ∙ ap (λ x. ended_as (Err g) h.counts x ys) a ∙ ap (λ y. ended_as (Err g) h.counts (replicate nr no_record) y) b

  abbrev on_these : ℕ → ℕ → Result Pages Refusal
  on_these n m = unless_refused (script_check s) (on_slots h.counts.letters n m (script_reading al s))

  module _ (n m : ℕ) (en : n ≡ nr) (em : m ≡ nl) (xs : List Record) (ys : List ℕ) (rs : List Record) (ls : List ℕ) (er : rs ≡ take h.counts.records h.records ++ xs) (el : ls ≡ take h.counts.letters h.letters ++ ys) where
    here : (r : Result Counts Refusal) → filled r xs ys ≡ filling n m (on_these n m) → filled r xs ys ≡ filling nr nl (listed_on al s h)
    here r e = e ∙ ap (λ k. filling k m (on_these k m)) en ∙ ap (λ k. filling nr k (on_these nr k)) em

    pub accepted : (c : Counts) (k : Counts) → k ≡ more h.counts c → filled (Ok c) xs ys ≡ filling n m (on_these n m) → left (Ok c.records) (held k rs ls) ≡ after h (listed_on al s h)
    accepted c k ek e = ap (λ x. left (Ok c.records) (held x rs ls)) ek ∙ ap (λ x. left (Ok c.records) (held (more h.counts c) x ls)) er ∙ ap (λ x. left (Ok c.records) (held (more h.counts c) (take h.counts.records h.records ++ xs) x)) el ∙ ok_left c xs ys (listed_on al s h) (here (Ok c) e)

    pub refused : (f : Refusal) (k : Counts) → k ≡ h.counts → filled (Err f) xs ys ≡ filling n m (on_these n m) → left (Err f) (held k rs ls) ≡ after h (listed_on al s h)
    refused f k ek e = ap (λ x. left (Err f) (held x rs ls)) ek ∙ ap (λ x. left (Err f) (held h.counts x ls)) er ∙ ap (λ x. left (Err f) (held h.counts (take h.counts.records h.records ++ xs) x)) el ∙ err_left f xs ys (listed_on al s h) (here (Err f) e)
