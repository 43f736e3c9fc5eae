-- What a list answers, and what it leaves on the sheet. Assumes nothing.
use Rattle.std.specs.Prelude.{◌≡◌, ℕ, ◌+◌, ◌-◌, ◌≤◌, Bool, cond, ◌&&◌, List, [], ◌∷◌, ◌++◌, length, take, replicate, Some, None, Ok, Err, Option, Result, nat_le, nat_lt}
use Rattle.basics.specs.Checks.{refusal, refuse_if, refuse_at, or_else, answer}
use Rattle.basics.specs.Searches.{first_zero}
use Rattle.basics.specs.declared.refusal.Refusal.{Refusal}
use Rattle.basics.specs.declared.refusal.Reason.TheVariants.{TooLong, ZeroByte, NoRoom}
use Rattle.tokens.specs.Letters.{letter_number}
use Rattle.commands.specs.Kinds.{kind_number, kind_code}
use Rattle.reading.specs.Readings.{Aliases, Ending, Reading}
use Rattle.reading.specs.Items.{ItemLetter, known, filled_by}
use Rattle.reading.specs.Listed.{Entry, Listed, listed, script_reading}
use Rattle.listing.specs.declared.record.Record.{Record}
use Rattle.listing.specs.declared.record.Counts.{Counts}
use Rattle.listing.specs.declared.record.Sheet.{Sheet}
use Rattle.listing.specs.Laying.{ending}

-- items on slots

-- records and letters, in order
pub record Pages : Type 0 where
  pub records : List Record
  pub letters : List ℕ

abbrev pub blank : Pages
blank = record { records = []; letters = [] }

-- an item's letters as numbers; no script has a hole
abbrev pub numbers : List ItemLetter → List ℕ
numbers [] = []
numbers (known l ∷ ls) = letter_number l ∷ numbers ls
numbers (filled_by d ∷ ls) = numbers ls

-- an item's record, where that many letters stand before its own
abbrev pub record_of : Listed → ℕ → Record
record_of x first = record { kind = kind_number x.item.kind; code = kind_code x.item.kind; depth = x.item.depth; first = first; count = length (numbers x.item.letters); place = x.place }

-- an item behind the others, where b letters of the sheet stand before all
abbrev pub put : ℕ → Listed → Pages → Pages
put b x s = record { records = s.records ++ (record_of x (b + length s.letters) ∷ []); letters = s.letters ++ numbers x.item.letters }

-- there is a slot for its record and one for each of its letters
abbrev pub fits : ℕ → ℕ → Listed → Pages → Bool
fits nr nl x s = nat_lt (length s.records) nr && nat_le (length s.letters + length (numbers x.item.letters)) nl

-- each item behind the ones before it, while there is room; and then the end of the reading, or its refusal
abbrev pub laid_items : ℕ → ℕ → ℕ → List Listed → Ending Refusal → Pages → Result Pages Refusal
laid_items b nr nl [] e s = ending e s
laid_items b nr nl (x ∷ xs) e s = cond (fits nr nl x s) (laid_items b nr nl xs e (put b x s)) (Err (refusal NoRoom 0))

abbrev pub on_slots : ℕ → ℕ → ℕ → Reading Entry Refusal → Result Pages Refusal
on_slots b nr nl r = laid_items b nr nl (listed r) r.ending blank

-- slots

abbrev pub no_record : Record
no_record = record { kind = 0; code = 0; depth = 0; first = 0; count = 0; place = 0 }

-- n slots with xs in the first of them, and zeros past those
abbrev pub padded : {X : Type 0} → ℕ → X → List X → List X
padded n z xs = xs ++ replicate (n - length xs) z

abbrev pub counts_of : Pages → Counts
counts_of p = record { records = length p.records; letters = length p.letters }

-- pages, and how many slots they take
pub record Taken : Type 0 where
  pub pages : Pages
  pub counts : Counts

abbrev pub counting : Pages → Result Taken Refusal
counting p = Ok (record { pages = p; counts = counts_of p })

-- the slots that are said to be taken
abbrev pub taken : Result Counts Refusal → List Record → List ℕ → Result Taken Refusal
taken (Ok n) rs ls = Ok (record { pages = record { records = take n.records rs; letters = take n.letters ls }; counts = n })
taken (Err f) rs ls = Err f

-- a refused list uses no slot
abbrev pub used : Result Counts Refusal → Counts
used (Ok n) = n
used (Err f) = record { records = 0; letters = 0 }

abbrev pub more : Counts → Counts → Counts
more c n = record { records = c.records + n.records; letters = c.letters + n.letters }

-- what is said of free slots, and what they hold then
pub record Filled : Type 0 where
  pub said : Result Counts Refusal
  pub records : List Record
  pub letters : List ℕ

abbrev pub filled : Result Counts Refusal → List Record → List ℕ → Filled
filled r rs ls = record { said = r; records = rs; letters = ls }

-- free slots, nr and nl of them, after a list
abbrev pub filling : ℕ → ℕ → Result Pages Refusal → Filled
filling nr nl (Ok p) = filled (Ok (counts_of p)) (padded nr no_record p.records) (padded nl 0 p.letters)
filling nr nl (Err f) = filled (Err f) (replicate nr no_record) (replicate nl 0)

-- no more slots are used than there are
abbrev pub Within : Result Counts Refusal → ℕ → ℕ → Type 0
Within (Ok n) nr nl = (n.records ≤ nr) × (n.letters ≤ nl)
Within (Err f) nr nl = Unit {0}

-- sheets

-- a text has at most so many bytes, and no byte 0
abbrev pub text_check : ℕ → List ℕ → Option Refusal
text_check limit s = or_else (refuse_if (nat_lt limit (length s)) TooLong 0) (refuse_at (first_zero s) ZeroByte)

-- a script has at most 4,096 bytes
abbrev pub script_check : List ℕ → Option Refusal
script_check s = text_check 4096 s

abbrev pub unless_refused : {X : Type 0} → Option Refusal → Result X Refusal → Result X Refusal
unless_refused None r = r
unless_refused (Some f) r = Err f

pub record Held : Type 0 where
  pub counts : Counts
  pub records : List Record
  pub letters : List ℕ

abbrev pub held : Counts → List Record → List ℕ → Held
held c rs ls = record { counts = c; records = rs; letters = ls }

abbrev pub no_counts : Counts
no_counts = record { records = 0; letters = 0 }

abbrev pub held_of : Sheet → Held
held_of s = held s.counts s.records.now s.letters.now

-- no count is beyond its slots
abbrev pub good : Held → Bool
good h = nat_le h.counts.records (length h.records) && nat_le h.counts.letters (length h.letters)

-- the script's items on the slots past the counts
abbrev pub listed_on : Aliases → List ℕ → Held → Result Pages Refusal
listed_on al s h = unless_refused (script_check s) (on_slots h.counts.letters (length h.records - h.counts.records) (length h.letters - h.counts.letters) (script_reading al s))

pub record Left : Type 0 where
  pub said : Result ℕ Refusal
  pub sheet : Held

abbrev pub left : Result ℕ Refusal → Held → Left
left r h = record { said = r; sheet = h }

-- what lay before the counts stays, zeros stand past them, and the counts are the old ones where the list is refused
abbrev pub behind : Held → Filled → Counts → Held
behind h f c = record { counts = c; records = take h.counts.records h.records ++ f.records; letters = take h.counts.letters h.letters ++ f.letters }

abbrev pub after : Held → Result Pages Refusal → Left
after h (Ok p) = left (Ok (length p.records)) (behind h (filling (length h.records - h.counts.records) (length h.letters - h.counts.letters) (Ok p)) (more h.counts (counts_of p)))
after h (Err f) = left (Err f) (behind h (filling (length h.records - h.counts.records) (length h.letters - h.counts.letters) (Err f)) h.counts)

-- a bad sheet is left as it is
abbrev pub listing : Aliases → List ℕ → Held → Left
listing al s h = cond (good h) (after h (listed_on al s h)) (left (answer (or_else (script_check s) (Some (refusal NoRoom 0))) 0) h)

-- the slots are still the same ones
pub record SameSlots (old new : Sheet) : Type 0 where
  pub records : new.records.ghost_name ≡ old.records.ghost_name
  pub letters : new.letters.ghost_name ≡ old.letters.ghost_name

-- a list of a script under these aliases on a sheet
pub record Lists (al : Aliases) (s : List ℕ) (old new : Sheet) (r : Result ℕ Refusal) : Type 0 where
  pub left : left r (held_of new) ≡ listing al s (held_of old)
  pub slots : SameSlots old new
