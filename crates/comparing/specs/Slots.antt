-- What a list leaves on the slots of a sheet, by the items that the second reader read.
use Rattle.std.specs.Prelude.{◌≡◌, ℕ, Bool, List, [], ◌∷◌, ◌+◌, ◌-◌, ◌++◌, ◌&&◌, nat_le, length, map, take, replicate, vec_len, Result, is_ok, if◌then◌else◌}
use Rattle.std.specs.List.{flat_map}
use Rattle.descent_lexer.specs.declared.item.Item.{Item}
use Rattle.descent_lexer.specs.Kinds.{kind_number, code_number}
use Rattle.descent_lexer.specs.Letters.{letter_number}
use Rattle.listing.specs.declared.record.Record.{Record}
use Rattle.descent_lexer.specs.declared.item.Reading.{Reading}
use Rattle.comparing.specs.declared.slots.Slots.{Slots}

-- no count lies beyond its slots
abbrev pub is_good : Slots → Bool
is_good s = nat_le s.counts.records (vec_len s.records) && nat_le s.counts.letters (vec_len s.letters)

abbrev pub letters_of : Item → List ℕ
letters_of item = map letter_number item.letters.items

-- an item's record, with so many letters before its own
abbrev pub record_of : ℕ → Item → Record
record_of before item = record { kind = kind_number item.kind; code = code_number item.kind; depth = item.depth; first = before; count = vec_len item.letters; place = item.place }

-- the records of items, with so many letters before the first
abbrev pub records_of : ℕ → List Item → List Record
records_of before [] = []
records_of before (item ∷ items) = record_of before item ∷ records_of (before + vec_len item.letters) items

abbrev pub no_record : Record
no_record = record { kind = 0; code = 0; depth = 0; first = 0; count = 0; place = 0 }

-- what stands before the counts, and the items behind it
abbrev pub records_with : Slots → List Item → List Record
records_with s items = take s.counts.records s.records.items ++ records_of s.counts.letters items

abbrev pub letters_with : Slots → List Item → List ℕ
letters_with s items = take s.counts.letters s.letters.items ++ flat_map letters_of items

-- so many slots: these, and zeros in what is left
abbrev pub padded : {A : Type 0} → ℕ → A → List A → List A
padded n zero xs = take n xs ++ replicate (n - length xs) zero

-- the items that an accepted list gives; a refused one gives none
abbrev pub given : {R N : Type 0} → Result N R → Reading → List Item
given answer reading = if is_ok answer then reading.items.items else []

-- items stand behind the old counts, are counted, and what is free is zero
pub record IsFilled (old : Slots) (items : List Item) (new : Slots) : Type 0 where
  pub record_count : new.counts.records ≡ length (records_with old items)
  pub letter_count : new.counts.letters ≡ length (letters_with old items)
  pub records : new.records.items ≡ padded (vec_len old.records) no_record (records_with old items)
  pub letters : new.letters.items ≡ padded (vec_len old.letters) 0 (letters_with old items)
