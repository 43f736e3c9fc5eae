-- What the reader writes on the free slots of a sheet. Assumes nothing.
use Rattle.std.specs.Prelude.{ℕ, ◌+◌, ◌-◌, ◌^◌, min, cond, List, length, Some, None, Ok, Err, Option, Result, nat_lt, slice_set}
use Rattle.std.specs.Borrow.{MutBor}
use Rattle.basics.specs.Checks.{refusal}
use Rattle.basics.specs.declared.refusal.Refusal.{Refusal}
use Rattle.basics.specs.declared.refusal.Reason.TheVariants.{NoRoom}
use Rattle.tokens.specs.declared.letter.Letter.{Letter}
use Rattle.tokens.specs.Letters.{letter_number}
use Rattle.commands.specs.declared.item.Kind.{Kind}
use Rattle.commands.specs.Kinds.{kind_number, kind_code}
use Rattle.reading.specs.Items.{Written, letter, item, forget}
use Rattle.reading.specs.Listed.{Entry}
use Rattle.listing.specs.declared.record.Record.{Record}
use Rattle.listing.specs.declared.record.Counts.{Counts}
use Rattle.listing.specs.declared.written.SheetOutput.{SheetOutput}
use Rattle.listing.specs.Noting.{Noted, beside, places_of}

-- the free slots, those that the items given take, the letters behind them that wait for their item unless one found no slot, and
-- how many letters of the sheet stand before all
pub record Slots : Type 0 where
  pub given : Counts
  pub waiting : Option ℕ
  pub before : ℕ
  pub records : MutBor (List Record)
  pub letters : MutBor (List ℕ)

abbrev pub slots_of : SheetOutput → Slots
slots_of o = record { given = o.fill.given; waiting = o.fill.waiting; before = o.before; records = o.records; letters = o.letters }

abbrev pub sheet_of : SheetOutput → Noted Slots
sheet_of o = beside (places_of o.places) (slots_of o)

abbrev pub waits : Option ℕ → Slots → Slots
waits o s = record { given = s.given; waiting = o; before = s.before; records = s.records; letters = s.letters }

-- the same slots with other contents
abbrev pub holding : {X : Type 0} → List X → MutBor (List X) → MutBor (List X)
holding xs r = record { ref_ptr = r.ref_ptr; ghost_name = r.ghost_name; now = xs }

-- one letter more behind those that wait, or there is no slot for it
abbrev pub letter_behind : Option ℕ → ℕ → Slots → Slots
letter_behind None x s = s
letter_behind (Some n) x s =
    cond (nat_lt (s.given.letters + n) (length s.letters.now))
    (record { given = s.given; waiting = Some (n + 1); before = s.before; records = s.records; letters = holding (slice_set s.letters.now (s.given.letters + n) x) s.letters })
    (waits None s)

abbrev pub with_letter : Letter → Slots → Slots
with_letter l s = letter_behind s.waiting (letter_number l) s

-- its letters are those that wait
abbrev pub record_for : Kind → ℕ → ℕ → ℕ → Slots → Record
record_for k d p n s = record { kind = kind_number k; code = kind_code k; depth = d; first = min (s.before + s.given.letters) (2 ^ 64 - 1); count = n; place = p }

-- one item more, or there is no room for it or for its letters
abbrev pub item_with : Option ℕ → Kind → ℕ → ℕ → Slots → Result Slots Refusal
item_with None k d p s = Err (refusal NoRoom 0)
item_with (Some n) k d p s =
    cond (nat_lt s.given.records (length s.records.now))
    (Ok (record { given = record { records = s.given.records + 1; letters = s.given.letters + n }; waiting = Some 0; before = s.before; records = holding (slice_set s.records.now s.given.records (record_for k d p n s)) s.records; letters = s.letters }))
    (Err (refusal NoRoom 0))

abbrev pub with_item : Kind → ℕ → ℕ → Slots → Result Slots Refusal
with_item k d p s = item_with s.waiting k d p s

abbrev pub without_letters : Slots → Slots
without_letters s = waits (Some 0) s

abbrev pub written : Written → ℕ → Slots → Result Slots Refusal
written (letter l) p s = Ok (with_letter l s)
written (item k n) p s = with_item k n p s
written forget p s = Ok (without_letters s)

abbrev pub entry : Entry → Slots → Result Slots Refusal
entry e s = written e.what e.place s

-- no script has a hole
abbrev pub no_hole : ℕ → Slots → Result Slots Refusal
no_hole d s = Ok s
