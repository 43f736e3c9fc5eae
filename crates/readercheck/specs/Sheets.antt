-- Sheets as they are laid out, by the room that is asked for.
use Rattle.std.specs.Prelude.{◌≡◌, true, false, vec_len}
use Rattle.comparing.specs.Counting.{plus}
use Rattle.comparing.specs.Slots.{is_good}
use Rattle.comparing.specs.declared.room.Room.{Room}
use Rattle.comparing.specs.declared.slots.Slots.{Slots}

-- a good sheet with so many free slots behind its counts, or a bad one
abbrev pub IsLaidOut : Room → Slots → Type 0
IsLaidOut (Room.Free free) s =
    (is_good s ≡ true)
    × (vec_len s.records ≡ plus s.counts.records free.records)
    × (vec_len s.letters ≡ plus s.counts.letters free.letters)
IsLaidOut Room.Bad s = is_good s ≡ false
