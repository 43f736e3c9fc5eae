-- What is left of the items, behind what is there, comes to what all of them come to.
use Rattle.std.proofs.Common.{◌≡◌, ◌++◌, drop, vec_len}
use Rattle.std.specs.List.{flat_map}
use Rattle.comparing.specs.Slots.{records_of, letters_of}
use Rattle.comparing.proofs.slots.Slots.put_behind.Given as goal

abbrev pub invariant-loop-item : goal.invariant-loop-item
invariant-loop-item l =
    (l.self.counts ≡ l.initial.self.counts)
    × (l.self.records.items ++ records_of (vec_len l.self.letters) (drop l.item-index l.items) ≡ l.initial.self.records.items ++ records_of (vec_len l.initial.self.letters) l.items)
    × (l.self.letters.items ++ flat_map letters_of (drop l.item-index l.items) ≡ l.initial.self.letters.items ++ flat_map letters_of l.items)
