-- What an alias table stands for. Assumes nothing.
use Rattle.std.specs.Prelude.{ℕ, List, length, Some, None, Option}
use Rattle.std.specs.Borrow.{Bor}
use Rattle.aliases.specs.declared.table.AliasTable.{AliasTable}
use Rattle.aliases.specs.Aliases.{Aliases}
use Rattle.aliases.specs.Rows.{Entry, row_of, look_up}

-- the aliases that it holds, in a row
abbrev pub rows : AliasTable → List Entry
rows t = row_of t.count t.slots

-- the aliases that it means
abbrev pub aliases_of : AliasTable → Aliases
aliases_of t = record { named = look_up (rows t); count = length (rows t) }

-- the bytes that are lent, if any
abbrev pub lent : Option (Bor (List ℕ)) → Option (List ℕ)
lent None = None
lent (Some r) = Some r.now
