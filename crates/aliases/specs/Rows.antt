-- Aliases in a row. Assumes nothing.
use Rattle.std.specs.Prelude.{ℕ, Bool, true, not, ◌&&◌, List, [], ◌∷◌, map, take, Option, position, slice_get, option_map, unwrap_or}
use Rattle.std.specs.List.{list_any}
use Rattle.std.specs.Map.{lookup}
use Rattle.std.specs.Str.{bytes_eq}
use Rattle.aliases.specs.declared.alias.Alias.{Alias}

-- the entry of a map, from names to values, that an alias is
abbrev pub Entry : Type 0
Entry = List ℕ × List ℕ

abbrev pub entry : Alias → Entry
entry a = (take a.name_len a.name, take a.value_len a.value)

abbrev pub name_of : Entry → List ℕ
name_of e = e.0

abbrev pub value_of : Entry → List ℕ
value_of e = e.1

-- the aliases in the first so many of some slots
abbrev pub row_of : ℕ → List Alias → List Entry
row_of count slots = map entry (take count slots)

abbrev pub names : List Entry → List (List ℕ)
names row = map name_of row

-- none of the names is this one
abbrev pub is_free : List ℕ → List (List ℕ) → Bool
is_free n ns = not (list_any (bytes_eq n) ns)

-- no two of the names are the same
abbrev pub apart : List (List ℕ) → Bool
apart [] = true
apart (n ∷ ns) = is_free n ns && apart ns

-- the value at a name
abbrev pub look_up : List Entry → List ℕ → Option (List ℕ)
look_up row n = lookup (bytes_eq n) row

-- the index of the alias of a name
abbrev pub index_of : List ℕ → List Entry → Option ℕ
index_of n row = position (λ e. bytes_eq n (name_of e)) row

-- the name at an index, and no bytes past the row
abbrev pub name_at : List Entry → ℕ → List ℕ
name_at row i = unwrap_or (option_map name_of (slice_get row i)) []

-- the value at an index, and no bytes past the row
abbrev pub value_at : List Entry → ℕ → List ℕ
value_at row i = unwrap_or (option_map value_of (slice_get row i)) []

-- the value at an index that was found, and none where there was none
abbrev pub value_at_found : List Entry → Option ℕ → Option (List ℕ)
value_at_found row found = option_map (value_at row) found
