-- What the calls of an alias source make of it. Assumes nothing.
use Rattle.std.specs.Prelude.{ℕ, List, [], Option}
use Rattle.aliases.specs.declared.table.AliasTable.{AliasTable}
use Rattle.aliases.specs.Tables.{aliases_of}
use Rattle.source.specs.declared.symbol.Symbol.{Symbol}
use Rattle.source.specs.Symbols.{first, rest}
use Rattle.source.specs.Replacing.{stands_for, replaced_coming, replaced_names, replaced_left, closed}
use Rattle.source.specs.Front.{Front}

-- a source in front of which no word is replaced yet
abbrev pub front : List Symbol → ℕ → AliasTable → Front
front coming end table = record { coming = coming; end = end; names = []; left = 64; table = table }

-- the value that a word stands for
abbrev pub value_for : Front → List ℕ → Option (List ℕ)
value_for p word = stands_for (aliases_of p.table).named p.names word

-- once a word that stands for a value, or for none, is replaced or not
abbrev pub replaced : Option (List ℕ) → Front → List ℕ → ℕ → Front
replaced value p word place = record {
  coming = replaced_coming value p.left place p.coming;
  end = p.end;
  names = replaced_names value p.left word p.names;
  left = replaced_left value p.left;
  table = p.table;
}

-- once the first symbol is taken, if there is one
abbrev pub onward : Front → Front
onward p = record { coming = rest p.coming; end = p.end; names = closed (first p.coming) p.names; left = p.left; table = p.table }
