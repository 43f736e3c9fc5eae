-- Replaced words whose ends are still to come, the outermost first. Assumes nothing.
use Rattle.std.specs.Prelude.{◌≡◌, ℕ, ◌≤◌, true, length, IsSome, List, [], ◌∷◌, map, reverse}
use Rattle.source.specs.declared.symbol.Symbol.{Symbol}
use Rattle.source.specs.declared.symbol.Sign.{Sign}
use Rattle.source.specs.declared.symbol.Sign.TheVariants.{Byte, AliasEnd}
use Rattle.source.specs.declared.alias.Replacement.{Replacement}
use Rattle.std.specs.List.{IsDistinct}
use Rattle.std.specs.Str.{bytes_eq}
use Rattle.aliases.specs.Tables.{aliases_of}
use Rattle.source.specs.Replacing.{is_listed}
use Rattle.aliases.specs.declared.table.AliasTable.{AliasTable}
use Rattle.source.specs.Front.{Front}
use Rattle.source.specs.Symbols.{aliased, symbol}

-- what is left of each value, and its end, before the symbols ss
abbrev pub fronted : List Replacement → List Symbol → List Symbol
fronted [] ss = ss
fronted (r ∷ rs) ss = fronted rs (aliased r.rest.now r.place ss)

-- the names of their aliases, the innermost first
abbrev pub open_names : List Replacement → List (List ℕ)
open_names rs = reverse (map (λ r. r.name.now) rs)

-- the names of aliases of a table, each but once, so no more than eight
pub record AreOpen (table : AliasTable) (names : List (List ℕ)) : Type 0 where
  pub apart : IsDistinct bytes_eq names
  pub few : length names ≤ 8
  pub known : (n : List ℕ) → is_listed n names ≡ true → IsSome ((aliases_of table).named n)

-- an alias source with these words open, above a source that gives the symbols ss
abbrev pub seen : List Replacement → List Symbol → ℕ → ℕ → AliasTable → Front
seen rs ss end left table = record { coming = fronted rs ss; end = end; names = open_names rs; left = left; table = table }

-- what is left of a value: its first byte, or its end
abbrev pub sign_of : List ℕ → Sign
sign_of [] = AliasEnd
sign_of (b ∷ bs) = Byte b

abbrev pub first_of : Replacement → Symbol
first_of r = symbol (sign_of r.rest.now) r.place
