-- What an alias source stands for. Assumes nothing.
use Rattle.std.specs.Prelude.{ℕ, List}
use Rattle.aliases.specs.declared.table.AliasTable.{AliasTable}
use Rattle.source.specs.declared.symbol.Symbol.{Symbol}

-- the symbols still to come, the place of the end, the names of the aliases whose ends are to come (the innermost first),
-- how many words may still be replaced, and the aliases that words are replaced by
pub record Front : Type 0 where
  pub coming : List Symbol
  pub end : ℕ
  pub names : List (List ℕ)
  pub left : ℕ
  pub table : AliasTable
