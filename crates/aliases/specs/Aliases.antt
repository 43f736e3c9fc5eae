-- The aliases, by what their names stand for, and the calls that change them. Assumes nothing.
use Rattle.std.specs.Prelude.{ℕ, ◌+◌, ◌-◌, cond, not, ◌&&◌, List, is_some, Some, None, Option, nat_le}
use Rattle.std.specs.Map.{update}
use Rattle.std.specs.Str.{bytes_eq}
use Rattle.basics.specs.Checks.{refuse_if, or_else}
use Rattle.basics.specs.declared.refusal.Refusal.{Refusal}
use Rattle.basics.specs.declared.refusal.Reason.TheVariants.{TooManyAliases, NoSuchAlias}
use Rattle.aliases.specs.Spelling.{spelling_check}

-- a value or none for each name, and how many names have a value
pub record Aliases : Type 0 where
  pub named : List ℕ → Option (List ℕ)
  pub count : ℕ

abbrev pub no_aliases : Aliases
no_aliases = record { named = λ _. None; count = 0 }

-- there are at most eight aliases; a name that has a value takes another without being a ninth
abbrev pub define_check : Aliases → List ℕ → List ℕ → Option Refusal
define_check a name value =
    or_else (spelling_check name value) (refuse_if (not (is_some (a.named name)) && nat_le 8 a.count) TooManyAliases 0)

-- the aliases once a name has this value
abbrev pub defined : Aliases → List ℕ → List ℕ → Aliases
defined a name value =
    record { named = update bytes_eq a.named name (Some value); count = cond (is_some (a.named name)) a.count (a.count + 1) }

-- a name that has no value cannot be removed
abbrev pub remove_check : Aliases → List ℕ → Option Refusal
remove_check a name = refuse_if (not (is_some (a.named name))) NoSuchAlias 0

-- the aliases once a name has no value
abbrev pub removed : Aliases → List ℕ → Aliases
removed a name = record { named = update bytes_eq a.named name None; count = a.count - 1 }
