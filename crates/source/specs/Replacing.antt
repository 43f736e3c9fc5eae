-- Words that are replaced by the values of aliases. Assumes nothing.
use Rattle.std.specs.Prelude.{ℕ, zero, suc, Bool, true, false, cond, List, [], ◌∷◌, Some, None, Ok, Err, Option, Result}
use Rattle.std.specs.List.{list_any}
use Rattle.std.specs.Str.{bytes_eq}
use Rattle.basics.specs.Checks.{refusal}
use Rattle.basics.specs.declared.refusal.Refusal.{Refusal}
use Rattle.basics.specs.declared.refusal.Reason.TheVariants.{TooManyReplacements}
use Rattle.source.specs.declared.symbol.Sign.TheVariants.{Byte, Hole, AliasEnd}
use Rattle.source.specs.declared.symbol.Symbol.{Symbol}
use Rattle.source.specs.Symbols.{aliased}

abbrev pub is_listed : List ℕ → List (List ℕ) → Bool
is_listed n ns = list_any (bytes_eq n) ns

-- the value that a word stands for: its alias's, unless the end of that alias is still to come
abbrev pub stands_for : (List ℕ → Option (List ℕ)) → List (List ℕ) → List ℕ → Option (List ℕ)
stands_for named open-names word = cond (is_listed word open-names) None (named word)

-- whether a word is replaced, or refused as one too many, where `left` words may still be replaced
abbrev pub replace_answer : Option (List ℕ) → ℕ → ℕ → Result Bool Refusal
replace_answer None left place = Ok false
replace_answer (Some value) zero place = Err (refusal TooManyReplacements place)
replace_answer (Some value) (suc left) place = Ok true

-- what is to come after that
abbrev pub replaced_coming : Option (List ℕ) → ℕ → ℕ → List Symbol → List Symbol
replaced_coming None left place ss = ss
replaced_coming (Some value) zero place ss = ss
replaced_coming (Some value) (suc left) place ss = aliased value place ss

-- the names of the aliases whose end is to come after that
abbrev pub replaced_names : Option (List ℕ) → ℕ → List ℕ → List (List ℕ) → List (List ℕ)
replaced_names None left word ns = ns
replaced_names (Some value) zero word ns = ns
replaced_names (Some value) (suc left) word ns = word ∷ ns

-- how many words may be replaced after that
abbrev pub replaced_left : Option (List ℕ) → ℕ → ℕ
replaced_left None left = left
replaced_left (Some value) zero = zero
replaced_left (Some value) (suc left) = left

abbrev pub outer : List (List ℕ) → List (List ℕ)
outer [] = []
outer (n ∷ ns) = ns

-- an alias's end closes the innermost alias
abbrev pub closed : Option Symbol → List (List ℕ) → List (List ℕ)
closed None ns = ns
closed (Some s) ns = elim s.sign [ Byte b ↦ ns | Hole d ↦ ns | AliasEnd ↦ outer ns ]
