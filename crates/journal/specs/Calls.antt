-- The lines of a journal, and the calls that they spell. Assumes nothing.
use Rattle.std.specs.Prelude.{◌≡◌, ℕ, ◌<◌, Bool, true, ◌⊎◌, List, [], ◌∷◌, ◌++◌, length, Some, vec_items, codes, Option, MatchOption, ◌==◌, ◌≢◌, slice_index}
use Rattle.std.specs.Str.Parse.{IsNumeral, digits_value, without_leading_plus}
use Rattle.journal.specs.declared.call.Call.{Call}
use Rattle.journal.specs.declared.call.Call.TheVariants.{Order, Alias, Unalias, Load, Unload, List as Listing}
use Rattle.journal.specs.Escapes.{unescaped}
use Rattle.journal.specs.Names.{style_name}

-- an empty line, and a line that begins with `#`, is no call
abbrev pub passed_over : List ℕ → Bool
passed_over [] = true
passed_over (b ∷ line) = b == 35

abbrev pub blank : ℕ
blank = 32

abbrev pub Blankless : List ℕ → Type 0
Blankless word = (i : ℕ) → i < length word → slice_index word i ≢ blank

-- a line in two parts with a blank between them
abbrev pub Parted : List ℕ → (List ℕ → List ℕ → Type 0) → Type 0
Parted line P = (front : List ℕ) × (back : List ℕ) × (line ≡ front ++ (blank ∷ back)) × P front back

-- a word stands for these bytes
abbrev pub Stands : List ℕ → List ℕ → Type 0
Stands word bytes = unescaped word ≡ Some bytes

-- a word is this number
abbrev pub Counts : List ℕ → ℕ → Type 0
Counts word n = IsNumeral 10 (without_leading_plus word) × (n ≡ digits_value 10 (without_leading_plus word))

-- the word that a line with this call begins with
abbrev pub name_of : Call → List ℕ
name_of (Order style) = codes "order"
name_of (Alias name value) = codes "alias"
name_of (Unalias name) = codes "unalias"
name_of (Load template) = codes "load"
name_of Unload = codes "unload"
name_of (Listing records letters script) = codes "list"

-- a name, and what stands behind it and a blank, spell a call
abbrev pub Spells : List ℕ → List ℕ → Call → Type 0
Spells name rest (Order style) = (name ≡ codes "order") × (rest ≡ style_name style)
Spells name rest (Alias n v) = (name ≡ codes "alias") × Parted rest (λ a b. Stands a (vec_items n) × Stands b (vec_items v))
Spells name rest (Unalias n) = (name ≡ codes "unalias") × Stands rest (vec_items n)
Spells name rest (Load t) = (name ≡ codes "load") × Stands rest (vec_items t)
Spells name rest Unload = ⊥
Spells name rest (Listing records letters script) =
    (name ≡ codes "list") × Parted rest (λ a more. Counts a records × Parted more (λ b s. Counts b letters × Stands s (vec_items script)))

-- a name alone spells a call that is given nothing
abbrev pub SpellsAlone : List ℕ → Call → Type 0
SpellsAlone name call = (name ≡ codes "unload") × (call ≡ Unload)

-- a line that is a call spells it
abbrev pub Spelled : List ℕ → Option Call → Type 0
Spelled line o = MatchOption o (passed_over line ≡ true) (λ call. Parted line (λ name rest. Spells name rest call) ⊎ SpellsAlone line call)
