-- Some readings, worked out. Assumes nothing.
use Rattle.std.specs.Prelude.{◌≡◌, ℕ, cond, List, [], ◌∷◌, Some, None, codes}
use Rattle.std.specs.Str.{bytes_eq}
use Rattle.basics.specs.declared.refusal.Reason.{Reason}
use Rattle.basics.specs.declared.refusal.Reason.TheVariants.{HoleNotTaken, OutOfPlace, HereDocument}
use Rattle.basics.specs.declared.refusal.Refusal.{Refusal}
use Rattle.quoting.specs.Singles.{single}
use Rattle.tokens.specs.declared.letter.Mark.{Mark}
use Rattle.tokens.specs.declared.letter.Mark.TheVariants.{Bare, Quoted}
use Rattle.tokens.specs.declared.operator.Operator.TheVariants.{Great}
use Rattle.tokens.specs.Letters.{marked}
use Rattle.commands.specs.declared.role.Role.TheVariants.{Name, Arg, Target, Number}
use Rattle.commands.specs.declared.item.Kind.{Kind}
use Rattle.commands.specs.declared.item.Kind.TheVariants.{Part, Open, Close, Word, Operator}
use Rattle.reading.specs.Readings.{Aliases, Reading, ended, refused}
use Rattle.reading.specs.Items.{ItemLetter, known, Item}
use Rattle.reading.specs.Listed.{Entry, listed, listed_items, template_reading, script_reading}

-- the bytes as letters of one mark
abbrev pub letters : Mark → List ℕ → List ItemLetter
letters m [] = []
letters m (b ∷ bs) = known (marked m b) ∷ letters m bs

abbrev pub item : Kind → ℕ → List ItemLetter → Item
item k n ls = record { kind = k; depth = n; letters = ls }

-- an item at the bottom, of bare letters
abbrev pub plain : Kind → List ℕ → Item
plain k bs = item k 0 (letters Bare bs)

-- the script is listed as these items
abbrev pub Lists : Aliases → List ℕ → List Item → Type 0
Lists al s is = (listed_items (listed (script_reading al s)) ≡ is) × ((script_reading al s).ending ≡ ended)

-- what is read is refused for this reason and at this place
abbrev pub Refuses : Reading Entry Refusal → Reason → ℕ → Type 0
Refuses r x p = r.ending ≡ refused (record { reason = x; place = p })

abbrev pub no_aliases : Aliases
no_aliases w = None

-- `ls` stands for `ls -l`
abbrev pub ls_alias : Aliases
ls_alias w = cond (bytes_eq w (codes "ls")) (Some (codes "ls -l")) None

abbrev pub Examples : Type 0
Examples =
    Lists no_aliases [] []
    × Lists no_aliases (codes "a#b") (plain (Word Name) (codes "a#b") ∷ [])
    × Lists no_aliases (codes "2>f") (plain (Word Number) (codes "2") ∷ plain (Operator Great) [] ∷ plain (Word Target) (codes "f") ∷ [])
    × Lists no_aliases (codes "\\2>f") (item (Word Name) 0 (letters Quoted (codes "2")) ∷ plain (Operator Great) [] ∷ plain (Word Target) (codes "f") ∷ [])
    × Lists no_aliases (codes "\"$(a \"b\")\"") (item Part 1 [] ∷ item Open 1 [] ∷ item (Word Name) 2 (letters Bare (codes "a")) ∷ item (Word Arg) 2 (letters Quoted (codes "b")) ∷ item Close 2 [] ∷ item (Word Name) 0 [] ∷ [])
    × Refuses (script_reading no_aliases (codes "a;;b")) OutOfPlace 1
    × Refuses (script_reading no_aliases (codes "cat <<E")) HereDocument 7
    × Lists ls_alias (codes "ls") (plain (Word Name) (codes "ls") ∷ plain (Word Arg) (codes "-l") ∷ [])
    × Refuses (template_reading no_aliases (codes "@{0} a")) HoleNotTaken 0
    × Refuses (template_reading no_aliases (codes "a $@{0}")) HoleNotTaken 3
    × Refuses (template_reading no_aliases (codes "a <<@{0}")) HoleNotTaken 4
    × ((template_reading no_aliases (codes "x=@{0} a")).ending ≡ ended)
    × ((template_reading no_aliases (codes "a $(b @{0})")).ending ≡ ended)
    × (single (codes "it's") ≡ codes "'it'\\''s'")
