-- What a text is listed as: its items with their places, and then its end or a refusal. Assumes nothing.
use Rattle.std.specs.Prelude.{ℕ, ◌+◌, cond, List, [], ◌∷◌, ◌++◌, length, nat_lt}
use Rattle.basics.specs.declared.refusal.Refusal.{Refusal}
use Rattle.source.specs.declared.symbol.Symbol.{Symbol}
use Rattle.source.specs.Symbols.{template, script}
use Rattle.commands.specs.declared.item.Kind.{Kind}
use Rattle.commands.specs.declared.item.Kind.TheVariants as kind
use Rattle.reading.specs.declared.act.Act.{Act}
use Rattle.reading.specs.declared.act.Act.TheVariants as does
use Rattle.reading.specs.declared.act.At.{At}
use Rattle.reading.specs.declared.act.At.TheVariants as at
use Rattle.reading.specs.declared.act.Fault.{Fault}
use Rattle.reading.specs.States.{fresh}
use Rattle.reading.specs.Readings.{Aliases, Event, act, hole, Reading}
use Rattle.reading.specs.Placed.{Placing, placed}
use Rattle.reading.specs.Items.{shell, Written, letter, item, forget, writes, ItemLetter, known, filled_by, Item}

-- where the word, or what is left of it after a substitution, began, and where all of it began; and the latter of each word that a substitution stands in, innermost first
pub record WordPlaces : Type 0 where
  pub word : ℕ
  pub all : ℕ
  pub outer : List ℕ

-- the places of the last backslash, `$` and operator, and of the body
pub record Marks : Type 0 where
  pub backslash : ℕ
  pub dollar : ℕ
  pub operator : ℕ
  pub body : ℕ

pub record Places : Type 0 where
  pub words : WordPlaces
  pub marks : Marks

abbrev pub nowhere : Places
nowhere = record { words = record { word = 0; all = 0; outer = [] }; marks = record { backslash = 0; dollar = 0; operator = 0; body = 0 } }

abbrev pub place_of : At → ℕ → Places → ℕ
place_of at.Here p r = p
place_of at.Word p r = r.words.word
place_of at.First p r = r.words.all
place_of at.Operator p r = r.marks.operator
place_of at.Dollar p r = r.marks.dollar
place_of at.Body p r = r.marks.body

abbrev pub word_at : ℕ → Places → Places
word_at p r = record { words = record { word = p; all = p; outer = r.words.outer }; marks = r.marks }

-- as many as there are frames at most
abbrev pub pushed : ℕ → List ℕ → List ℕ
pushed p ps = cond (nat_lt (length ps) 32) (p ∷ ps) ps

-- a substitution opens in the word; it closes at p, and what is left of the word begins behind
abbrev pub opened : WordPlaces → WordPlaces
opened w = record { word = w.word; all = w.all; outer = pushed w.all w.outer }

abbrev pub closed : ℕ → WordPlaces → WordPlaces
closed p w = elim w.outer as (λ _. WordPlaces) [ [] ↦ record { word = p + 1; all = 0; outer = [] } | q ∷ qs ↦ record { word = p + 1; all = q; outer = qs } ]

abbrev pub after_item : Kind → ℕ → WordPlaces → WordPlaces
after_item kind.Part p w = w
after_item kind.Open p w = opened w
after_item kind.Close p w = closed p w
after_item (kind.Word r) p w = w
after_item (kind.Operator o) p w = w
after_item kind.Body p w = w

abbrev pub set_marks : ℕ → ℕ → ℕ → ℕ → Places → Places
set_marks b d o y r = record { words = r.words; marks = record { backslash = b; dollar = d; operator = o; body = y } }

-- what an act at the place p notes
abbrev pub noted : Act → ℕ → Places → Places
noted does.WordHere p r = word_at p r
noted does.WordAtBackslash p r = word_at r.marks.backslash r
noted does.WordAtDollar p r = word_at r.marks.dollar r
noted does.BackslashHere p r = set_marks p r.marks.dollar r.marks.operator r.marks.body r
noted does.DollarHere p r = set_marks r.marks.backslash p r.marks.operator r.marks.body r
noted does.OperatorHere p r = set_marks r.marks.backslash r.marks.dollar p r.marks.body r
noted does.BodyNext p r = set_marks r.marks.backslash r.marks.dollar r.marks.operator (p + 1) r
noted (does.Letter l) p r = r
noted (does.Item k n a) p r = record { words = after_item k p r.words; marks = r.marks }
noted does.Forget p r = r

-- what is written, and its place; that of a letter is not kept
pub record Entry : Type 0 where
  pub what : Written
  pub place : ℕ

abbrev pub act_place : Act → ℕ → Places → ℕ
act_place does.WordHere p r = 0
act_place does.WordAtBackslash p r = 0
act_place does.WordAtDollar p r = 0
act_place does.BackslashHere p r = 0
act_place does.DollarHere p r = 0
act_place does.OperatorHere p r = 0
act_place does.BodyNext p r = 0
act_place (does.Letter l) p r = 0
act_place (does.Item k n a) p r = place_of a p r
act_place does.Forget p r = 0

abbrev pub at_place : ℕ → List Written → List Entry
at_place p [] = []
at_place p (w ∷ ws) = record { what = w; place = p } ∷ at_place p ws

abbrev pub refusal_at : Fault → ℕ → Places → Refusal
refusal_at f p r = record { reason = f.reason; place = place_of f.at p r }

abbrev pub placing : Placing Act Entry Fault Refusal Places
placing = record { notes = noted; gives = λ a p r. at_place (act_place a p r) (writes a); refusal = refusal_at; word = λ r. r.words.all }

-- the reading of a source's symbols, which end at e, under the aliases; with at most 64 replacements
abbrev pub reading : Aliases → List Symbol → ℕ → Reading Entry Refusal
reading al ss e = placed placing al shell 64 ss e [] fresh nowhere

-- an item and its place
pub record Listed : Type 0 where
  pub item : Item
  pub place : ℕ

-- each item with the letters since the one before it
abbrev pub listed_from : List ItemLetter → List (Event Entry) → List Listed
listed_from ls [] = []
listed_from ls (act e ∷ xs) = elim e.what as (λ _. List Listed) [
  | letter l ↦ listed_from (ls ++ (known l ∷ [])) xs
  | item k n ↦ record { item = record { kind = k; depth = n; letters = ls }; place = e.place } ∷ listed_from [] xs
  | forget ↦ listed_from [] xs
]
listed_from ls (hole d ∷ xs) = listed_from (ls ++ (filled_by d ∷ [])) xs

abbrev pub listed : Reading Entry Refusal → List Listed
listed r = listed_from [] r.events

abbrev pub listed_items : List Listed → List Item
listed_items [] = []
listed_items (x ∷ xs) = x.item ∷ listed_items xs

abbrev pub template_reading : Aliases → List ℕ → Reading Entry Refusal
template_reading al t = reading al (template t 0) (length t)

abbrev pub script_reading : Aliases → List ℕ → Reading Entry Refusal
script_reading al s = reading al (script s 0) (length s)
