-- A template with its holes filled, and a reading with its holes filled. Assumes nothing.
use Rattle.std.specs.Prelude.{ℕ, List, [], ◌∷◌, ◌++◌}
use Rattle.source.specs.declared.symbol.Sign.{Sign}
use Rattle.source.specs.declared.symbol.Sign.TheVariants.{Byte, Hole, AliasEnd}
use Rattle.source.specs.declared.symbol.Symbol.{Symbol}
use Rattle.tokens.specs.declared.letter.Mark.TheVariants.{Quoted}
use Rattle.tokens.specs.Letters.{marked}
use Rattle.reading.specs.Readings.{Event, act, hole, Ending, ended, refused, Reading, ahead}
use Rattle.reading.specs.Items.{Written, letter, ItemLetter, known, filled_by, Item}

-- signs

-- each hole's form in its place
abbrev pub render : (ℕ → List ℕ) → List Sign → List Sign
render form [] = []
render form (Byte b ∷ ss) = Byte b ∷ render form ss
render form (Hole d ∷ ss) = ahead (form d) (render form ss)
render form (AliasEnd ∷ ss) = AliasEnd ∷ render form ss

-- the script's bytes
abbrev pub rendered : (ℕ → List ℕ) → List Symbol → List ℕ
rendered form [] = []
rendered form (s ∷ ss) = elim s.sign as (λ _. List ℕ) [ Byte b ↦ b ∷ rendered form ss | Hole d ↦ form d ++ rendered form ss | AliasEnd ↦ rendered form ss ]

-- readings

-- a text's bytes, each as q has it
abbrev pub spelled : {A : Type 0} → (ℕ → A) → List ℕ → List (Event A)
spelled q [] = []
spelled q (b ∷ bs) = act (q b) ∷ spelled q bs

-- each hole's text in its place
abbrev pub fill_events : {A : Type 0} → (ℕ → A) → (ℕ → List ℕ) → List (Event A) → List (Event A)
fill_events q text [] = []
fill_events q text (act a ∷ xs) = act a ∷ fill_events q text xs
fill_events q text (hole d ∷ xs) = spelled q (text d) ++ fill_events q text xs

abbrev pub fill : {A F : Type 0} → (ℕ → A) → (ℕ → List ℕ) → Reading A F → Reading A F
fill q text r = record { events = fill_events q text r.events; ending = r.ending }

abbrev pub Well : {F : Type 0} → Ending F → Type 0
Well ended = Unit {0}
Well (refused f) = ⊥

-- it is read to the end without fault
abbrev pub Accepted : {A F : Type 0} → Reading A F → Type 0
Accepted r = Well r.ending

-- items

abbrev pub quoted : ℕ → Written
quoted b = letter (marked Quoted b)

abbrev pub quoted_letters : List ℕ → List ItemLetter
quoted_letters [] = []
quoted_letters (b ∷ bs) = known (marked Quoted b) ∷ quoted_letters bs

-- filling puts the text's bytes, quoted, for a hole's letter
abbrev pub fill_letters : (ℕ → List ℕ) → List ItemLetter → List ItemLetter
fill_letters text [] = []
fill_letters text (known l ∷ ls) = known l ∷ fill_letters text ls
fill_letters text (filled_by d ∷ ls) = quoted_letters (text d) ++ fill_letters text ls

abbrev pub fill_item : (ℕ → List ℕ) → Item → Item
fill_item text i = record { kind = i.kind; depth = i.depth; letters = fill_letters text i.letters }

abbrev pub fill_items : (ℕ → List ℕ) → List Item → List Item
fill_items text [] = []
fill_items text (i ∷ is) = fill_item text i ∷ fill_items text is
