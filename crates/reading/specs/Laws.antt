-- The laws of reading: what a reader owes about quotes, and what follows for forms, rendered scripts and two fillings of one template. Assumes nothing.
use Rattle.std.specs.Prelude.{◌≡◌, ℕ, false, List, [], ◌∷◌, ◌++◌, None, ◌==◌}
use Rattle.basics.specs.Bytes.{newline, single_quote, backslash}
use Rattle.quoting.specs.Forms.{LawfulForm}
use Rattle.source.specs.declared.symbol.Sign.{Sign}
use Rattle.source.specs.Symbols.{template}
use Rattle.reading.specs.Readings.{goes, Reader, Aliases, acts, first, ahead, read}
use Rattle.reading.specs.Unplaced.{unplaced}
use Rattle.reading.specs.Filled.{render, rendered, spelled, fill, Accepted, quoted, fill_items}
use Rattle.reading.specs.Listed.{listed, listed_items, template_reading, script_reading}

-- What any reader owes about quotes, q being how it tells a quoted byte. Where it takes a hole, which leaves the control w: it takes another in w; `'` opens
-- quotes, which hold every byte but `'`, which closes them into w; and a backslash quotes the next byte but newline, into w. No word ends at any of these.
pub record Quotes {C A F : Type 0} (R : Reader C A F) (q : ℕ → A) : Type 0 where
  pub in_single : C → C
  pub in_escape : C → C
  pub stays : (c w : C) (out : List A) → R.hole c ≡ goes out w → R.hole w ≡ goes [] w
  pub opens : (c w : C) (out : List A) → R.hole c ≡ goes out w → R.byte single_quote c ≡ goes out (in_single w)
  pub holds : (c w : C) (out : List A) → R.hole c ≡ goes out w → (b : ℕ) → (b == single_quote) ≡ false → R.byte b (in_single w) ≡ goes (q b ∷ []) (in_single w)
  pub closes : (c w : C) (out : List A) → R.hole c ≡ goes out w → R.byte single_quote (in_single w) ≡ goes [] w
  pub escapes : (c w : C) (out : List A) → R.hole c ≡ goes out w → R.byte backslash c ≡ goes [] (in_escape c)
  pub escaped : (c w : C) (out : List A) → R.hole c ≡ goes out w → (b : ℕ) → (b == newline) ≡ false → R.byte b (in_escape c) ≡ goes (out ++ (q b ∷ [])) w
  pub no_name_at_quote : (c : C) → R.name_before single_quote c ≡ None
  pub no_name_at_backslash : (c : C) → R.name_before backslash c ≡ None
  pub no_name_in_single : (c : C) (b : ℕ) → R.name_before b (in_single c) ≡ None
  pub no_name_in_escape : (c : C) (b : ℕ) → R.name_before b (in_escape c) ≡ None

-- A lawful form of a text, read where a hole is taken, gives the text's bytes as quoted letters, and all else is as the hole leaves it.
abbrev pub FormsGiveLetters : {C A F : Type 0} → Reader C A F → (ℕ → A) → Type 0
FormsGiveLetters {C} {A} R q =
    (al : Aliases) (form text : List ℕ) → LawfulForm text form
    → (n : ℕ) (ss : List Sign) (ns : List (List ℕ)) (c w : C) (out : List A) → R.hole c ≡ goes out w
    → read al R n (ahead form ss) ns c ≡ first (acts out) (first (spelled q text) (read al R n ss ns w))

-- A template with a lawful form in each hole reads as the template reads with every hole filled.
abbrev pub Fills : {C A F : Type 0} → Reader C A F → (ℕ → A) → Type 0
Fills {C} R q =
    (al : Aliases) (form text : ℕ → List ℕ) → ((d : ℕ) → LawfulForm (text d) (form d))
    → (n : ℕ) (ss : List Sign) (ns : List (List ℕ)) (c : C)
    → Accepted (read al R n ss ns c) → read al R n (render form ss) ns c ≡ fill q text (read al R n ss ns c)

-- for the shell's reader, places apart

abbrev pub FormIsOneWordsLetters : Type 0
FormIsOneWordsLetters = FormsGiveLetters unplaced quoted

-- A template that reads without fault, with a lawful form of its text in each hole, is a script that reads without fault, to exactly the template's items with every hole filled; places are not compared.
abbrev pub ScriptReadsAsTemplateFilled : Type 0
ScriptReadsAsTemplateFilled =
    (al : Aliases) (form text : ℕ → List ℕ) (t : List ℕ)
    → ((d : ℕ) → LawfulForm (text d) (form d))
    → Accepted (template_reading al t)
    → Accepted (script_reading al (rendered form (template t 0)))
    × (listed_items (listed (script_reading al (rendered form (template t 0)))) ≡ fill_items text (listed_items (listed (template_reading al t))))

-- Two such scripts of one template, under aliases that agree: one list of items fills to both lists, so kinds, codes and depths are the same in the same order, and each hole shows its own text.
abbrev pub ScriptsDifferInHolesAlone : Type 0
ScriptsDifferInHolesAlone =
    (al al' : Aliases) (form form' text text' : ℕ → List ℕ) (t : List ℕ)
    → ((w : List ℕ) → al w ≡ al' w)
    → ((d : ℕ) → LawfulForm (text d) (form d)) → ((d : ℕ) → LawfulForm (text' d) (form' d))
    → Accepted (template_reading al t)
    → (listed_items (listed (script_reading al (rendered form (template t 0)))) ≡ fill_items text (listed_items (listed (template_reading al t))))
    × (listed_items (listed (script_reading al' (rendered form' (template t 0)))) ≡ fill_items text' (listed_items (listed (template_reading al t))))
