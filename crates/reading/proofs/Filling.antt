-- The laws of rendered scripts, over bytes and listed items. Assumes nothing.
use Rattle.std.proofs.Common.{◌≡◌, ℕ, ◌+◌, Bool, true, false, cond, List, [], ◌∷◌, ◌++◌, length, sym, refl, ap, ◌∙◌, subst, append_assoc}
use Rattle.std.proofs.lemmas.List.{append-nil}
use mathlib.Core.Path.{fun_ext}
use Rattle.basics.specs.declared.refusal.Reason.{Reason}
use Rattle.basics.specs.declared.refusal.Refusal.{Refusal}
use Rattle.source.specs.declared.symbol.Sign.{Sign}
use Rattle.source.specs.declared.symbol.Sign.TheVariants.{Byte, Hole, AliasEnd}
use Rattle.source.specs.declared.symbol.Symbol.{Symbol}
use Rattle.source.specs.Symbols.{template, script, symbol, is_hole}
use Rattle.quoting.specs.Forms.{LawfulForm}
use Rattle.tokens.specs.declared.letter.Mark.TheVariants.{Quoted}
use Rattle.tokens.specs.Letters.{marked}
use Rattle.reading.specs.declared.act.Act.{Act}
use Rattle.reading.specs.declared.act.Fault.{Fault}
use Rattle.reading.specs.States.{Control, fresh}
use Rattle.reading.specs.Readings.{Aliases, Event, act, hole, Ending, ended, refused, ahead, read}
use Rattle.reading.specs.Items.{shell, Written, letter, item, forget, writes, ItemLetter, known, filled_by, items, signs}
use Rattle.reading.specs.Unplaced.{reason_of, unplaced, reading_of, items_of, each, strip, strip_events, strip_ending}
use Rattle.reading.specs.Filled.{render, rendered, spelled, fill_events, fill, Well, Accepted, quoted, quoted_letters, fill_letters, fill_items}
use Rattle.reading.specs.Listed.{Places, nowhere, Entry, act_place, at_place, placing, reading, listed_from, listed, listed_items, template_reading, script_reading}
use Rattle.reading.specs.Laws.{ScriptReadsAsTemplateFilled, ScriptsDifferInHolesAlone}
use Rattle.reading.proofs.Quoting.{shell_fills}
use Rattle.reading.proofs.Apart.{placed_apart}

-- letters and items

fill_more : (text : ℕ → List ℕ) (ls ms : List ItemLetter) → fill_letters text (ls ++ ms) ≡ fill_letters text ls ++ fill_letters text ms
fill_more text [] ms = refl
fill_more text (known l ∷ ls) ms = ap (λ x. known l ∷ x) (fill_more text ls ms)
fill_more text (filled_by d ∷ ls) ms = ap (λ x. quoted_letters (text d) ++ x) (fill_more text ls ms) ∙ sym (append_assoc (quoted_letters (text d)) (fill_letters text ls) (fill_letters text ms))

items_spelled : (t : List ℕ) (ls : List ItemLetter) (xs : List (Event Written)) → items ls (spelled quoted t ++ xs) ≡ items (ls ++ quoted_letters t) xs
items_spelled [] ls xs = ap (λ l. items l xs) (sym (append-nil ls))
items_spelled (b ∷ t) ls xs = items_spelled t (ls ++ (known (marked Quoted b) ∷ [])) xs ∙ ap (λ l. items l xs) (append_assoc ls (known (marked Quoted b) ∷ []) (quoted_letters t))

items_filled : (text : ℕ → List ℕ) (xs : List (Event Written)) (ls : List ItemLetter) → items (fill_letters text ls) (fill_events quoted text xs) ≡ fill_items text (items ls xs)
items_filled text [] ls = refl
items_filled text (act (letter l) ∷ xs) ls = ap (λ m. items m (fill_events quoted text xs)) (sym (fill_more text ls (known l ∷ []))) ∙ items_filled text xs (ls ++ (known l ∷ []))
items_filled text (act (item k n) ∷ xs) ls = ap (λ is. record { kind = k; depth = n; letters = fill_letters text ls } ∷ is) (items_filled text xs [])
items_filled text (act forget ∷ xs) ls = items_filled text xs []
items_filled text (hole d ∷ xs) ls =
    items_spelled (text d) (fill_letters text ls) (fill_events quoted text xs)
    ∙ ap (λ m. items (fill_letters text ls ++ m) (fill_events quoted text xs)) (sym (append-nil (quoted_letters (text d))))
    ∙ ap (λ m. items m (fill_events quoted text xs)) (sym (fill_more text ls (filled_by d ∷ [])))
    ∙ items_filled text xs (ls ++ (filled_by d ∷ []))

-- bytes

signs_script : (bs : List ℕ) (k : ℕ) → signs (script bs k) ≡ ahead bs []
signs_script [] k = refl
signs_script (b ∷ bs) k = ap (λ l. Byte b ∷ l) (signs_script bs (k + 1))

ahead_more : (bs cs : List ℕ) (ss : List Sign) → ahead (bs ++ cs) ss ≡ ahead bs (ahead cs ss)
ahead_more [] cs ss = refl
ahead_more (b ∷ bs) cs ss = ap (λ l. Byte b ∷ l) (ahead_more bs cs ss)

-- no ends of aliases
abbrev Own : Sign → Type 0
Own (Byte b) = Unit {0}
Own (Hole d) = Unit {0}
Own AliasEnd = ⊥

abbrev AllOwn : List Symbol → Type 0
AllOwn [] = Unit {0}
AllOwn (s ∷ ss) = Own s.sign × AllOwn ss

rendered_sign : (form : ℕ → List ℕ) (g : Sign) (ss : List Symbol) → Own g → ahead (rendered form ss) [] ≡ render form (signs ss) → ahead (elim g as (λ _. List ℕ) [ Byte b ↦ b ∷ rendered form ss | Hole d ↦ form d ++ rendered form ss | AliasEnd ↦ rendered form ss ]) [] ≡ render form (g ∷ signs ss)
rendered_sign form (Byte b) ss o h = ap (λ l. Byte b ∷ l) h
rendered_sign form (Hole d) ss o h = ahead_more (form d) (rendered form ss) [] ∙ ap (ahead (form d)) h
rendered_sign form AliasEnd ss o h = absurd o

rendered_is : (form : ℕ → List ℕ) (ss : List Symbol) → AllOwn ss → ahead (rendered form ss) [] ≡ render form (signs ss)
rendered_is form [] o = refl
rendered_is form (s ∷ ss) o = rendered_sign form s.sign ss o.0 (rendered_is form ss o.1)

own_if : (y : Bool) (s t : Symbol) (ss ts : List Symbol) → AllOwn (s ∷ ss) → AllOwn (t ∷ ts) → AllOwn (cond y (s ∷ ss) (t ∷ ts))
own_if true s t ss ts p q = p
own_if false s t ss ts p q = q

template_own : (t : List ℕ) (k : ℕ) → AllOwn (template t k)
template_own [] k = tt
template_own (a ∷ []) k = (tt, tt)
template_own (a ∷ b ∷ []) k = (tt, template_own (b ∷ []) (k + 1))
template_own (a ∷ b ∷ d ∷ []) k = (tt, template_own (b ∷ d ∷ []) (k + 1))
template_own (a ∷ b ∷ d ∷ e ∷ bs) k = own_if (is_hole a b d e) _ (symbol (Byte a) k) (template bs (k + 4)) (template (b ∷ d ∷ e ∷ bs) (k + 1)) (tt, template_own bs (k + 4)) (tt, template_own (b ∷ d ∷ e ∷ bs) (k + 1))

-- places apart

written_at : (p : ℕ) (ws : List Written) → each (λ (e : Entry). e.what) (at_place p ws) ≡ ws
written_at p [] = refl
written_at p (w ∷ ws) = ap (λ l. w ∷ l) (written_at p ws)

apart : (al : Aliases) (ss : List Symbol) (e : ℕ) → strip (λ (x : Entry). x.what) (λ (r : Refusal). r.reason) (reading al ss e) ≡ reading_of al 64 ss
apart al ss e = placed_apart Control Act Entry Written Fault Reason Refusal Places placing al shell writes reason_of (λ x. x.what) (λ r. r.reason) (λ a p r. written_at (act_place a p r) (writes a)) (λ x p r. refl) 64 ss e [] fresh nowhere

listed_one : (w : Written) (p : ℕ) (xs : List (Event Entry)) (ls : List ItemLetter) → ((ms : List ItemLetter) → listed_items (listed_from ms xs) ≡ items ms (strip_events (λ (x : Entry). x.what) xs))
    → listed_items (listed_from ls (act (record { what = w; place = p }) ∷ xs)) ≡ items ls (act w ∷ strip_events (λ (x : Entry). x.what) xs)
listed_one (letter l) p xs ls h = h (ls ++ (known l ∷ []))
listed_one (item k n) p xs ls h = ap (λ is. record { kind = k; depth = n; letters = ls } ∷ is) (h [])
listed_one forget p xs ls h = h []

listed_is : (xs : List (Event Entry)) (ls : List ItemLetter) → listed_items (listed_from ls xs) ≡ items ls (strip_events (λ (x : Entry). x.what) xs)
listed_is [] ls = refl
listed_is (act e ∷ xs) ls = listed_one e.what e.place xs ls (λ ms. listed_is xs ms)
listed_is (hole d ∷ xs) ls = listed_is xs (ls ++ (filled_by d ∷ []))

items_listed : (al : Aliases) (ss : List Symbol) (e : ℕ) → listed_items (listed (reading al ss e)) ≡ items_of (reading_of al 64 ss)
items_listed al ss e = listed_is (reading al ss e).events [] ∙ ap items_of (apart al ss e)

well_stripped : (x : Ending Refusal) → Well (strip_ending (λ (r : Refusal). r.reason) x) → Well x
well_stripped ended w = w
well_stripped (refused r) w = w

well_strip : (x : Ending Refusal) → Well x → Well (strip_ending (λ (r : Refusal). r.reason) x)
well_strip ended w = w
well_strip (refused r) w = w

-- the laws

module _ (al : Aliases) (form text : ℕ → List ℕ) (t : List ℕ) (lawful : (d : ℕ) → LawfulForm (text d) (form d)) (ok : Accepted (template_reading al t)) where
  abbrev made : List ℕ
  made = rendered form (template t 0)

  accepted : Accepted (reading_of al 64 (template t 0))
  accepted = subst (λ r. Accepted r) (apart al (template t 0) (length t)) (well_strip (template_reading al t).ending ok)

  whole : reading_of al 64 (script made 0) ≡ fill quoted text (reading_of al 64 (template t 0))
  whole =
      ap (λ ss. read al unplaced 64 ss [] fresh) (signs_script made 0 ∙ rendered_is form (template t 0) (template_own t 0))
      ∙ shell_fills al form text lawful 64 (signs (template t 0)) [] fresh accepted

  pub both : Accepted (script_reading al made) × (listed_items (listed (script_reading al made)) ≡ fill_items text (listed_items (listed (template_reading al t))))
  both = (
    well_stripped (script_reading al made).ending (subst (λ r. Accepted r) (sym (apart al (script made 0) (length made))) (subst (λ r. Accepted r) (sym whole) accepted)),
    items_listed al (script made 0) (length made) ∙ ap items_of whole ∙ items_filled text (reading_of al 64 (template t 0)).events [] ∙ ap (fill_items text) (sym (items_listed al (template t 0) (length t))),
  )

pub script_reads_as_template_filled : ScriptReadsAsTemplateFilled
script_reads_as_template_filled al form text t lawful ok = both al form text t lawful ok

pub scripts_differ_in_holes_alone : ScriptsDifferInHolesAlone
scripts_differ_in_holes_alone al al' form form' text text' t same law law' ok =
    let e : al ≡ al' = fun_ext same in (
      (both al form text t law ok).1,
      ap (λ a. listed_items (listed (script_reading a (rendered form' (template t 0))))) (sym e) ∙ (both al form' text' t law' ok).1,
    )
