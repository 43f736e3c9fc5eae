-- Letters put one after another. Assumes nothing.
use Rattle.std.proofs.Common.{◌≡◌, ℕ, ◌+◌, ◌<◌, ◌≤◌, List, length, get_or, drop, Ok, Err, Result, sym, ap, ◌∙◌}
use Rattle.std.proofs.lemmas.List.{drop_more, drop_all}
use Rattle.basics.specs.declared.refusal.Refusal.{Refusal}
use Rattle.tokens.specs.declared.letter.Mark.{Mark}
use Rattle.tokens.specs.Letters.{marked}
use Rattle.reading.specs.declared.act.Act.TheVariants.{Letter}
use Rattle.reading.specs.States.{State}
use Rattle.reading.specs.Steps.{writes, done}
use Rattle.reading.specs.Laid.{Held, held, and}
use Rattle.reader.specs.Pens.{Page, put_on, step_on}
use Rattle.reader.specs.Sheets.{Sheets}

module _ {S : Type 0} (W : Sheets S) (m : Mark) (t : List ℕ) (k : ℕ) (p : Page S) (i : State) where
  abbrev rest : List ℕ → Page S → Result (Held State (Page S)) Refusal
  rest l q = step_on W (writes m l (done i)) q

  module _ (h : k < length t) where
    first : rest (drop k t) p ≡ and (put_on W (Letter (marked m (get_or t k 0))) p) (λ q. rest (drop (k + 1) t) q)
    first = ap (λ l. rest l p) (drop_more t k 0 h)

    pub one_put : (q : Page S) → ◌≡◌ {A = Result (Page S) Refusal} (Ok q) (put_on W (Letter (marked m (get_or t k 0))) p) → rest (drop (k + 1) t) q ≡ rest (drop k t) p
    one_put q e = ap (λ r. and r (λ y. rest (drop (k + 1) t) y)) e ∙ sym first

    pub no_room : (e : Refusal) → ◌≡◌ {A = Result (Page S) Refusal} (Err e) (put_on W (Letter (marked m (get_or t k 0))) p) → ◌≡◌ {A = Result (Held State (Page S)) Refusal} (Err e) (rest (drop k t) p)
    no_room e f = ap (λ r. and r (λ y. rest (drop (k + 1) t) y)) f ∙ sym first

  pub all_put : length t ≤ k → ◌≡◌ {A = Result (Held State (Page S)) Refusal} (Ok (held i p)) (rest (drop k t) p)
  all_put h = sym (ap (λ l. rest l p) (drop_all k t h))
