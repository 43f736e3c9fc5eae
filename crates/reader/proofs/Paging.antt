-- What is written on a page is what is written on its sheet, at its place. Assumes nothing.
use Rattle.std.proofs.Common.{◌≡◌, ℕ, Ok, Err, Result, refl, ap, ◌∙◌, arith}
use Rattle.basics.specs.declared.refusal.Refusal.{Refusal}
use Rattle.source.specs.declared.symbol.Sign.{Sign}
use Rattle.source.specs.declared.symbol.Sign.TheVariants.{Byte, Hole, AliasEnd}
use Rattle.reading.specs.Holes.{hole}
use Rattle.reading.specs.Moves.{byte, alias_end}
use Rattle.reading.specs.Laid.{Held, held, and}
use Rattle.reading.specs.States.{State, Control}
use Rattle.reading.specs.Steps.{Step, Move, done, refuse, does, ◌then◌}
use Rattle.reader.specs.Held.{lays, lays_move}
use Rattle.reader.specs.Onto.{sign_move}
use Rattle.reader.specs.Pens.{Page, with_sheet, step_on, move_on, fill_on, sign_on, paged}
use Rattle.reader.specs.Sheets.{Sheets}

module _ {S : Type 0} (W : Sheets S) where
  after_put : (r : Result S Refusal) (s : Step) (p : Page S) → ((x : S) → step_on W s (with_sheet p x) ≡ paged p (lays W p.place s x))
      → and (and r (λ x. Ok (with_sheet p x))) (λ q. step_on W s q) ≡ paged p (and r (λ x. lays W p.place s x))
  after_put (Ok x) s p h = h x
  after_put (Err e) s p h = refl

  after_step : (r : Result (Held State S) Refusal) (k : State → Step) (p : Page S) → ((h : Held State S) → step_on W (k h.at) (with_sheet p h.sheet) ≡ paged p (lays W p.place (k h.at) h.sheet))
      → and (paged p r) (λ h. step_on W (k h.at) h.sheet) ≡ paged p (and r (λ h. lays W p.place (k h.at) h.sheet))
  after_step (Ok h) k p f = f h
  after_step (Err e) k p f = refl

  pub step_paged : (s : Step) (p : Page S) → step_on W s p ≡ paged p (lays W p.place s p.sheet)
  step_paged (done i) p = refl
  step_paged (refuse r a) p = refl
  step_paged (does a s) p = after_put (W.written a p.place p.sheet) s p (λ x. step_paged s (with_sheet p x))
  step_paged (s then k) p =
      ap (λ r. and r (λ h. step_on W (k h.at) h.sheet)) (step_paged s p)
      ∙ after_step (lays W p.place s p.sheet) k p (λ h. step_paged (k h.at) (with_sheet p h.sheet))

  after_move : {C D : Type 0} (r : Result (Held C S) Refusal) (f : C → D) (p : Page S) → and (paged p r) (λ h. Ok (held (f h.at) h.sheet)) ≡ paged p (and r (λ h. Ok (held (f h.at) h.sheet)))
  after_move (Ok h) f p = refl
  after_move (Err e) f p = refl

  pub move_paged : (m : Move) (p : Page S) → move_on W m p ≡ paged p (lays_move W p.place m p.sheet)
  move_paged m p =
      ap (λ r. and r (λ h. Ok (held (record { escape = m.escape; at = h.at }) h.sheet))) (step_paged m.step p)
      ∙ after_move (lays W p.place m.step p.sheet) (λ i. record { escape = m.escape; at = i }) p

  after_fill : (r : Result S Refusal) (c : Control) (p : Page S) → and (and r (λ x. Ok (with_sheet p x))) (λ t. Ok (held c t)) ≡ paged p (and r (λ x. Ok (held c x)))
  after_fill (Ok x) c p = refl
  after_fill (Err e) c p = refl

  after_hole : (r : Result (Held Control S) Refusal) (d : ℕ) (p : Page S)
      → and (paged p r) (λ h. and (fill_on W d h.sheet) (λ t. Ok (held h.at t))) ≡ paged p (and r (λ h. and (W.filled d h.sheet) (λ x. Ok (held h.at x))))
  after_hole (Ok h) d p = after_fill (W.filled d h.sheet) h.at (with_sheet p h.sheet)
  after_hole (Err e) d p = refl

  pub sign_paged : (x : Sign) (c : Control) (p : Page S) → sign_on W x c p ≡ paged p (sign_move W x p.place c p.sheet)
  sign_paged (Byte b) c p = move_paged (byte b c) p
  sign_paged (Hole d) c p =
      ap (λ r. and r (λ h. and (fill_on W d h.sheet) (λ t. Ok (held h.at t)))) (move_paged (hole c) p)
      ∙ after_hole (lays_move W p.place (hole c) p.sheet) d p
  sign_paged AliasEnd c p = move_paged (alias_end c) p

module _ {C S : Type 0} (p : Page S) where
  pub ok_on_page : (r : Result (Held C S) Refusal) (c : C) (q : Page S) → ◌≡◌ {A = Result (Held C (Page S)) Refusal} (Ok (held c q)) (paged p r)
      → ◌≡◌ {A = Result (Held C S) Refusal} (Ok (held c q.sheet)) r × (q.sink ≡ p.sink)
  ok_on_page (Ok h) c q e =
      let f : held c q ≡ held h.at (with_sheet p h.sheet) = cc in
      (ap (λ (x : Held C (Page S)). Ok (held x.at x.sheet.sheet)) f, ap (λ (x : Held C (Page S)). x.sheet.sink) f)
  ok_on_page (Err x) c q e = let z : ◌≡◌ {A = ℕ} 0 1 = cc in absurd (omega arith)

  pub err_on_page : (r : Result (Held C S) Refusal) (x : Refusal) → ◌≡◌ {A = Result (Held C (Page S)) Refusal} (Err x) (paged p r) → ◌≡◌ {A = Result (Held C S) Refusal} (Err x) r
  err_on_page (Ok h) x e = let z : ◌≡◌ {A = ℕ} 0 1 = cc in absurd (omega arith)
  err_on_page (Err y) x e = let f : x ≡ y = cc in ap (λ z. Err z) f

-- what a call that lays a step, a move or a symbol's work leaves on the sheet, at the same sink
module _ {S : Type 0} (W : Sheets S) (p : Page S) where
  pub step_went : (s : Step) (j : State) (q : Page S) → ◌≡◌ {A = Result (Held State (Page S)) Refusal} (Ok (held j q)) (step_on W s p)
      → ◌≡◌ {A = Result (Held State S) Refusal} (Ok (held j q.sheet)) (lays W p.place s p.sheet) × (q.sink ≡ p.sink)
  step_went s j q e = ok_on_page p (lays W p.place s p.sheet) j q (e ∙ step_paged W s p)

  pub step_refused : (s : Step) (x : Refusal) → ◌≡◌ {A = Result (Held State (Page S)) Refusal} (Err x) (step_on W s p) → ◌≡◌ {A = Result (Held State S) Refusal} (Err x) (lays W p.place s p.sheet)
  step_refused s x e = err_on_page p (lays W p.place s p.sheet) x (e ∙ step_paged W s p)

  pub move_went : (m : Move) (c : Control) (q : Page S) → ◌≡◌ {A = Result (Held Control (Page S)) Refusal} (Ok (held c q)) (move_on W m p)
      → ◌≡◌ {A = Result (Held Control S) Refusal} (Ok (held c q.sheet)) (lays_move W p.place m p.sheet) × (q.sink ≡ p.sink)
  move_went m c q e = ok_on_page p (lays_move W p.place m p.sheet) c q (e ∙ move_paged W m p)

  pub move_refused : (m : Move) (x : Refusal) → ◌≡◌ {A = Result (Held Control (Page S)) Refusal} (Err x) (move_on W m p) → ◌≡◌ {A = Result (Held Control S) Refusal} (Err x) (lays_move W p.place m p.sheet)
  move_refused m x e = err_on_page p (lays_move W p.place m p.sheet) x (e ∙ move_paged W m p)

  pub sign_went : (x : Sign) (c d : Control) (q : Page S) → ◌≡◌ {A = Result (Held Control (Page S)) Refusal} (Ok (held d q)) (sign_on W x c p)
      → ◌≡◌ {A = Result (Held Control S) Refusal} (Ok (held d q.sheet)) (sign_move W x p.place c p.sheet) × (q.sink ≡ p.sink)
  sign_went x c d q e = ok_on_page p (sign_move W x p.place c p.sheet) d q (e ∙ sign_paged W x c p)

  pub sign_refused : (x : Sign) (c : Control) (r : Refusal) → ◌≡◌ {A = Result (Held Control (Page S)) Refusal} (Err r) (sign_on W x c p) → ◌≡◌ {A = Result (Held Control S) Refusal} (Err r) (sign_move W x p.place c p.sheet)
  sign_refused x c r e = err_on_page p (sign_move W x p.place c p.sheet) r (e ∙ sign_paged W x c p)
