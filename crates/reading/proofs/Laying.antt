-- Steps written as they go. Assumes nothing.
use Rattle.std.proofs.Common.{◌≡◌, List, [], ◌∷◌, ◌++◌, Ok, Err, Result, sym, refl, ap, ◌∙◌}
use Rattle.reading.specs.declared.act.Act.{Act}
use Rattle.reading.specs.declared.act.Fault.{Fault}
use Rattle.reading.specs.States.{State}
use Rattle.reading.specs.Steps.{Step, done, refuse, does, ◌then◌, Outcome, went, failed, outcome, after, onward}
use Rattle.reading.specs.Laid.{held, and, laid, performs, lay}

module _ (O E : Type 0) (put : Act → O → Result O E) (placed : Fault → O → E) where
  and_and : {X Y Z : Type 0} (r : Result X E) (f : X → Result Y E) (g : Y → Result Z E) → and (and r f) g ≡ and r (λ t. and (f t) g)
  and_and (Ok s) f g = refl
  and_and (Err e) f g = refl

  and_same : {X Y : Type 0} (r : Result X E) (f g : X → Result Y E) → ((t : X) → f t ≡ g t) → and r f ≡ and r g
  and_same (Ok s) f g h = h s
  and_same (Err e) f g h = refl

  performs_more : {X : Type 0} (a b : List Act) (o : O) (k : O → Result X E) → and (performs put (a ++ b) o) k ≡ and (performs put a o) (λ p. and (performs put b p) k)
  performs_more [] b o k = refl
  performs_more (x ∷ a) b o k =
      and_and (put x o) (λ p. performs put (a ++ b) p) k
      ∙ and_same (put x o) (λ p. and (performs put (a ++ b) p) k) (λ p. and (performs put a p) (λ q. and (performs put b q) k)) (λ p. performs_more a b p k)
      ∙ sym (and_and (put x o) (λ p. performs put a p) (λ q. and (performs put b q) k))

  lay_after : (a : List Act) (x : Outcome) (o : O) → lay put placed (after a x) o ≡ and (performs put a o) (λ p. lay put placed x p)
  lay_after a (went b i) o = performs_more a b o (λ p. Ok (held i p))
  lay_after a (failed b f) o = performs_more a b o (λ p. Err (placed f p))

  lay_onward : (x : Outcome) (k : State → Outcome) (o : O) → lay put placed (onward x k) o ≡ and (lay put placed x o) (λ h. lay put placed (k h.at) h.sheet)
  lay_onward (went a i) k o = lay_after a (k i) o ∙ sym (and_and (performs put a o) (λ p. Ok (held i p)) (λ h. lay put placed (k h.at) h.sheet))
  lay_onward (failed a f) k o = sym (and_and (performs put a o) (λ p. Err (placed f p)) (λ h. lay put placed (k h.at) h.sheet))

  -- what is written as it goes is what the step comes to, written at once
  pub at_once : (s : Step) (o : O) → laid put placed s o ≡ lay put placed (outcome s) o
  at_once (done i) o = refl
  at_once (refuse r a) o = refl
  at_once (does a s) o = and_same (put a o) (λ p. laid put placed s p) (λ p. lay put placed (outcome s) p) (λ p. at_once s p) ∙ one a (put a o) ∙ sym (lay_after (a ∷ []) (outcome s) o)
    where
      one : (a : Act) (r : Result O E) → and r (λ p. lay put placed (outcome s) p) ≡ and (and r (λ p. Ok p)) (λ p. lay put placed (outcome s) p)
      one a (Ok p) = refl
      one a (Err e) = refl
  at_once (s then k) o =
      ap (λ r. and r (λ h. laid put placed (k h.at) h.sheet)) (at_once s o)
      ∙ and_same (lay put placed (outcome s) o) (λ h. laid put placed (k h.at) h.sheet) (λ h. lay put placed (outcome (k h.at)) h.sheet) (λ h. at_once (k h.at) h.sheet)
      ∙ sym (lay_onward (outcome s) (λ i. outcome (k i)) o)
