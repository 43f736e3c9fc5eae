-- A step laid on a sheet of any kind: what code that writes as it goes computes. Assumes nothing.
use Rattle.std.specs.Prelude.{List, [], ◌∷◌, Ok, Err, Result}
use Rattle.reading.specs.declared.act.Act.{Act}
use Rattle.reading.specs.declared.act.Fault.{Fault}
use Rattle.reading.specs.States.{State, Control}
use Rattle.reading.specs.Steps.{Step, done, refuse, does, ◌then◌, fault, Outcome, went, failed, Move}

pub record Held (C O : Type 0) : Type 0 where
  pub at : C
  pub sheet : O

abbrev pub held : {C O : Type 0} → C → O → Held C O
held c o = record { at = c; sheet = o }

abbrev pub and : {X Y E : Type 0} → Result X E → (X → Result Y E) → Result Y E
and (Ok x) f = f x
and (Err e) f = Err e

-- put writes an act on a sheet, or has no room for it; placed turns a fault into a refusal by what the sheet knows of places
abbrev pub laid : {O E : Type 0} → (Act → O → Result O E) → (Fault → O → E) → Step → O → Result (Held State O) E
laid put placed (done i) o = Ok (held i o)
laid put placed (refuse r a) o = Err (placed (fault r a) o)
laid put placed (does a s) o = and (put a o) (λ p. laid put placed s p)
laid put placed (s then k) o = and (laid put placed s o) (λ h. laid put placed (k h.at) h.sheet)

-- the same for a move of the whole control
abbrev pub laid_move : {O E : Type 0} → (Act → O → Result O E) → (Fault → O → E) → Move → O → Result (Held Control O) E
laid_move put placed m o = and (laid put placed m.step o) (λ h. Ok (held (record { escape = m.escape; at = h.at }) h.sheet))

abbrev pub performs : {O E : Type 0} → (Act → O → Result O E) → List Act → O → Result O E
performs put [] o = Ok o
performs put (a ∷ out) o = and (put a o) (λ p. performs put out p)

abbrev pub lay : {O E : Type 0} → (Act → O → Result O E) → (Fault → O → E) → Outcome → O → Result (Held State O) E
lay put placed (went out i) o = and (performs put out o) (λ p. Ok (held i p))
lay put placed (failed out f) o = and (performs put out o) (λ p. Err (placed f p))
