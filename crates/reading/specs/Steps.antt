-- A step: what is written, in order, and the state after it, or a refusal. Assumes nothing.
use Rattle.std.specs.Prelude.{ℕ, Bool, false, List, [], ◌∷◌, ◌++◌}
use Rattle.basics.specs.declared.refusal.Reason.{Reason}
use Rattle.tokens.specs.declared.letter.Mark.{Mark}
use Rattle.tokens.specs.Letters.{marked}
use Rattle.reading.specs.declared.act.Act.{Act}
use Rattle.reading.specs.declared.act.Act.TheVariants.{Letter}
use Rattle.reading.specs.declared.act.At.{At}
use Rattle.reading.specs.declared.act.Fault.{Fault}
use Rattle.reading.specs.States.{State}

infixl 20 ◌then◌
-- it is done, in a state; it is refused; it does an act and goes on; one step, and then another from the state that the first leaves
pub data Step : Type 0 where
  done : State → Step
  refuse : Reason → At → Step
  does : Act → Step → Step
  ◌then◌ : Step → (State → Step) → Step

-- letters of one mark
abbrev pub writes : Mark → List ℕ → Step → Step
writes m [] s = s
writes m (b ∷ bs) s = does (Letter (marked m b)) (writes m bs s)

abbrev pub fault : Reason → At → Fault
fault r a = record { reason = r; at = a }

-- what a step comes to: all its acts, and the state after them or the refusal
pub data Outcome : Type 0 where
  went : List Act → State → Outcome
  failed : List Act → Fault → Outcome

abbrev pub after : List Act → Outcome → Outcome
after a (went b i) = went (a ++ b) i
after a (failed b f) = failed (a ++ b) f

abbrev pub onward : Outcome → (State → Outcome) → Outcome
onward (went a i) k = after a (k i)
onward (failed a f) k = failed a f

abbrev pub outcome : Step → Outcome
outcome (done i) = went [] i
outcome (refuse r a) = failed [] (fault r a)
outcome (does a s) = after (a ∷ []) (outcome s)
outcome (s then k) = onward (outcome s) (λ i. outcome (k i))

-- a step, and whether a backslash stands before the next symbol after it
pub record Move : Type 0 where
  pub step : Step
  pub escape : Bool

abbrev pub plainly : Step → Move
plainly s = record { step = s; escape = false }
