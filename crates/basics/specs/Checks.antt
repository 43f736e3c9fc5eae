-- Checks of a call: each refuses or lets pass, and the first that refuses is heard. Assumes nothing.
use Rattle.std.specs.Prelude.{ℕ, Bool, cond, Some, None, Ok, Err, Option, Result}
use Rattle.basics.specs.declared.refusal.Reason.{Reason}
use Rattle.basics.specs.declared.refusal.Refusal.{Refusal}

-- a refusal at a place
abbrev pub refusal : Reason → ℕ → Refusal
refusal why place = record { reason = why; place = place }

-- a check that refuses where a test is true
abbrev pub refuse_if : Bool → Reason → ℕ → Option Refusal
refuse_if test why place = cond test (Some (refusal why place)) None

-- a check that refuses at a place, if there is one
abbrev pub refuse_at : Option ℕ → Reason → Option Refusal
refuse_at None why = None
refuse_at (Some place) why = Some (refusal why place)

-- one check, and where it lets pass another
abbrev pub or_else : Option Refusal → Option Refusal → Option Refusal
or_else None next = next
or_else (Some f) next = Some f

-- what a call says: its refusal, or a value
abbrev pub answer : {X : Type 0} → Option Refusal → X → Result X Refusal
answer None x = Ok x
answer (Some f) x = Err f

-- what a call leaves: what was, where it is refused, else what it makes
abbrev pub unless : {X : Type 0} → Option Refusal → X → X → X
unless None was made = made
unless (Some f) was made = was
