-- What the reader's steps come to on a sheet. Assumes nothing.
use Rattle.std.specs.Prelude.{ℕ, Ok, Err, Result}
use Rattle.basics.specs.declared.refusal.Refusal.{Refusal}
use Rattle.reading.specs.States.{State, Control}
use Rattle.reading.specs.Steps.{Step, Move}
use Rattle.reading.specs.Laid.{Held, laid, laid_move}
use Rattle.reader.specs.Sheets.{Sheets}

-- what is left after a call: the state, or the refusal alone
abbrev pub result_of : {X O E : Type 0} → Result X E → O → Result O E
result_of (Ok x) o = Ok o
result_of (Err e) o = Err e

-- a step at a place, written as it goes
abbrev pub lays : {S : Type 0} → Sheets S → ℕ → Step → S → Result (Held State S) Refusal
lays W p s o = laid (λ a x. W.written a p x) (λ f x. W.placed f p x) s o

abbrev pub lays_move : {S : Type 0} → Sheets S → ℕ → Move → S → Result (Held Control S) Refusal
lays_move W p m o = laid_move (λ a x. W.written a p x) (λ f x. W.placed f p x) m o
