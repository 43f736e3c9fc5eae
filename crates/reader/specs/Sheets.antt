-- What a sink does to what it holds. Assumes nothing.
use Rattle.std.specs.Prelude.{ℕ, Result}
use Rattle.basics.specs.declared.refusal.Refusal.{Refusal}
use Rattle.reading.specs.declared.act.Act.{Act}
use Rattle.reading.specs.declared.act.Fault.{Fault}

pub record Sheets (S : Type 0) : Type 0 where
  -- what it holds after an act at a place, or that there is no room for it
  pub written : Act → ℕ → S → Result S Refusal
  -- the refusal that a fault at a place comes to
  pub placed : Fault → ℕ → S → Refusal
  -- what it holds after the letter of a hole, by its digit
  pub filled : ℕ → S → Result S Refusal
  -- the place of the first byte of the word that is read
  pub word : S → ℕ
