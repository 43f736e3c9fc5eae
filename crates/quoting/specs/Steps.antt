-- One step of reading a form. Assumes nothing.
use Rattle.std.specs.Prelude.{◌≡◌, ℕ, ◌≢◌, List, ◌∷◌, Option, Some, None}
use Rattle.std.proofs.Common.{ap}
use Rattle.std.proofs.lemmas.Bool.{ne_eqb, cond-false}
use Rattle.basics.specs.Bytes.{newline, single_quote}
use Rattle.quoting.specs.declared.form.State.{State}
use Rattle.quoting.specs.declared.form.State.TheVariants.{Bare, Escaped, SingleQuoted}
use Rattle.quoting.specs.declared.form.Step.{Step}
use Rattle.quoting.specs.declared.form.Step.TheVariants.{Passes, Delivers}
use Rattle.quoting.specs.Forms.{step, stepped, with_byte, delivered}

-- what a byte delivers goes by its step
pub by_step : (s : State) (b : ℕ) {x : Option Step} → step s b ≡ x → (form : List ℕ) → delivered s (b ∷ form) ≡ stepped x b (λ t. delivered t form)
by_step s b e form = ap (λ x. stepped x b (λ t. delivered t form)) e

pub passes : (s : State) (b : ℕ) {t : State} → step s b ≡ Some (Passes t) → (form : List ℕ) → delivered s (b ∷ form) ≡ delivered t form
passes s b e form = by_step s b e form

pub delivers : (s : State) (b : ℕ) {t : State} → step s b ≡ Some (Delivers t) → (form : List ℕ) → delivered s (b ∷ form) ≡ with_byte b (delivered t form)
delivers s b e form = by_step s b e form

pub stops : (s : State) (b : ℕ) → step s b ≡ None → (form : List ℕ) → delivered s (b ∷ form) ≡ None
stops s b e form = by_step s b e form

pub single_other : (b : ℕ) → b ≢ single_quote → step SingleQuoted b ≡ Some (Delivers SingleQuoted)
single_other b n = cond-false _ _ _ (ne_eqb b single_quote n)

pub escaped_byte : (b : ℕ) → b ≢ newline → step Escaped b ≡ Some (Delivers Bare)
escaped_byte b n = cond-false _ _ _ (ne_eqb b newline n)
