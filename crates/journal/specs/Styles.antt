-- The style that a name finds. Assumes nothing.
use Rattle.std.specs.Prelude.{◌≡◌, ℕ, List, Ok, IfOk, Result}
use Rattle.journal.specs.declared.style.Style.{Style}
use Rattle.journal.specs.declared.style.UnknownStyle.{UnknownStyle}
use Rattle.journal.specs.Names.{style_name}

-- each style is found by its name, and no other name finds one
pub record FindsStyle (name : List ℕ) (r : Result Style UnknownStyle) : Type 0 where
  pub named : IfOk r (λ s. name ≡ style_name s)
  pub finds : (s : Style) → name ≡ style_name s → r ≡ Ok s
