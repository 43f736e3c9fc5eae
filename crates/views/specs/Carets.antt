-- What is shown of a refusal. Assumes nothing.
use Rattle.std.specs.Prelude.{◌≡◌, ℕ, List, length, string_bytes, IsUtf8}
use Rattle.std.specs.Str.{chars}
use Rattle.basics.specs.declared.refusal.Refusal.{Refusal}
use Rattle.views.specs.declared.caret.Pointed.{Pointed}
use Rattle.views.specs.Lines.{lines_above, line_of, before_place}

-- the line of the refusal's place, and as many characters before the caret as before the place; where these are UTF-8
pub record Points (text : List ℕ) (f : Refusal) (p : Pointed) : Type 0 where
  pub refused : p.refusal ≡ f
  pub lines : p.above ≡ lines_above text f.place
  pub own : IsUtf8 (line_of text f.place) → string_bytes p.line ≡ line_of text f.place
  pub characters : IsUtf8 (before_place text f.place) → p.column ≡ length (chars (before_place text f.place))
