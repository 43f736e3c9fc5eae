-- How much of a text is still to be read.
use Rattle.std.specs.Prelude.{ℕ, ◌-◌, vec_len}
use Rattle.descent_lexer.specs.declared.text.Text.{Text}

-- how many symbols are left
unfoldable pub left : Text → ℕ
left t = vec_len t.symbols - t.at
