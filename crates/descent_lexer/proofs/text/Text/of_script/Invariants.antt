use Rattle.std.proofs.Common.{◌≡◌, vec_len}
use Rattle.descent_lexer.proofs.text.Text.of_script.Given as goal

abbrev pub invariant-loop-place : goal.invariant-loop-place
invariant-loop-place l = vec_len l.symbols ≡ l.place
