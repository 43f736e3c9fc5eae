use Rattle.std.proofs.Common.{length, IsUtf8, sym, refl, ap, ◌∙◌, subst}
use Rattle.std.specs.Str.{chars}
use Rattle.views.proofs.caret.Pointed.new.Goals as goal

pub returns : goal.returns
returns c =
    let bytes = c.line_at-above.ensures.bytes in
    let before = c.line_at-above.ensures.before in
    record {
      refused = refl;
      lines = c.line_at-above.ensures.above;
      own = λ u. c.in_ok-line.ensures.ok (subst IsUtf8 (sym bytes) u) ∙ bytes;
      characters = λ u. c.char_count-column.ensures ∙ ap (λ t. length (chars t)) (c.as_str.ensures.value ∙ c.in_ok-before.ensures.ok (subst IsUtf8 (sym before) u) ∙ before);
    }
