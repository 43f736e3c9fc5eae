use Rattle.std.proofs.Common.{◌<◌, length, sym, ap, ◌∙◌, arith}
use Rattle.std.proofs.lemmas.Bool.{eqb-false}
use Rattle.quoting.specs.Backslashed.{backslashed_is, pieces_length}
use Rattle.quoting.proofs.backslash.BackslashPieces.form_length.Goals as goal

pub returns : goal.returns
returns c =
    let text = c.args.text.now in
    let some : 0 < length text = omega (arith, eqb-false (length text) 0 (sym c.is_empty.ensures ∙ c.if-is_empty.false)) in
    omega (arith, ap length (backslashed_is text some), pieces_length text)
