use Rattle.std.proofs.Common.{ap, ◌∙◌}
use Rattle.std.specs.Result.{result_ok}
use Rattle.tokens.specs.Table.{operator_of}
use Rattle.tokens.proofs.Rule.{code_back, result_ok-ok_or}
use Rattle.tokens.proofs.table.lengthen.Goals as goal

pub returns : goal.returns
returns c =
    c.ok.ensures.value ∙ ap result_ok c.try_from.ensures ∙ result_ok-ok_or _ _
    ∙ ap operator_of c.next_code.ensures ∙ code_back _
