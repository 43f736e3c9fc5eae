use Rattle.std.proofs.Common.{rules}
use Rattle.std.proofs.lemmas.Str.Pattern.{split_parts}
use Rattle.journal.specs.Calls.{blank}
use Rattle.journal.proofs.parse.cut.Goals as goal

pub returns : goal.returns
returns c = split_parts blank c.args.line.now c.split_once.result c.split_once.ensures.cases (search rules)
