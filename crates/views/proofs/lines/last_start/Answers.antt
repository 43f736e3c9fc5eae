use Rattle.std.proofs.Common.{sym, arith}
use Rattle.views.proofs.Newlines.{start_with_none, start_past}
use Rattle.views.proofs.lines.last_start.Goals as goal

pub returns-in-Some : goal.returns-in-Some
returns-in-Some c =
    let last = c.in-Some.ensures in
    omega (arith, start_past c.args.text.now c.in-Some.i 0 0 last.0 last.1 last.2)

pub returns-in-None : goal.returns-in-None
returns-in-None c = sym (start_with_none c.args.text.now 0 0 c.in-None.ensures)
