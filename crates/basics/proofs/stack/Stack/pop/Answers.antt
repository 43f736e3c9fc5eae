use Rattle.std.proofs.Common.{drop, sym, ◌∙◌}
use Rattle.std.proofs.lemmas.List.{drop-drop}
use Rattle.basics.proofs.Stacking.{below_is_rest}
use Rattle.basics.proofs.stack.Stack.pop.Goals as goal

pub returns-then-self : goal.returns-then-self
returns-then-self g c =
    let s = c.args.self.now in
    sym (below_is_rest (drop s.from s.held) ∙ drop-drop 1 s.from s.held)
