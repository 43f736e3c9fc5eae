use Rattle.std.proofs.Common.{sym, refl, ◌∙◌}
use Rattle.source.specs.Symbols.{rest, script}
use Rattle.std.proofs.lemmas.List.{at_drop_more, at_drop_all}
use Rattle.source.proofs.script.ScriptSourceSource.take.Goals as goal

pub returns-then-self : goal.returns-then-self
returns-then-self c =
    record { coming = sym (at_drop_more (λ l. rest (script l c.args.self.now.at)) _ _ 0 c.if-self.true); end = refl }

pub returns-else-self : goal.returns-else-self
returns-else-self c =
    record { coming = at_drop_all (λ l. script l c.args.self.now.at) _ _ c.if-self.false ∙ sym (at_drop_all (λ l. rest (script l c.args.self.now.at)) _ _ c.if-self.false); end = refl }
