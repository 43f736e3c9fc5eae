use Rattle.std.proofs.Common.{◌∙◌, ap, Some}
use Rattle.source.specs.Front.{Front}
use Rattle.source.specs.Symbols.{first}
use Rattle.source.proofs.Opened.{first_last}
use Rattle.source.proofs.alias.AliasSourceSource.look.Goals as goal

pub returns-in-Some : goal.returns-in-Some
returns-in-Some g c =
    let last = rw c.deref.ensures.0 at c.in-Some.ensures.value in
    ap Some c.first.ensures ∙ first_last c.self.inside.opened.items c.in-Some.inner.now (g.S.Source.coming c.self.inside.below) last
    ∙ ap (λ (p : Front). first p.coming) c.self.view_is
