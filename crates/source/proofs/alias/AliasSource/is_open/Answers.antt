use Rattle.std.proofs.Common.{◌∙◌, ap, arith}
use Rattle.std.specs.List.{list_any}
use Rattle.std.specs.Str.{bytes_eq}
use Rattle.source.specs.Front.{Front}
use Rattle.source.specs.Replacing.{is_listed}
use Rattle.source.specs.declared.alias.Replacement.{Replacement}
use Rattle.source.proofs.Opened.{listed}
use Rattle.source.proofs.Open.{length_open, length_fronted}
use Rattle.source.proofs.alias.AliasSource.is_open.Goals as goal

pub returns : goal.returns
returns g c =
    let n = c.args.name.now in
    let p = c.self.inside in
    let ss = g.S.Source.coming p.below in
    let h = c.self.invariant in
    record {
      is =
          c.is_among.ensures ∙ ap (list_any (λ (r : Replacement). bytes_eq n r.name.now)) c.deref.ensures.0
          ∙ listed n p.opened.items ∙ ap (λ (p : Front). is_listed n p.names) c.self.view_is;
      few = rw (← c.self.view_is) h.0.few;
      bounded = rw (← c.self.view_is) h.1;
      ends = rw (← c.self.view_is) (omega (arith, length_open p.opened.items, length_fronted p.opened.items ss));
      known = rw (← c.self.view_is) h.0.known;
    }
