use Rattle.std.proofs.Common.{◌≡◌, ℕ, List, [], ◌∷◌, get_or, sym, refl, ◌∙◌, ap, arith}
use Rattle.std.proofs.lemmas.List.{nil_from_length, drop_more, take_rest}
use Rattle.source.specs.Fronts.{onward}
use Rattle.source.specs.Opened.{seen}
use Rattle.source.specs.declared.alias.Replacement.{Replacement}
use Rattle.source.proofs.Opened.{end_taken, byte_taken, open_names_push}
use Rattle.source.proofs.Open.{one_less, length_open, AreOpen-pop}
use Rattle.source.proofs.alias.AliasSourceSource.take.Goals as goal

pub returns-in_default : goal.returns-in_default
returns-in_default g c =
    let p = c.self.inside in
    let ss = g.S.Source.coming p.below in
    let end = g.S.Source.end p.below in
    let none : c.in-Some.inner.rest.now ≡ [] = nil_from_length _ (omega arith) in
    end_taken c.pop.new.self.items ss end p.table.now c.in-Some.inner p.left none
    ∙ ap (λ (rs : List Replacement). onward (seen rs ss end p.left p.table.now)) (sym c.in-Some.ensures.items)
    ∙ ap onward c.self.view_is

pub returns-in-len1-up : goal.returns-in-len1-up
returns-in-len1-up g c =
    let p = c.self.inside in
    let ss = g.S.Source.coming p.below in
    let end = g.S.Source.end p.below in
    let value = c.in-Some.inner.rest.now in
    let byte = drop_more value 0 0 c.in-len1-up.len_at_least ∙ ap (λ (bs : List ℕ). get_or value 0 0 ∷ bs) (sym (take_rest value 1)) in
    rw c.push.ensures.items (byte_taken c.pop.new.self.items ss end p.table.now c.in-Some.inner p.left (get_or value 0 0) _ byte refl refl)
    ∙ ap (λ (rs : List Replacement). onward (seen rs ss end p.left p.table.now)) (sym c.in-Some.ensures.items)
    ∙ ap onward c.self.view_is

pub invariant_of-self : goal.invariant_of-self
invariant_of-self g c =
    let p = c.self.inside in
    let h = rw c.in-Some.ensures.items at c.self.invariant in
    let bounded = rw open_names_push at h.1 in
    (one_less p.table.now _ c.in-Some.inner.name.now (AreOpen-pop p.table.now c.pop.new.self.items c.in-Some.inner h.0), omega arith)

pub push-requires : goal.push-requires
push-requires g c =
    let few = c.self.invariant.0.few in
    omega (arith, length_open c.self.inside.opened.items, c.in-Some.ensures.len)
