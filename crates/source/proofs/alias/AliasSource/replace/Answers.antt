use Rattle.std.proofs.Common.{◌∷◌, subst, ◌≡◌, List, ℕ, sym, refl, ◌∙◌, ap, arith, cond, Some, None, Option}
use Rattle.aliases.specs.Rows.{look_up, value_at}
use Rattle.aliases.specs.Tables.{rows}
use Rattle.source.specs.Front.{Front}
use Rattle.source.specs.Fronts.{value_for, replaced}
use Rattle.source.specs.Opened.{seen, open_names, AreOpen}
use Rattle.source.specs.declared.alias.Replacement.{Replacement}
use Rattle.source.proofs.Opened.{replacing, length_pushed, open_names_push}
use Rattle.source.proofs.Open.{one_more, length_open, AreOpen-push}
use Rattle.source.specs.Replacing.{is_listed}
use Rattle.std.specs.Prelude.{IsSome}
use Rattle.source.proofs.alias.AliasSource.replace.Goals as goal

pub returns-clause-after : goal.returns-clause-after
returns-clause-after g c =
    let p = c.self.inside in
    let r : Replacement = record { name = c.name_at.result; rest = c.value_at.result; place = c.args.place } in
    let ss = g.S.Source.coming p.below in
    let end = g.S.Source.end p.below in
    let word = c.args.word.now in
    let named = c.name_at.ensures.is ∙ c.in-Some.ensures.found.1 in
    let value : value_for c.args.self.now word ≡ Some (value_at (rows p.table.now) c.in-Some.index) =
    ap (λ b. cond b None (look_up (rows c.args.self.now.table) word)) (sym c.if-is_open.ensures.is)
    ∙ ap (λ (x : Front). look_up (rows x.table) word) (sym c.self.view_is) ∙ c.in-Some.ensures.value in
    rw c.push.ensures.items
    (replacing p.opened.items ss end p.table.now r _ word _ p.left named c.value_at.ensures.is (omega arith) refl
    ∙ ap (λ (o : Option (List ℕ)). replaced o (seen p.opened.items ss end p.left p.table.now) word c.args.place) (sym value)
    ∙ ap (λ (x : Front). replaced (value_for c.args.self.now word) x word c.args.place) c.self.view_is)

pub returns-clause-grows : goal.returns-clause-grows
returns-clause-grows g c =
    let p = c.self.inside in
    rw (c.push.ensures.items, ← c.self.view_is) (length_pushed p.opened.items _ (g.S.Source.coming p.below) c.value_at.ensures.short)

pub push-requires : goal.push-requires
push-requires g c =
    let p = c.self.inside in
    let word = c.args.word.now in
    let free = ap (λ (x : Front). is_listed word x.names) c.self.view_is ∙ sym c.if-is_open.ensures.is in
    let some = subst (λ (o : Option (List ℕ)). IsSome o) (sym c.in-Some.ensures.value) refl in
    let more = (one_more p.table.now (open_names p.opened.items) word c.self.invariant.0 free some c.find.ensures.room).few in
    omega (arith, length_open p.opened.items)

pub invariant_of-self : goal.invariant_of-self
invariant_of-self g c =
    let p = c.self.inside in
    let word = c.args.word.now in
    let free = ap (λ (x : Front). is_listed word x.names) c.self.view_is ∙ sym c.if-is_open.ensures.is in
    let some = subst (λ (o : Option (List ℕ)). IsSome o) (sym c.in-Some.ensures.value) refl in
    let more = one_more p.table.now (open_names p.opened.items) word c.self.invariant.0 free some c.find.ensures.room in
    let bounded = c.self.invariant.1 in
    rw c.push.ensures.items (
      AreOpen-push p.table.now p.opened.items _ (subst (λ (n : List ℕ). AreOpen p.table.now (n ∷ open_names p.opened.items)) (sym (c.name_at.ensures.is ∙ c.in-Some.ensures.found.1)) more),
      rw open_names_push (omega arith),
    )
