use Rattle.std.proofs.Common.{◌<◌, ◌≤◌, length, is_some, ap, ◌∙◌, arith, length-set}
use Rattle.aliases.specs.Rows.{names, entry}
use Rattle.aliases.specs.Tables.{rows, aliases_of}
use Rattle.aliases.proofs.Apart.{distinct, apart_if}
use Rattle.aliases.proofs.Changes.{length_row, set_row, push_row, renewed, pushed}
use Rattle.aliases.proofs.Defined.{another_made, newly_made}
use Rattle.aliases.proofs.table.AliasTable.define.Goals as goal

pub invariant_of-self : goal.invariant_of-self
invariant_of-self c =
    let t = c.args.self.now in
    let i = c.in-Some.index in
    let a = c.in_ok-alias.alias in
    let f = c.in-Some.ensures in
    let all : t.count ≤ length t.slots = omega (arith, t.within) in
    let l : i < t.count = omega (arith, f.found.0, length_row t.slots t.count all) in
    record {
      within = (t.within.0, length-set t.slots i a ∙ t.within.1);
      different = rw (set_row t.slots t.count all i a l) (apart_if _ (renewed (rows t) c.args.name.now c.args.value.now i f.found.0 f.found.1 (distinct (names (rows t)) t.different) f.value (entry a) c.in_ok-alias.ensures.1).0);
    }

pub invariant_of-self-in-None-2 : goal.invariant_of-self-in-None-2
invariant_of-self-in-None-2 c =
    let t = c.args.self.now in
    let a = c.in_ok-alias.alias in
    let f = c.in-None.ensures in
    let all : t.count ≤ length t.slots = omega (arith, t.within) in
    record {
      within = (omega (arith, t.within, c.if-self-eq-ALIAS_LIMIT.false), length-set t.slots t.count a ∙ t.within.1);
      different = rw (push_row t.slots t.count all a (omega (arith, t.within, c.if-self-eq-ALIAS_LIMIT.false))) (apart_if _ (pushed (rows t) c.args.name.now c.args.value.now f.found (distinct (names (rows t)) t.different) f.value (entry a) c.in_ok-alias.ensures.1).0);
    }

pub returns-in-Some-clause-after : goal.returns-in-Some-clause-after
returns-in-Some-clause-after c =
    let t = c.args.self.now in
    let i = c.in-Some.index in
    let a = c.in_ok-alias.alias in
    let f = c.in-Some.ensures in
    let n = c.args.name.now in
    let v = c.args.value.now in
    let all : t.count ≤ length t.slots = omega (arith, t.within) in
    let l : i < t.count = omega (arith, f.found.0, length_row t.slots t.count all) in
    rw (set_row t.slots t.count all i a l)
    ((renewed (rows t) n v i f.found.0 f.found.1 (distinct (names (rows t)) t.different) f.value (entry a) c.in_ok-alias.ensures.1).1
    ∙ another_made (aliases_of t) n v c.in_ok-alias.ensures.0 _ (ap is_some f.value))

pub returns-in-None-2-clause-after : goal.returns-in-None-2-clause-after
returns-in-None-2-clause-after c =
    let t = c.args.self.now in
    let a = c.in_ok-alias.alias in
    let f = c.in-None.ensures in
    let n = c.args.name.now in
    let v = c.args.value.now in
    let all : t.count ≤ length t.slots = omega (arith, t.within) in
    rw (push_row t.slots t.count all a (omega (arith, t.within, c.if-self-eq-ALIAS_LIMIT.false)))
    ((pushed (rows t) n v f.found (distinct (names (rows t)) t.different) f.value (entry a) c.in_ok-alias.ensures.1).1
    ∙ newly_made (aliases_of t) n v c.in_ok-alias.ensures.0 _ (ap is_some f.value) (omega (arith, t.within, length_row t.slots t.count all, c.if-self-eq-ALIAS_LIMIT.false)))
