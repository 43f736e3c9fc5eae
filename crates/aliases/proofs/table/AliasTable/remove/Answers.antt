use Rattle.std.proofs.Common.{◌≡◌, ◌<◌, ◌≤◌, length, get_or, Some, ◌∙◌, rules, arith, length-set}
use Rattle.std.proofs.lemmas.List.{get_or_default}
use Rattle.aliases.specs.Rows.{Entry, names, entry}
use Rattle.aliases.specs.Tables.{rows}
use Rattle.aliases.proofs.Apart.{distinct, apart_if}
use Rattle.aliases.proofs.Changes.{length_row, strike_row, struck}
use Rattle.aliases.proofs.table.AliasTable.remove.Goals as goal

pub invariant_of-self : goal.invariant_of-self
invariant_of-self c =
    let t = c.args.self.now in
    let i = c.in_ok-index.index in
    let d = c.index-self-self.result in
    let some : c.find.result ≡ Some i = search rules in
    let f = rw some at c.find.ensures.found in
    let all : t.count ≤ length t.slots = omega (arith, t.within) in
    let l : i < t.count = omega (arith, f.0, length_row t.slots t.count all) in
    let e : Entry = get_or (rows t) i (entry d) in
    record {
      within = (omega (arith, t.within), length-set t.slots i _ ∙ t.within.1);
      different = rw (strike_row t.slots t.count all i d e l) (apart_if _ (struck (rows t) _ i e (distinct (names (rows t)) t.different) f.0 f.1 (get_or_default (rows t) i (entry d) e f.0)).0);
    }

pub returns-clause-after : goal.returns-clause-after
returns-clause-after c =
    let t = c.args.self.now in
    let i = c.in_ok-index.index in
    let d = c.index-self-self.result in
    let some : c.find.result ≡ Some i = search rules in
    let f = rw some at c.find.ensures.found in
    let value = rw some at c.find.ensures.value in
    let all : t.count ≤ length t.slots = omega (arith, t.within) in
    let l : i < t.count = omega (arith, f.0, length_row t.slots t.count all) in
    let e : Entry = get_or (rows t) i (entry d) in
    rw (strike_row t.slots t.count all i d e l, value) (struck (rows t) _ i e (distinct (names (rows t)) t.different) f.0 f.1 (get_or_default (rows t) i (entry d) e f.0)).1
