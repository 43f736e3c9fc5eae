use Rattle.std.proofs.Common.{◌≡◌, ◌∙◌, sym, ap, arith}
use Rattle.aliases.specs.Rows.{names, index_of}
use Rattle.aliases.specs.Tables.{rows}
use Rattle.aliases.proofs.Found.{searched, finds}
use Rattle.aliases.proofs.Apart.{distinct}
use Rattle.aliases.proofs.Changes.{length_row}
use Rattle.aliases.proofs.table.AliasTable.find.Goals as goal

pub returns : goal.returns
returns c =
    let t = c.args.self.now in
    let n = c.args.name.now in
    let is : c.place_of.result ≡ index_of n (rows t) = c.place_of.ensures ∙ sym (searched n c.row.result.now) ∙ ap (index_of n) c.row.ensures in
    let f = finds n (rows t) in
    record { is = is; found = rw is f.0; value = rw is f.1; room = omega (arith, length_row t.slots t.count (omega (arith, t.within))); apart = distinct (names (rows t)) t.different }
