use Rattle.std.proofs.Common.{refl, arith}
use Rattle.std.proofs.lemmas.Result.{err_from_is_err_and}
use Rattle.aliases.specs.Tables.{aliases_of}
use Rattle.listing.specs.Listing.{held}
use Rattle.listing.proofs.Fills.{past, free, accepted, refused}
use Rattle.listing.proofs.list.list_behind.Goals as goal

pub returns : goal.returns
returns c =
    let n = c.args.counts.now in
    let rs = c.args.records.now in
    let ls = c.args.letters.now in
    accepted (held n rs ls) (aliases_of c.args.aliases.now).named c.args.script.now _ _ (free n.records rs) (free n.letters ls) c.fill_slots.new.records c.fill_slots.new.letters _ _
    (past n.records _ rs c.fill_slots.new.records _ refl (omega arith)) (past n.letters _ ls c.fill_slots.new.letters _ refl (omega arith))
    c.in_ok-added.added _ c.accept.ensures c.in_ok-added.ensures.filled

pub returns-in_err-added : goal.returns-in_err-added
returns-in_err-added c =
    let n = c.args.counts.now in
    let rs = c.args.records.now in
    let ls = c.args.letters.now in
    let p = err_from_is_err_and c.from_residual.result c.from_residual.ensures.1 in
    rw (p.1, p.2) (refused (held n rs ls) (aliases_of c.args.aliases.now).named c.args.script.now _ _ (free n.records rs) (free n.letters ls) c.fill_slots.new.records c.fill_slots.new.letters _ _
    (past n.records _ rs c.fill_slots.new.records _ refl (omega arith)) (past n.letters _ ls c.fill_slots.new.letters _ refl (omega arith))
    _ _ c.drop-guard.ensures c.in_err-added.ensures.filled)
