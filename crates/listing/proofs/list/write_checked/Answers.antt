use Rattle.std.proofs.Common.{length, sym, ap, ◌∙◌}
use Rattle.std.proofs.lemmas.Result.{err_from_is_err_and}
use Rattle.aliases.specs.Tables.{aliases_of}
use Rattle.reading.specs.Laid.{and}
use Rattle.reading.specs.Listed.{script_reading}
use Rattle.listing.specs.Listing.{script_check, on_slots, counting}
use Rattle.listing.proofs.Fills.{passed, stopped, whole}
use Rattle.listing.proofs.list.write_checked.Goals as goal

pub returns : goal.returns
returns c =
    let s = c.args.script.now in
    let al = (aliases_of c.args.aliases.now).named in
    let nr = length c.args.records.now in
    let nl = length c.args.letters.now in
    c.write_items.ensures
    ∙ ap (λ x. and (on_slots c.args.before nr nl (script_reading al x)) counting) (whole 4096 s _ _ c.in_ok-check_script.ensures)
    ∙ ap (λ r. and r counting) (sym (passed (script_check s) _ (on_slots c.args.before nr nl (script_reading al s)) c.in_ok-check_script.ensures))

pub returns-in_err-check_script : goal.returns-in_err-check_script
returns-in_err-check_script c =
    let s = c.args.script.now in
    let al = (aliases_of c.args.aliases.now).named in
    let p = err_from_is_err_and c.from_residual.result c.from_residual.ensures.1 in
    rw (p.1, p.2) (ap (λ r. and r counting) (stopped (script_check s) _ (on_slots c.args.before (length c.args.records.now) (length c.args.letters.now) (script_reading al s)) c.in_err-check_script.ensures))
