use Rattle.std.proofs.Common.{ℕ, List, [], length, Result, sym, ap, ◌∙◌}
use Rattle.std.proofs.lemmas.Result.{err_from_is_err_and}
use Rattle.aliases.specs.Tables.{aliases_of}
use Rattle.basics.specs.declared.refusal.Refusal.{Refusal}
use Rattle.source.specs.Symbols.{template}
use Rattle.reading.specs.States.{fresh}
use Rattle.reading.specs.Readings.{Aliases}
use Rattle.reading.specs.Items.{shell}
use Rattle.reading.specs.Listed.{placing, nowhere, template_reading}
use Rattle.listing.specs.Checking.{template_check, holes_of, template_mask}
use Rattle.listing.specs.Laying.{ending}
use Rattle.listing.proofs.Fills.{passed, stopped, whole}
use Rattle.listing.proofs.Meetings.{meets}
use Rattle.listing.proofs.check.check_template.Goals as goal

abbrev met : Aliases → List ℕ → Result ℕ Refusal
met al t = ending (template_reading al t).ending (template_mask t)

pub returns-clause-met : goal.returns-clause-met
returns-clause-met c =
    let t = c.args.template.now in
    let al = (aliases_of c.args.aliases.now).named in
    c.read_holes.ensures
    ∙ ap (λ x. holes_of (template_reading al x)) (whole 1024 t _ _ c.in_ok-check_bytes.ensures)
    ∙ sym (passed (template_check t) _ (holes_of (template_reading al t)) c.in_ok-check_bytes.ensures)

pub returns-in_err-check_bytes-clause-met : goal.returns-in_err-check_bytes-clause-met
returns-in_err-check_bytes-clause-met c =
    let t = c.args.template.now in
    let p = err_from_is_err_and c.from_residual.result c.from_residual.ensures.1 in
    rw (p.1, p.2) (stopped (template_check t) _ (holes_of (template_reading (aliases_of c.args.aliases.now).named t)) c.in_err-check_bytes.ensures)

pub returns-clause-masked : goal.returns-clause-masked
returns-clause-masked c =
    let t = c.args.template.now in
    let al = (aliases_of c.args.aliases.now).named in
    c.read_holes.ensures
    ∙ ap (λ x. holes_of (template_reading al x)) (whole 1024 t _ _ c.in_ok-check_bytes.ensures)
    ∙ meets placing al shell 64 (template t 0) (length t) [] fresh nowhere 0
    ∙ sym (passed (template_check t) _ (met al t) c.in_ok-check_bytes.ensures)

pub returns-in_err-check_bytes-clause-masked : goal.returns-in_err-check_bytes-clause-masked
returns-in_err-check_bytes-clause-masked c =
    let t = c.args.template.now in
    let p = err_from_is_err_and c.from_residual.result c.from_residual.ensures.1 in
    rw (p.1, p.2) (stopped (template_check t) _ (met (aliases_of c.args.aliases.now).named t) c.in_err-check_bytes.ensures)
