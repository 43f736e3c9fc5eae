use Rattle.std.proofs.Common.{◌≡◌, ◌+◌, length, take, sym, ap, ◌∙◌, arith}
use Rattle.std.proofs.lemmas.Result.{err_from_is_err_and}
use Rattle.source.specs.Fronts.{front}
use Rattle.source.specs.Symbols.{template}
use Rattle.aliases.specs.Tables.{aliases_of}
use Rattle.reading.specs.Listed.{template_reading}
use Rattle.reader.specs.Held.{result_of}
use Rattle.listing.specs.Checking.{holes_of}
use Rattle.listing.specs.Masks.{mask_of}
use Rattle.listing.proofs.Masking.{holes_from}
use Rattle.listing.proofs.check.read_holes.Goals as goal
use Rattle.listing.proofs.check.read_holes.Goals.{After-read}

-- what is read, whether or not it is refused
all_read : (c : After-read) → result_of c.read.result c.read.new.out.mask ≡ holes_of (template_reading (aliases_of c.args.aliases.now).named (take 1024 c.args.template.now))
all_read c =
    let s = take 1024 c.args.template.now in
    let z : 0 + length s ≡ length s = omega arith in
    let started = c.new-source.ensures ∙ (λ i. front (template (c.new.ensures.rest i) (c.new.ensures.at i)) (c.new.ensures.at i + length (c.new.ensures.rest i)) c.args.aliases.now) ∙ ap (λ k. front (template s 0) k c.args.aliases.now) z in
    holes_from c.new-source.result c.args.aliases.now (template s 0) (length s) _ _ c.read.result (mask_of c.read.new.out) c.read.ensures started c.new-2.ensures

pub returns : goal.returns
returns c = ap (λ r. result_of r c.read.new.out.mask) (sym c.in_ok-read.was) ∙ all_read (goal.at.returns c).After-read

pub returns-in_err-read : goal.returns-in_err-read
returns-in_err-read c =
    let p = err_from_is_err_and c.from_residual.result c.from_residual.ensures.1 in
    rw (p.1, p.2) (ap (λ r. result_of r c.read.new.out.mask) (sym c.in_err-read.was) ∙ all_read (goal.at.returns-in_err-read c).After-read)
