use Rattle.std.proofs.Common.{length, take, drop, Ok, sym, ap, ◌∙◌}
use Rattle.std.proofs.lemmas.Result.{err_from_is_err_and}
use Rattle.source.specs.Fronts.{front}
use Rattle.source.specs.Symbols.{script}
use Rattle.aliases.specs.Tables.{aliases_of}
use Rattle.reading.specs.Laid.{and}
use Rattle.reading.specs.Listed.{script_reading}
use Rattle.reader.specs.Held.{result_of}
use Rattle.listing.specs.Writing.{slots_of, sheet_of}
use Rattle.listing.proofs.Views.{view_of}
use Rattle.listing.proofs.Lists.{seen_from, accepted, refused}
use Rattle.listing.proofs.list.write_items.Goals as goal

pub returns : goal.returns
returns c =
    let s = take 4096 c.args.script.now in
    let t = slots_of c.read.new.out in
    let started = c.new-source.ensures ∙ (λ i. front (script (drop (c.new.ensures.at i) (c.new.ensures.text i)) (c.new.ensures.at i)) (length (c.new.ensures.text i)) c.args.aliases.now) in
    let seen = seen_from c.new-source.result c.args.aliases.now (script s 0) (length s) _ _ c.read.result (sheet_of c.read.new.out) c.read.ensures started c.new-2.ensures in
    accepted _ _ _ _ _ c.requires (script_reading (aliases_of c.args.aliases.now).named s) t _ _ c.records-2-1.given.1.1 c.letters-2-1.given.1.1
    (ap (λ r. and (result_of r t) (λ u. Ok (view_of u))) (sym c.in_ok-read.was) ∙ seen)

pub returns-in_err-read : goal.returns-in_err-read
returns-in_err-read c =
    let s = take 4096 c.args.script.now in
    let t = slots_of c.read.new.out in
    let started = c.new-source.ensures ∙ (λ i. front (script (drop (c.new.ensures.at i) (c.new.ensures.text i)) (c.new.ensures.at i)) (length (c.new.ensures.text i)) c.args.aliases.now) in
    let seen = seen_from c.new-source.result c.args.aliases.now (script s 0) (length s) _ _ c.read.result (sheet_of c.read.new.out) c.read.ensures started c.new-2.ensures in
    let p = err_from_is_err_and c.from_residual.result c.from_residual.ensures.1 in
    rw (p.1, p.2) (refused _ _ _ _ _ c.requires (script_reading (aliases_of c.args.aliases.now).named s) _
    (ap (λ r. and (result_of r t) (λ u. Ok (view_of u))) (sym c.in_err-read.was) ∙ seen))
