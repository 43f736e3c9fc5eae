use Rattle.std.proofs.Common.{◌≡◌, length, arith}
use Rattle.listing.proofs.Fills.{fills, within, defaulted}
use Rattle.listing.proofs.list.fill_slots.Goals as goal

pub returns : goal.returns
returns c =
    let w = c.write_checked-answer in
    let nr = length c.args.records.now in
    let nl = length c.args.letters.now in
    let p : length w.new.records ≡ nr = omega arith in
    let q : length w.new.letters ≡ nl = omega arith in
    record {
      filled = fills nr nl w.new.records w.new.letters p q w.result c.unwrap_or_default-used.result _ c.clear.new.slots c.clear-2.new.slots w.ensures (defaulted w.result _ c.unwrap_or_default-used.ensures) c.clear.ensures c.clear-2.ensures;
      within = within nr nl w.new.records w.new.letters p q w.result _ w.ensures;
    }
