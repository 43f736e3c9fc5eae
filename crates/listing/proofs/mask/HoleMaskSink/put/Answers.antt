use Rattle.std.proofs.Common.{Ok, sym, ap, ◌∙◌}
use Rattle.listing.specs.Noting.{beside}
use Rattle.listing.specs.Masks.{mask_of}
use Rattle.listing.proofs.Keeping.{notes}
use Rattle.listing.proofs.mask.HoleMaskSink.put.Goals as goal

pub returns : goal.returns
returns c = ap (λ q. Ok (beside q c.args.self.now.mask)) c.note.ensures ∙ sym (notes c.args.act c.args.place (mask_of c.args.self.now))
