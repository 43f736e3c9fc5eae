use Rattle.std.proofs.Common.{◌∙◌, rules}
use Rattle.reader.specs.Pens.{page_of}
use Rattle.reader.proofs.Letters.{no_room}
use Rattle.reader.proofs.sink.Pen.letters.Goals as goal

pub returns-in_err-letter-clause-laid : goal.returns-in_err-letter-clause-laid
returns-in_err-letter-clause-laid g c i =
    let e = no_room g.W.Sink.writes c.args.mark c.args.bytes.now c.loop-byte.byte-index (page_of g.W.Sink.sheet c.loop-byte.self) i c.loop-byte-test.true c.in_err-letter.field-0.0 c.in_err-letter.ensures.laid ∙ c.loop-byte.invariant.laid i in
    search rules
