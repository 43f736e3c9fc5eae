use Rattle.std.proofs.Common.{◌≡◌, drop}
use Rattle.reading.specs.States.{State}
use Rattle.reading.specs.Steps.{writes, done}
use Rattle.reader.specs.Pens.{SamePen, page_of, step_on}
use Rattle.reader.proofs.sink.Pen.letters.Given as goal

-- the letters still to come, from here, come to the same as all of them
abbrev pub invariant-loop-byte : goal.invariant-loop-byte
invariant-loop-byte g l = record {
  laid : (i : State) → step_on g.W.Sink.writes (writes l.mark (drop l.byte-index l.bytes) (done i)) (page_of g.W.Sink.sheet l.self)
      ≡ step_on g.W.Sink.writes (writes l.mark l.bytes (done i)) (page_of g.W.Sink.sheet l.initial.self);
  pen : SamePen l.initial.self l.self;
}
