use Rattle.std.proofs.Common.{◌≡◌, Ok}
use Rattle.reader.specs.Holding.{control_of}
use Rattle.reader.specs.Turns.{goes_on, rest_of, still_from, turns_left}
use Rattle.reader.proofs.state.Reader.read.Given as goal

-- what is left to read comes to the same as the whole
abbrev pub invariant-loop-more : goal.invariant-loop-more
invariant-loop-more g l =
    goes_on (Ok l.more) (rest_of g.W.Sink l.source (control_of l.self) l.out) (g.W.Sink.sheet l.out)
    ≡ rest_of g.W.Sink l.initial.source (control_of l.initial.self) l.initial.out

abbrev pub decreases-loop-more : goal.decreases-loop-more
decreases-loop-more g l = turns_left l.more (still_from l.source)
