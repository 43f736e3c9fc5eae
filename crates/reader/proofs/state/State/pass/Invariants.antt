use Rattle.std.proofs.Common.{◌≡◌, ◌≤◌}
use Rattle.reading.specs.States.{calm}
use Rattle.reader.specs.Holding.{state_of}
use Rattle.reader.specs.Runs.{run_of}
use Rattle.reader.specs.Turns.{rest_of, still_from}
use Rattle.reader.proofs.state.State.pass.Given as goal

-- the run goes on, what is left to read comes to the same as the whole, and no symbol was added
abbrev pub invariant-loop-s : goal.invariant-loop-s
invariant-loop-s g l =
    (run_of (state_of l.self) ≡ l.run)
    × (rest_of g.W.Sink l.source (calm (state_of l.self)) l.out ≡ rest_of g.W.Sink l.initial.source (calm (state_of l.initial.self)) l.initial.out)
    × (still_from l.source ≤ still_from l.initial.source)

abbrev pub decreases-loop-s : goal.decreases-loop-s
decreases-loop-s g l = still_from l.source
