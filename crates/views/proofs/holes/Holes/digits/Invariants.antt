use Rattle.std.proofs.Common.{◌≡◌, ◌++◌, ◌≤◌, length}
use Rattle.views.specs.Holes.{holes_of}
use Rattle.views.proofs.Digits.{holes_from}
use Rattle.views.proofs.holes.Holes.digits.Given as goal

-- the digits so far, and the holes that are left; there are no more digits so far than were tried
abbrev pub invariant-loop-digit : goal.invariant-loop-digit
invariant-loop-digit l = record { all : l.digits.items ++ holes_from l.self.0 l.digit ≡ holes_of l.self.0; few : length l.digits.items ≤ l.digit }
