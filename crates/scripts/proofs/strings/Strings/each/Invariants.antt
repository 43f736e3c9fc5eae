use Rattle.std.proofs.Common.{◌≡◌}
use Rattle.scripts.proofs.strings.Strings.each.Given as goal

abbrev pub invariant-loop : goal.invariant-loop
invariant-loop g l = l.self.longest ≡ l.fn.self.longest
