-- Each digit puts in a byte at most.
use Rattle.std.proofs.Common.{◌≤◌, vec_len}
use Rattle.scripts.proofs.strings.Strings.next.Given as goal

abbrev pub invariant-loop-digit : goal.invariant-loop-digit
invariant-loop-digit l = vec_len l.out ≤ l.digit-index
