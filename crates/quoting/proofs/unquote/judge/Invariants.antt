use Rattle.std.proofs.Common.{◌≡◌, ◌≤◌, length, drop}
use Rattle.quoting.specs.declared.form.State.TheVariants.{Bare}
use Rattle.quoting.proofs.Judging.{judging}
use Rattle.quoting.proofs.unquote.judge.Given as goal

-- what is left to read gives the answer of the whole form
abbrev pub invariant-loop-i : goal.invariant-loop-i
invariant-loop-i l = (l.n ≤ l.i) × (judging (length l.form) l.state l.i l.n (drop l.i l.form) ≡ judging (length l.form) Bare 0 0 l.form)
