-- What a redirection awaits. Assumes nothing.
use Rattle.std.specs.Prelude.{Bool, true, false}
use Rattle.tokens.specs.declared.operator.Operator.{Operator}
use Rattle.tokens.specs.declared.operator.Operator.TheVariants as op
use Rattle.commands.specs.declared.awaited.Awaited.{Awaited}
use Rattle.commands.specs.declared.awaited.Awaited.TheVariants.{Nothing, Target, Delimiter}

-- a target, or a delimiter after `<<` and `<<-`
abbrev pub awaited_by : Operator → Awaited
awaited_by op.Newline = Target
awaited_by op.Amp = Target
awaited_by op.AndIf = Target
awaited_by op.Bar = Target
awaited_by op.OrIf = Target
awaited_by op.Semi = Target
awaited_by op.DoubleSemi = Target
awaited_by op.Open = Target
awaited_by op.Close = Target
awaited_by op.Less = Target
awaited_by op.Great = Target
awaited_by op.Here = Delimiter false
awaited_by op.Append = Target
awaited_by op.LessAmp = Target
awaited_by op.GreatAmp = Target
awaited_by op.LessGreat = Target
awaited_by op.HereDash = Delimiter true
awaited_by op.Clobber = Target

abbrev pub is_free : Awaited → Bool
is_free Nothing = true
is_free Target = false
is_free (Delimiter d) = false

abbrev pub is_target : Awaited → Bool
is_target Nothing = false
is_target Target = true
is_target (Delimiter d) = false
