-- The numbers of the roles.
use Rattle.std.specs.Prelude.{ℕ}
use Rattle.descent_lexer.specs.declared.item.Role.{Role}
use Rattle.descent_lexer.specs.declared.item.Role.TheVariants.{Name, Arg, Assign, Target, Delim, Number}

abbrev pub role_number : Role → ℕ
role_number Name = 1
role_number Arg = 2
role_number Assign = 3
role_number Target = 4
role_number Delim = 5
role_number Number = 6
