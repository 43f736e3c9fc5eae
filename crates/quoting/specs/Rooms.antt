-- What writing a form tells. Assumes nothing.
use Rattle.std.specs.Prelude.{ℕ, cond, Ok, Err, Result, nat_le}
use Rattle.quoting.specs.declared.quoter.NoRoom.{NoRoom}

-- the form's length, or that the part is too short for it
abbrev pub fitted : ℕ → ℕ → Result ℕ NoRoom
fitted n room = cond (nat_le n room) (Ok n) (Err (record {}))
