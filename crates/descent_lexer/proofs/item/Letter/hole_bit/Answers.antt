-- A bit below the tenth is a number below 2 ^ 10.
use Rattle.std.proofs.Common.{◌*◌, ◌^◌, ◌<◌, arith}
use native.Mathlib.Nat.{mod-le}
use lib.Pow.{pow-lt}
use Rattle.descent_lexer.proofs.item.Letter.hole_bit.Goals as goal

pub returns-in-Hole : goal.returns-in-Hole
returns-in-Hole c =
    let h : c.from.result < 10 = omega arith in
    omega (arith, mod-le (1 * 2 ^ c.from.result) 65536, pow-lt h)
