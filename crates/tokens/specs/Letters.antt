-- Letters as numbers, and back. Assumes nothing.
use Rattle.std.specs.Prelude.{ℕ, ◌+◌, ◌*◌, ◌/◌, ◌%◌, cond, Some, None, Option, ◌==◌}
use Rattle.tokens.specs.declared.letter.Mark.{Mark}
use Rattle.tokens.specs.declared.letter.Mark.TheVariants.{Bare, Quoted, Expansion, Body}
use Rattle.tokens.specs.declared.letter.Letter.{Letter}

abbrev pub mark_number : Mark → ℕ
mark_number Bare = 0
mark_number Quoted = 1
mark_number Expansion = 2
mark_number Body = 3

abbrev pub letter_number : Letter → ℕ
letter_number l = mark_number l.mark * 256 + l.byte

abbrev pub marked : Mark → ℕ → Letter
marked m b = record { mark = m; byte = b }

-- the mark of a number, if it is a mark's
abbrev pub mark_of : ℕ → Option Mark
mark_of n = cond (n == 0) (Some Bare) (cond (n == 1) (Some Quoted) (cond (n == 2) (Some Expansion) (cond (n == 3) (Some Body) None)))

-- the byte under the mark, if there is one
abbrev pub under_mark : Option Mark → ℕ → Option Letter
under_mark None b = None
under_mark (Some m) b = Some (marked m b)

-- the letter of a number, if it is a letter's
abbrev pub letter_of : ℕ → Option Letter
letter_of n = under_mark (mark_of (n / 256)) (n % 256)
