-- Bytes as a journal has them, and the way back. Assumes nothing.
use Rattle.std.specs.Prelude.{◌≡◌, ℕ, ◌+◌, ◌-◌, ◌*◌, ◌/◌, ◌%◌, ◌<◌, Bool, cond, not, ◌&&◌, List, [], ◌∷◌, ◌++◌, Some, None, Option, ◌==◌, nat_le, nat_lt}
use Rattle.std.specs.List.{AllByRecursion}
use Rattle.journal.specs.declared.unescape.Place.{Place}
use Rattle.journal.specs.declared.unescape.Place.TheVariants.{Outside, Percent, High}
use Rattle.journal.specs.declared.unescape.Piece.{Piece}
use Rattle.journal.specs.declared.unescape.Piece.TheVariants.{Leads, Gives}

-- the mark of an escape, `%`
abbrev pub percent : ℕ
percent = 37

-- a byte from `!` to `~` but `%` stands for itself
abbrev pub is_plain : ℕ → Bool
is_plain b = nat_le 33 b && (nat_le b 126 && not (b == percent))

-- a hexadecimal digit, in upper case
abbrev pub digit : ℕ → ℕ
digit n = cond (nat_lt n 10) (48 + n) (55 + n)

abbrev pub escaped_byte : ℕ → List ℕ
escaped_byte b = cond (is_plain b) (b ∷ []) (percent ∷ digit (b / 16) ∷ digit (b % 16) ∷ [])

abbrev pub escaped : List ℕ → List ℕ
escaped [] = []
escaped (b ∷ bytes) = escaped_byte b ++ escaped bytes

-- the number of a digit
abbrev pub digit_value : ℕ → Option ℕ
digit_value d = cond (nat_le 48 d && nat_le d 57) (Some (d - 48)) (cond (nat_le 65 d && nat_le d 70) (Some (d - 55)) None)

abbrev pub first_digit : Option ℕ → Option Piece
first_digit None = None
first_digit (Some high) = Some (Leads (High high))

abbrev pub second_digit : ℕ → Option ℕ → Option Piece
second_digit high None = None
second_digit high (Some low) = Some (Gives (high % 16 * 16 + low % 16))

-- what a byte of a word does, if it may stand there
abbrev pub piece : Place → ℕ → Option Piece
piece Outside b = cond (b == percent) (Some (Leads Percent)) (cond (is_plain b) (Some (Gives b)) None)
piece Percent b = first_digit (digit_value b)
piece (High high) b = second_digit high (digit_value b)

-- a word ends outside an escape
abbrev pub ended : Place → Option (List ℕ)
ended Outside = Some []
ended Percent = None
ended (High high) = None

abbrev pub with_byte : ℕ → Option (List ℕ) → Option (List ℕ)
with_byte b None = None
with_byte b (Some bytes) = Some (b ∷ bytes)

-- what a word stands for whose first byte does this, by what the rest stands for, read from each place
abbrev pub pieced : Option Piece → (Place → Option (List ℕ)) → Option (List ℕ)
pieced None rest = None
pieced (Some (Leads p)) rest = rest p
pieced (Some (Gives b)) rest = with_byte b (rest Outside)

abbrev pub unescaped_from : Place → List ℕ → Option (List ℕ)
unescaped_from p [] = ended p
unescaped_from p (b ∷ word) = pieced (piece p b) (λ q. unescaped_from q word)

-- the bytes that a word stands for, if it is written as a word is
abbrev pub unescaped : List ℕ → Option (List ℕ)
unescaped word = unescaped_from Outside word

-- bytes behind those that came before
abbrev pub behind : List ℕ → Option (List ℕ) → Option (List ℕ)
behind before None = None
behind before (Some bytes) = Some (before ++ bytes)

-- The law: what was escaped is given back.
abbrev pub EscapesComeBack : Type 0
EscapesComeBack = (bytes : List ℕ) → AllByRecursion (λ b. b < 256) bytes → unescaped (escaped bytes) ≡ Some bytes
