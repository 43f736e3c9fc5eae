-- A here-document's body, byte by byte, with no line kept: what is read of a line that may be the delimiter is the delimiter's own beginning. Assumes nothing.
use Rattle.std.specs.Prelude.{ℕ, ◌+◌, Bool, false, cond, ◌&&◌, List, [], length, ◌==◌, nat_le, nat_lt, slice_index}
use Rattle.basics.specs.Bytes.{newline}
use Rattle.tokens.specs.Bytes.{tab}
use Rattle.commands.specs.declared.line.Line.{Line}
use Rattle.commands.specs.declared.line.Line.TheVariants.{Fresh, Tabs, Same, Other}
use Rattle.commands.specs.declared.line.Gives.{Gives}
use Rattle.commands.specs.declared.line.Gives.TheVariants.{Nothing, Letters, Ends}
use Rattle.commands.specs.declared.line.LineByte.{LineByte}

-- a here-document that waits for its body: whether leading tabs are dropped, and the delimiter's letters
pub record Document : Type 0 where
  pub dash : Bool
  pub delimiter : List ℕ

abbrev pub no_document : Document
no_document = record { dash = false; delimiter = [] }

abbrev pub read : Gives → Line → LineByte
read g l = record { gives = g; line = l }

-- the byte b, where the line so far is the first n bytes of the delimiter d
abbrev pub compared : ℕ → List ℕ → ℕ → LineByte
compared n d b =
    cond (b == newline) (cond (nat_lt n (length d)) (read (Letters n) Fresh) (read Ends Fresh))
    (cond (nat_lt n (length d) && b == slice_index d n) (read Nothing (Same (n + 1))) (read (Letters n) Other))

-- the byte b at the line's beginning
abbrev pub first_of_line : Document → ℕ → LineByte
first_of_line d b = cond (d.dash && b == tab) (read Nothing Tabs) (compared 0 d.delimiter b)

abbrev pub line_byte : Document → Line → ℕ → LineByte
line_byte d Fresh b = first_of_line d b
line_byte d Tabs b = first_of_line d b
line_byte d (Same n) b = compared n d.delimiter b
line_byte d Other b = cond (b == newline) (read (Letters 0) Fresh) (read (Letters 0) Other)

-- the text may end here, since the line is the delimiter; a line has one byte at least
abbrev pub line_is : Document → Line → Bool
line_is d Fresh = false
line_is d Tabs = nat_le (length d.delimiter) 0
line_is d (Same n) = nat_le (length d.delimiter) n
line_is d Other = false
