-- A here-document's body by its lines, and the law that reading it byte by byte comes to the same. Assumes nothing.
use Rattle.std.specs.Prelude.{◌≡◌, ℕ, Bool, true, false, cond, List, [], ◌∷◌, ◌++◌, take, ◌==◌}
use Rattle.std.specs.Str.{bytes_eq}
use Rattle.basics.specs.Bytes.{newline}
use Rattle.tokens.specs.Bytes.{tab}
use Rattle.commands.specs.declared.line.Line.{Line}
use Rattle.commands.specs.declared.line.Line.TheVariants.{Fresh}
use Rattle.commands.specs.declared.line.Gives.{Gives}
use Rattle.commands.specs.declared.line.Gives.TheVariants.{Nothing, Letters, Ends}
use Rattle.commands.specs.Bodies.{Document, line_byte, line_is}

-- the body's letters and the bytes behind the delimiter's line, or that there is no such line
pub data Body : Type 0 where
  body : List ℕ → List ℕ → Body
  lacking : Body

abbrev pub more : List ℕ → Body → Body
more xs (body ys r) = body (xs ++ ys) r
more xs lacking = lacking

-- by lines

abbrev pub onto_first : ℕ → List (List ℕ) → List (List ℕ)
onto_first b [] = (b ∷ []) ∷ []
onto_first b (l ∷ ls) = (b ∷ l) ∷ ls

-- a text's lines, each with its newline; the last may lack it
abbrev pub lines : List ℕ → List (List ℕ)
lines [] = []
lines (b ∷ bs) = cond (b == newline) ((b ∷ []) ∷ lines bs) (onto_first b (lines bs))

abbrev pub joined : List (List ℕ) → List ℕ
joined [] = []
joined (l ∷ ls) = l ++ joined ls

-- a line without its leading tabs, if they are to be dropped
abbrev pub untabbed : Bool → List ℕ → List ℕ
untabbed false l = l
untabbed true [] = []
untabbed true (b ∷ l) = cond (b == tab) (untabbed true l) (b ∷ l)

-- a line without its newline
abbrev pub chopped : List ℕ → List ℕ
chopped [] = []
chopped (b ∷ l) = cond (b == newline) [] (b ∷ chopped l)

-- the lines before the first that is the delimiter d
abbrev pub before : Bool → List ℕ → List (List ℕ) → Body
before dash d [] = lacking
before dash d (l ∷ ls) = cond (bytes_eq (chopped (untabbed dash l)) d) (body [] (joined ls)) (more (untabbed dash l) (before dash d ls))

-- byte by byte

abbrev pub given : Gives → List ℕ → ℕ → List ℕ → Body → Body
given Nothing d b bs rest = rest
given (Letters n) d b bs rest = more (take n d ++ (b ∷ [])) rest
given Ends d b bs rest = body [] bs

abbrev pub body_from : Document → Line → List ℕ → Body
body_from d l [] = cond (line_is d l) (body [] []) lacking
body_from d l (b ∷ bs) = given (line_byte d l b).gives d.delimiter b bs (body_from d (line_byte d l b).line bs)

abbrev pub BodiesGoByLines : Type 0
BodiesGoByLines = (d : Document) (bs : List ℕ) → body_from d Fresh bs ≡ before d.dash d.delimiter (lines bs)
