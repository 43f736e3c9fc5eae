-- What the reader keeps of a plain word tells of the whole word. Assumes nothing.
use Rattle.std.specs.Prelude.{◌≡◌, ℕ, ◌≤◌, Bool, true, false, cond, ◌&&◌, List, [], ◌∷◌, length, take, ◌==◌}
use Rattle.std.specs.Str.{bytes_eq}
use Rattle.tokens.specs.Bytes.{is_digit, is_name_start, is_name_byte, equals}
use Rattle.tokens.specs.Openings.{is_number}
use Rattle.commands.specs.Roles.{is_reserved}
use Rattle.reading.specs.declared.mode.Mode.{Mode}
use Rattle.reading.specs.declared.mode.Mode.TheVariants as mode
use Rattle.reading.specs.States.{Word, gap, assigned}
use Rattle.reading.specs.Words.{longer, reserved}

-- the word after some bare bytes
abbrev pub with_bytes : Word → List ℕ → Word
with_bytes w [] = w
with_bytes w (b ∷ bs) = with_bytes (longer b w) bs

abbrev pub all_digits : List ℕ → Bool
all_digits [] = true
all_digits (b ∷ bs) = is_digit b && all_digits bs

-- the rest of a name, and `=`
abbrev pub name_goes_on : List ℕ → Bool
name_goes_on [] = false
name_goes_on (b ∷ bs) = cond (is_name_byte b) (name_goes_on bs) (b == equals)

-- it begins with a name and `=`
abbrev pub assigns : List ℕ → Bool
assigns [] = false
assigns (b ∷ bs) = is_name_start b && name_goes_on bs

-- it is an IO number if a redirection follows
abbrev pub numeric : Mode → Bool
numeric mode.Gap = false
numeric mode.Comment = false
numeric (mode.Plain o) = is_number o
numeric (mode.Mixed y) = false
numeric (mode.Body n l) = false

-- A word of the bare bytes b and bs, read from a gap: the first 33 are kept, and it is reserved, a number or an assignment, or has a given name of at most 32 bytes, as the whole word does.
pub record PlainWord (b : ℕ) (bs : List ℕ) : Type 0 where
  pub first_bytes : (with_bytes gap (b ∷ bs)).kept ≡ take 33 (b ∷ bs)
  pub tells_reserved : reserved (with_bytes gap (b ∷ bs)) ≡ is_reserved (b ∷ bs)
  pub tells_number : numeric (with_bytes gap (b ∷ bs)).mode ≡ all_digits (b ∷ bs)
  pub tells_assign : assigned (with_bytes gap (b ∷ bs)).mode ≡ assigns (b ∷ bs)
  pub has_name : (name : List ℕ) → length name ≤ 32 → bytes_eq (with_bytes gap (b ∷ bs)).kept name ≡ bytes_eq (b ∷ bs) name

abbrev pub KeptBytesTellTheWord : Type 0
KeptBytesTellTheWord = (b : ℕ) (bs : List ℕ) → PlainWord b bs
