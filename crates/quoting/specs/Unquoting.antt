-- What reading a form back into a part answers and leaves. Assumes nothing.
use Rattle.std.specs.Prelude.{ℕ, ◌+◌, cond, List, [], length, Some, None, Ok, Err, Option, Result, nat_le}
use Rattle.basics.specs.Pages.{written}
use Rattle.quoting.specs.Forms.{longest}
use Rattle.quoting.specs.declared.unquote.Unread.{Unread}
use Rattle.quoting.specs.declared.unquote.Unread.TheVariants.{Unlawful, NoRoom}

-- the text's length where the form is lawful and the text fits
abbrev pub answered : Result (List ℕ) ℕ → ℕ → Result ℕ Unread
answered (Ok text) room = cond (nat_le (length text) room) (Ok (length text)) (Err NoRoom)
answered (Err place) room = Err (Unlawful place)

-- the text at the part's start if it was read, else the part as it was
abbrev pub left : Result (List ℕ) ℕ → List ℕ → List ℕ
left (Ok text) part = written text part
left (Err place) part = part

-- the text's length in the text's place
abbrev pub counted : Result (List ℕ) ℕ → Result ℕ Unread
counted (Ok text) = Ok (length text)
counted (Err place) = Err (Unlawful place)

abbrev pub text_of : Result (List ℕ) ℕ → List ℕ
text_of (Ok text) = text
text_of (Err place) = []

-- the length of the text of a form of len bytes, where n bytes came before what the rest delivers, or else a place
abbrev pub concluded : ℕ → ℕ → Option (List ℕ) → ℕ → Result ℕ Unread
concluded len n None place = Err (Unlawful place)
concluded len n (Some text) place = cond (nat_le len (longest (n + length text))) (Ok (n + length text)) (Err (Unlawful (longest (n + length text))))
