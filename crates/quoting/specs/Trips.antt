-- What comes back of a text whose form was written and read. Assumes nothing.
use Rattle.std.specs.Prelude.{◌≡◌, ℕ, ◌≤◌, cond, List, length, Ok, Err, Result, nat_le}
use Rattle.basics.specs.Bytes.{ZeroFree}
use Rattle.basics.specs.Pages.{over}
use Rattle.quoting.specs.declared.unquote.Unread.{Unread}
use Rattle.quoting.specs.declared.unquote.Unread.TheVariants.{NoRoom}
use Rattle.quoting.specs.Forms.{unquoted}
use Rattle.quoting.specs.Unquoting.{answered, left}

-- what is told once a form was written to a page and read back into a part
abbrev pub told_back : List ℕ → List ℕ → List ℕ → Result ℕ Unread
told_back form page part = cond (nat_le (length form) (length page)) (answered (unquoted form) (length part)) (Err NoRoom)

-- what the part then holds
abbrev pub left_back : List ℕ → List ℕ → List ℕ → List ℕ
left_back form page part = cond (nat_le (length form) (length page)) (left (unquoted form) part) part

-- a text free of byte 0 comes back as it was, if its form fits the page and it fits the part
abbrev pub Returns : (List ℕ → List ℕ) → List ℕ → List ℕ → List ℕ → List ℕ → Result ℕ Unread → Type 0
Returns form text page part after said =
    ZeroFree text → length (form text) ≤ length page → length text ≤ length part → (said ≡ Ok (length text)) × (after ≡ over text part)
