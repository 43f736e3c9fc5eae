-- What holds of the book of any calls. Assumes nothing.
use Rattle.std.specs.Prelude.{◌≡◌, ℕ, ◌≤◌, true, List, length, Some}
use Rattle.basics.specs.Bytes.{ZeroFree}
use Rattle.reading.specs.Filled.{Accepted}
use Rattle.reading.specs.Listed.{template_reading}
use Rattle.orders.specs.Book.{Book, Request, symbols, has_hole, book_of_calls}

-- Its template reads without fault under its aliases. Each text is short, free of byte 0, and a hole's of the template; so where there is no template there is no text.
pub record Sound (b : Book) : Type 0 where
  pub reads : (t : List ℕ) → b.loaded ≡ Some t → Accepted (template_reading b.aliases.named t)
  pub short : (d : ℕ) (text : List ℕ) → b.texts d ≡ Some text → length text ≤ 128
  pub zero_free : (d : ℕ) (text : List ℕ) → b.texts d ≡ Some text → ZeroFree text
  pub of_hole : (d : ℕ) (text : List ℕ) → b.texts d ≡ Some text → has_hole d (symbols b) ≡ true

-- whatever the calls, in any order and number
abbrev pub BooksAreSound : Type 0
BooksAreSound = (qs : List Request) → Sound (book_of_calls qs)
