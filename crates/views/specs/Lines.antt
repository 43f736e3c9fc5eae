-- The line of a text in which a place stands. Assumes nothing.
use Rattle.std.specs.Prelude.{◌≡◌, ◌≢◌, ℕ, ◌+◌, ◌-◌, ◌<◌, min, Bool, cond, List, [], ◌∷◌, length, take, drop, Some, None, Option, MatchOption, EachIndex, slice_index, ◌==◌}
use Rattle.basics.specs.Bytes.{newline, occurrences}
use Rattle.basics.specs.Searches.{first_where}

abbrev pub is_newline : ℕ → Bool
is_newline b = b == newline

-- the last newline of a text, or that it has none
abbrev pub FindsLastNewline : List ℕ → Option ℕ → Type 0
FindsLastNewline text r =
    MatchOption r (EachIndex text (λ k. slice_index text k ≢ newline))
    (λ i. (i < length text) × (slice_index text i ≡ newline) × ((k : ℕ) → i < k → k < length text → slice_index text k ≢ newline))

-- where the last line of a text begins: past its last newline. The line before these bytes began at `start`, and they at i.
abbrev pub start_from : ℕ → ℕ → List ℕ → ℕ
start_from start i [] = start
start_from start i (b ∷ bs) = start_from (cond (is_newline b) (i + 1) start) (i + 1) bs

abbrev pub last_start : List ℕ → ℕ
last_start text = start_from 0 0 text

abbrev pub cut_at : Option ℕ → List ℕ → List ℕ
cut_at None text = text
cut_at (Some n) text = take n text

-- up to the first newline
abbrev pub first_line : List ℕ → List ℕ
first_line text = cut_at (first_where is_newline text) text

-- what stands before a place; before the end, what stands before the last byte, so that a newline there begins no line
abbrev pub front : List ℕ → ℕ → List ℕ
front text place = take (min place (length text - 1)) text

-- the lines above the place's own
abbrev pub lines_above : List ℕ → ℕ → ℕ
lines_above text place = occurrences newline (front text place)

abbrev pub line_start : List ℕ → ℕ → ℕ
line_start text place = last_start (front text place)

abbrev pub line_of : List ℕ → ℕ → List ℕ
line_of text place = first_line (drop (line_start text place) text)

-- what stands before the place in its line
abbrev pub before_place : List ℕ → ℕ → List ℕ
before_place text place = take (place - line_start text place) (line_of text place)
