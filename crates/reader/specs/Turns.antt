-- One turn of the reader over a source. Assumes nothing.
use Rattle.std.specs.Prelude.{◌≡◌, ◌<◌, ◌≤◌, ℕ, ◌+◌, ◌*◌, Bool, true, false, List, [], ◌∷◌, length, Some, None, Ok, Err, Option, Result}
use Rattle.basics.specs.declared.refusal.Refusal.{Refusal}
use Rattle.source.specs.declared.symbol.Symbol.{Symbol}
use Rattle.reading.specs.States.{Control}
use Rattle.reading.specs.Moves.{named}
use Rattle.aliases.specs.Tables.{aliases_of}
use Rattle.source.specs.Front.{Front}
use Rattle.reader.specs.declared.sink.Sink as sink
use Rattle.reading.specs.Laid.{and}
use Rattle.reading.specs.Moves.{end}
use Rattle.reading.specs.Readings.{Aliases}
use Rattle.reader.specs.Held.{lays_move}
use Rattle.reader.specs.Onto.{candidate_is, names_after, read_on, sign_move}
use Rattle.reader.specs.Sheets.{Sheets}

-- what the whole reading comes to, where a turn goes on, ends the reading or is refused
abbrev pub goes_on : {S : Type 0} → Result Bool Refusal → Result S Refusal → S → Result S Refusal
goes_on (Ok true) rest s = rest
goes_on (Ok false) rest s = Ok s
goes_on (Err x) rest s = Err x

-- the same where a word was replaced, was not, or was one too many
abbrev pub goes_replaced : {S : Type 0} → Result Bool Refusal → Result S Refusal → Result S Refusal → Result S Refusal
goes_replaced (Ok true) rest own = rest
goes_replaced (Ok false) rest own = own
goes_replaced (Err x) rest own = Err x

-- what the whole reading comes to, where a run was passed or refused
abbrev pub passed : {X S : Type 0} → Result X Refusal → Result S Refusal → Result S Refusal
passed (Ok x) rest = rest
passed (Err e) rest = Err e

-- a word ends before the next symbol, or at the end, that may be replaced
abbrev pub candidate_next : Option Symbol → Control → Bool
candidate_next None c = named false c
candidate_next (Some x) c = candidate_is x.sign c

-- what falls with each turn: a replacement adds at most 65 symbols
abbrev pub still : ℕ → List Symbol → ℕ
still left ss = 66 * left + length ss

-- the place of the next symbol, or of the end e
abbrev pub place_next : ℕ → Option Symbol → ℕ
place_next e None = e
place_next e (Some x) = x.place

-- the reading of what a source still gives, onto a sheet
abbrev pub reads_from : {S : Type 0} → Sheets S → Front → Control → S → Result S Refusal
reads_from W p c s = read_on W (aliases_of p.table).named p.end p.left p.coming p.names c s

-- the next symbol's own work, or the end's, and then the rest
abbrev pub own : {S : Type 0} → Sheets S → Aliases → ℕ → ℕ → List Symbol → List (List ℕ) → Control → S → Result S Refusal
own W al e n [] ns c s = and (lays_move W e (end c) s) (λ h. Ok h.sheet)
own W al e n (x ∷ ss) ns c s = and (sign_move W x.sign x.place c s) (λ h. read_on W al e n ss (names_after x.sign ns) h.at h.sheet)

abbrev pub own_from : {S : Type 0} → Sheets S → Front → Control → S → Result S Refusal
own_from W p c s = own W (aliases_of p.table).named p.end p.left p.coming p.names c s

abbrev pub still_from : Front → ℕ
still_from p = still p.left p.coming

-- the turns that there may still be at most
abbrev pub turns_left : Bool → ℕ → ℕ
turns_left true n = n + 1
turns_left false n = 0

-- the reading of what a source still gives, onto what a sink holds
abbrev pub rest_of : {W : Type 0} (K : sink.Ghosts W) → Front → Control → W → Result K.Sheet Refusal
rest_of K p c o = reads_from K.writes p c (K.sheet o)

abbrev pub own_rest_of : {W : Type 0} (K : sink.Ghosts W) → Front → Control → W → Result K.Sheet Refusal
own_rest_of K p c o = own_from K.writes p c (K.sheet o)

-- fewer symbols are to come
abbrev pub IsFewer : Front → Front → Type 0
IsFewer p q = still_from q < still_from p

-- from p, c and o a turn goes on at q, d and u, ends the reading or is refused
pub record Turns {W : Type 0} (K : sink.Ghosts W) (p : Front) (c : Control) (o : W) (r : Result Bool Refusal) (q : Front) (d : Control) (u : W) : Type 0 where
  pub goes : goes_on r (rest_of K q d u) (K.sheet u) ≡ rest_of K p c o
  pub falls : r ≡ Ok true → IsFewer p q

-- from p, c and o what is passed over leaves the same to read at q, d and u, and no more of it
pub record Passes {W : Type 0} (K : sink.Ghosts W) (p : Front) (c : Control) (o : W) (r : Result Bool Refusal) (q : Front) (d : Control) (u : W) : Type 0 where
  pub goes : passed r (rest_of K q d u) ≡ rest_of K p c o
  pub falls : still_from q ≤ still_from p
  pub fewer : r ≡ Ok true → IsFewer p q
