-- A reader of whose acts less is told, and the reading of which the places are left out. Assumes nothing.
use Rattle.std.specs.Prelude.{ℕ, List, [], ◌∷◌, ◌++◌}
use Rattle.basics.specs.declared.refusal.Reason.{Reason}
use Rattle.source.specs.declared.symbol.Symbol.{Symbol}
use Rattle.reading.specs.declared.act.Fault.{Fault}
use Rattle.reading.specs.States.{Control, fresh}
use Rattle.reading.specs.Readings.{Turn, goes, fails, Reader, Aliases, Event, act, hole, Ending, ended, refused, Reading, read}
use Rattle.reading.specs.Items.{shell, Written, writes, signs, items, Item}

-- what is told of each act
abbrev pub told : {A B : Type 0} → (A → List B) → List A → List B
told f [] = []
told f (a ∷ out) = f a ++ told f out

-- the same of a turn, of whose fault g is told
abbrev pub of_turn : {C A B F G : Type 0} → (A → List B) → (F → G) → Turn C A F → Turn C B G
of_turn f g (goes out c) = goes (told f out) c
of_turn f g (fails out x) = fails (told f out) (g x)

abbrev pub telling : {C A B F G : Type 0} → (A → List B) → (F → G) → Reader C A F → Reader C B G
telling f g R = record {
  byte = λ b c. of_turn f g (R.byte b c);
  hole = λ c. of_turn f g (R.hole c);
  alias_end = λ c. of_turn f g (R.alias_end c);
  end = λ c. of_turn f g (R.end c);
  name_before = R.name_before;
  name = R.name;
  without_word = R.without_word;
  forget = told f R.forget;
  too_many = g R.too_many;
}

abbrev pub reason_of : Fault → Reason
reason_of f = f.reason

-- the shell's reader, places apart
abbrev pub unplaced : Reader Control Written Reason
unplaced = telling writes reason_of shell

-- the reading of symbols, places apart, under the aliases and with at most n replacements
abbrev pub reading_of : Aliases → ℕ → List Symbol → Reading Written Reason
reading_of al n ss = read al unplaced n (signs ss) [] fresh

abbrev pub items_of : Reading Written Reason → List Item
items_of r = items [] r.events

-- what is left of a placed reading without its places

abbrev pub each : {B D : Type 0} → (B → D) → List B → List D
each f [] = []
each f (b ∷ bs) = f b ∷ each f bs

abbrev pub strip_events : {B D : Type 0} → (B → D) → List (Event B) → List (Event D)
strip_events f [] = []
strip_events f (act b ∷ xs) = act (f b) ∷ strip_events f xs
strip_events f (hole d ∷ xs) = hole d ∷ strip_events f xs

abbrev pub strip_ending : {E F : Type 0} → (E → F) → Ending E → Ending F
strip_ending g ended = ended
strip_ending g (refused e) = refused (g e)

abbrev pub strip : {B D E F : Type 0} → (B → D) → (E → F) → Reading B E → Reading D F
strip f g r = record { events = strip_events f r.events; ending = strip_ending g r.ending }
