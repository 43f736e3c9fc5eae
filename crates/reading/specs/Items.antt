-- What the shell's reader reads, and its items, apart from places. Assumes nothing.
use Rattle.std.specs.Prelude.{ℕ, Bool, false, List, [], ◌∷◌, ◌++◌}
use Rattle.basics.specs.declared.refusal.Reason.TheVariants.{TooManyReplacements}
use Rattle.source.specs.declared.symbol.Sign.{Sign}
use Rattle.source.specs.declared.symbol.Symbol.{Symbol}
use Rattle.tokens.specs.declared.letter.Letter.{Letter}
use Rattle.commands.specs.declared.item.Kind.{Kind}
use Rattle.reading.specs.declared.act.Act.{Act}
use Rattle.reading.specs.declared.act.Act.TheVariants as does
use Rattle.reading.specs.declared.act.At.TheVariants as at
use Rattle.reading.specs.declared.act.Fault.{Fault}
use Rattle.reading.specs.States.{Control}
use Rattle.reading.specs.Steps.{Outcome, went, failed, outcome, Move, fault}
use Rattle.reading.specs.Moves.{byte, alias_end, end, name, name_before, without_word}
use Rattle.reading.specs.Holes.{hole}
use Rattle.reading.specs.Readings as readings
use Rattle.reading.specs.Readings.{Turn, goes, fails, Reader, Aliases, Event, act, Reading, read}

abbrev pub turned : Bool → Outcome → Turn Control Act Fault
turned e (went out i) = goes out (record { escape = e; at = i })
turned e (failed out f) = fails out f

abbrev pub turn : Move → Turn Control Act Fault
turn m = turned m.escape (outcome m.step)

-- the shell's reader
abbrev pub shell : Reader Control Act Fault
shell = record {
  byte = λ b c. turn (byte b c);
  hole = λ c. turn (hole c);
  alias_end = λ c. turn (alias_end c);
  end = λ c. turn (end c);
  name_before = name_before;
  name = λ c. name false c;
  without_word = without_word;
  forget = does.Forget ∷ [];
  too_many = fault TooManyReplacements at.First;
}

-- what an act writes: a letter, an item of a kind at a depth, or that the letters since the last item are a replaced word's
pub data Written : Type 0 where
  letter : Letter → Written
  item : Kind → ℕ → Written
  forget : Written

abbrev pub writes : Act → List Written
writes does.WordHere = []
writes does.WordAtBackslash = []
writes does.WordAtDollar = []
writes does.BackslashHere = []
writes does.DollarHere = []
writes does.OperatorHere = []
writes does.BodyNext = []
writes (does.Letter l) = letter l ∷ []
writes (does.Item k n a) = item k n ∷ []
writes does.Forget = forget ∷ []

-- a letter of an item: one that stands, or a hole's
pub data ItemLetter : Type 0 where
  known : Letter → ItemLetter
  filled_by : ℕ → ItemLetter

pub record Item : Type 0 where
  pub kind : Kind
  pub depth : ℕ
  pub letters : List ItemLetter

-- each item with the letters since the one before it
abbrev pub items : List ItemLetter → List (Event Written) → List Item
items ls [] = []
items ls (act (letter l) ∷ xs) = items (ls ++ (known l ∷ [])) xs
items ls (act (item k n) ∷ xs) = record { kind = k; depth = n; letters = ls } ∷ items [] xs
items ls (act forget ∷ xs) = items [] xs
items ls (readings.hole d ∷ xs) = items (ls ++ (filled_by d ∷ [])) xs

abbrev pub signs : List Symbol → List Sign
signs [] = []
signs (s ∷ ss) = s.sign ∷ signs ss
