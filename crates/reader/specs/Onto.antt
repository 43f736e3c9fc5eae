-- A text read onto a sheet: what the reader comes to, written as it goes. Assumes nothing.
use Rattle.std.specs.Prelude.{ℕ, zero, suc, Bool, false, cond, ◌&&◌, List, [], ◌∷◌, Some, None, Ok, Err, Option, Result}
use Rattle.basics.specs.Checks.{refusal}
use Rattle.basics.specs.declared.refusal.Refusal.{Refusal}
use Rattle.basics.specs.declared.refusal.Reason.TheVariants.{TooManyReplacements}
use Rattle.source.specs.declared.symbol.Sign.{Sign}
use Rattle.source.specs.declared.symbol.Sign.TheVariants.{Byte, Hole, AliasEnd}
use Rattle.source.specs.declared.symbol.Symbol.{Symbol}
use Rattle.source.specs.Symbols.{aliased}
use Rattle.source.specs.Replacing.{outer, stands_for}
use Rattle.reading.specs.declared.act.Act.TheVariants as act
use Rattle.reading.specs.Holes.{hole}
use Rattle.tokens.specs.Bytes.{class_of, ends_word, redirects}
use Rattle.reading.specs.Laid.{Held, held, and}
use Rattle.reading.specs.Moves.{byte, alias_end, end, name, named, without_word}
use Rattle.reading.specs.Readings.{Aliases}
use Rattle.reading.specs.States.{Control}
use Rattle.reader.specs.Held.{lays_move}
use Rattle.reader.specs.Sheets.{Sheets}

-- a word ends before the symbol that may be replaced
abbrev pub candidate_is : Sign → Control → Bool
candidate_is (Byte b) c = ends_word (class_of b) && named (redirects (class_of b)) c
candidate_is (Hole h) c = false
candidate_is AliasEnd c = named false c

-- what a symbol does by itself
abbrev pub sign_move : {S : Type 0} → Sheets S → Sign → ℕ → Control → S → Result (Held Control S) Refusal
sign_move W (Byte b) p c s = lays_move W p (byte b c) s
sign_move W (Hole d) p c s = and (lays_move W p (hole c) s) (λ h. and (W.filled d h.sheet) (λ t. Ok (held h.at t)))
sign_move W AliasEnd p c s = lays_move W p (alias_end c) s

-- the names of the aliases whose ends are still to come after a symbol
abbrev pub names_after : Sign → List (List ℕ) → List (List ℕ)
names_after (Byte b) ns = ns
names_after (Hole h) ns = ns
names_after AliasEnd ns = outer ns

module _ {S : Type 0} (W : Sheets S) (al : Aliases) where
  abbrev pub Answer : Type 0
  Answer = Result S Refusal

  -- the word, if any, that may be replaced where a symbol comes
  abbrev pub candidate : Sign → Control → Option (List ℕ)
  candidate x c = cond (candidate_is x c) (Some c.at.word.kept) None

  -- the replaced word and its value, or else the symbol's own work
  abbrev pub or_replaced : List (List ℕ) → Option (List ℕ) → (List ℕ → List ℕ → Answer) → Answer → Answer
  or_replaced ns None put own = own
  or_replaced ns (Some w) put own = elim (stands_for al ns w) as (λ _. Answer) [ None ↦ own | Some v ↦ put w v ]

  -- the reading up to the next replaced word; `put` reads on with that word's value, at the place of the symbol before which it ended
  module _ (e : ℕ) (put : List Symbol → ℕ → List (List ℕ) → Control → S → List ℕ → List ℕ → Answer) where
    abbrev pub on_to : List Symbol → List (List ℕ) → Control → S → Answer
    on_to [] ns c s = or_replaced ns (name false c) (put [] e ns c s) (and (lays_move W e (end c) s) (λ h. Ok h.sheet))
    on_to (x ∷ ss) ns c s =
        or_replaced ns (candidate x.sign c) (put (x ∷ ss) x.place ns c s) (and (sign_move W x.sign x.place c s) (λ h. on_to ss (names_after x.sign ns) h.at h.sheet))

  -- the reading of symbols that end at e, with at most n replacements
  unfoldable pub read_on : ℕ → ℕ → List Symbol → List (List ℕ) → Control → S → Answer
  read_on e zero ss ns c s = on_to e (λ ts p ms d t w v. Err (refusal TooManyReplacements (W.word t))) ss ns c s
  read_on e (suc n) ss ns c s =
      on_to e (λ ts p ms d t w v. and (W.written act.Forget p t) (λ u. read_on e n (aliased v (W.word t) ts) (w ∷ ms) (without_word d) u)) ss ns c s
