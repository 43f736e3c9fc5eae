-- Any reader, and what it reads. Assumes nothing.
use Rattle.std.specs.Prelude.{ℕ, zero, suc, List, [], ◌∷◌, ◌++◌, Some, None, Option}
use Rattle.source.specs.declared.symbol.Sign.{Sign}
use Rattle.source.specs.declared.symbol.Sign.TheVariants.{Byte, Hole, AliasEnd}
use Rattle.source.specs.Replacing.{stands_for, outer}

-- what a symbol does: acts (A), and the control (C) after them or a fault (F)
pub data Turn (C A F : Type 0) : Type 0 where
  goes : List A → C → Turn C A F
  fails : List A → F → Turn C A F

-- A reader: what a byte, a hole, the end of an alias's value and the end of the text do; the word, if any, that may be replaced where a byte comes, and
-- where a value or the text ends; the control without that word, and what is said of its letters; and the fault of one replacement too many.
-- It does not see a hole's digit.
pub record Reader (C A F : Type 0) : Type 0 where
  pub byte : ℕ → C → Turn C A F
  pub hole : C → Turn C A F
  pub alias_end : C → Turn C A F
  pub end : C → Turn C A F
  pub name_before : ℕ → C → Option (List ℕ)
  pub name : C → Option (List ℕ)
  pub without_word : C → C
  pub forget : List A
  pub too_many : F

-- the aliases: a value or none for each name
abbrev pub Aliases : Type 0
Aliases = List ℕ → Option (List ℕ)

-- what is read: an act, or a hole's letter, which no act is
pub data Event (A : Type 0) : Type 0 where
  act : A → Event A
  hole : ℕ → Event A

pub data Ending (F : Type 0) : Type 0 where
  ended : Ending F
  refused : F → Ending F

-- all that is read, in order, and how it ends
pub record Reading (A F : Type 0) : Type 0 where
  pub events : List (Event A)
  pub ending : Ending F

abbrev pub acts : {A : Type 0} → List A → List (Event A)
acts [] = []
acts (a ∷ out) = act a ∷ acts out

-- these events first
abbrev pub first : {A F : Type 0} → List (Event A) → Reading A F → Reading A F
first xs r = record { events = xs ++ r.events; ending = r.ending }

abbrev pub only : {A F : Type 0} → List A → Ending F → Reading A F
only out e = record { events = acts out; ending = e }

-- bytes in front of what is to come
abbrev pub ahead : List ℕ → List Sign → List Sign
ahead [] ss = ss
ahead (b ∷ bs) ss = Byte b ∷ ahead bs ss

-- an alias's value and its end in front of what is to come
abbrev pub value_ahead : List ℕ → List Sign → List Sign
value_ahead v ss = ahead v (AliasEnd ∷ ss)

pub record Replaced : Type 0 where
  pub name : List ℕ
  pub value : List ℕ

abbrev pub valued : List ℕ → Option (List ℕ) → Option Replaced
valued w None = None
valued w (Some v) = Some (record { name = w; value = v })

-- the word is replaced if it is an alias whose end is not still to come
abbrev pub replaced : Aliases → List (List ℕ) → Option (List ℕ) → Option Replaced
replaced al open-names None = None
replaced al open-names (Some w) = valued w (stands_for al open-names w)

abbrev pub at_turn : {C A F : Type 0} → Turn C A F → (C → Reading A F) → Reading A F
at_turn (goes out c) k = first (acts out) (k c)
at_turn (fails out f) k = only out (refused f)

-- the hole's letter comes behind what is settled before it
abbrev pub at_hole : {C A F : Type 0} → ℕ → Turn C A F → (C → Reading A F) → Reading A F
at_hole d t k = at_turn t (λ c. first (hole d ∷ []) (k c))

abbrev pub or_replaced : {A F : Type 0} → Option Replaced → (Replaced → Reading A F) → Reading A F → Reading A F
or_replaced None again r = r
or_replaced (Some x) again r = again x

-- the reading up to the next replaced word; `again` reads on from a replacement
module _ {C A F : Type 0} (al : Aliases) (R : Reader C A F) (again : List Sign → List (List ℕ) → C → Reading A F) where
  abbrev pub replacing : List Sign → List (List ℕ) → C → Replaced → Reading A F
  replacing ss open-names c x = first (acts R.forget) (again (value_ahead x.value ss) (x.name ∷ open-names) (R.without_word c))

  abbrev pub read_to : List Sign → List (List ℕ) → C → Reading A F
  read_to [] ns c = or_replaced (replaced al ns (R.name c)) (replacing [] ns c) (at_turn (R.end c) (λ d. only [] ended))
  read_to (Byte b ∷ ss) ns c = or_replaced (replaced al ns (R.name_before b c)) (replacing (Byte b ∷ ss) ns c) (at_turn (R.byte b c) (λ d. read_to ss ns d))
  read_to (Hole d ∷ ss) ns c = at_hole d (R.hole c) (λ e. read_to ss ns e)
  read_to (AliasEnd ∷ ss) ns c = or_replaced (replaced al ns (R.name c)) (replacing (AliasEnd ∷ ss) ns c) (at_turn (R.alias_end c) (λ d. read_to ss (outer ns) d))

-- the reading of ss from c with at most n replacements, where the aliases named ns have their ends still to come
unfoldable pub read : {C A F : Type 0} → Aliases → Reader C A F → ℕ → List Sign → List (List ℕ) → C → Reading A F
read al R zero ss ns c = read_to al R (λ _ _ _. only [] (refused R.too_many)) ss ns c
read al R (suc n) ss ns c = read_to al R (λ ts ms d. read al R n ts ms d) ss ns c
