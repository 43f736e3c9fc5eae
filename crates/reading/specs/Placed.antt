-- A reading with its places, which control never sees. Assumes nothing.
use Rattle.std.specs.Prelude.{ℕ, zero, suc, List, [], ◌∷◌}
use Rattle.source.specs.declared.symbol.Sign.{Sign}
use Rattle.source.specs.declared.symbol.Sign.TheVariants.{Byte, Hole, AliasEnd}
use Rattle.source.specs.declared.symbol.Symbol.{Symbol}
use Rattle.source.specs.Symbols.{aliased}
use Rattle.source.specs.Replacing.{outer}
use Rattle.reading.specs.Readings.{Turn, goes, fails, Reader, Aliases, hole, ended, refused, Reading, acts, first, only, Replaced, replaced, or_replaced}

-- places kept (P): what an act at a place notes of them and what it writes (B), the refusal (E) that a fault comes to, and the place of the word
pub record Placing (A B F E P : Type 0) : Type 0 where
  pub notes : A → ℕ → P → P
  pub gives : A → ℕ → P → List B
  pub refusal : F → ℕ → P → E
  pub word : P → ℕ

-- acts at the place p, one after another
abbrev pub perform : {A B F E P : Type 0} → Placing A B F E P → List A → ℕ → P → (P → Reading B E) → Reading B E
perform T [] p r k = k r
perform T (a ∷ out) p r k = first (acts (T.gives a p r)) (perform T out p (T.notes a p r) k)

abbrev pub faulty : {A B F E P : Type 0} → Placing A B F E P → F → ℕ → P → Reading B E
faulty T f p r = only [] (refused (T.refusal f p r))

abbrev pub turn_at : {C A B F E P : Type 0} → Placing A B F E P → Turn C A F → ℕ → P → (C → P → Reading B E) → Reading B E
turn_at T (goes out c) p r k = perform T out p r (λ q. k c q)
turn_at T (fails out f) p r k = perform T out p r (λ q. faulty T f p q)

-- the reading of the symbols, which end at e, up to the next replaced word
module _ {C A B F E P : Type 0} (T : Placing A B F E P) (al : Aliases) (R : Reader C A F) (again : List Symbol → List (List ℕ) → C → P → Reading B E) where
  abbrev pub replacing_at : List Symbol → ℕ → List (List ℕ) → C → P → Replaced → Reading B E
  replacing_at ss p ns c r x = perform T R.forget p r (λ q. again (aliased x.value (T.word q) ss) (x.name ∷ ns) (R.without_word c) q)

  abbrev pub sign_at : Sign → ℕ → List (List ℕ) → C → P → (Replaced → Reading B E) → (List (List ℕ) → C → P → Reading B E) → Reading B E
  sign_at (Byte b) p ns c r put k = or_replaced (replaced al ns (R.name_before b c)) put (turn_at T (R.byte b c) p r (λ d q. k ns d q))
  sign_at (Hole d) p ns c r put k = turn_at T (R.hole c) p r (λ e q. first (hole d ∷ []) (k ns e q))
  sign_at AliasEnd p ns c r put k = or_replaced (replaced al ns (R.name c)) put (turn_at T (R.alias_end c) p r (λ d q. k (outer ns) d q))

  abbrev pub placed_to : List Symbol → ℕ → List (List ℕ) → C → P → Reading B E
  placed_to [] e ns c r = or_replaced (replaced al ns (R.name c)) (replacing_at [] e ns c r) (turn_at T (R.end c) e r (λ d q. only [] ended))
  placed_to (s ∷ ss) e ns c r = sign_at s.sign s.place ns c r (replacing_at (s ∷ ss) s.place ns c r) (λ ms d q. placed_to ss e ms d q)

unfoldable pub placed : {C A B F E P : Type 0} → Placing A B F E P → Aliases → Reader C A F → ℕ → List Symbol → ℕ → List (List ℕ) → C → P → Reading B E
placed T al R zero ss e ns c r = placed_to T al R (λ _ _ _ q. faulty T R.too_many e q) ss e ns c r
placed T al R (suc n) ss e ns c r = placed_to T al R (λ ts ms d q. placed T al R n ts e ms d q) ss e ns c r
