-- A reading without fault meets each hole of its text. Assumes nothing.
use Rattle.std.proofs.Common.{◌≡◌, ℕ, zero, suc, List, [], ◌∷◌, ◌++◌, Some, None, Option, refl, ap, ◌∙◌}
use Rattle.basics.specs.declared.refusal.Refusal.{Refusal}
use Rattle.source.specs.declared.symbol.Sign.{Sign}
use Rattle.source.specs.declared.symbol.Sign.TheVariants.{Byte, Hole, AliasEnd}
use Rattle.source.specs.declared.symbol.Symbol.{Symbol}
use Rattle.source.specs.Symbols.{symbol, bytes_at, aliased}
use Rattle.source.specs.Replacing.{outer}
use Rattle.reading.specs.Readings.{Turn, goes, fails, Reader, Aliases, Event, hole, ended, Reading, acts, first, only, Replaced, replaced, or_replaced}
use Rattle.reading.specs.Placed.{Placing, perform, faulty, turn_at, replacing_at, sign_at, placed_to, placed}
use Rattle.reading.specs.Listed.{Entry}
use Rattle.listing.specs.Laying.{ending}
use Rattle.listing.specs.Masks.{with_hole}
use Rattle.listing.specs.Checking.{holes_read, holes_in}

-- the reading meets the holes of the symbols, unless it is refused
abbrev Meets : Reading Entry Refusal → List Symbol → Type 0
Meets r ss = (m : ℕ) → ending r.ending (holes_read r.events m) ≡ ending r.ending (holes_in ss m)

behind_acts : (bs : List Entry) (xs : List (Event Entry)) (m : ℕ) → holes_read (acts bs ++ xs) m ≡ holes_read xs m
behind_acts [] xs m = refl
behind_acts (b ∷ bs) xs m = behind_acts bs xs m

after_acts : (bs : List Entry) (r : Reading Entry Refusal) (ss : List Symbol) → Meets r ss → Meets (first (acts bs) r) ss
after_acts bs r ss h m = ap (λ n. ending r.ending n) (behind_acts bs r.events m) ∙ h m

-- a value has no hole
past_bytes : (v : List ℕ) (p : ℕ) (ss : List Symbol) (m : ℕ) → holes_in (bytes_at v p ss) m ≡ holes_in ss m
past_bytes [] p ss m = refl
past_bytes (b ∷ v) p ss m = past_bytes v p ss m

meets_either : (o : Option Replaced) (again : Replaced → Reading Entry Refusal) (own : Reading Entry Refusal) (ss : List Symbol) → ((x : Replaced) → Meets (again x) ss) → Meets own ss → Meets (or_replaced o again own) ss
meets_either None again own ss h g = g
meets_either (Some x) again own ss h g = h x

module _ {A F P : Type 0} (T : Placing A Entry F Refusal P) where
  meets_performed : (out : List A) (p : ℕ) (r : P) (k : P → Reading Entry Refusal) (ss : List Symbol) → ((q : P) → Meets (k q) ss) → Meets (perform T out p r k) ss
  meets_performed [] p r k ss h = h r
  meets_performed (a ∷ out) p r k ss h = after_acts (T.gives a p r) (perform T out p (T.notes a p r) k) ss (meets_performed out p (T.notes a p r) k ss h)

  meets_turned : {C : Type 0} (t : Turn C A F) (p : ℕ) (r : P) (k : C → P → Reading Entry Refusal) (ss : List Symbol) → ((c : C) (q : P) → Meets (k c q) ss) → Meets (turn_at T t p r k) ss
  meets_turned (goes out c) p r k ss h = meets_performed out p r (λ q. k c q) ss (h c)
  meets_turned (fails out f) p r k ss h = meets_performed out p r (λ q. faulty T f p q) ss (λ q m. refl)

  module _ {C : Type 0} (al : Aliases) (R : Reader C A F) (again : List Symbol → List (List ℕ) → C → P → Reading Entry Refusal) (later : (ss : List Symbol) (ns : List (List ℕ)) (c : C) (r : P) → Meets (again ss ns c r) ss) where
    meets_replacing : (ss : List Symbol) (p : ℕ) (ns : List (List ℕ)) (c : C) (r : P) (x : Replaced) → Meets (replacing_at T al R again ss p ns c r x) ss
    meets_replacing ss p ns c r x =
        meets_performed R.forget p r (λ q. again (aliased x.value (T.word q) ss) (x.name ∷ ns) (R.without_word c) q) ss
        (λ q m. later (aliased x.value (T.word q) ss) (x.name ∷ ns) (R.without_word c) q m
        ∙ ap (λ n. ending (again (aliased x.value (T.word q) ss) (x.name ∷ ns) (R.without_word c) q).ending n) (past_bytes x.value (T.word q) (symbol AliasEnd (T.word q) ∷ ss) m))

    meets_sign : (g : Sign) (p : ℕ) (ss : List Symbol) (ns : List (List ℕ)) (c : C) (r : P) (put : Replaced → Reading Entry Refusal) (k : List (List ℕ) → C → P → Reading Entry Refusal)
        → ((x : Replaced) → Meets (put x) (symbol g p ∷ ss)) → ((ms : List (List ℕ)) (d : C) (q : P) → Meets (k ms d q) ss) → Meets (sign_at T al R again g p ns c r put k) (symbol g p ∷ ss)
    meets_sign (Byte b) p ss ns c r put k h g = meets_either (replaced al ns (R.name_before b c)) put (turn_at T (R.byte b c) p r (λ d q. k ns d q)) (symbol (Byte b) p ∷ ss) h (meets_turned (R.byte b c) p r (λ d q. k ns d q) (symbol (Byte b) p ∷ ss) (λ d q. g ns d q))
    meets_sign (Hole d) p ss ns c r put k h g = meets_turned (R.hole c) p r (λ e q. first (hole d ∷ []) (k ns e q)) (symbol (Hole d) p ∷ ss) (λ e q m. g ns e q (with_hole d m))
    meets_sign AliasEnd p ss ns c r put k h g = meets_either (replaced al ns (R.name c)) put (turn_at T (R.alias_end c) p r (λ d q. k (outer ns) d q)) (symbol AliasEnd p ∷ ss) h (meets_turned (R.alias_end c) p r (λ d q. k (outer ns) d q) (symbol AliasEnd p ∷ ss) (λ d q. g (outer ns) d q))

    meets_to : (ss : List Symbol) (e : ℕ) (ns : List (List ℕ)) (c : C) (r : P) → Meets (placed_to T al R again ss e ns c r) ss
    meets_to [] e ns c r = meets_either (replaced al ns (R.name c)) (replacing_at T al R again [] e ns c r) (turn_at T (R.end c) e r (λ d q. only [] ended)) [] (meets_replacing [] e ns c r) (meets_turned (R.end c) e r (λ d q. only [] ended) [] (λ d q m. refl))
    meets_to (s ∷ ss) e ns c r = meets_sign s.sign s.place ss ns c r (replacing_at T al R again (s ∷ ss) s.place ns c r) (λ ms d q. placed_to T al R again ss e ms d q) (meets_replacing (s ∷ ss) s.place ns c r) (λ ms d q. meets_to ss e ms d q)

  pub meets : {C : Type 0} (al : Aliases) (R : Reader C A F) (n : ℕ) (ss : List Symbol) (e : ℕ) (ns : List (List ℕ)) (c : C) (r : P) → Meets (placed T al R n ss e ns c r) ss
  unfolding placed
  meets al R zero ss e ns c r = meets_to al R (λ _ _ _ q. faulty T R.too_many e q) (λ ss ns c r m. refl) ss e ns c r
  meets al R (suc n) ss e ns c r = meets_to al R (λ ts ms d q. placed T al R n ts e ms d q) (λ ts ms d q. meets al R n ts e ms d q) ss e ns c r
