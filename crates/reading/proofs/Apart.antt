-- A placed reading without its places is the reading of the signs. Assumes nothing.
use Rattle.std.proofs.Common.{◌≡◌, ℕ, zero, suc, List, [], ◌∷◌, ◌++◌, Some, None, Option, sym, refl, ap, ◌∙◌, append_assoc}
use Rattle.std.proofs.lemmas.List.{append-nil}
use Rattle.source.specs.declared.symbol.Sign.{Sign}
use Rattle.source.specs.declared.symbol.Sign.TheVariants.{Byte, Hole, AliasEnd}
use Rattle.source.specs.declared.symbol.Symbol.{Symbol}
use Rattle.source.specs.Symbols.{aliased, bytes_at, symbol}
use Rattle.source.specs.Replacing.{outer}
use Rattle.reading.specs.Readings.{Turn, goes, fails, Reader, Aliases, Event, act, hole, ended, refused, Reading, acts, first, only, ahead, value_ahead, Replaced, replaced, at_turn, or_replaced, replacing, read_to, read}
use Rattle.reading.specs.Placed.{Placing, perform, faulty, turn_at, replacing_at, sign_at, placed_to, placed}
use Rattle.reading.specs.Items.{signs}
use Rattle.reading.specs.Unplaced.{told, of_turn, telling, each, strip_events, strip_ending, strip}

acts_join : {D : Type 0} (a b : List D) → acts (a ++ b) ≡ acts a ++ acts b
acts_join [] b = refl
acts_join (x ∷ a) b = ap (λ l. act x ∷ l) (acts_join a b)

signs_ahead : (v : List ℕ) (k : ℕ) (ss : List Symbol) → signs (bytes_at v k ss) ≡ ahead v (signs ss)
signs_ahead [] k ss = refl
signs_ahead (b ∷ v) k ss = ap (λ l. Byte b ∷ l) (signs_ahead v k ss)

module _ (C A B D F G E P : Type 0) (T : Placing A B F E P) (al : Aliases) (R : Reader C A F) (says : A → List D) (blames : F → G) (f : B → D) (g : E → G)
    (gives-says : (a : A) (p : ℕ) (r : P) → each f (T.gives a p r) ≡ says a)
    (refuses : (x : F) (p : ℕ) (r : P) → g (T.refusal x p r) ≡ blames x) where
  strip_acts : (bs : List B) (xs : List (Event B)) → strip_events f (acts bs ++ xs) ≡ acts (each f bs) ++ strip_events f xs
  strip_acts [] xs = refl
  strip_acts (b ∷ bs) xs = ap (λ l. act (f b) ∷ l) (strip_acts bs xs)

  performs : (out : List A) (p : ℕ) (r : P) (k : P → Reading B E) (h : Reading D G) → ((q : P) → strip f g (k q) ≡ h) → strip f g (perform T out p r k) ≡ first (acts (told says out)) h
  performs [] p r k h e = e r
  performs (a ∷ out) p r k h e =
      ap (λ l. record { events = l; ending = strip_ending g (perform T out p (T.notes a p r) k).ending }) (strip_acts (T.gives a p r) (perform T out p (T.notes a p r) k).events ∙ ap (λ l. acts l ++ strip_events f (perform T out p (T.notes a p r) k).events) (gives-says a p r))
      ∙ ap (first (acts (says a))) (performs out p (T.notes a p r) k h e)
      ∙ ap (λ l. record { events = l; ending = h.ending }) (sym (append_assoc (acts (says a)) (acts (told says out)) h.events) ∙ ap (λ l. l ++ h.events) (sym (acts_join (says a) (told says out))))

  turn_apart : (t : Turn C A F) (p : ℕ) (r : P) (k : C → P → Reading B E) (k' : C → Reading D G) → ((c : C) (q : P) → strip f g (k c q) ≡ k' c) → strip f g (turn_at T t p r k) ≡ at_turn (of_turn says blames t) k'
  turn_apart (goes out c) p r k k' h = performs out p r (λ q. k c q) (k' c) (λ q. h c q)
  turn_apart (fails out x) p r k k' h =
      performs out p r (λ q. faulty T x p q) (only [] (refused (blames x))) (λ q. ap (λ y. only [] (refused y)) (refuses x p q))
      ∙ ap (λ l. record { events = l; ending = refused (blames x) }) (append-nil (acts (told says out)))

  or_apart : (x : Option Replaced) (put : Replaced → Reading B E) (put' : Replaced → Reading D G) (r : Reading B E) (r' : Reading D G) → ((y : Replaced) → strip f g (put y) ≡ put' y) → strip f g r ≡ r' → strip f g (or_replaced x put r) ≡ or_replaced x put' r'
  or_apart None put put' r r' e h = h
  or_apart (Some y) put put' r r' e h = e y

  module _ (again : List Symbol → List (List ℕ) → C → P → Reading B E) (again' : List Sign → List (List ℕ) → C → Reading D G) (same : (ss : List Symbol) (ns : List (List ℕ)) (c : C) (r : P) → strip f g (again ss ns c r) ≡ again' (signs ss) ns c) where
    put_apart : (ss : List Symbol) (p : ℕ) (ns : List (List ℕ)) (c : C) (r : P) (x : Replaced) → strip f g (replacing_at T al R again ss p ns c r x) ≡ replacing al (telling says blames R) again' (signs ss) ns c x
    put_apart ss p ns c r x =
        performs R.forget p r (λ q. again (aliased x.value (T.word q) ss) (x.name ∷ ns) (R.without_word c) q) (again' (value_ahead x.value (signs ss)) (x.name ∷ ns) (R.without_word c))
        (λ q. same (aliased x.value (T.word q) ss) (x.name ∷ ns) (R.without_word c) q ∙ ap (λ l. again' l (x.name ∷ ns) (R.without_word c)) (signs_ahead x.value (T.word q) (symbol AliasEnd (T.word q) ∷ ss)))

    abbrev read_on : List Sign → List (List ℕ) → C → Reading D G
    read_on ss ns c = read_to al (telling says blames R) again' ss ns c

    sign_apart : (s : Sign) (p : ℕ) (ss : List Symbol) (ns : List (List ℕ)) (c : C) (r : P) (k : List (List ℕ) → C → P → Reading B E)
        → ((ms : List (List ℕ)) (d : C) (q : P) → strip f g (k ms d q) ≡ read_on (signs ss) ms d)
        → strip f g (sign_at T al R again s p ns c r (replacing_at T al R again (symbol s p ∷ ss) p ns c r) k) ≡ read_on (s ∷ signs ss) ns c
    sign_apart (Byte b) p ss ns c r k h =
        or_apart (replaced al ns (R.name_before b c)) (replacing_at T al R again (symbol (Byte b) p ∷ ss) p ns c r) (replacing al (telling says blames R) again' (Byte b ∷ signs ss) ns c) (turn_at T (R.byte b c) p r (λ d q. k ns d q)) (at_turn (of_turn says blames (R.byte b c)) (λ d. read_on (signs ss) ns d))
        (put_apart (symbol (Byte b) p ∷ ss) p ns c r) (turn_apart (R.byte b c) p r (λ d q. k ns d q) (λ d. read_on (signs ss) ns d) (λ d q. h ns d q))
    sign_apart (Hole d) p ss ns c r k h =
        turn_apart (R.hole c) p r (λ e q. first (hole d ∷ []) (k ns e q)) (λ e. first (hole d ∷ []) (read_on (signs ss) ns e)) (λ e q. ap (first (hole d ∷ [])) (h ns e q))
    sign_apart AliasEnd p ss ns c r k h =
        or_apart (replaced al ns (R.name c)) (replacing_at T al R again (symbol AliasEnd p ∷ ss) p ns c r) (replacing al (telling says blames R) again' (AliasEnd ∷ signs ss) ns c) (turn_at T (R.alias_end c) p r (λ d q. k (outer ns) d q)) (at_turn (of_turn says blames (R.alias_end c)) (λ d. read_on (signs ss) (outer ns) d))
        (put_apart (symbol AliasEnd p ∷ ss) p ns c r) (turn_apart (R.alias_end c) p r (λ d q. k (outer ns) d q) (λ d. read_on (signs ss) (outer ns) d) (λ d q. h (outer ns) d q))

    placed_to_apart : (ss : List Symbol) (e : ℕ) (ns : List (List ℕ)) (c : C) (r : P) → strip f g (placed_to T al R again ss e ns c r) ≡ read_on (signs ss) ns c
    placed_to_apart [] e ns c r =
        or_apart (replaced al ns (R.name c)) (replacing_at T al R again [] e ns c r) (replacing al (telling says blames R) again' [] ns c) (turn_at T (R.end c) e r (λ d q. only [] ended)) (at_turn (of_turn says blames (R.end c)) (λ d. only [] ended))
        (put_apart [] e ns c r) (turn_apart (R.end c) e r (λ d q. only [] ended) (λ d. only [] ended) (λ d q. refl))
    placed_to_apart (s ∷ ss) e ns c r = sign_apart s.sign s.place ss ns c r (λ ms d q. placed_to T al R again ss e ms d q) (λ ms d q. placed_to_apart ss e ms d q)

  pub placed_apart : (n : ℕ) (ss : List Symbol) (e : ℕ) (ns : List (List ℕ)) (c : C) (r : P) → strip f g (placed T al R n ss e ns c r) ≡ read al (telling says blames R) n (signs ss) ns c
  unfolding read placed
  placed_apart zero ss e ns c r = placed_to_apart (λ _ _ _ q. faulty T R.too_many e q) (λ _ _ _. only [] (refused (blames R.too_many))) (λ ts ms d q. ap (λ y. only [] (refused y)) (refuses R.too_many e q)) ss e ns c r
  placed_apart (suc n) ss e ns c r = placed_to_apart (λ ts ms d q. placed T al R n ts e ms d q) (λ ts ms d. read al (telling says blames R) n ts ms d) (λ ts ms d q. placed_apart n ts e ms d q) ss e ns c r
