-- How a rendered script is read, by any reader that meets the laws about quotes. Assumes nothing.
use Rattle.std.proofs.Common.{◌≡◌, ℕ, zero, suc, ◌≤◌, Bool, true, false, cond, eqb, List, [], ◌∷◌, ◌++◌, Some, None, Option, sym, refl, ap, ◌∙◌, arith}
use Rattle.std.proofs.lemmas.Bool.{eqb-true}
use Rattle.basics.specs.Bytes.{newline, single_quote, backslash}
use Rattle.source.specs.declared.symbol.Sign.{Sign}
use Rattle.source.specs.declared.symbol.Sign.TheVariants.{Byte, Hole, AliasEnd}
use Rattle.quoting.specs.declared.form.State.{State}
use Rattle.quoting.specs.declared.form.State.TheVariants.{Bare, Escaped, SingleQuoted}
use Rattle.quoting.specs.declared.form.Step.TheVariants.{Passes, Delivers}
use Rattle.quoting.specs.Forms.{delivered, stepped, with_byte, LawfulForm}
use Rattle.source.specs.Replacing.{outer}
use Rattle.reading.specs.Readings.{Turn, goes, fails, Reader, Aliases, Event, act, hole, ended, refused, Reading, acts, first, only, ahead, value_ahead, Replaced, replaced, at_turn, at_hole, or_replaced, replacing, read_to, read}
use Rattle.reading.specs.Filled.{render, spelled, fill_events, fill, Accepted}
use Rattle.reading.specs.Laws.{Quotes, FormsGiveLetters, Fills}

never : {X : Type 0} (x : X) → ◌≡◌ {A = Option X} None (Some x) → ⊥
never x h = let z : ◌≡◌ {A = ℕ} 0 1 = cc in omega arith

-- what is delivered with b first
parts : (b : ℕ) (o : Option (List ℕ)) (t : List ℕ) → with_byte b o ≡ Some t → (u : List ℕ) × (o ≡ Some u) × (t ≡ b ∷ u)
parts b None t h = absurd (never t h)
parts b (Some u) t h = (u, refl, cc)

acts_more : {A : Type 0} (out : List A) (a : A) (xs : List (Event A)) → acts (out ++ (a ∷ [])) ++ xs ≡ acts out ++ (act a ∷ xs)
acts_more [] a xs = refl
acts_more (o ∷ out) a xs = ap (λ l. act o ∷ l) (acts_more out a xs)

-- a form, read in the control w that a hole leaves
module _ (C A F : Type 0) (al : Aliases) (R : Reader C A F) (q : ℕ → A) (L : Quotes R q) (again : List Sign → List (List ℕ) → C → Reading A F) (ss : List Sign) (ns : List (List ℕ)) (w : C) where
  abbrev within : State → C
  within Bare = w
  within Escaped = L.in_escape w
  within SingleQuoted = L.in_single w

  abbrev Reads : List ℕ → C → List ℕ → Type 0
  Reads bs c t = read_to al R again (ahead bs ss) ns c ≡ first (spelled q t) (read_to al R again ss ns w)

  -- a byte at which no word is replaced
  turned : (b : ℕ) (bs : List ℕ) (c d : C) (out : List A) → R.name_before b c ≡ None → R.byte b c ≡ goes out d → read_to al R again (ahead (b ∷ bs) ss) ns c ≡ first (acts out) (read_to al R again (ahead bs ss) ns d)
  turned b bs c d out n e =
      ap (λ x. or_replaced (replaced al ns x) (replacing al R again (Byte b ∷ ahead bs ss) ns c) (at_turn (R.byte b c) (λ d. read_to al R again (ahead bs ss) ns d))) n
      ∙ ap (λ x. at_turn x (λ d. read_to al R again (ahead bs ss) ns d)) e

  -- a byte delivered, from c to d
  delivering : (b : ℕ) (bs : List ℕ) (c d : C) (t : List ℕ) (o : Option (List ℕ)) → R.name_before b c ≡ None → R.byte b c ≡ goes (q b ∷ []) d → ((u : List ℕ) → o ≡ Some u → Reads bs d u) → with_byte b o ≡ Some t → Reads (b ∷ bs) c t
  delivering b bs c d t o n e k h =
      let p = parts b o t h in
      turned b bs c d (q b ∷ []) n e ∙ ap (first (act (q b) ∷ [])) (k p.0 p.1) ∙ ap (λ x. first (spelled q x) (read_to al R again ss ns w)) (sym p.2)

  -- a byte not delivered
  passing : (b m : ℕ) (bs : List ℕ) (c d : C) (t : List ℕ) → eqb b m ≡ true → R.name_before m c ≡ None → R.byte m c ≡ goes [] d → Reads bs d t → Reads (b ∷ bs) c t
  passing b m bs c d t e n f r =
      turned b bs c d [] (ap (λ x. R.name_before x c) (eqb-true b m e) ∙ n) (ap (λ x. R.byte x c) (eqb-true b m e) ∙ f) ∙ r

  module _ (home : R.hole w ≡ goes [] w) (b : ℕ) (bs : List ℕ) (ih : (s : State) (t : List ℕ) → delivered s bs ≡ Some t → Reads bs (within s) t) (t : List ℕ) where
    in_bare : (y z : Bool) → eqb b single_quote ≡ y → eqb b backslash ≡ z → stepped (cond y (Some (Passes SingleQuoted)) (cond z (Some (Passes Escaped)) None)) b (λ s. delivered s bs) ≡ Some t → Reads (b ∷ bs) w t
    in_bare true z e f h = passing b single_quote bs w (L.in_single w) t e (L.no_name_at_quote w) (L.opens w w [] home) (ih SingleQuoted t h)
    in_bare false true e f h = passing b backslash bs w (L.in_escape w) t f (L.no_name_at_backslash w) (L.escapes w w [] home) (ih Escaped t h)
    in_bare false false e f h = absurd (never t h)

    in_escaped : (y : Bool) → eqb b newline ≡ y → stepped (cond y None (Some (Delivers Bare))) b (λ s. delivered s bs) ≡ Some t → Reads (b ∷ bs) (L.in_escape w) t
    in_escaped true e h = absurd (never t h)
    in_escaped false e h = delivering b bs (L.in_escape w) w t (delivered Bare bs) (L.no_name_in_escape w b) (L.escaped w w [] home b e) (ih Bare) h

    in_single : (y : Bool) → eqb b single_quote ≡ y → stepped (cond y (Some (Passes Bare)) (Some (Delivers SingleQuoted))) b (λ s. delivered s bs) ≡ Some t → Reads (b ∷ bs) (L.in_single w) t
    in_single true e h = passing b single_quote bs (L.in_single w) w t e (L.no_name_in_single w single_quote) (L.closes w w [] home) (ih Bare t h)
    in_single false e h = delivering b bs (L.in_single w) (L.in_single w) t (delivered SingleQuoted bs) (L.no_name_in_single w b) (L.holds w w [] home b e) (ih SingleQuoted) h

    one : (s : State) → delivered s (b ∷ bs) ≡ Some t → Reads (b ∷ bs) (within s) t
    one Bare h = in_bare (eqb b single_quote) (eqb b backslash) refl refl h
    one Escaped h = in_escaped (eqb b newline) refl h
    one SingleQuoted h = in_single (eqb b single_quote) refl h

  form_reads : R.hole w ≡ goes [] w → (bs : List ℕ) (s : State) (t : List ℕ) → delivered s bs ≡ Some t → Reads bs (within s) t
  form_reads home [] Bare t h = let e : [] ≡ t = cc in ap (λ x. first (spelled q x) (read_to al R again ss ns w)) e
  form_reads home [] Escaped t h = absurd (never t h)
  form_reads home [] SingleQuoted t h = absurd (never t h)
  form_reads home (b ∷ bs) s t h = one home b bs (λ a u e. form_reads home bs a u e) t s h

  -- the same where the hole is taken in c
  module _ (c : C) (out : List A) (e : R.hole c ≡ goes out w) (t : List ℕ) where
    abbrev Fits : List ℕ → C → Type 0
    Fits bs d = read_to al R again (ahead bs ss) ns d ≡ first (acts out) (first (spelled q t) (read_to al R again ss ns w))

    home : R.hole w ≡ goes [] w
    home = L.stays c w out e

    after_escape : (b : ℕ) (bs : List ℕ) (y : Bool) → eqb b newline ≡ y → stepped (cond y None (Some (Delivers Bare))) b (λ s. delivered s bs) ≡ Some t → Fits (b ∷ bs) (L.in_escape c)
    after_escape b bs true x h = absurd (never t h)
    after_escape b bs false x h =
        let p = parts b (delivered Bare bs) t h in
        turned b bs (L.in_escape c) w (out ++ (q b ∷ [])) (L.no_name_in_escape c b) (L.escaped c w out e b x)
        ∙ ap (first (acts (out ++ (q b ∷ [])))) (form_reads home bs Bare p.0 p.1)
        ∙ ap (λ l. record { events = l; ending = (read_to al R again ss ns w).ending }) (acts_more out (q b) (spelled q p.0 ++ (read_to al R again ss ns w).events))
        ∙ ap (λ x. first (acts out) (first (spelled q x) (read_to al R again ss ns w))) (sym p.2)

    escaping : (bs : List ℕ) → delivered Escaped bs ≡ Some t → Fits bs (L.in_escape c)
    escaping [] h = absurd (never t h)
    escaping (b ∷ bs) h = after_escape b bs (eqb b newline) refl h

    first_byte : (b : ℕ) (bs : List ℕ) (y z : Bool) → eqb b single_quote ≡ y → eqb b backslash ≡ z → stepped (cond y (Some (Passes SingleQuoted)) (cond z (Some (Passes Escaped)) None)) b (λ s. delivered s bs) ≡ Some t → Fits (b ∷ bs) c
    first_byte b bs true z x f h =
        turned b bs c (L.in_single w) out (ap (λ n. R.name_before n c) (eqb-true b single_quote x) ∙ L.no_name_at_quote c) (ap (λ n. R.byte n c) (eqb-true b single_quote x) ∙ L.opens c w out e)
        ∙ ap (first (acts out)) (form_reads home bs SingleQuoted t h)
    first_byte b bs false true x f h =
        turned b bs c (L.in_escape c) [] (ap (λ n. R.name_before n c) (eqb-true b backslash f) ∙ L.no_name_at_backslash c) (ap (λ n. R.byte n c) (eqb-true b backslash f) ∙ L.escapes c w out e)
        ∙ escaping bs h
    first_byte b bs false false x f h = absurd (never t h)

    pub hole_reads : (bs : List ℕ) → LawfulForm t bs → Fits bs c
    hole_reads [] l = absurd (let z : 1 ≤ 0 = l.some in omega arith)
    hole_reads (b ∷ bs) l = first_byte b bs (eqb b single_quote) (eqb b backslash) refl refl l.reads

pub forms_give_letters : {C A F : Type 0} (R : Reader C A F) (q : ℕ → A) → Quotes R q → FormsGiveLetters R q
unfolding read
forms_give_letters {C} {A} {F} R q L al form text l zero ss ns c w out e = hole_reads C A F al R q L (λ _ _ _. only [] (refused R.too_many)) ss ns w c out e text form l
forms_give_letters {C} {A} {F} R q L al form text l (suc n) ss ns c w out e = hole_reads C A F al R q L (λ ts ms d. read al R n ts ms d) ss ns w c out e text form l

-- the readings of a template and of its script, side by side
module _ (C A F : Type 0) (al : Aliases) (R : Reader C A F) (q : ℕ → A) (L : Quotes R q) (form text : ℕ → List ℕ) (lawful : (d : ℕ) → LawfulForm (text d) (form d)) where
  abbrev Same : Reading A F → Reading A F → Type 0
  Same script template = Accepted template → script ≡ fill q text template

  filled_acts : (out : List A) (xs : List (Event A)) → fill_events q text (acts out ++ xs) ≡ acts out ++ fill_events q text xs
  filled_acts [] xs = refl
  filled_acts (a ∷ out) xs = ap (λ l. act a ∷ l) (filled_acts out xs)

  fill_acts : (out : List A) (r : Reading A F) → first (acts out) (fill q text r) ≡ fill q text (first (acts out) r)
  fill_acts out r = ap (λ l. record { events = l; ending = r.ending }) (sym (filled_acts out r.events))

  render_ahead : (bs : List ℕ) (ss : List Sign) → render form (ahead bs ss) ≡ ahead bs (render form ss)
  render_ahead [] ss = refl
  render_ahead (b ∷ bs) ss = ap (λ l. Byte b ∷ l) (render_ahead bs ss)

  turn_same : (t : Turn C A F) (k l : C → Reading A F) → ((c : C) → Same (k c) (l c)) → Same (at_turn t k) (at_turn t l)
  turn_same (goes out c) k l s ok = ap (first (acts out)) (s c ok) ∙ fill_acts out (l c)
  turn_same (fails out f) k l s ok = absurd ok

  or_same : (x : Option Replaced) (again again' : Replaced → Reading A F) (r r' : Reading A F) → ((y : Replaced) → Same (again y) (again' y)) → Same r r' → Same (or_replaced x again r) (or_replaced x again' r')
  or_same None again again' r r' s t ok = t ok
  or_same (Some y) again again' r r' s t ok = s y ok

  module _ (again : List Sign → List (List ℕ) → C → Reading A F) (same : (ss : List Sign) (ns : List (List ℕ)) (c : C) → Same (again (render form ss) ns c) (again ss ns c)) where
    put : (ss : List Sign) (ns : List (List ℕ)) (c : C) (x : Replaced) → Same (replacing al R again (render form ss) ns c x) (replacing al R again ss ns c x)
    put ss ns c x ok =
        ap (first (acts R.forget)) (ap (λ l. again l (x.name ∷ ns) (R.without_word c)) (sym (render_ahead x.value (AliasEnd ∷ ss))) ∙ same (value_ahead x.value ss) (x.name ∷ ns) (R.without_word c) ok)
        ∙ fill_acts R.forget (again (value_ahead x.value ss) (x.name ∷ ns) (R.without_word c))

    hole_same : (d : ℕ) (ss : List Sign) (ns : List (List ℕ)) (c : C) (t : Turn C A F) → R.hole c ≡ t → ((w : C) → Same (read_to al R again (render form ss) ns w) (read_to al R again ss ns w)) → Same (read_to al R again (ahead (form d) (render form ss)) ns c) (at_hole d t (λ w. read_to al R again ss ns w))
    hole_same d ss ns c (goes out w) e s ok =
        hole_reads C A F al R q L again (render form ss) ns w c out e (text d) (form d) (lawful d)
        ∙ ap (λ r. first (acts out) (first (spelled q (text d)) r)) (s w ok)
        ∙ fill_acts out (first (hole d ∷ []) (read_to al R again ss ns w))
    hole_same d ss ns c (fails out f) e s ok = absurd ok

    read_to_same : (ss : List Sign) (ns : List (List ℕ)) (c : C) → Same (read_to al R again (render form ss) ns c) (read_to al R again ss ns c)
    read_to_same [] ns c ok = or_same (replaced al ns (R.name c)) (replacing al R again [] ns c) (replacing al R again [] ns c) (at_turn (R.end c) (λ d. only [] ended)) (at_turn (R.end c) (λ d. only [] ended)) (put [] ns c) (turn_same (R.end c) (λ d. only [] ended) (λ d. only [] ended) (λ d y. refl)) ok
    read_to_same (Byte b ∷ ss) ns c ok =
        or_same (replaced al ns (R.name_before b c)) (replacing al R again (Byte b ∷ render form ss) ns c) (replacing al R again (Byte b ∷ ss) ns c) (at_turn (R.byte b c) (λ d. read_to al R again (render form ss) ns d)) (at_turn (R.byte b c) (λ d. read_to al R again ss ns d))
        (put (Byte b ∷ ss) ns c) (turn_same (R.byte b c) (λ d. read_to al R again (render form ss) ns d) (λ d. read_to al R again ss ns d) (λ d. read_to_same ss ns d)) ok
    read_to_same (Hole d ∷ ss) ns c ok = hole_same d ss ns c (R.hole c) refl (λ w. read_to_same ss ns w) ok
    read_to_same (AliasEnd ∷ ss) ns c ok =
        or_same (replaced al ns (R.name c)) (replacing al R again (AliasEnd ∷ render form ss) ns c) (replacing al R again (AliasEnd ∷ ss) ns c) (at_turn (R.alias_end c) (λ d. read_to al R again (render form ss) (outer ns) d)) (at_turn (R.alias_end c) (λ d. read_to al R again ss (outer ns) d))
        (put (AliasEnd ∷ ss) ns c) (turn_same (R.alias_end c) (λ d. read_to al R again (render form ss) (outer ns) d) (λ d. read_to al R again ss (outer ns) d) (λ d. read_to_same ss (outer ns) d)) ok

  read_same : (n : ℕ) (ss : List Sign) (ns : List (List ℕ)) (c : C) → Same (read al R n (render form ss) ns c) (read al R n ss ns c)
  unfolding read
  read_same zero ss ns c ok = read_to_same (λ _ _ _. only [] (refused R.too_many)) (λ ts ms d n. absurd n) ss ns c ok
  read_same (suc n) ss ns c ok = read_to_same (λ ts ms d. read al R n ts ms d) (λ ts ms d. read_same n ts ms d) ss ns c ok

pub fills : {C A F : Type 0} (R : Reader C A F) (q : ℕ → A) → Quotes R q → Fills R q
fills {C} {A} {F} R q L al form text lawful n ss ns c ok = read_same C A F al R q L form text lawful n ss ns c ok
