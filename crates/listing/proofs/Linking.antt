-- What the reader leaves as it goes is the reading, laid. Assumes nothing.
use Rattle.std.proofs.Common.{◌≡◌, ℕ, zero, suc, Bool, true, false, cond, ◌&&◌, List, [], ◌∷◌, Some, None, Ok, Err, Option, Result, sym, refl, ap, ◌∙◌}
use Rattle.basics.specs.Checks.{refusal}
use Rattle.basics.specs.declared.refusal.Refusal.{Refusal}
use Rattle.basics.specs.declared.refusal.Reason.TheVariants.{TooManyReplacements}
use Rattle.tokens.specs.Bytes.{class_of, ends_word, redirects}
use Rattle.source.specs.declared.symbol.Sign.{Sign}
use Rattle.source.specs.declared.symbol.Sign.TheVariants.{Byte, Hole, AliasEnd}
use Rattle.source.specs.declared.symbol.Symbol.{Symbol}
use Rattle.source.specs.Symbols.{aliased}
use Rattle.source.specs.Replacing.{outer, stands_for}
use Rattle.reading.specs.declared.act.Act.{Act}
use Rattle.reading.specs.declared.act.Act.TheVariants as does
use Rattle.reading.specs.declared.act.Fault.{Fault}
use Rattle.reading.specs.States.{State, Control}
use Rattle.reading.specs.Steps.{Outcome, went, failed, outcome, Move}
use Rattle.reading.specs.Moves.{byte, alias_end, end, name, named, without_word}
use Rattle.reading.specs.Holes as holes
use Rattle.reading.specs.Laid.{Held, held, and, laid_move, performs, lay}
use Rattle.reading.specs.Readings as readings
use Rattle.reading.specs.Readings.{Aliases, Event, act, hole, Ending, ended, refused, Reading, acts, first, only, Replaced, replaced, valued}
use Rattle.reading.specs.Placed.{perform, faulty, turn_at, replacing_at, sign_at, placed_to, placed}
use Rattle.reading.specs.Items.{shell, turn, turned, forget}
use Rattle.reading.specs.Listed.{Places, Entry, placing, refusal_at, noted}
use Rattle.reading.proofs.Laying.{at_once}
use Rattle.reader.specs.Sheets.{Sheets}
use Rattle.reader.specs.Onto.{sign_move, names_after, candidate, or_replaced, on_to, read_on}
use Rattle.listing.specs.Noting.{Noted, beside, entered, acted}
use Rattle.listing.specs.Laying.{laying, noting, left_of}

and_and : {X Y Z : Type 0} (r : Result X Refusal) (f : X → Result Y Refusal) (g : Y → Result Z Refusal) → and (and r f) g ≡ and r (λ t. and (f t) g)
and_and (Ok s) f g = refl
and_and (Err e) f g = refl

and_same : {X Y : Type 0} (r : Result X Refusal) (f g : X → Result Y Refusal) → ((t : X) → f t ≡ g t) → and r f ≡ and r g
and_same (Ok s) f g h = h s
and_same (Err e) f g h = refl

three : {X Y Z V : Type 0} (r : Result X Refusal) (g : X → Y) (f : Y → Result Z Refusal) (k : Z → Result V Refusal) → and r (λ y. and (f (g y)) k) ≡ and (and (and r (λ y. Ok (g y))) f) k
three (Ok x) g f k = refl
three (Err e) g f k = refl

name_or : (a b : Bool) (w : Option (List ℕ)) → cond (a && b) w None ≡ cond a (cond b w None) None
name_or true b w = refl
name_or false b w = refl

module _ {X : Type 0} (enter : Entry → X → Result X Refusal) (fill : ℕ → X → Result X Refusal) where
  abbrev lays : Reading Entry Refusal → X → Result X Refusal
  lays r x = laying enter fill r x

  abbrev W : Sheets (Noted X)
  W = noting enter fill

  abbrev put : ℕ → Act → Noted X → Result (Noted X) Refusal
  put p a s = acted enter a p s

  abbrev place : ℕ → Fault → Noted X → Refusal
  place p f s = refusal_at f p s.places

  first_acts : (bs : List Entry) (r : Reading Entry Refusal) (x : X) → lays (first (acts bs) r) x ≡ and (entered enter bs x) (λ y. lays r y)
  first_acts [] r x = refl
  first_acts (b ∷ bs) r x =
      and_same (enter b x) (λ y. lays (first (acts bs) r) y) (λ y. and (entered enter bs y) (λ z. lays r z)) (λ y. first_acts bs r y)
      ∙ sym (and_and (enter b x) (λ y. entered enter bs y) (λ z. lays r z))

  perform_is : (out : List Act) (p : ℕ) (s : Noted X) (k : Places → Reading Entry Refusal) →
      lays (perform placing out p s.places k) s.left ≡ and (performs (put p) out s) (λ q. lays (k q.places) q.left)
  perform_is [] p s k = refl
  perform_is (a ∷ out) p s k =
      first_acts (placing.gives a p s.places) (perform placing out p (noted a p s.places) k) s.left
      ∙ and_same (entered enter (placing.gives a p s.places) s.left) (λ y. lays (perform placing out p (noted a p s.places) k) y) (λ y. and (performs (put p) out (beside (noted a p s.places) y)) (λ q. lays (k q.places) q.left))
      (λ y. perform_is out p (beside (noted a p s.places) y) k)
      ∙ three (entered enter (placing.gives a p s.places) s.left) (λ y. beside (noted a p s.places) y) (λ q. performs (put p) out q) (λ q. lays (k q.places) q.left)

  abbrev escaping : Bool → Held State (Noted X) → Result (Held Control (Noted X)) Refusal
  escaping e h = Ok (held (record { escape = e; at = h.at }) h.sheet)

  went_is : (r : Result (Noted X) Refusal) (e : Bool) (i : State) (k : Held Control (Noted X) → Result X Refusal) →
      and r (λ q. k (held (record { escape = e; at = i }) q)) ≡ and (and (and r (λ q. Ok (held i q))) (escaping e)) k
  went_is (Ok q) e i k = refl
  went_is (Err f) e i k = refl

  failed_is : (r : Result (Noted X) Refusal) (e : Bool) (g : Noted X → Refusal) (k : Held Control (Noted X) → Result X Refusal) →
      and r (λ q. Err (g q)) ≡ and (and (and r (λ q. Err (g q))) (escaping e)) k
  failed_is (Ok q) e g k = refl
  failed_is (Err f) e g k = refl

  outcome_is : (e : Bool) (x : Outcome) (p : ℕ) (s : Noted X) (k : Control → Places → Reading Entry Refusal) →
      lays (turn_at placing (turned e x) p s.places k) s.left ≡ and (and (lay (put p) (place p) x s) (escaping e)) (λ h. lays (k h.at h.sheet.places) h.sheet.left)
  outcome_is e (went out i) p s k =
      perform_is out p s (λ q. k (record { escape = e; at = i }) q)
      ∙ went_is (performs (put p) out s) e i (λ h. lays (k h.at h.sheet.places) h.sheet.left)
  outcome_is e (failed out f) p s k =
      perform_is out p s (λ q. faulty placing f p q)
      ∙ failed_is (performs (put p) out s) e (λ q. place p f q) (λ h. lays (k h.at h.sheet.places) h.sheet.left)

  move_is : (m : Move) (p : ℕ) (s : Noted X) (k : Control → Places → Reading Entry Refusal) →
      lays (turn_at placing (turn m) p s.places k) s.left ≡ and (laid_move (put p) (place p) m s) (λ h. lays (k h.at h.sheet.places) h.sheet.left)
  move_is m p s k =
      outcome_is m.escape (outcome m.step) p s k
      ∙ ap (λ r. and (and r (escaping m.escape)) (λ h. lays (k h.at h.sheet.places) h.sheet.left)) (sym (at_once (Noted X) Refusal (put p) (place p) m.step s))

  module _ (al : Aliases) where
    choose : (ns : List (List ℕ)) (w : Option (List ℕ)) (again : Replaced → Reading Entry Refusal) (own : Reading Entry Refusal) (x : X) (puts : List ℕ → List ℕ → Result (Noted X) Refusal) (does-own : Result (Noted X) Refusal) →
        ((n v : List ℕ) → lays (again (record { name = n; value = v })) x ≡ left_of (puts n v)) → lays own x ≡ left_of does-own →
        lays (readings.or_replaced (replaced al ns w) again own) x ≡ left_of (or_replaced W al ns w puts does-own)
    choose ns None again own x puts does-own h e = e
    choose ns (Some w) again own x puts does-own h e =
        elim (stands_for al ns w) as (λ z. lays (readings.or_replaced (valued w z) again own) x ≡ left_of (elim z as (λ _. Result (Noted X) Refusal) [ None ↦ does-own | Some v ↦ puts w v ])) [ None ↦ e | Some v ↦ h w v ]

    hole_is : (r : Result (Held Control (Noted X)) Refusal) (d : ℕ) (kr : Control → Places → Reading Entry Refusal) (ks : Control → Noted X → Result (Noted X) Refusal) →
        ((c : Control) (t : Noted X) → lays (kr c t.places) t.left ≡ left_of (ks c t)) →
        and r (λ h. and (fill d h.sheet.left) (λ y. lays (kr h.at h.sheet.places) y))
        ≡ left_of (and (and r (λ h. and (and (fill d h.sheet.left) (λ x. Ok (beside h.sheet.places x))) (λ t. Ok (held h.at t)))) (λ h. ks h.at h.sheet))
    hole_is (Err e) d kr ks hyp = refl
    hole_is (Ok h) d kr ks hyp =
        elim (fill d h.sheet.left) as (λ z. and z (λ y. lays (kr h.at h.sheet.places) y) ≡ left_of (and (and (and z (λ x. Ok (beside h.sheet.places x))) (λ t. Ok (held h.at t))) (λ h. ks h.at h.sheet)))
        [ Ok y ↦ hyp h.at (beside h.sheet.places y) | Err e ↦ refl ]

    then_is : (r : Result (Held Control (Noted X)) Refusal) (kr : Control → Places → Reading Entry Refusal) (ks : Control → Noted X → Result (Noted X) Refusal) →
        ((c : Control) (t : Noted X) → lays (kr c t.places) t.left ≡ left_of (ks c t)) →
        and r (λ h. lays (kr h.at h.sheet.places) h.sheet.left) ≡ left_of (and r (λ h. ks h.at h.sheet))
    then_is (Ok h) kr ks hyp = hyp h.at h.sheet
    then_is (Err e) kr ks hyp = refl

    module _ (again : List Symbol → List (List ℕ) → Control → Places → Reading Entry Refusal) where
      sign_is : (g : Sign) (p : ℕ) (ns : List (List ℕ)) (c : Control) (s : Noted X) (put-r : Replaced → Reading Entry Refusal) (put_s : List ℕ → List ℕ → Result (Noted X) Refusal) (kr : List (List ℕ) → Control → Places → Reading Entry Refusal) (ks : List (List ℕ) → Control → Noted X → Result (Noted X) Refusal) →
          ((n v : List ℕ) → lays (put-r (record { name = n; value = v })) s.left ≡ left_of (put_s n v)) →
          ((ms : List (List ℕ)) (d : Control) (t : Noted X) → lays (kr ms d t.places) t.left ≡ left_of (ks ms d t)) →
          lays (sign_at placing al shell again g p ns c s.places put-r kr) s.left
          ≡ left_of (or_replaced W al ns (candidate W al g c) put_s (and (sign_move W g p c s) (λ h. ks (names_after g ns) h.at h.sheet)))
      sign_is (Byte b) p ns c s put-r put_s kr ks h k =
          choose ns (shell.name_before b c) put-r (turn_at placing (shell.byte b c) p s.places (λ d q. kr ns d q)) s.left put_s
          (and (laid_move (put p) (place p) (byte b c) s) (λ h. ks ns h.at h.sheet)) h
          (move_is (byte b c) p s (λ d q. kr ns d q) ∙ then_is (laid_move (put p) (place p) (byte b c) s) (kr ns) (ks ns) (λ d t. k ns d t))
          ∙ ap (λ w. left_of (or_replaced W al ns w put_s (and (laid_move (put p) (place p) (byte b c) s) (λ h. ks ns h.at h.sheet)))) (sym (name_or (ends_word (class_of b)) (named (redirects (class_of b)) c) (Some c.at.word.kept)))
      sign_is (Hole d) p ns c s put-r put_s kr ks h k =
          move_is (holes.hole c) p s (λ e q. first (hole d ∷ []) (kr ns e q))
          ∙ hole_is (laid_move (put p) (place p) (holes.hole c) s) d (kr ns) (ks ns) (λ e t. k ns e t)
      sign_is AliasEnd p ns c s put-r put_s kr ks h k =
          choose ns (shell.name c) put-r (turn_at placing (shell.alias_end c) p s.places (λ d q. kr (outer ns) d q)) s.left put_s
          (and (laid_move (put p) (place p) (alias_end c) s) (λ h. ks (outer ns) h.at h.sheet)) h
          (move_is (alias_end c) p s (λ d q. kr (outer ns) d q) ∙ then_is (laid_move (put p) (place p) (alias_end c) s) (kr (outer ns)) (ks (outer ns)) (λ d t. k (outer ns) d t))

      module _ (e : ℕ) (put_on : List Symbol → ℕ → List (List ℕ) → Control → Noted X → List ℕ → List ℕ → Result (Noted X) Refusal)
          (hyp : (ts : List Symbol) (p : ℕ) (ns : List (List ℕ)) (c : Control) (s : Noted X) (n v : List ℕ) → lays (replacing_at placing al shell again ts p ns c s.places (record { name = n; value = v })) s.left ≡ left_of (put_on ts p ns c s n v)) where
        to_is : (ss : List Symbol) (ns : List (List ℕ)) (c : Control) (s : Noted X) → lays (placed_to placing al shell again ss e ns c s.places) s.left ≡ left_of (on_to W al e put_on ss ns c s)
        to_is [] ns c s =
            choose ns (name false c) (replacing_at placing al shell again [] e ns c s.places) (turn_at placing (shell.end c) e s.places (λ d q. only [] ended)) s.left (put_on [] e ns c s)
            (and (laid_move (put e) (place e) (end c) s) (λ h. Ok h.sheet)) (λ n v. hyp [] e ns c s n v)
            (move_is (end c) e s (λ d q. only [] ended) ∙ sym (and_and (laid_move (put e) (place e) (end c) s) (λ h. Ok h.sheet) (λ t. Ok t.left)))
        to_is (x ∷ ss) ns c s =
            sign_is x.sign x.place ns c s (replacing_at placing al shell again (x ∷ ss) x.place ns c s.places) (put_on (x ∷ ss) x.place ns c s) (λ ms d q. placed_to placing al shell again ss e ms d q) (λ ms d t. on_to W al e put_on ss ms d t)
            (λ n v. hyp (x ∷ ss) x.place ns c s n v) (λ ms d t. to_is ss ms d t)

    -- letters can always be forgotten
    module _ (forgets : (x : X) → (y : X) × (enter (record { what = forget; place = 0 }) x ≡ Ok y)) (e : ℕ) where
      refused_is : (r : Result X Refusal) (y : X) (f : Refusal) → r ≡ Ok y → and {Y = X} r (λ z. Err f) ≡ left_of {X = X} (Err f)
      refused_is r y f eq = ap (λ z. and {Y = X} z (λ t. Err f)) eq

      again_is : (r : Result X Refusal) (q : Places) (kr : X → Result X Refusal) (ks : Noted X → Result (Noted X) Refusal) → ((y : X) → kr y ≡ left_of (ks (beside q y))) →
          and r kr ≡ left_of (and (and (and r (λ y. Ok y)) (λ x. Ok (beside q x))) ks)
      again_is (Ok y) q kr ks h = h y
      again_is (Err f) q kr ks h = refl

      -- the reading laid, whatever it is laid on
      pub reading_is : (n : ℕ) (ss : List Symbol) (ns : List (List ℕ)) (c : Control) (s : Noted X) → lays (placed placing al shell n ss e ns c s.places) s.left ≡ left_of (read_on W al e n ss ns c s)
      unfolding placed read_on
      reading_is zero ss ns c s =
          to_is (λ _ _ _ q. faulty placing shell.too_many e q) e (λ ts p ms d t w v. Err (refusal TooManyReplacements (W.word t)))
          (λ ts p ms d t w v. refused_is (enter (record { what = forget; place = 0 }) t.left) (forgets t.left).0 (refusal TooManyReplacements (W.word t)) (forgets t.left).1) ss ns c s
      reading_is (suc n) ss ns c s =
          to_is (λ ts ms d q. placed placing al shell n ts e ms d q) e (λ ts p ms d t w v. and (W.written does.Forget p t) (λ u. read_on W al e n (aliased v (W.word t) ts) (w ∷ ms) (without_word d) u))
          (λ ts p ms d t w v. again_is (enter (record { what = forget; place = 0 }) t.left) t.places (λ y. lays (placed placing al shell n (aliased v t.places.words.all ts) e (w ∷ ms) (without_word d) t.places) y) (λ u. read_on W al e n (aliased v (W.word t) ts) (w ∷ ms) (without_word d) u)
          (λ y. reading_is n (aliased v t.places.words.all ts) (w ∷ ms) (without_word d) (beside t.places y))) ss ns c s
