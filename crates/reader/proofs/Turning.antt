-- Reading onto a sheet, one turn at a time. Assumes nothing.
use Rattle.std.proofs.Common.{◌≡◌, ℕ, zero, suc, ◌+◌, ◌<◌, ◌≤◌, Bool, true, false, cond, List, [], ◌∷◌, length, Some, None, Ok, Err, Option, Result, sym, refl, ap, ◌∙◌, arith}
use Rattle.aliases.specs.Tables.{aliases_of}
use Rattle.basics.specs.Checks.{refusal}
use Rattle.basics.specs.declared.refusal.Refusal.{Refusal}
use Rattle.basics.specs.declared.refusal.Reason.TheVariants.{TooManyReplacements}
use Rattle.source.specs.declared.symbol.Symbol.{Symbol}
use Rattle.source.specs.Symbols.{aliased, first, rest}
use Rattle.source.specs.Replacing.{stands_for, closed, outer, replace_answer, replaced_coming, replaced_left, replaced_names}
use Rattle.source.specs.declared.symbol.Sign.{Sign}
use Rattle.source.specs.declared.symbol.Sign.TheVariants.{Byte, Hole, AliasEnd}
use Rattle.reading.specs.declared.act.Act.TheVariants as act
use Rattle.reading.specs.Laid.{and}
use Rattle.reading.specs.Moves.{end, without_word}
use Rattle.reading.specs.Readings.{Aliases}
use Rattle.reading.specs.States.{Control}
use Rattle.reader.specs.Held.{lays_move}
use Rattle.reader.specs.Sheets.{Sheets}
use Rattle.reader.specs.Onto.{on_to, or_replaced, read_on, sign_move, names_after}
use Rattle.source.specs.Front.{Front}
use Rattle.source.specs.Fronts.{onward}
use Rattle.reader.specs.Turns.{candidate_next, own, place_next, reads_from, still}

module _ {S : Type 0} (W : Sheets S) (al : Aliases) (e : ℕ) where
  abbrev pub puts_at : ℕ → List Symbol → ℕ → List (List ℕ) → Control → S → List ℕ → List ℕ → Result S Refusal
  puts_at zero ts p ms d t w v = Err (refusal TooManyReplacements (W.word t))
  puts_at (suc n) ts p ms d t w v = and (W.written act.Forget p t) (λ u. read_on W al e n (aliased v (W.word t) ts) (w ∷ ms) (without_word d) u)

  pub is_on_to : (n : ℕ) (ss : List Symbol) (ns : List (List ℕ)) (c : Control) (s : S) → read_on W al e n ss ns c s ≡ on_to W al e (puts_at n) ss ns c s
  unfolding read_on
  is_on_to zero ss ns c s = refl
  is_on_to (suc n) ss ns c s = refl

  -- a reading is, at each turn, a replaced word or the next symbol's own work
  turned : (n : ℕ) (ss : List Symbol) (ns : List (List ℕ)) (c : Control) (s : S)
      → read_on W al e n ss ns c s
      ≡ or_replaced W al ns (cond (candidate_next (first ss) c) (Some c.at.word.kept) None) (puts_at n ss (place_next e (first ss)) ns c s) (own W al e n ss ns c s)
  turned n [] ns c s = is_on_to n [] ns c s
  turned n (x ∷ ss) ns c s =
      is_on_to n (x ∷ ss) ns c s
      ∙ (λ i. or_replaced W al ns (cond (candidate_next (Some x) c) (Some c.at.word.kept) None) (puts_at n (x ∷ ss) x.place ns c s)
      (and (sign_move W x.sign x.place c s) (λ h. sym (is_on_to n ss (names_after x.sign ns) h.at h.sheet) i)))

  module _ (n : ℕ) (ss : List Symbol) (ns : List (List ℕ)) (c : Control) (s : S) where
    pub no_word : candidate_next (first ss) c ≡ false → read_on W al e n ss ns c s ≡ own W al e n ss ns c s
    no_word h = turned n ss ns c s
        ∙ ap (λ (t : Bool). or_replaced W al ns (cond t (Some c.at.word.kept) None) (puts_at n ss (place_next e (first ss)) ns c s) (own W al e n ss ns c s)) h

    pub no_alias : stands_for al ns c.at.word.kept ≡ None → read_on W al e n ss ns c s ≡ own W al e n ss ns c s
    no_alias h = turned n ss ns c s ∙ by_test (candidate_next (first ss) c)
      where
        by_test : (t : Bool) → or_replaced W al ns (cond t (Some c.at.word.kept) None) (puts_at n ss (place_next e (first ss)) ns c s) (own W al e n ss ns c s) ≡ own W al e n ss ns c s
        by_test false = refl
        by_test true = ap (λ (o : Option (List ℕ)). elim o as (λ _. Result S Refusal) [ None ↦ own W al e n ss ns c s | Some v ↦ puts_at n ss (place_next e (first ss)) ns c s c.at.word.kept v ]) h

    pub an_alias : (v : List ℕ) → candidate_next (first ss) c ≡ true → stands_for al ns c.at.word.kept ≡ Some v
        → read_on W al e n ss ns c s ≡ puts_at n ss (place_next e (first ss)) ns c s c.at.word.kept v
    an_alias v t h = turned n ss ns c s
        ∙ ap (λ (x : Bool). or_replaced W al ns (cond x (Some c.at.word.kept) None) (puts_at n ss (place_next e (first ss)) ns c s) (own W al e n ss ns c s)) t
        ∙ ap (λ (o : Option (List ℕ)). elim o as (λ _. Result S Refusal) [ None ↦ own W al e n ss ns c s | Some v ↦ puts_at n ss (place_next e (first ss)) ns c s c.at.word.kept v ]) h

  -- the end's own work, and a symbol's
  pub own_at_end : (n : ℕ) (ss : List Symbol) (ns : List (List ℕ)) (c : Control) (s : S) → None ≡ first ss
      → own W al e n ss ns c s ≡ and (lays_move W e (end c) s) (λ h. Ok h.sheet)
  own_at_end n [] ns c s h = refl
  own_at_end n (x ∷ ss) ns c s h = let z : ◌≡◌ {A = ℕ} 0 1 = cc in absurd (omega arith)

  pub own_at_symbol : (n : ℕ) (ss : List Symbol) (ns : List (List ℕ)) (c : Control) (s : S) (x : Symbol) → Some x ≡ first ss
      → own W al e n ss ns c s
      ≡ and (sign_move W x.sign x.place c s) (λ h. read_on W al e n (rest ss) (names_after x.sign ns) h.at h.sheet)
  own_at_symbol n [] ns c s x h = let z : ◌≡◌ {A = ℕ} 0 1 = cc in absurd (omega arith)
  own_at_symbol n (y ∷ ss) ns c s x h =
      let e' : y ≡ x = cc in
      ap (λ (z : Symbol). and (sign_move W z.sign z.place c s) (λ h. read_on W al e n ss (names_after z.sign ns) h.at h.sheet)) e'

-- a symbol less is to come
pub fewer : (left : ℕ) (ss : List Symbol) (x : Symbol) → Some x ≡ first ss → still left (rest ss) < still left ss
fewer left [] x h = let z : ◌≡◌ {A = ℕ} 0 1 = cc in absurd (omega arith)
fewer left (y ∷ ss) x h = omega arith

pub named_after : (ss : List Symbol) (ns : List (List ℕ)) (x : Symbol) → Some x ≡ first ss → closed (first ss) ns ≡ names_after x.sign ns
named_after [] ns x h = let z : ◌≡◌ {A = ℕ} 0 1 = cc in absurd (omega arith)
named_after (y ∷ ss) ns x h = let e : y ≡ x = cc in ap (λ (z : Symbol). closed (Some z) ns) e ∙ by_sign x.sign
  where
    by_sign : (g : Sign) → elim g [ Byte b ↦ ns | Hole d ↦ ns | AliasEnd ↦ outer ns ] ≡ names_after g ns
    by_sign (Byte b) = refl
    by_sign (Hole d) = refl
    by_sign AliasEnd = refl

-- the reading of what comes behind a symbol
pub onward_is : {S : Type 0} (W : Sheets S) (p : Front) (x : Symbol) (c : Control) (s : S) → Some x ≡ first p.coming
    → reads_from W (onward p) c s ≡ read_on W (aliases_of p.table).named p.end p.left (rest p.coming) (names_after x.sign p.names) c s
onward_is W p x c s h = ap (λ (ns : List (List ℕ)). read_on W (aliases_of p.table).named p.end p.left (rest p.coming) ns c s) (named_after p.coming p.names x h)

-- what an answer of the alias source tells

pub not_replaced : (o : Option (List ℕ)) (left place : ℕ) → Ok false ≡ replace_answer o left place → o ≡ None
not_replaced None left place h = refl
not_replaced (Some v) zero place h = let z : ◌≡◌ {A = ℕ} 0 1 = cc in absurd (omega arith)
not_replaced (Some v) (suc n) place h = let z : ◌≡◌ {A = ℕ} 0 1 = cc in absurd (omega arith)

pub fewer_replaced : (o : Option (List ℕ)) (left place : ℕ) (ss ts : List Symbol) → Ok true ≡ replace_answer o left place → length ts ≤ length ss + 65
    → still (replaced_left o left) ts < still left ss
fewer_replaced None left place ss ts h k = let z : ◌≡◌ {A = ℕ} 0 1 = cc in absurd (omega arith)
fewer_replaced (Some v) zero place ss ts h k = let z : ◌≡◌ {A = ℕ} 0 1 = cc in absurd (omega arith)
fewer_replaced (Some v) (suc n) place ss ts h k = omega (arith, k)

module _ {S : Type 0} (W : Sheets S) (al : Aliases) (e : ℕ) (ss : List Symbol) (ns : List (List ℕ)) (c : Control) (s : S) (cand : candidate_next (first ss) c ≡ true) where
  abbrev word_kept : List ℕ
  word_kept = c.at.word.kept

  -- a replaced word: the reading goes on with its value
  pub replaced_goes : (o : Option (List ℕ)) (left : ℕ) (t : S) → stands_for al ns word_kept ≡ o → Ok true ≡ replace_answer o left (W.word s)
      → Ok t ≡ W.written act.Forget (place_next e (first ss)) s
      → read_on W al e (replaced_left o left) (replaced_coming o left (W.word s) ss) (replaced_names o left word_kept ns) (without_word c) t ≡ read_on W al e left ss ns c s
  replaced_goes None left t q h w = let z : ◌≡◌ {A = ℕ} 0 1 = cc in absurd (omega arith)
  replaced_goes (Some v) zero t q h w = let z : ◌≡◌ {A = ℕ} 0 1 = cc in absurd (omega arith)
  replaced_goes (Some v) (suc n) t q h w =
      sym (an_alias W al e (suc n) ss ns c s v cand q
      ∙ ap (λ (a : Result S Refusal). and a (λ u. read_on W al e n (aliased v (W.word s) ss) (word_kept ∷ ns) (without_word c) u)) (sym w))

  -- the letters of the replaced word could not be withdrawn
  pub replaced_refused : (o : Option (List ℕ)) (left : ℕ) (x : Refusal) → stands_for al ns word_kept ≡ o → Ok true ≡ replace_answer o left (W.word s)
      → Err x ≡ W.written act.Forget (place_next e (first ss)) s → Err x ≡ read_on W al e left ss ns c s
  replaced_refused None left x q h w = let z : ◌≡◌ {A = ℕ} 0 1 = cc in absurd (omega arith)
  replaced_refused (Some v) zero x q h w = let z : ◌≡◌ {A = ℕ} 0 1 = cc in absurd (omega arith)
  replaced_refused (Some v) (suc n) x q h w =
      sym (an_alias W al e (suc n) ss ns c s v cand q
      ∙ ap (λ (a : Result S Refusal). and a (λ u. read_on W al e n (aliased v (W.word s) ss) (word_kept ∷ ns) (without_word c) u)) (sym w))

  -- one replacement too many
  pub too_many : (o : Option (List ℕ)) (left : ℕ) (x : Refusal) → stands_for al ns word_kept ≡ o → Err x ≡ replace_answer o left (W.word s) → Err x ≡ read_on W al e left ss ns c s
  too_many None left x q h = let z : ◌≡◌ {A = ℕ} 0 1 = cc in absurd (omega arith)
  too_many (Some v) zero x q h = let d : x ≡ refusal TooManyReplacements (W.word s) = cc in ap (λ y. Err y) d ∙ sym (an_alias W al e zero ss ns c s v cand q)
  too_many (Some v) (suc n) x q h = let z : ◌≡◌ {A = ℕ} 0 1 = cc in absurd (omega arith)
