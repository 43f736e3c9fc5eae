-- The book of any calls is sound. Assumes nothing.
use Rattle.std.proofs.Common.{◌≡◌, ℕ, ◌+◌, ◌≤◌, Bool, true, false, cond, not, eqb, ltb, List, [], ◌∷◌, length, is_some, Some, None, Option, sym, refl, ap, ◌∙◌, subst, arith, ltb-false}
use Rattle.std.proofs.lemmas.Bool.{eqb-true, eqb-false}
use Rattle.std.specs.List.{position_from}
use Rattle.std.proofs.lemmas.Iterator.Adapters.{position_from-zero}
use Rattle.basics.specs.Bytes.{ZeroFree}
use Rattle.basics.specs.Checks.{refuse_if, refuse_at, or_else, unless}
use Rattle.basics.specs.Searches.{first_zero}
use Rattle.basics.specs.declared.refusal.Refusal.{Refusal}
use Rattle.basics.specs.declared.refusal.Reason.{Reason}
use Rattle.basics.specs.declared.refusal.Reason.TheVariants.{TooLong, ZeroByte, NoSuchHole}
use Rattle.std.specs.Map.{update}
use Rattle.aliases.specs.Aliases.{Aliases, no_aliases, define_check, defined, remove_check, removed}
use Rattle.reading.specs.Readings.{Ending, ended, refused}
use Rattle.reading.specs.Filled.{Well, Accepted}
use Rattle.reading.specs.Listed.{template_reading}
use Rattle.listing.specs.Laying.{ending}
use Rattle.listing.specs.Listing.{unless_refused}
use Rattle.listing.specs.Checking.{template_check, template_mask, masked_holes}
use Rattle.orders.specs.Book.{Book, start, Request, alias, unalias, load, unload, bind, render, list, none_loaded, some_loaded, symbols, has_hole, refused_by, alias_check, unalias_check, load_check, unload_check, bind_check, next, after}
use Rattle.orders.specs.Laws.{Sound, BooksAreSound}

-- checks that let pass

both : (x y : Option Refusal) → or_else x y ≡ None → (x ≡ None) × (y ≡ None)
both None y e = (refl, e)
both (Some f) y e = let z : ◌≡◌ {A = ℕ} 0 1 = cc in absurd (omega arith)

passes : (t : Bool) (r : Reason) (p : ℕ) → refuse_if t r p ≡ None → t ≡ false
passes false r p e = refl
passes true r p e = let z : ◌≡◌ {A = ℕ} 0 1 = cc in absurd (omega arith)

passes_at : (o : Option ℕ) (r : Reason) → refuse_at o r ≡ None → o ≡ None
passes_at None r e = refl
passes_at (Some k) r e = let z : ◌≡◌ {A = ℕ} 0 1 = cc in absurd (omega arith)

no_template : (o : Option (List ℕ)) → is_some o ≡ false → o ≡ None
no_template None e = refl
no_template (Some t) e = let z : ◌≡◌ {A = ℕ} 0 1 = cc in absurd (omega arith)

is_so : (t : Bool) → not t ≡ false → t ≡ true
is_so true e = refl
is_so false e = let z : ◌≡◌ {A = ℕ} 0 1 = cc in absurd (omega arith)

-- no byte 0 is found

zero_free_from : (k : ℕ) (text : List ℕ) → position_from (λ b. eqb b 0) k text ≡ None → ZeroFree text
zero_free_from k [] e = tt
zero_free_from k (b ∷ text) e = by_byte (eqb b 0) refl (zero_free_from (k + 1) text) e
  where
    by_byte : (t : Bool) → eqb b 0 ≡ t → (position_from (λ c. eqb c 0) (k + 1) text ≡ None → ZeroFree text) → cond t (Some k) (position_from (λ c. eqb c 0) (k + 1) text) ≡ None → ZeroFree (b ∷ text)
    by_byte true h rest q = let z : ◌≡◌ {A = ℕ} 0 1 = cc in absurd (omega arith)
    by_byte false h rest q = (eqb-false b 0 h, rest q)

-- the template that is taken reads

well : (e : Ending Refusal) (m : ℕ) → refused_by (ending e m) ≡ None → Well e
well ended m p = tt
well (refused f) m p = let z : ◌≡◌ {A = ℕ} 0 1 = cc in absurd (omega arith)

let_pass : (x : Option Refusal) (e : Ending Refusal) (m : ℕ) → refused_by (unless_refused x (ending e m)) ≡ None → Well e
let_pass None e m p = well e m p
let_pass (Some f) e m p = let z : ◌≡◌ {A = ℕ} 0 1 = cc in absurd (omega arith)

-- a book without template has no text
no_text : (b : Book) → Sound b → b.loaded ≡ None → (d : ℕ) (text : List ℕ) → b.texts d ≡ Some text → ⊥
no_text b s e d text h =
    let hole : false ≡ true = ap (λ (o : Option (List ℕ)). has_hole d (symbols (record { aliases = b.aliases; loaded = o; texts = b.texts }))) (sym e) ∙ s.of_hole d text h in
    let z : ◌≡◌ {A = ℕ} 0 1 = cc in omega arith

without_template : (a : Aliases) → Sound (record { aliases = a; loaded = None; texts = λ _. None })
without_template a = record {
  reads = λ t h. let z : ◌≡◌ {A = ℕ} 0 1 = cc in absurd (omega arith);
  short = λ d text h. let z : ◌≡◌ {A = ℕ} 0 1 = cc in absurd (omega arith);
  zero_free = λ d text h. let z : ◌≡◌ {A = ℕ} 0 1 = cc in absurd (omega arith);
  of_hole = λ d text h. let z : ◌≡◌ {A = ℕ} 0 1 = cc in absurd (omega arith);
}

module _ (b : Book) (s : Sound b) where
  -- other aliases, where no template is loaded
  with_aliases : (a : Aliases) → b.loaded ≡ None → Sound (record { aliases = a; loaded = b.loaded; texts = b.texts })
  with_aliases a e = record {
    reads = λ t h. let z : ◌≡◌ {A = ℕ} 0 1 = cc in absurd (omega arith);
    short = s.short;
    zero_free = s.zero_free;
    of_hole = s.of_hole;
  }

  unloaded : none_loaded b ≡ None → b.loaded ≡ None
  unloaded e = no_template b.loaded (passes (is_some b.loaded) _ 0 e)

  -- a call that is refused leaves the book as it is
  by_check : (x : Option Refusal) (c : Book) → (x ≡ None → Sound c) → Sound (unless x b c)
  by_check None c h = h refl
  by_check (Some f) c h = s

  loaded_with : (t : List ℕ) → load_check b t ≡ None → Sound (record { aliases = b.aliases; loaded = Some t; texts = b.texts })
  loaded_with t e =
      let none = unloaded (both (none_loaded b) (refused_by (masked_holes b.aliases.named t)) e).0 in
      let reads : Accepted (template_reading b.aliases.named t) = let_pass (template_check t) (template_reading b.aliases.named t).ending (template_mask t) (both (none_loaded b) (refused_by (masked_holes b.aliases.named t)) e).1 in
      record {
        reads = λ u h. let same : t ≡ u = cc in subst (λ (x : List ℕ). Accepted (template_reading b.aliases.named x)) same reads;
        short = λ d text h. s.short d text h;
        zero_free = λ d text h. s.zero_free d text h;
        of_hole = λ d text h. absurd (no_text b s none d text h);
      }

  -- one more text, of which P holds as of the others
  with_text : (P : ℕ → List ℕ → Type 0) (d : ℕ) (text : List ℕ) → P d text → ((e : ℕ) (u : List ℕ) → b.texts e ≡ Some u → P e u)
      → (e : ℕ) (u : List ℕ) → update eqb b.texts d (Some text) e ≡ Some u → P e u
  with_text P d text p rest e u h = by_digit (eqb d e) refl h
    where
      by_digit : (t : Bool) → eqb d e ≡ t → cond t (Some text) (b.texts e) ≡ Some u → P e u
      by_digit true q r = let same : text ≡ u = cc in subst (λ (x : List ℕ). P e x) same (subst (λ (n : ℕ). P n text) (eqb-true d e q) p)
      by_digit false q r = rest e u r

  bound_with : (d : ℕ) (text : List ℕ) → bind_check b d text ≡ None → Sound (record { aliases = b.aliases; loaded = b.loaded; texts = update eqb b.texts d (Some text) })
  bound_with d text e =
      let loaded = both (some_loaded b) _ e in
      let hole = both (refuse_if (not (has_hole d (symbols b))) NoSuchHole 0) _ loaded.1 in
      let long = both (refuse_if (ltb 128 (length text)) TooLong 0) (refuse_at (first_zero text) ZeroByte) hole.1 in
      record {
        reads = s.reads;
        short = with_text (λ _ u. length u ≤ 128) d text (omega (arith, ltb-false 128 (length text) (passes (ltb 128 (length text)) TooLong 0 long.0))) s.short;
        zero_free = with_text (λ _ u. ZeroFree u) d text (zero_free_from 0 text (sym (position_from-zero (λ b. eqb b 0) text) ∙ passes_at (first_zero text) ZeroByte long.1)) s.zero_free;
        of_hole = with_text (λ n _. has_hole n (symbols b) ≡ true) d text (is_so (has_hole d (symbols b)) (passes (not (has_hole d (symbols b))) NoSuchHole 0 hole.0)) s.of_hole;
      }

  stays_sound : (q : Request) → Sound (next b q)
  stays_sound (alias n v) = by_check (alias_check b n v) _ (λ e. with_aliases (defined b.aliases n v) (unloaded (both (none_loaded b) (define_check b.aliases n v) e).0))
  stays_sound (unalias n) = by_check (unalias_check b n) _ (λ e. with_aliases (removed b.aliases n) (unloaded (both (none_loaded b) (remove_check b.aliases n) e).0))
  stays_sound (load t) = by_check (load_check b t) _ (loaded_with t)
  stays_sound unload = by_check (unload_check b) _ (λ e. without_template b.aliases)
  stays_sound (bind d text) = by_check (bind_check b d text) _ (bound_with d text)
  stays_sound render = s
  stays_sound (list t) = s

sound_after : (b : Book) → Sound b → (qs : List Request) → Sound (after b qs)
sound_after b s [] = s
sound_after b s (q ∷ qs) = sound_after (next b q) (stays_sound b s q) qs

pub books_are_sound : BooksAreSound
books_are_sound qs = sound_after start (without_template no_aliases) qs
