-- The ways that a definition and a removal of an alias go. Assumes nothing.
use Rattle.std.proofs.Common.{◌≡◌, ℕ, ◌+◌, ◌<◌, true, false, cond, not, ◌&&◌, leb, List, is_some, Some, None, Option, sym, ap, ◌∙◌, ap₂}
use Rattle.std.proofs.lemmas.Bool.{lt-leb}
use Rattle.basics.specs.Checks.{refuse_if, or_else, unless}
use Rattle.basics.specs.declared.refusal.Refusal.{Refusal}
use Rattle.basics.specs.declared.refusal.Reason.TheVariants.{TooManyAliases, NoSuchAlias}
use Rattle.aliases.specs.Aliases.{Aliases, define_check, defined, remove_check}
use Rattle.aliases.specs.Spelling.{spelling_check}

pub same_aliases : {a b : Aliases} → a.named ≡ b.named → a.count ≡ b.count → a ≡ b
same_aliases f n = λ i. record { named = f i; count = n i }

pub made_if : {X : Type 0} (check : Option Refusal) (was made now' : X) → check ≡ None → now' ≡ made → now' ≡ unless check was made
made_if check was made now' p e = e ∙ sym (ap (λ c. unless c was made) p)

pub kept_if : {X : Type 0} (check : Option Refusal) (was made : X) (f : Refusal) → check ≡ Some f → was ≡ unless check was made
kept_if check was made f p = sym (ap (λ c. unless c was made) p)

module _ (a : Aliases) (n v : List ℕ) where
  pub misspelled : (f : Refusal) → spelling_check n v ≡ Some f → define_check a n v ≡ Some f
  misspelled f e = ap (λ c. or_else c (refuse_if (not (is_some (a.named n)) && leb 8 a.count) TooManyAliases 0)) e

  module _ (e : spelling_check n v ≡ None) where
    pub another : is_some (a.named n) ≡ true → define_check a n v ≡ None
    another s =
        ap (λ c. or_else c (refuse_if (not (is_some (a.named n)) && leb 8 a.count) TooManyAliases 0)) e
        ∙ ap (λ b. refuse_if (not b && leb 8 a.count) TooManyAliases 0) s

    pub newly : is_some (a.named n) ≡ false → a.count < 8 → define_check a n v ≡ None
    newly s l =
        ap (λ c. or_else c (refuse_if (not (is_some (a.named n)) && leb 8 a.count) TooManyAliases 0)) e
        ∙ ap₂ (λ b m. refuse_if (not b && m) TooManyAliases 0) s (lt-leb 8 a.count l)

  -- the call leaves what it makes
  module _ (e : spelling_check n v ≡ None) (made : Aliases) where
    pub another_made : is_some (a.named n) ≡ true → made ≡ unless (define_check a n v) a made
    another_made s = sym (ap (λ c. unless c a made) (another e s))

    pub newly_made : is_some (a.named n) ≡ false → a.count < 8 → made ≡ unless (define_check a n v) a made
    newly_made s l = sym (ap (λ c. unless c a made) (newly e s l))

  pub count_another : is_some (a.named n) ≡ true → a.count ≡ (defined a n v).count
  count_another s = sym (ap (λ b. cond b a.count (a.count + 1)) s)

  pub count_newly : is_some (a.named n) ≡ false → a.count + 1 ≡ (defined a n v).count
  count_newly s = sym (ap (λ b. cond b a.count (a.count + 1)) s)

module _ (a : Aliases) (n : List ℕ) where
  pub there : is_some (a.named n) ≡ true → remove_check a n ≡ None
  there s = ap (λ b. refuse_if (not b) NoSuchAlias 0) s
