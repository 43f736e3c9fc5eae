-- Lawful forms are those that are read back, each as its text. Assumes nothing.
use Rattle.std.proofs.Common.{◌≡◌, ℕ, Bool, true, false, cond, leb, List, [], ◌∷◌, length, Some, None, Ok, Err, Option, Result, refl, ap, ◌∙◌, arith}
use Rattle.std.proofs.lemmas.Bool.{le-leb, leb-true, cond-true}
use Rattle.basics.proofs.Over.{written_fits}
use Rattle.quoting.specs.declared.form.State.TheVariants.{Bare}
use Rattle.quoting.specs.declared.quoter.NoRoom.{NoRoom}
use Rattle.quoting.specs.declared.unquote.Unread.{Unread}
use Rattle.quoting.specs.Forms.{delivered, longest, LawfulForm, Lawful, judged, unquoted, UnquotingTakesLawfulForms}
use Rattle.quoting.specs.Rooms.{fitted}
use Rattle.quoting.specs.Trips.{Returns, told_back, left_back}
use Rattle.quoting.specs.Unquoting.{answered, left}

pub lawful_unquoted : (text form : List ℕ) → LawfulForm text form → unquoted form ≡ Ok text
lawful_unquoted text [] l = absurd (omega (arith, l.some))
lawful_unquoted text (b ∷ form) l = ap (judged (b ∷ form)) l.reads ∙ cond-true _ _ _ (le-leb (length (b ∷ form)) (longest (length text)) l.short)

unquoted_lawful : (text form : List ℕ) → unquoted form ≡ Ok text → LawfulForm text form
unquoted_lawful text [] e = let z : ◌≡◌ {A = ℕ} 0 1 = cc in absurd (omega arith)
unquoted_lawful text (b ∷ form) e = by_text (delivered Bare (b ∷ form)) refl e
  where
    by_test : (got : List ℕ) (t : Bool) → delivered Bare (b ∷ form) ≡ Some got → leb (length (b ∷ form)) (longest (length got)) ≡ t
        → cond t (Ok got) (Err (longest (length got))) ≡ Ok text → LawfulForm text (b ∷ form)
    by_test got true d h q =
        let same : got ≡ text = cc in
        record { some = omega arith; reads = d ∙ ap (λ x. Some x) same; short = omega (arith, leb-true (length (b ∷ form)) (longest (length got)) h, ap length same) }
    by_test got false d h q = let z : ◌≡◌ {A = ℕ} 0 1 = cc in absurd (omega arith)

    by_text : (o : Option (List ℕ)) → delivered Bare (b ∷ form) ≡ o → judged (b ∷ form) o ≡ Ok text → LawfulForm text (b ∷ form)
    by_text None d q = let z : ◌≡◌ {A = ℕ} 0 1 = cc in absurd (omega arith)
    by_text (Some got) d q = by_test got (leb (length (b ∷ form)) (longest (length got))) d refl q

pub takes_lawful_forms : UnquotingTakesLawfulForms
takes_lawful_forms text form = (lawful_unquoted text form, unquoted_lawful text form)

-- a form that was written fits, and its length was told
pub fitted_ok : (n room k : ℕ) → fitted n room ≡ Ok k → (leb n room ≡ true) × (n ≡ k)
fitted_ok n room k e = by_test (leb n room) (record {}) e
  where
    by_test : (t : Bool) (short : NoRoom) → cond t (Ok n) (Err short) ≡ Ok k → (t ≡ true) × (n ≡ k)
    by_test true short q = (refl, cc)
    by_test false short q = let z : ◌≡◌ {A = ℕ} 0 1 = cc in absurd (omega arith)

-- with a lawful quoter the text comes back
pub returned : (form : List ℕ → List ℕ) (text page part after : List ℕ) (said : Result ℕ Unread)
    → said ≡ told_back (form text) page part → after ≡ left_back (form text) page part → Lawful form → Returns form text page part after said
returned form text page part after said s a lawful free fits room =
    let is : unquoted (form text) ≡ Ok text = lawful_unquoted text (form text) (lawful text free) in
    let roomy = le-leb (length (form text)) (length page) fits in (
      s ∙ cond-true _ _ _ roomy ∙ ap (λ r. answered r (length part)) is ∙ cond-true _ _ _ (le-leb (length text) (length part) room),
      a ∙ cond-true _ _ _ roomy ∙ ap (λ r. left r part) is ∙ written_fits text part room,
    )
