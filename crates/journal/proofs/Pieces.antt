-- One step of reading a word of a journal. Assumes nothing.
use Rattle.std.proofs.Common.{◌≡◌, ℕ, ◌+◌, ◌<◌, List, [], ◌∷◌, ◌++◌, length, get_or, drop, Some, None, Option, refl, sym, ap, ◌∙◌, append_assoc}
use Rattle.std.proofs.lemmas.List.{at_drop_more}
use Rattle.journal.specs.declared.unescape.Place.{Place}
use Rattle.journal.specs.declared.unescape.Place.TheVariants.{Outside, Percent, High}
use Rattle.journal.specs.declared.unescape.Piece.{Piece}
use Rattle.journal.specs.Escapes.{piece, pieced, ended, unescaped_from, with_byte, behind}

-- a byte more behind the bytes so far
pub behind_byte : (before : List ℕ) (b : ℕ) (o : Option (List ℕ)) → behind (before ++ (b ∷ [])) o ≡ behind before (with_byte b o)
behind_byte before b None = refl
behind_byte before b (Some bytes) = ap (λ l. Some l) (append_assoc before (b ∷ []) bytes)

module _ (p : Place) (word : List ℕ) (i : ℕ) (h : i < length word) where
  abbrev here : ℕ
  here = get_or word i 0

  -- the rest of the word behind the bytes so far, by what its first byte does
  pub turn : {x : Option Piece} {r : Option (List ℕ)} (before : List ℕ) → piece p here ≡ x → behind before (unescaped_from p (drop i word)) ≡ r
      → behind before (pieced x (λ q. unescaped_from q (drop (i + 1) word))) ≡ r
  turn before e so_far =
      sym (ap (behind before) (at_drop_more (unescaped_from p) word i 0 h ∙ ap (λ x. pieced x (λ q. unescaped_from q (drop (i + 1) word))) e)) ∙ so_far

-- inside an escape a word may not end
pub unended : (p : Place) → (p ≡ Outside → ⊥) → ended p ≡ None
unended Outside n = absurd (n refl)
unended Percent n = refl
unended (High high) n = refl
