-- The form with backslashes: its pieces, its length, and that it is lawful. Assumes nothing.
use Rattle.std.specs.Prelude.{◌≡◌, ℕ, ◌+◌, ◌*◌, ◌<◌, ◌≤◌, Bool, true, false, cond, ◌≢◌, List, [], ◌∷◌, length, Some, codes, ◌==◌, refl}
use Rattle.std.proofs.Common.{sym, ap, ◌∙◌, inl, inr, arith}
use Rattle.std.proofs.Math.Nat.{le_refl, le_trans, le-add_right}
use Rattle.std.proofs.lemmas.Bool.{cases_eq, eq-eqb, ne_eqb}
use Rattle.std.proofs.lemmas.List.{append-nil}
use Rattle.std.specs.List.{flat_map}
use Rattle.basics.specs.Bytes.{newline, backslash, occurrences}
use Rattle.quoting.specs.declared.form.State.TheVariants.{Bare, Escaped}
use Rattle.quoting.specs.Forms.{delivered, with_byte, Lawful}
use Rattle.quoting.specs.Backslashes.{escaped, backslashed, brink}
use Rattle.quoting.specs.Joins.{joined_length, joined_short}
use Rattle.quoting.specs.Pieces.{pieced}
use Rattle.quoting.specs.Steps.{by_step, escaped_byte}

pub escaped_newline : (b : ℕ) → b ≡ newline → escaped b ≡ codes "'\n'"
escaped_newline b e = rw (eq-eqb b newline e)

pub escaped_other : (b : ℕ) → b ≢ newline → escaped b ≡ backslash ∷ b ∷ []
escaped_other b n = rw (ne_eqb b newline n)

escaped_length : (b : ℕ) → length (escaped b) ≡ 2 + 1 * cond (b == newline) 1 0
escaped_length b = by_test (b == newline)
  where
    by_test : (t : Bool) → length (cond t (codes "'\n'") (backslash ∷ b ∷ [])) ≡ 2 + 1 * cond t 1 0
    by_test true = refl
    by_test false = refl

pub pieces_length : (text : List ℕ) → length (flat_map escaped text) ≡ 2 * length text + occurrences newline text
pieces_length text = omega (arith, joined_length escaped newline 2 1 escaped_length text)

pieces_deliver : (text : List ℕ) → delivered Bare (flat_map escaped text) ≡ Some text
pieces_deliver [] = refl
pieces_deliver (b ∷ text) = elim (cases_eq b newline) [
  | inl e ↦ rw (escaped_newline b e, e) (ap (with_byte newline) (pieces_deliver text))
  | inr n ↦ rw (escaped_other b n) (by_step Escaped b (escaped_byte b n) (flat_map escaped text) ∙ ap (with_byte b) (pieces_deliver text))
]

pub backslashed_is : (text : List ℕ) → 0 < length text → backslashed text ≡ flat_map escaped text
backslashed_is [] h = absurd (omega arith)
backslashed_is (b ∷ text) h = refl

pub backslashed_pieced : (text : List ℕ) → backslashed text ≡ pieced brink escaped text
backslashed_pieced [] = refl
backslashed_pieced (b ∷ text) = sym (append-nil (flat_map escaped (b ∷ text)))

escaped_short : (b : ℕ) → length (escaped b) ≤ 3
escaped_short b = by_test (b == newline)
  where
    by_test : (t : Bool) → length (cond t (codes "'\n'") (backslash ∷ b ∷ [])) ≤ 3
    by_test true = le_refl 3
    by_test false = le-add_right 2 1

-- by lemmas alone, since a law of `Pieces` cites it
pub backslashed_short : (text : List ℕ) → length (backslashed text) ≤ 3 * length text + 2
backslashed_short [] = le_refl 2
backslashed_short (b ∷ text) = le_trans (joined_short escaped 3 escaped_short (b ∷ text)) (le-add_right (3 * length (b ∷ text)) 2)

pub backslashed_lawful : Lawful backslashed
backslashed_lawful [] free = record { some = omega arith; reads = refl; short = omega arith }
backslashed_lawful (b ∷ text) free = record {
  some = omega (arith, pieces_length (b ∷ text));
  reads = pieces_deliver (b ∷ text);
  short = omega (arith, backslashed_short (b ∷ text));
}
