-- The form in single quotes: its pieces, its length, and that it is lawful. Assumes nothing.
use Rattle.std.specs.Prelude.{◌≡◌, ℕ, ◌+◌, ◌*◌, ◌≤◌, Bool, true, false, cond, ◌≢◌, List, [], ◌∷◌, ◌++◌, length, Some, codes, ◌==◌, refl}
use Rattle.std.proofs.Common.{ap, ◌∙◌, inl, inr, arith, length-append}
use Rattle.std.proofs.Math.Nat.{le_refl, le_of_eq, le_trans, le-add_right, add-le-add, add_comm, add_assoc}
use Rattle.std.proofs.lemmas.Bool.{cases_eq, eq-eqb, ne_eqb}
use Rattle.std.specs.List.{flat_map}
use Rattle.basics.specs.Bytes.{single_quote, occurrences}
use Rattle.quoting.specs.declared.form.State.TheVariants.{SingleQuoted}
use Rattle.quoting.specs.Forms.{delivered, with_byte, Lawful}
use Rattle.quoting.specs.Singles.{inside, single}
use Rattle.quoting.specs.Joins.{joined_length, joined_short}
use Rattle.quoting.specs.Pieces.{pieced}
use Rattle.quoting.specs.Steps.{by_step, single_other}

pub inside_quote : (b : ℕ) → b ≡ single_quote → inside b ≡ codes "'\\''"
inside_quote b e = rw (eq-eqb b single_quote e)

pub inside_other : (b : ℕ) → b ≢ single_quote → inside b ≡ b ∷ []
inside_other b n = rw (ne_eqb b single_quote n)

inside_length : (b : ℕ) → length (inside b) ≡ 1 + 3 * cond (b == single_quote) 1 0
inside_length b = by_test (b == single_quote)
  where
    by_test : (t : Bool) → length (cond t (codes "'\\''") (b ∷ [])) ≡ 1 + 3 * cond t 1 0
    by_test true = refl
    by_test false = refl

pub single_length : (text : List ℕ) → length (single text) ≡ length text + 3 * occurrences single_quote text + 2
single_length text = omega (arith, length-append (flat_map inside text) (codes "'"), joined_length inside single_quote 1 3 inside_length text)

pub single_pieced : (text : List ℕ) → single text ≡ pieced (λ t. codes "'") inside text
single_pieced text = refl

inside_short : (b : ℕ) → length (inside b) ≤ 4
inside_short b = by_test (b == single_quote)
  where
    by_test : (t : Bool) → length (cond t (codes "'\\''") (b ∷ [])) ≤ 4
    by_test true = le_refl 4
    by_test false = le-add_right 1 3

-- by lemmas alone, since a law of `Pieces` cites it
pub single_short : (text : List ℕ) → length (single text) ≤ 4 * length text + 2
single_short text =
    le_trans (le_of_eq (length-append (codes "'") (flat_map inside text ++ codes "'") ∙ ap (λ n. 1 + n) (length-append (flat_map inside text) (codes "'"))))
    (le_trans (add-le-add (le_refl 1) (add-le-add (joined_short inside 4 inside_short text) (le_refl 1)))
    (le_of_eq (add_comm 1 (4 * length text + 1) ∙ add_assoc (4 * length text) 1 1)))

-- in single quotes the pieces deliver the text, and the last ' leaves them
pieces_deliver : (text : List ℕ) → delivered SingleQuoted (flat_map inside text ++ codes "'") ≡ Some text
pieces_deliver [] = refl
pieces_deliver (b ∷ text) = elim (cases_eq b single_quote) [
  | inl e ↦ rw (inside_quote b e, e) (ap (with_byte single_quote) (pieces_deliver text))
  | inr n ↦ rw (inside_other b n) (by_step SingleQuoted b (single_other b n) (flat_map inside text ++ codes "'") ∙ ap (with_byte b) (pieces_deliver text))
]

pub single_lawful : Lawful single
single_lawful text free = record {
  some = omega (arith, single_length text);
  reads = pieces_deliver text;
  short = single_short text;
}
