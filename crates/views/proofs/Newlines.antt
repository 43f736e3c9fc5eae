-- Where the last line of a text begins, by its last newline. Assumes nothing.
use Rattle.std.proofs.Common.{◌≡◌, ℕ, ◌+◌, ◌<◌, true, false, cond, List, [], ◌∷◌, length, get_or, zero, suc, refl, ap, ◌∙◌, arith, rules}
use Rattle.std.proofs.lemmas.Bool.{cond-true, cond-false}
use Rattle.basics.specs.Bytes.{newline}
use Rattle.views.specs.Lines.{is_newline, start_from}

newline_is : (b : ℕ) → b ≡ newline → is_newline b ≡ true
newline_is b e = search rules

newline_is_not : (b : ℕ) → (b ≡ newline → ⊥) → is_newline b ≡ false
newline_is_not b e = search rules

-- bytes with no newline begin no line
pub start_with_none : (text : List ℕ) (start i : ℕ) → ((k : ℕ) → k < length text → get_or text k 0 ≡ newline → ⊥) → start_from start i text ≡ start
start_with_none [] start i none = refl
start_with_none (b ∷ text) start i none =
    ap (λ s. start_from s (i + 1) text) (cond-false (is_newline b) (i + 1) start (newline_is_not b (none 0 (omega arith))))
    ∙ start_with_none text start (i + 1) (λ k h. none (suc k) (omega arith))

-- the last line begins past the last newline
pub start_past : (text : List ℕ) (n start i : ℕ) → n < length text → get_or text n 0 ≡ newline
    → ((k : ℕ) → n < k → k < length text → get_or text k 0 ≡ newline → ⊥) → start_from start i text ≡ i + n + 1
start_past [] n start i h e none = absurd (omega arith)
start_past (b ∷ text) zero start i h e none =
    ap (λ s. start_from s (i + 1) text) (cond-true (is_newline b) (i + 1) start (newline_is b e))
    ∙ start_with_none text (i + 1) (i + 1) (λ k l. none (suc k) (omega arith) (omega arith))
    ∙ omega arith
start_past (b ∷ text) (suc n) start i h e none =
    start_past text n (cond (is_newline b) (i + 1) start) (i + 1) (omega arith) e (λ k l m. none (suc k) (omega arith) (omega arith)) ∙ omega arith
