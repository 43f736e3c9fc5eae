-- What stands first in a template, and the symbols after it. Assumes nothing.
use Rattle.std.proofs.Common.{◌≡◌, ℕ, zero, suc, ◌+◌, ◌-◌, ◌<◌, ◌≤◌, Bool, true, false, cond, List, [], ◌∷◌, length, drop, Some, None, Option, sym, refl, ap, ◌∙◌, ap₂, arith, add-zero, zero-add, length-drop}
use Rattle.std.specs.Prelude.{MatchOption}
use Rattle.source.specs.declared.symbol.Sign.TheVariants.{Byte, Hole}
use Rattle.source.specs.declared.symbol.Symbol.{Symbol}
use Rattle.source.specs.Symbols.{rest, symbol, template, is_hole, width, width_first, hole_spoiled, bad_hole_from, first_bad_hole}

-- n bytes make the first of the symbols ss, the others of which are made by the bytes after them
record Past (n : ℕ) (bs : List ℕ) (k : ℕ) (ss : List Symbol) : Type 0 where
  within : n ≤ length bs
  after : template (drop n bs) (k + n) ≡ rest ss

by_hole : (h : Bool) (a b d e : ℕ) (bs : List ℕ) (k : ℕ) → Past (width (Some (cond h (Hole (d - 48)) (Byte a)))) (a ∷ b ∷ d ∷ e ∷ bs) k (cond h (symbol (Hole (d - 48)) k ∷ template bs (k + 4)) (symbol (Byte a) k ∷ template (b ∷ d ∷ e ∷ bs) (k + 1)))
by_hole true a b d e bs k = record { within = omega arith; after = refl }
by_hole false a b d e bs k = record { within = omega arith; after = refl }

past : (bs : List ℕ) (k : ℕ) → Past (width_first bs) bs k (template bs k)
past [] k = record { within = omega arith; after = refl }
past (a ∷ []) k = record { within = omega arith; after = refl }
past (a ∷ b ∷ []) k = record { within = omega arith; after = refl }
past (a ∷ b ∷ d ∷ []) k = record { within = omega arith; after = refl }
past (a ∷ b ∷ d ∷ e ∷ bs) k = by_hole (is_hole a b d e) a b d e bs k

-- the bytes left after the first symbol, at the place that their number says
module _ (bs left : List ℕ) (k : ℕ) (is : left ≡ drop (width_first bs) bs) where
  taken : length bs - length left ≡ width_first bs
  taken = let h = (past bs k).within in omega (arith, ap length is, length-drop (width_first bs) bs)

  pub after_first : template left (k + (length bs - length left)) ≡ rest (template bs k)
  after_first = ap₂ (λ l n. template l (k + n)) is taken ∙ (past bs k).after

  pub length_after : k + (length bs - length left) + length left ≡ k + length bs
  length_after = let h = (past bs k).within in omega (arith, ap length is, length-drop (width_first bs) bs)

-- the first place at which a hole is spoiled, the first byte being at k
bad_hole_at : (bs : List ℕ) (k i : ℕ) → i < length bs → hole_spoiled (drop i bs) ≡ true → ((j : ℕ) → j < i → hole_spoiled (drop j bs) ≡ false) → Some (k + i) ≡ bad_hole_from k bs
bad_hole_at [] k i h t f = absurd (omega arith)
bad_hole_at (a ∷ bs) k zero h t f = ap Some (add-zero k) ∙ sym (ap (λ b. cond b (Some k) (bad_hole_from (k + 1) bs)) t)
bad_hole_at (a ∷ bs) k (suc i) h t f =
    let place : k + suc i ≡ k + 1 + i = omega arith in
    ap Some place ∙ bad_hole_at bs (k + 1) i (omega arith) t (λ j l. f (suc j) (omega arith))
    ∙ sym (ap (λ b. cond b (Some k) (bad_hole_from (k + 1) bs)) (f 0 (omega arith)))

no_bad_hole : (bs : List ℕ) (k : ℕ) → ((j : ℕ) → j < length bs → hole_spoiled (drop j bs) ≡ false) → None ≡ bad_hole_from k bs
no_bad_hole [] k f = refl
no_bad_hole (a ∷ bs) k f =
    no_bad_hole bs (k + 1) (λ j l. f (suc j) (omega arith)) ∙ sym (ap (λ b. cond b (Some k) (bad_hole_from (k + 1) bs)) (f 0 (omega arith)))

-- what a search of the places in turn finds
pub searched : (bs : List ℕ) (found : Option ℕ) → MatchOption found ((j : ℕ) → 0 ≤ j → j < length bs → hole_spoiled (drop j bs) ≡ false)
    (λ i. (0 ≤ i) × (i < length bs) × (hole_spoiled (drop i bs) ≡ true) × ((j : ℕ) → 0 ≤ j → j < i → hole_spoiled (drop j bs) ≡ false)) → found ≡ first_bad_hole bs
searched bs None f = no_bad_hole bs 0 (λ j l. f j (omega arith) l)
searched bs (Some i) f = ap Some (sym (zero-add i)) ∙ bad_hole_at bs 0 i f.1 f.2 (λ j l. f.3 j (omega arith) l)
