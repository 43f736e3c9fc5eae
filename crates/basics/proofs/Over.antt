-- Laws of a page that is written from its start. Assumes nothing.
use Rattle.std.proofs.Common.{◌≡◌, ℕ, ◌+◌, ◌-◌, ◌<◌, ◌≤◌, List, [], ◌∷◌, ◌++◌, length, take, drop, set, sym, refl, ap, ◌∙◌, append_assoc, add-one, arith, length-append}
use borrow.Rule.Slice.PartMut.{put_mid}
use Rattle.std.proofs.lemmas.List.{take_at, drop-drop, drop_at, length-drop, take_rest, drop_all, append-nil, set_split}
use Rattle.std.proofs.lemmas.Slice.{drop-append-drop}
use Rattle.std.proofs.lemmas.Bool.{cond-true, cond-false, le-leb, lt-leb}
use Rattle.basics.specs.Pages.{pasted, over, written}

pub length_over : {X : Type 0} (xs page : List X) → length xs ≤ length page → length (over xs page) ≡ length page
length_over xs page h = simp (length-append, length-drop) (omega arith)

-- a piece pasted just behind xs
over_more : {X : Type 0} (xs ys page : List X) → pasted (length xs) ys (over xs page) ≡ over (xs ++ ys) page
over_more xs ys page =
    let rest = drop (length xs) page in
    ap (λ z. z ++ (ys ++ drop (length ys) (drop (length xs) (over xs page)))) (take_at xs rest (length xs) refl)
    ∙ ap (λ z. xs ++ (ys ++ drop (length ys) z)) (drop_at xs rest (length xs) refl)
    ∙ ap (λ z. xs ++ (ys ++ z)) (drop-drop (length ys) (length xs) page ∙ ap (λ n. drop n page) (sym (length-append xs ys)))
    ∙ sym (append_assoc xs ys (drop (length (xs ++ ys)) page))

-- the same for a page that is known to be such
pub put_more : {X : Type 0} (xs ys base page : List X) (at : ℕ) → page ≡ over xs base → at ≡ length xs → pasted at ys page ≡ over (xs ++ ys) base
put_more xs ys base page at p q = ap (pasted at ys) p ∙ ap (λ n. pasted n ys (over xs base)) q ∙ over_more xs ys base

pub over_over : {X : Type 0} (xs ys page : List X) → length ys ≤ length xs → over xs (over ys page) ≡ over xs page
over_over xs ys page h = ap (λ z. xs ++ z) (drop-append-drop (length ys) page ys (length xs) h refl)

pub written_fits : {X : Type 0} (xs page : List X) → length xs ≤ length page → written xs page ≡ over xs page
written_fits xs page h = cond-true _ _ _ (le-leb (length xs) (length page) h)

pub written_short : {X : Type 0} (xs page : List X) → length page < length xs → written xs page ≡ page
written_short xs page h = cond-false _ _ _ (lt-leb (length xs) (length page) h)

-- a write at the start of the part from `at` on is a piece pasted there
pub put_part : {X : Type 0} (xs page last : List X) (at : ℕ) → at + length xs ≤ length page
    → last ≡ written xs (take (length page - at) (drop at page)) → put_mid at (length page - at) page last ≡ pasted at xs page
put_part xs page last at h e =
    let part : last ≡ over xs (drop at page) = e ∙ ap (written xs) (take_rest page at) ∙ written_fits xs (drop at page) (omega (arith, length-drop at page)) in
    let none : drop (length page - at) (drop at page) ≡ [] = drop_all (length page - at) (drop at page) (omega (arith, length-drop at page)) in
    ap (λ z. take at page ++ (last ++ z)) none ∙ ap (λ z. take at page ++ z) (append-nil last ∙ part)

-- one element stored is a piece of one element pasted
pub set_pasted : {X : Type 0} (page : List X) (at : ℕ) (x : X) → at < length page → set page at x ≡ pasted at (x ∷ []) page
set_pasted page at x h = set_split page at x h ∙ ap (λ z. take at page ++ (x ∷ z)) (ap (λ n. drop n page) (sym (add-one at)) ∙ sym (drop-drop 1 at page))
