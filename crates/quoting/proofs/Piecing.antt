-- A form that is written into a page piece by piece. Assumes nothing.
use Rattle.std.proofs.Common.{◌≡◌, ℕ, ◌+◌, ◌<◌, ◌≤◌, true, leb, List, ◌++◌, length, get_or, take, sym, ap, ◌∙◌, arith, length-append}
use Rattle.std.proofs.lemmas.List.{take_all}
use Rattle.std.proofs.lemmas.Bool.{leb-true}
use Rattle.std.specs.List.{flat_map}
use Rattle.basics.specs.Pages.{pasted, over}
use Rattle.basics.proofs.Over.{put_more}
use Rattle.quoting.specs.Joins.{joined_room}
use Rattle.quoting.specs.Pieces.{pieced}

-- what is known once the form is said to fit the page, and the edge is known
pub record Fits (form edge text page : List ℕ) (f : ℕ → List ℕ) : Type 0 where
  pub made : form ≡ edge ++ flat_map f text ++ edge
  pub room : length form ≤ length page

pub fits : (edge : List ℕ → List ℕ) (f : ℕ → List ℕ) (form e text page : List ℕ) → form ≡ pieced edge f text → e ≡ edge text
    → leb (length form) (length page) ≡ true → Fits form e text page f
fits edge f form e text page p q h = record {
  made = p ∙ ap (λ x. x ++ flat_map f text ++ x) (sym q);
  room = leb-true (length form) (length page) h;
}

module _ (form edge text page : List ℕ) (f : ℕ → List ℕ) (all : Fits form edge text page f) where
  total : length form ≡ length edge + length (flat_map f text) + length edge
  total = omega (arith, ap length all.made, length-append (edge ++ flat_map f text) edge, length-append edge (flat_map f text))

  pub edge_room : 0 + length edge ≤ length page
  edge_room = omega (arith, total, all.room)

  pub piece_room : (i at : ℕ) → i < length text → at ≡ length (edge ++ flat_map f (take i text)) → at + length (f (get_or text i 0)) ≤ length page
  piece_room i at h a = omega (arith, total, all.room, length-append edge (flat_map f (take i text)), joined_room f text i h)

  module _ (i at : ℕ) (part : List ℕ) (end : length text ≤ i) (a : at ≡ length (edge ++ flat_map f (take i text))) (p : part ≡ over (edge ++ flat_map f (take i text)) page) where
    all_pieces : edge ++ flat_map f (take i text) ≡ edge ++ flat_map f text
    all_pieces = ap (λ t. edge ++ flat_map f t) (take_all i text end)

    pub last_at : at + length edge ≡ length form
    last_at = omega (arith, total, a, ap length all_pieces, length-append edge (flat_map f text))

    pub last_put : pasted at edge part ≡ over form page
    last_put =
        put_more (edge ++ flat_map f (take i text)) edge page part at p a
        ∙ ap (λ z. over z page) (ap (λ z. z ++ edge) all_pieces ∙ sym all.made)
