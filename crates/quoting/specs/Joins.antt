-- A form that is written piece by piece: what stands in front, then a piece for each byte of the text. Assumes nothing.
use Rattle.std.specs.Prelude.{◌≡◌, ℕ, ◌+◌, ◌*◌, ◌<◌, ◌≤◌, cond, List, [], ◌∷◌, ◌++◌, length, take, drop, ◌==◌, slice_index}
use Rattle.std.proofs.Common.{sym, ap, ◌∙◌, append_assoc, mul-add, mul-zero, arith, length-append, take-append-drop}
use Rattle.std.proofs.Math.Nat.{le_of_eq, le_trans, add-le-add, add_comm, mul-suc}
use Rattle.std.proofs.lemmas.List.{take_more, flat_map_more}
use Rattle.std.proofs.lemmas.List.Concat.{flat_map-append}
use Rattle.std.proofs.lemmas.List.Sums.{sum_by-cons}
use Rattle.std.specs.List.{flat_map}
use Rattle.basics.specs.Bytes.{occurrences}
use Rattle.basics.specs.Pages.{pasted, over}
use Rattle.basics.proofs.Over.{put_more}

module _ (f : ℕ → List ℕ) where
  joined_next : (t : List ℕ) (i : ℕ) → i < length t → flat_map f (take (i + 1) t) ≡ flat_map f (take i t) ++ f (slice_index t i)
  joined_next t i h = ap (flat_map f) (take_more t i 0 h) ∙ sym (flat_map_more f [] (take i t) (slice_index t i))

  -- there is room for the next piece
  pub joined_room : (t : List ℕ) (i : ℕ) → i < length t → length (flat_map f (take i t)) + length (f (slice_index t i)) ≤ length (flat_map f t)
  joined_room t i h =
      let e : flat_map f t ≡ flat_map f (take (i + 1) t) ++ flat_map f (drop (i + 1) t) =
      ap (flat_map f) (sym (take-append-drop (i + 1) t)) ∙ flat_map-append f (take (i + 1) t) (drop (i + 1) t) in
      omega (arith, ap length e, length-append (flat_map f (take (i + 1) t)) (flat_map f (drop (i + 1) t)), ap length (joined_next t i h), length-append (flat_map f (take i t)) (f (slice_index t i)))

  -- a piece more behind what is written
  pub joined_put : (front t base page last : List ℕ) (i at end : ℕ) (bytes : List ℕ) → i < length t → f (slice_index t i) ≡ bytes
      → at ≡ length (front ++ flat_map f (take i t)) → page ≡ over (front ++ flat_map f (take i t)) base
      → end ≡ at + length bytes → last ≡ pasted at bytes page
      → (end ≡ length (front ++ flat_map f (take (i + 1) t))) × (last ≡ over (front ++ flat_map f (take (i + 1) t)) base)
  joined_put front t base page last i at end bytes h e a p n l =
      let more : front ++ flat_map f (take (i + 1) t) ≡ (front ++ flat_map f (take i t)) ++ bytes =
      ap (λ z. front ++ z) (joined_next t i h ∙ ap (λ z. flat_map f (take i t) ++ z) e) ∙ sym (append_assoc front (flat_map f (take i t)) bytes) in (
        omega (arith, ap length more, length-append (front ++ flat_map f (take i t)) bytes),
        l ∙ put_more (front ++ flat_map f (take i t)) bytes base page at p a ∙ ap (λ z. over z base) (sym more),
      )

  -- Where no piece has more than k bytes, the pieces have no more than k for each byte of the text. By lemmas alone: a law of `Pieces` cites it.
  pub joined_short : (k : ℕ) → ((b : ℕ) → length (f b) ≤ k) → (t : List ℕ) → length (flat_map f t) ≤ k * length t
  joined_short k piece [] = le_of_eq (sym (mul-zero k))
  joined_short k piece (b ∷ t) =
      le_trans (le_of_eq (length-append (f b) (flat_map f t)))
      (le_trans (add-le-add (piece b) (joined_short k piece t))
      (le_of_eq (add_comm k (k * length t) ∙ sym (mul-suc k (length t)))))

  -- where each piece has k bytes, and at the byte x has m more, the length is told by a count
  module _ (x k m : ℕ) (piece : (b : ℕ) → length (f b) ≡ k + m * cond (b == x) 1 0) where
    pub joined_length : (t : List ℕ) → length (flat_map f t) ≡ k * length t + m * occurrences x t
    joined_length [] = omega (arith, mul-zero k, mul-zero m)
    joined_length (b ∷ t) =
        let one : ℕ = cond (b == x) 1 0 in
        omega (arith, length-append (f b) (flat_map f t), piece b, joined_length t, mul-add m one (occurrences x t), ap (λ n. m * n) (sum_by-cons (λ y. cond (y == x) 1 0) b t), mul-add k 1 (length t))
