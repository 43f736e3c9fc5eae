-- Names of which no two are the same, as a list of the library's. Assumes nothing.
use Rattle.std.proofs.Common.{◌≡◌, true, false, not, ◌||◌, ℕ, List, [], ◌∷◌, refl, arith}
use Rattle.std.specs.List.{IsDistinct, AllByRecursion, list_any}
use Rattle.std.specs.Str.{bytes_eq}
use Rattle.std.proofs.lemmas.Bool.{and_parts, and_from}
use Rattle.aliases.specs.Rows.{is_free, apart}

none_same : (n : List ℕ) (ns : List (List ℕ)) → is_free n ns ≡ true → AllByRecursion (λ m. bytes_eq n m ≡ false) ns
none_same n [] h = tt
none_same n (m ∷ ns) h = elim (bytes_eq n m) as (λ b. bytes_eq n m ≡ b → not (b || list_any (bytes_eq n) ns) ≡ true → (bytes_eq n m ≡ false) × AllByRecursion (λ m. bytes_eq n m ≡ false) ns) [
  | true ↦ λ e t. let z : ◌≡◌ {A = ℕ} 0 1 = cc in absurd (omega arith)
  | false ↦ λ e t. (e, none_same n ns t)
] refl h

free_if : (n : List ℕ) (ns : List (List ℕ)) → AllByRecursion (λ m. bytes_eq n m ≡ false) ns → is_free n ns ≡ true
free_if n [] h = refl
free_if n (m ∷ ns) h = rw h.0 (free_if n ns h.1)

pub distinct : (ns : List (List ℕ)) → apart ns ≡ true → IsDistinct bytes_eq ns
unfolding IsDistinct
distinct [] h = tt
distinct (n ∷ ns) h = let p = and_parts (is_free n ns) (apart ns) h in (none_same n ns p.0, distinct ns p.1)

pub apart_if : (ns : List (List ℕ)) → IsDistinct bytes_eq ns → apart ns ≡ true
unfolding IsDistinct
apart_if [] h = refl
apart_if (n ∷ ns) h = and_from _ _ (free_if n ns h.0) (apart_if ns h.1)
