-- What a change of the aliases in a row does to what their names stand for. Assumes nothing.
use Rattle.std.proofs.Common.{◌≡◌, ℕ, suc, ◌+◌, ◌-◌, ◌<◌, ◌≤◌, true, false, cond, List, [], ◌∷◌, ◌++◌, length, get_or, set, is_some, Some, None, Option, sym, subst, refl, ap, ◌∙◌, arith, length-set, length-take, length-take-le, map, take}
use Rattle.std.proofs.Math.Path.{fun_ext}
use Rattle.std.proofs.Math.Seq.{take-set-lt}
use Rattle.std.specs.Prelude.{swap_remove, remove, IsPermutation, Contains, option_map, unwrap_or}
use Rattle.std.specs.List.{IsDistinct, AllByRecursion}
use Rattle.std.specs.Map.{update}
use Rattle.std.specs.Str.{bytes_eq}
use Rattle.std.proofs.lemmas.Bool.{not-true}
use Rattle.std.proofs.lemmas.Cmp.{nat_list_eq_equiv}
use Rattle.std.proofs.lemmas.List.{get_or-set_same, get_or_default, get_or-map, map-set, map_push, length_push, set-get_or, take-set, drop-set-lt, take_more_set, length-map, take-take, get_or-take, take-map}
use Rattle.std.proofs.lemmas.List.Elements.{Contains-get_or}
use Rattle.std.proofs.lemmas.List.Sorted.{IsPermutation-swap_remove, IsPermutation-remove, IsPermutation-to_front, IsPermutation-map, IsPermutation-sym, Contains-permutation}
use Rattle.std.proofs.lemmas.Map.{NonePasses, lookup-none, update_other, update-update}
use Rattle.std.proofs.lemmas.Map.Keys.{IsDistinct-head, IsDistinct-tail, IsDistinct-IsPermutation, IsDistinct-push}
use Rattle.std.proofs.lemmas.Map.Views.{Contains-from_lookup, lookup-from_Contains}
use Rattle.std.proofs.lemmas.Option.{slice_get-get_or}
use Rattle.std.proofs.lemmas.Slice.Eq.{bytes_eq-Decides}
use Rattle.aliases.specs.declared.alias.Alias.{Alias}
use Rattle.aliases.specs.Aliases.{Aliases, defined, removed}
use Rattle.aliases.specs.Rows.{Entry, entry, row_of, name_of, value_of, names, name_at, value_at, look_up, is_free}

-- the aliases that a row means
abbrev pub meant : List Entry → Aliases
meant row = record { named = look_up row; count = length row }

-- a look-up with another answer at a name
abbrev at : (List ℕ → Option (List ℕ)) → List ℕ → Option (List ℕ) → List ℕ → Option (List ℕ)
at f n v q = cond (bytes_eq q n) v (f q)

at_is_update : (f : List ℕ → Option (List ℕ)) (n : List ℕ) (v : Option (List ℕ)) → at f n v ≡ update bytes_eq f n v
at_is_update f n v = fun_ext (λ q. ap (λ b. cond b v (f q)) (nat_list_eq_equiv.symm q n))

-- a row of different names stands for the same in any order
module _ (row other : List Entry) (moved : IsPermutation row other) (apart : IsDistinct bytes_eq (names row)) where
  pub apart_moved : IsDistinct bytes_eq (names other)
  apart_moved = IsDistinct-IsPermutation bytes_eq nat_list_eq_equiv.symm _ _ (IsPermutation-map name_of row other moved) apart

  by_found : (q : List ℕ) (found found' : Option (List ℕ)) → look_up row q ≡ found → look_up other q ≡ found' → found ≡ found'
  by_found q None None e f = refl
  by_found q (Some v) w e f = sym (lookup-from_Contains nat_list_eq_equiv q v other apart_moved (Contains-permutation row other (q, v) moved (Contains-from_lookup (λ x y. (bytes_eq-Decides x y).0) q v row e))) ∙ f
  by_found q None (Some w) e f = sym e ∙ lookup-from_Contains nat_list_eq_equiv q w row apart (Contains-permutation other row (q, w) (IsPermutation-sym row other moved) (Contains-from_lookup (λ x y. (bytes_eq-Decides x y).0) q w other f))

  pub look_up_moved : look_up row ≡ look_up other
  look_up_moved = fun_ext (λ q. by_found q (look_up row q) (look_up other q) refl refl)

each : (n : List ℕ) (row : List Entry) → AllByRecursion (λ m. bytes_eq n m ≡ false) (names row) → NonePasses (bytes_eq n) row
each n [] h = tt
each n (a ∷ row) h = (h.0, each n row h.1)

name_there : (row : List Entry) (i : ℕ) (a : Entry) → i < length row → name_of (get_or row i a) ≡ name_at row i
name_there row i a h = sym (ap (λ o. unwrap_or (option_map name_of o) []) (slice_get-get_or row i a h))

-- an alias among the rest of a row
module _ (row rest : List Entry) (a : Entry) (moved : IsPermutation row (a ∷ rest)) (apart : IsDistinct bytes_eq (names row)) where
  free : look_up rest (name_of a) ≡ None
  free = lookup-none (bytes_eq (name_of a)) rest (each (name_of a) rest (IsDistinct-head bytes_eq (name_of a) (names rest) (apart_moved row (a ∷ rest) moved apart)))

  pub with_it : look_up row ≡ update bytes_eq (look_up rest) (name_of a) (Some (value_of a))
  with_it = look_up_moved row (a ∷ rest) moved apart ∙ at_is_update (look_up rest) (name_of a) (Some (value_of a))

  pub without_it : look_up rest ≡ update bytes_eq (look_up row) (name_of a) None
  without_it = fun_ext (λ q.
      elim (bytes_eq (name_of a) q) as (λ b. bytes_eq (name_of a) q ≡ b → look_up rest q ≡ cond b None (look_up row q)) [
        | true ↦ λ e. ap (look_up rest) (sym ((bytes_eq-Decides (name_of a) q).0 e)) ∙ free
        | false ↦ λ e. sym (ap (λ f. f q) with_it ∙ update_other bytes_eq (look_up rest) (name_of a) (Some (value_of a)) q e)
      ] refl)

length_struck : (row : List Entry) (i : ℕ) (a : Entry) → i < length row → length (swap_remove row i a) ≡ length row - 1
length_struck row i a h = simp (length-take, length-set) (omega arith)

struck_named : (row : List Entry) (i : ℕ) (a : Entry) → IsDistinct bytes_eq (names row) → i < length row → a ≡ get_or row i a
    → IsDistinct bytes_eq (names (swap_remove row i a)) × (look_up (swap_remove row i a) ≡ update bytes_eq (look_up row) (name_at row i) None)
struck_named row i a apart h is =
    let moved = IsPermutation-swap_remove row i a h is in
    let named : name_of a ≡ name_at row i = ap name_of is ∙ name_there row i a h in (
      IsDistinct-tail bytes_eq (name_of a) _ (apart_moved row (a ∷ swap_remove row i a) moved apart),
      without_it row (swap_remove row i a) a moved apart ∙ ap (λ m. update bytes_eq (look_up row) m None) named,
    )

pub struck : (row : List Entry) (n : List ℕ) (i : ℕ) (a : Entry) → IsDistinct bytes_eq (names row) → i < length row → name_at row i ≡ n → a ≡ get_or row i a
    → IsDistinct bytes_eq (names (swap_remove row i a)) × (meant (swap_remove row i a) ≡ removed (meant row) n)
struck row n i a apart h same is =
    let s = struck_named row i a apart h is in
    (s.0, λ j. record { named = (s.1 ∙ ap (λ m. update bytes_eq (look_up row) m None) same) j; count = length_struck row i a h j })

-- an alias that is new, behind the others
module _ (row : List Entry) (n v : List ℕ) (free : is_free n (names row) ≡ true) (apart : IsDistinct bytes_eq (names row)) where
  apart_pushed : IsDistinct bytes_eq (names (row ++ (n, v) ∷ []))
  apart_pushed = rw map_push (IsDistinct-push nat_list_eq_equiv (names row) n apart (not-true _ free))

  pushed_named : look_up (row ++ (n, v) ∷ []) ≡ update bytes_eq (look_up row) n (Some v)
  pushed_named = with_it (row ++ (n, v) ∷ []) row (n, v) (IsPermutation-to_front row (n, v)) apart_pushed

  pub pushed : look_up row n ≡ None → (a : Entry) → a ≡ (n, v)
      → IsDistinct bytes_eq (names (row ++ a ∷ [])) × (meant (row ++ a ∷ []) ≡ defined (meant row) n v)
  pushed none a is =
      rw is (
        apart_pushed,
        λ j. record {
          named = pushed_named j;
          count = (length_push row (n, v) ∙ sym (ap (λ o. cond (is_some o) (length row) (length row + 1)) none)) j;
        },
      )

-- an alias in the place of one of the same name
module _ (row : List Entry) (n v : List ℕ) (i : ℕ) (h : i < length row) (same : name_at row i ≡ n) (apart : IsDistinct bytes_eq (names row)) where
  abbrev old : Entry
  old = get_or row i (n, v)

  named_so : name_of old ≡ n
  named_so = name_there row i (n, v) h ∙ same

  apart_still : IsDistinct bytes_eq (names (set row i (n, v)))
  apart_still = rw (map-set, ← named_so) (rw (← get_or-map name_of row i (n, v) [] h, set-get_or) apart)

  renewed_named : look_up (set row i (n, v)) ≡ update bytes_eq (look_up row) n (Some v)
  renewed_named =
      let rest : remove (set row i (n, v)) i ≡ remove row i = rw (take-set, drop-set-lt (suc i) row i (n, v) (omega arith)) refl in
      let moved = subst (λ l. IsPermutation (set row i (n, v)) ((n, v) ∷ l)) rest (IsPermutation-remove (set row i (n, v)) i (n, v) (omega (arith, length-set row i (n, v))) (sym (get_or-set_same row i (n, v) (n, v) h))) in
      let before = IsPermutation-remove row i old h (get_or_default row i (n, v) old h) in
      with_it (set row i (n, v)) (remove row i) (n, v) moved apart_still
      ∙ ap (λ f. update bytes_eq f n (Some v)) (without_it row (remove row i) old before apart)
      ∙ rw named_so (fun_ext (update-update bytes_eq (look_up row) n None (Some v)))

  pub renewed : {w : List ℕ} → look_up row n ≡ Some w → (a : Entry) → a ≡ (n, v)
      → IsDistinct bytes_eq (names (set row i a)) × (meant (set row i a) ≡ defined (meant row) n v)
  renewed some a is =
      rw is (
        apart_still,
        λ j. record {
          named = renewed_named j;
          count = (length-set row i (n, v) ∙ sym (ap (λ o. cond (is_some o) (length row) (length row + 1)) some)) j;
        },
      )

-- the value at an index is the value at its name
pub value_known : (row : List Entry) (i : ℕ) (n : List ℕ) → i < length row → name_at row i ≡ n → IsDistinct bytes_eq (names row) → look_up row n ≡ Some (value_at row i)
value_known row i n h same apart =
    let e : Entry = get_or row i ([], []) in
    let value : value_at row i ≡ value_of e = ap (λ o. unwrap_or (option_map value_of o) []) (slice_get-get_or row i ([], []) h) in
    let named : name_of e ≡ n = name_there row i ([], []) h ∙ same in
    lookup-from_Contains nat_list_eq_equiv n (value_of e) row apart (subst (λ (m : List ℕ). Contains row (m, value_of e)) named (Contains-get_or row i ([], []) h)) ∙ ap Some (sym value)

-- the aliases in the first n slots, after a write to the slots
module _ (slots : List Alias) (n : ℕ) (within : n ≤ length slots) where
  pub length_row : length (row_of n slots) ≡ n
  length_row = simp length-map (length-take-le n slots within)

  pub set_row : (i : ℕ) (a : Alias) → i < n → row_of n (set slots i a) ≡ set (row_of n slots) i (entry a)
  set_row i a l = ap (map entry) (take-set-lt n slots i a l) ∙ map-set entry (take n slots) i a

  pub push_row : (a : Alias) → n < length slots → row_of (n + 1) (set slots n a) ≡ row_of n slots ++ entry a ∷ []
  push_row a l = ap (map entry) (take_more_set slots n a l) ∙ map_push entry (take n slots) a

  -- the last alias, also where it is itself the one that is written over
  pub strike_row : (i : ℕ) (d : Alias) (e : Entry) → i < n → row_of (n - 1) (set slots i (get_or slots (n - 1) d)) ≡ swap_remove (row_of n slots) i e
  strike_row i d e l =
      let last = get_or slots (n - 1) d in
      let read : get_or (row_of n slots) (n - 1) e ≡ entry last =
      get_or-map entry (take n slots) (n - 1) d e (omega (arith, length-take-le n slots within)) ∙ ap entry (get_or-take n slots (n - 1) d (omega arith)) in
      sym (ap (λ m. take (m - 1) (set (row_of n slots) i (get_or (row_of n slots) (m - 1) e))) length_row
      ∙ ap (λ x. take (n - 1) (set (row_of n slots) i x)) read
      ∙ ap (take (n - 1)) (sym (set_row i last l))
      ∙ take-map entry (n - 1) (take n (set slots i last))
      ∙ ap (map entry) (take-take (n - 1) n (set slots i last) (omega arith)))

  -- what the names stand for, and that they are still different
  module _ (apart : IsDistinct bytes_eq (names (row_of n slots))) where
    module _ (i : ℕ) (a : Alias) (l : i < n) (e : name_at (row_of n slots) i ≡ name_of (entry a)) where
      pub replaced_apart : IsDistinct bytes_eq (names (row_of n (set slots i a)))
      replaced_apart = rw (set_row i a l) (apart_still (row_of n slots) (name_of (entry a)) (value_of (entry a)) i (omega (arith, length_row)) e apart)

      pub replaced : look_up (row_of n (set slots i a)) ≡ update bytes_eq (look_up (row_of n slots)) (name_of (entry a)) (Some (value_of (entry a)))
      replaced = rw (set_row i a l) (renewed_named (row_of n slots) (name_of (entry a)) (value_of (entry a)) i (omega (arith, length_row)) e apart)

    module _ (a : Alias) (l : n < length slots) (free : is_free (name_of (entry a)) (names (row_of n slots)) ≡ true) where
      pub appended_apart : IsDistinct bytes_eq (names (row_of (n + 1) (set slots n a)))
      appended_apart = rw (push_row a l) (apart_pushed (row_of n slots) (name_of (entry a)) (value_of (entry a)) free apart)

      pub appended : look_up (row_of (n + 1) (set slots n a)) ≡ update bytes_eq (look_up (row_of n slots)) (name_of (entry a)) (Some (value_of (entry a)))
      appended = rw (push_row a l) (pushed_named (row_of n slots) (name_of (entry a)) (value_of (entry a)) free apart)

    module _ (i : ℕ) (d : Alias) (l : i < n) where
      abbrev dropped : Entry
      dropped = get_or (row_of n slots) i (entry d)

      gone : IsDistinct bytes_eq (names (swap_remove (row_of n slots) i dropped)) × (look_up (swap_remove (row_of n slots) i dropped) ≡ update bytes_eq (look_up (row_of n slots)) (name_at (row_of n slots) i) None)
      gone = struck_named (row_of n slots) i dropped apart (omega (arith, length_row)) (get_or_default (row_of n slots) i (entry d) dropped (omega (arith, length_row)))

      pub struck_apart : IsDistinct bytes_eq (names (row_of (n - 1) (set slots i (get_or slots (n - 1) d))))
      struck_apart = rw (strike_row i d dropped l) gone.0

      pub struck_out : look_up (row_of (n - 1) (set slots i (get_or slots (n - 1) d))) ≡ update bytes_eq (look_up (row_of n slots)) (name_at (row_of n slots) i) None
      struck_out = rw (strike_row i d dropped l) gone.1
