-- What a search for a name finds. Assumes nothing.
use Rattle.std.proofs.Common.{◌≡◌, ℕ, suc, ◌+◌, ◌<◌, Bool, true, false, cond, not, List, [], ◌∷◌, length, map, Some, None, Option, sym, refl, ap, arith}
use Rattle.std.specs.Prelude.{MatchOption, nat_lt, option_map, position}
use Rattle.std.specs.List.{position_or_len}
use Rattle.std.specs.Str.{bytes_eq}
use Rattle.std.proofs.lemmas.Slice.Eq.{bytes_eq-Decides}
use Rattle.std.proofs.lemmas.List.{length-map}
use Rattle.std.proofs.lemmas.Grind.{common_steps}
use Rattle.aliases.specs.declared.alias.Alias.{Alias}
use Rattle.aliases.specs.Rows.{Entry, entry, name_of, names, name_at, look_up, index_of, is_free, value_at_found}

module _ (n : List ℕ) where
  abbrev has : Entry → Bool
  has a = bytes_eq n (name_of a)

  index_entry : (row : List Alias) → position_or_len has (map entry row) ≡ position_or_len (λ a. has (entry a)) row
  index_entry [] = refl
  index_entry (a ∷ row) = ap (λ k. cond (not (has (entry a))) (1 + k) 0) (index_entry row)

  -- the index in a row, by a search of the aliases themselves
  pub searched : (row : List Alias) → index_of n (map entry row) ≡ position (λ a. has (entry a)) row
  searched row = simp (index_entry, length-map) refl

  -- the index in a row of one more
  index_more : (a : Entry) (row : List Entry) → index_of n (a ∷ row) ≡ cond (has a) (Some 0) (option_map suc (index_of n row))
  index_more a row = elim (has a) as (λ b. cond (nat_lt (cond (not b) (1 + position_or_len has row) 0) (suc (length row))) (Some (cond (not b) (1 + position_or_len has row) 0)) None ≡ cond b (Some 0) (option_map suc (index_of n row))) [
    | true ↦ grind (arith, common_steps)
    | false ↦ grind (arith, common_steps)
  ]

  abbrev pub Finds : List Entry → Option ℕ → Type 0
  Finds row found =
      MatchOption found (is_free n (names row) ≡ true) (λ i. (i < length row) × (name_at row i ≡ n))
      × (look_up row n ≡ value_at_found row found)

  finds_more : (a : Entry) (row : List Entry) (found : Option ℕ) (b : Bool) → has a ≡ b → Finds row found → Finds (a ∷ row) (cond b (Some 0) (option_map suc found))
  finds_more a row None true e h = ((omega arith, sym ((bytes_eq-Decides n (name_of a)).0 e)), rw e refl)
  finds_more a row (Some i) true e h = ((omega arith, sym ((bytes_eq-Decides n (name_of a)).0 e)), rw e refl)
  finds_more a row None false e h = (rw e h.0, rw e h.1)
  finds_more a row (Some i) false e h = ((omega arith, h.0.1), rw e h.1)

  pub finds : (row : List Entry) → Finds row (index_of n row)
  finds [] = (refl, refl)
  finds (a ∷ row) = rw index_more (finds_more a row (index_of n row) (has a) refl (finds row))
