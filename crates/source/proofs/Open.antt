-- Aliases that are open, each but once. Assumes nothing.
use Rattle.std.proofs.Common.{◌≡◌, ℕ, ◌+◌, ◌≤◌, Bool, true, false, cond, List, Some, None, Option, map, take, [], ◌∷◌, ◌++◌, length, ◌||◌, refl, sym, ap, subst, arith, length-take-le}
use Rattle.std.specs.Prelude.{IsSome}
use Rattle.std.specs.List.{IsDistinct}
use Rattle.std.specs.Str.{bytes_eq}
use Rattle.std.proofs.lemmas.Cmp.{nat_list_eq_equiv}
use Rattle.std.proofs.lemmas.List.{length-map, length-reverse}
use Rattle.std.proofs.lemmas.List.Sorted.{IsPermutation-to_front}
use Rattle.std.proofs.lemmas.Map.Keys.{IsDistinct-push, IsDistinct-IsPermutation, IsDistinct-tail}
use Rattle.std.proofs.lemmas.Map.Steps.{length-le_from_keys}
use Rattle.std.proofs.lemmas.Slice.Eq.{bytes_eq-Decides}
use Rattle.aliases.specs.declared.alias.Alias.{Alias}
use Rattle.aliases.specs.Rows.{entry, name_of, value_of, look_up}
use Rattle.aliases.specs.declared.table.AliasTable.{AliasTable}
use Rattle.aliases.specs.Tables.{rows, aliases_of}
use Rattle.source.specs.declared.alias.Replacement.{Replacement}
use Rattle.source.specs.declared.symbol.Symbol.{Symbol}
use Rattle.source.specs.Symbols.{aliased}
use Rattle.source.specs.Replacing.{is_listed, stands_for}
use Rattle.source.specs.Opened.{AreOpen, fronted, open_names}
use Rattle.source.proofs.Opened.{open_names_push, length_aliased}

pub none_open : (table : AliasTable) → AreOpen table []
unfolding IsDistinct
none_open table = record { apart = tt; few = omega arith; known = λ n t. let z : ◌≡◌ {A = ℕ} 0 1 = cc in absurd (omega arith) }

module _ (table : AliasTable) (names : List (List ℕ)) (word : List ℕ) where
  pub one_more : AreOpen table names → is_listed word names ≡ false → IsSome ((aliases_of table).named word) → length (rows table) ≤ 8 → AreOpen table (word ∷ names)
  one_more h free found room =
      let apart = IsDistinct-IsPermutation bytes_eq nat_list_eq_equiv.symm (names ++ word ∷ []) (word ∷ names) (IsPermutation-to_front names word) (IsDistinct-push nat_list_eq_equiv names word h.apart free) in
      let known : (n : List ℕ) → is_listed n (word ∷ names) ≡ true → IsSome ((aliases_of table).named n) =
      λ n t. elim (bytes_eq n word) as (λ b. bytes_eq n word ≡ b → (b || is_listed n names) ≡ true → IsSome ((aliases_of table).named n)) [
        | true ↦ λ e t. subst (λ (m : List ℕ). IsSome ((aliases_of table).named m)) (sym ((bytes_eq-Decides n word).0 e)) found
        | false ↦ λ e t. h.known n t
      ] refl t in
      let most : length (word ∷ names) ≤ length (rows table) = length-le_from_keys nat_list_eq_equiv (word ∷ names) (rows table) apart known in
      record { apart = apart; few = omega arith; known = known }

  pub one_less : AreOpen table (word ∷ names) → AreOpen table names
  one_less h = record {
    apart = IsDistinct-tail bytes_eq word names h.apart;
    few = let f = h.few in omega arith;
    known = λ n t. h.known n (elim (bytes_eq n word) as (λ b. (b || is_listed n names) ≡ true) [ true ↦ refl | false ↦ t ]);
  }

pub length_open : (rs : List Replacement) → length (open_names rs) ≡ length rs
length_open rs = simp (length-reverse, length-map)

-- an end is to come for each that is open
pub length_fronted : (rs : List Replacement) (ss : List Symbol) → length rs + length ss ≤ length (fronted rs ss)
length_fronted [] ss = omega arith
length_fronted (r ∷ rs) ss = omega (arith, length_fronted rs (aliased r.rest.now r.place ss), length_aliased r.rest.now r.place ss)

-- a replacement behind the others
module _ (table : AliasTable) (rs : List Replacement) (r : Replacement) where
  pub AreOpen-push : AreOpen table (r.name.now ∷ open_names rs) → AreOpen table (open_names (rs ++ r ∷ []))
  AreOpen-push h = rw open_names_push h

  pub AreOpen-pop : AreOpen table (open_names (rs ++ r ∷ [])) → AreOpen table (r.name.now ∷ open_names rs)
  AreOpen-pop h = subst (AreOpen table) (open_names_push rs r) h

-- a value has at most 64 bytes

short_rows : (row : List Alias) (w v : List ℕ) → look_up (map entry row) w ≡ Some v → length v ≤ 64
short_rows [] w v h = let z : ◌≡◌ {A = ℕ} 0 1 = cc in absurd (omega arith)
short_rows (a ∷ row) w v h = by_name (bytes_eq w (name_of (entry a))) (short_rows row w v) h
  where
    by_name : (t : Bool) → (look_up (map entry row) w ≡ Some v → length v ≤ 64) → cond t (Some (value_of (entry a))) (look_up (map entry row) w) ≡ Some v → length v ≤ 64
    by_name true more q = let e : value_of (entry a) ≡ v = cc in omega (arith, ap length e, length-take-le a.value_len a.value (omega (arith, a.within)), a.within)
    by_name false more q = more q

pub short_value : (t : AliasTable) (ns : List (List ℕ)) (w v : List ℕ) → stands_for (aliases_of t).named ns w ≡ Some v → length v ≤ 64
short_value t ns w v h = by_listed (is_listed w ns) h
  where
    by_listed : (b : Bool) → cond b None ((aliases_of t).named w) ≡ Some v → length v ≤ 64
    by_listed true q = let z : ◌≡◌ {A = ℕ} 0 1 = cc in absurd (omega arith)
    by_listed false q = short_rows (take t.count t.slots) w v q
