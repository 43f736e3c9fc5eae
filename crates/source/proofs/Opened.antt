-- Replaced words in front of a source, the innermost last. Assumes nothing.
use Rattle.std.proofs.Common.{◌≡◌, ℕ, zero, suc, ◌+◌, ◌-◌, ◌<◌, ◌≤◌, ◌||◌, true, false, cond, List, [], ◌∷◌, ◌++◌, map, reverse, length, Some, None, Option, sym, refl, ap, ◌∙◌, arith}
use Rattle.std.specs.Prelude.{slice_get}
use Rattle.std.specs.Str.{bytes_eq}
use Rattle.std.specs.List.{list_any}
use Rattle.std.proofs.lemmas.List.{map_push, reverse-append}
use Rattle.std.proofs.lemmas.List.Sorted.{list_any-IsPermutation, IsPermutation-reverse}
use Rattle.source.specs.declared.symbol.Sign.TheVariants.{Byte, Hole, AliasEnd}
use Rattle.source.specs.declared.symbol.Symbol.{Symbol}
use Rattle.source.specs.declared.alias.Replacement.{Replacement}
use Rattle.source.specs.Symbols.{first, aliased, symbol}
use Rattle.source.specs.Replacing.{is_listed, stands_for, closed, outer}
use Rattle.source.specs.Front.{Front}
use Rattle.source.specs.Fronts.{onward, replaced}
use Rattle.aliases.specs.declared.table.AliasTable.{AliasTable}
use Rattle.source.specs.Opened.{seen, fronted, open_names, first_of, sign_of}

pub fronted_push : (rs : List Replacement) (r : Replacement) (ss : List Symbol) → fronted (rs ++ r ∷ []) ss ≡ aliased r.rest.now r.place (fronted rs ss)
fronted_push [] r ss = refl
fronted_push (q ∷ rs) r ss = fronted_push rs r (aliased q.rest.now q.place ss)

pub open_names_push : (rs : List Replacement) (r : Replacement) → open_names (rs ++ r ∷ []) ≡ r.name.now ∷ open_names rs
open_names_push rs r = ap reverse (map_push (λ q. q.name.now) rs r) ∙ reverse-append (map (λ q. q.name.now) rs) (r.name.now ∷ [])

-- the names, from whichever end they are read
pub listed : (n : List ℕ) (rs : List Replacement) → list_any (λ r. bytes_eq n r.name.now) rs ≡ is_listed n (open_names rs)
listed n rs = by_names rs ∙ list_any-IsPermutation (bytes_eq n) _ _ (IsPermutation-reverse (map (λ r. r.name.now) rs))
  where
    by_names : (rs : List Replacement) → list_any (λ r. bytes_eq n r.name.now) rs ≡ list_any (bytes_eq n) (map (λ r. r.name.now) rs)
    by_names [] = refl
    by_names (r ∷ rs) = ap (λ b. bytes_eq n r.name.now || b) (by_names rs)

pub first_aliased : (r : Replacement) (ss : List Symbol) → Some (first_of r) ≡ first (aliased r.rest.now r.place ss)
first_aliased r ss = elim r.rest.now as (λ l. Some (symbol (sign_of l) r.place) ≡ first (aliased l r.place ss)) [ [] ↦ refl | ◌∷◌ b bs ↦ refl ]

-- what the innermost gives is what comes first
pub first_last : (rs : List Replacement) (r : Replacement) (ss : List Symbol) → Some r ≡ slice_get rs (length rs - 1) → Some (first_of r) ≡ first (fronted rs ss)
first_last [] r ss e = let z : ◌≡◌ {A = ℕ} 0 1 = cc in absurd (omega arith)
first_last (q ∷ []) r ss e = let same : r ≡ q = cc in ap (λ x. Some (first_of x)) same ∙ first_aliased q ss
first_last (q ∷ p ∷ rs) r ss e = first_last (p ∷ rs) r (aliased q.rest.now q.place ss) (e ∙ before)
  where
    before : slice_get (q ∷ p ∷ rs) (suc (suc (length rs)) - 1) ≡ slice_get (p ∷ rs) (suc (length rs) - 1)
    before =
        let far : suc (suc (length rs)) - 1 ≡ suc (length rs) = omega arith in
        let near : suc (length rs) - 1 ≡ length rs = omega arith in
        ap (slice_get (q ∷ p ∷ rs)) far ∙ sym (ap (slice_get (p ∷ rs)) near)

pub length_aliased : (bs : List ℕ) (k : ℕ) (ss : List Symbol) → length (aliased bs k ss) ≡ length bs + 1 + length ss
length_aliased [] k ss = omega arith
length_aliased (b ∷ bs) k ss = omega (arith, length_aliased bs k ss)

-- an alias source, once its first symbol is taken or a word is replaced
module _ (rs : List Replacement) (ss : List Symbol) (end : ℕ) (table : AliasTable) where
  -- with a word in front whose value is yet to come as far as it is given
  abbrev before : List ℕ → List ℕ → ℕ → ℕ → Front
  before name value place left = record { coming = aliased value place (fronted rs ss); end = end; names = name ∷ open_names rs; left = left; table = table }

  seen_push : (r : Replacement) (left : ℕ) → seen (rs ++ r ∷ []) ss end left table ≡ before r.name.now r.rest.now r.place left
  seen_push r left = λ j. record { coming = fronted_push rs r ss j; end = end; names = open_names_push rs r j; left = left; table = table }

  module _ (r : Replacement) (left : ℕ) where
    taken : (value : List ℕ) → r.rest.now ≡ value → onward (before r.name.now value r.place left) ≡ onward (seen (rs ++ r ∷ []) ss end left table)
    taken value e = sym (ap (λ v. onward (before r.name.now v r.place left)) e) ∙ sym (ap onward (seen_push r left))

    pub end_taken : r.rest.now ≡ [] → seen rs ss end left table ≡ onward (seen (rs ++ r ∷ []) ss end left table)
    end_taken e = taken [] e

    pub byte_taken : (b : ℕ) (q : Replacement) → r.rest.now ≡ b ∷ q.rest.now → q.name.now ≡ r.name.now → q.place ≡ r.place
        → seen (rs ++ q ∷ []) ss end left table ≡ onward (seen (rs ++ r ∷ []) ss end left table)
    byte_taken b q e n p = seen_push q left ∙ (λ j. before (n j) q.rest.now (p j) left) ∙ taken (b ∷ q.rest.now) e

    pub replacing : (word value : List ℕ) (many : ℕ) → r.name.now ≡ word → r.rest.now ≡ value → 0 < many → left ≡ many - 1
        → seen (rs ++ r ∷ []) ss end left table ≡ replaced (Some value) (seen rs ss end many table) word r.place
    replacing word value zero n e h l = absurd (omega arith)
    replacing word value (suc many) n e h l =
        let less : left ≡ many = omega arith in
        seen_push r left ∙ (λ j. before (n j) (e j) r.place (less j))

pub length_pushed : (rs : List Replacement) (r : Replacement) (ss : List Symbol) → length r.rest.now ≤ 64 → length (fronted (rs ++ r ∷ []) ss) ≤ length (fronted rs ss) + 65
length_pushed rs r ss short = rw fronted_push (omega (arith, length_aliased r.rest.now r.place (fronted rs ss)))

-- where none is open, no symbol ends one
pub closed_none : (o : Option Symbol) → closed o [] ≡ []
closed_none None = refl
closed_none (Some s) = elim s.sign as (λ g. elim g [ Byte b ↦ [] | Hole k ↦ [] | AliasEnd ↦ outer [] ] ≡ []) [ Byte b ↦ refl | Hole k ↦ refl | AliasEnd ↦ refl ]

-- what a word stands for
module _ (named : List ℕ → Option (List ℕ)) (ns : List (List ℕ)) (word : List ℕ) where
  pub if_unnamed : named word ≡ None → stands_for named ns word ≡ None
  if_unnamed e = ap (λ o. cond (is_listed word ns) None o) e ∙ elim (is_listed word ns) as (λ b. ◌≡◌ {A = Option (List ℕ)} (cond b None None) None) [ true ↦ refl | false ↦ refl ]

  pub if_listed : true ≡ is_listed word ns → stands_for named ns word ≡ None
  if_listed e = sym (ap (λ b. cond b None (named word)) e)

  pub if_not_listed : false ≡ is_listed word ns → stands_for named ns word ≡ named word
  if_not_listed e = sym (ap (λ b. cond b None (named word)) e)
