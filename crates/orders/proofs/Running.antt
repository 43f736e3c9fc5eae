-- Calls one after another: what is left of them comes to what all of them come to. Assumes nothing.
use Rattle.std.proofs.Common.{◌≡◌, ℕ, zero, suc, ◌+◌, ◌<◌, ◌≤◌, List, [], ◌∷◌, ◌++◌, length, get_or, take, drop, set, sym, refl, ap, ◌∙◌, add-one}
use Rattle.std.proofs.lemmas.List.{at_drop_more, at_drop_all, take-append-drop}
use Rattle.orders.specs.declared.call.Call.{Call}
use Rattle.orders.specs.Book.{Book, next, after}
use Rattle.orders.specs.Desk.{Desk, Outcome, said, desk_next, answers, desk_after, noted}
use Rattle.orders.specs.Requests.{request_of, requests}

none_noted : {X : Type 0} (xs : List X) → noted xs [] ≡ []
none_noted [] = refl
none_noted (x ∷ xs) = refl

-- one more is noted, in its slot if there is one
noted_at : {X : Type 0} (i : ℕ) (os : List X) (x : X) (xs : List X) → take (suc i) (set os i x) ++ noted xs (drop (suc i) (set os i x)) ≡ take i os ++ noted (x ∷ xs) (drop i os)
noted_at zero [] x xs = none_noted xs
noted_at (suc i) [] x xs = none_noted xs
noted_at zero (o ∷ os) x xs = refl
noted_at (suc i) (o ∷ os) x xs = ap (λ ys. o ∷ ys) (noted_at i os x xs)

-- x is noted in its slot, the others behind it
one_noted : {X : Type 0} (i : ℕ) (os : List X) (x : X) (xs : List X) → take (i + 1) (set os i x) ++ noted xs (drop (i + 1) (set os i x)) ≡ take i os ++ noted (x ∷ xs) (drop i os)
one_noted i os x xs = ap (λ n. take n (set os i x) ++ noted xs (drop n (set os i x))) (add-one i) ∙ noted_at i os x xs

-- the calls from the i-th on, where the book is b, the desk k and the outcomes os
pub record Left (form : List ℕ → List ℕ) (calls : List Call) (b₀ : Book) (k₀ : Desk) (os₀ : List Outcome) (i : ℕ) (b : Book) (k : Desk) (os : List Outcome) : Type 0 where
  pub book : after b (requests (drop i calls)) ≡ after b₀ (requests calls)
  pub desk : desk_after form b k (requests (drop i calls)) ≡ desk_after form b₀ k₀ (requests calls)
  pub said : take i os ++ noted (answers form b k (requests (drop i calls))) (drop i os) ≡ noted (answers form b₀ k₀ (requests calls)) os₀

module _ (form : List ℕ → List ℕ) (calls : List Call) (b₀ : Book) (k₀ : Desk) (os₀ : List Outcome) where
  pub begins : Left form calls b₀ k₀ os₀ 0 b₀ k₀ os₀
  begins = record { book = refl; desk = refl; said = refl }

  pub goes : (i : ℕ) (b b' : Book) (k k' : Desk) (os os' : List Outcome) (d : Call) → i < length calls → Left form calls b₀ k₀ os₀ i b k os
      → b' ≡ next b (request_of (get_or calls i d)) → k' ≡ desk_next form b k (request_of (get_or calls i d)) → os' ≡ set os i (said form b k (request_of (get_or calls i d)))
      → Left form calls b₀ k₀ os₀ (i + 1) b' k' os'
  goes i b b' k k' os os' d h l eb ek eo =
      let q = request_of (get_or calls i d) in
      let rest = requests (drop (i + 1) calls) in
      record {
        book = ap (λ x. after x rest) eb ∙ sym (at_drop_more (λ cs. after b (requests cs)) calls i d h) ∙ l.book;
        desk = (λ j. desk_after form (eb j) (ek j) rest) ∙ sym (at_drop_more (λ cs. desk_after form b k (requests cs)) calls i d h) ∙ l.desk;
        said = (λ j. take (i + 1) (eo j) ++ noted (answers form (eb j) (ek j) rest) (drop (i + 1) (eo j)))
            ∙ one_noted i os (said form b k q) (answers form (next b q) (desk_next form b k q) rest)
            ∙ sym (at_drop_more (λ cs. take i os ++ noted (answers form b k (requests cs)) (drop i os)) calls i d h)
            ∙ l.said;
      }

  module _ (i : ℕ) (b : Book) (k : Desk) (os : List Outcome) (h : length calls ≤ i) (l : Left form calls b₀ k₀ os₀ i b k os) where
    pub ends_book : b ≡ after b₀ (requests calls)
    ends_book = sym (at_drop_all (λ cs. after b (requests cs)) calls i h) ∙ l.book

    pub ends_desk : k ≡ desk_after form b₀ k₀ (requests calls)
    ends_desk = sym (at_drop_all (λ cs. desk_after form b k (requests cs)) calls i h) ∙ l.desk

    pub ends_said : os ≡ noted (answers form b₀ k₀ (requests calls)) os₀
    ends_said = sym (take-append-drop i os) ∙ sym (at_drop_all (λ cs. take i os ++ noted (answers form b k (requests cs)) (drop i os)) calls i h) ∙ l.said
