-- What a call says, and what it leaves on the page and on the sheet; and the same of calls one after another. Assumes nothing.
use Rattle.std.specs.Prelude.{◌≡◌, ℕ, List, [], ◌∷◌, length, Ok, Err, Result}
use Rattle.basics.specs.Checks.{answer, unless}
use Rattle.basics.specs.Pages.{over}
use Rattle.basics.specs.declared.refusal.Refusal.{Refusal}
use Rattle.listing.specs.Listing.{Held, held_of, SameSlots, listing}
use Rattle.orders.specs.declared.desk.Desk.{Desk as Lent}
use Rattle.orders.specs.declared.outcome.Done.{Done}
use Rattle.orders.specs.declared.outcome.Done.TheVariants.{Accepted, Rendered, Listed}
use Rattle.orders.specs.Book.{Book, Request, alias, unalias, load, unload, bind, render, list, alias_check, unalias_check, load_check, unload_check, bind_check, render_check, script_of, next}

-- the page that renders go to, and the sheet that lists go to
pub record Desk : Type 0 where
  pub page : List ℕ
  pub sheet : Held

abbrev pub desk : List ℕ → Held → Desk
desk page sheet = record { page = page; sheet = sheet }

abbrev pub desk_of : Lent → Desk
desk_of d = desk d.page.now (held_of d.sheet.now)

-- the page, the sheet and its slots are still the same ones
pub record SamePlaces (old new : Lent) : Type 0 where
  pub page : new.page.ghost_name ≡ old.page.ghost_name
  pub sheet : new.sheet.ghost_name ≡ old.sheet.ghost_name
  pub slots : SameSlots old.sheet.now new.sheet.now

abbrev pub Outcome : Type 0
Outcome = Result Done Refusal

abbrev pub list_said : Result ℕ Refusal → Outcome
list_said (Ok n) = Ok (Listed n)
list_said (Err f) = Err f

-- what a call says, by the book and by the forms of the order's quoter
abbrev pub said : (List ℕ → List ℕ) → Book → Desk → Request → Outcome
said form b k (alias name value) = answer (alias_check b name value) Accepted
said form b k (unalias name) = answer (unalias_check b name) Accepted
said form b k (load t) = answer (load_check b t) Accepted
said form b k unload = answer (unload_check b) Accepted
said form b k (bind d text) = answer (bind_check b d text) Accepted
said form b k render = answer (render_check form b (length k.page)) (Rendered (length (script_of form b)))
said form b k (list s) = list_said (listing b.aliases.named s k.sheet).said

-- a render writes the script over the page's start, a list adds to the sheet, and no other call touches either
abbrev pub desk_next : (List ℕ → List ℕ) → Book → Desk → Request → Desk
desk_next form b k (alias name value) = k
desk_next form b k (unalias name) = k
desk_next form b k (load t) = k
desk_next form b k unload = k
desk_next form b k (bind d text) = k
desk_next form b k render = desk (unless (render_check form b (length k.page)) k.page (over (script_of form b) k.page)) k.sheet
desk_next form b k (list s) = desk k.page (listing b.aliases.named s k.sheet).sheet

-- what calls say one after another, each by the book at its point
abbrev pub answers : (List ℕ → List ℕ) → Book → Desk → List Request → List Outcome
answers form b k [] = []
answers form b k (q ∷ qs) = said form b k q ∷ answers form (next b q) (desk_next form b k q) qs

-- the page and the sheet after them
abbrev pub desk_after : (List ℕ → List ℕ) → Book → Desk → List Request → Desk
desk_after form b k [] = k
desk_after form b k (q ∷ qs) = desk_after form (next b q) (desk_next form b k q) qs

-- each of xs over one of ys, as far as both go
abbrev pub noted : {X : Type 0} → List X → List X → List X
noted [] ys = ys
noted (x ∷ xs) [] = []
noted (x ∷ xs) (y ∷ ys) = x ∷ noted xs ys
