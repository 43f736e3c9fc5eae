-- What a call that a check refuses or lets pass says, and what it leaves. Assumes nothing.
use Rattle.std.specs.Prelude.{◌≡◌, false, is_ok, Option, Result}
use Rattle.basics.specs.Checks.{answer}
use Rattle.basics.specs.declared.refusal.Refusal.{Refusal}
use Rattle.orders.specs.declared.order.Order.{Order}
use Rattle.orders.specs.Book.{Book, Request, next}
use Rattle.orders.specs.Holding.{book_of}

-- a call on what holds a book: what it says, the book after it, and that a refused call leaves all as it was
pub record MakesCall {X : Type 0} (held : X → Book) (check : Option Refusal) (q : Request) (old new : X) (r : Result (Unit {0}) Refusal) : Type 0 where
  pub said : r ≡ answer check tt
  pub book : held new ≡ next (held old) q
  pub kept : is_ok r ≡ false → new ≡ old

-- the same of an order, whose quoter stays
pub record Makes {Q : Type 0} (check : Option Refusal) (q : Request) (old new : Order Q) (r : Result (Unit {0}) Refusal) : Type 0 where
  pub call : MakesCall (λ (o : Order Q). book_of o.contents) check q old new r
  pub quoter : new.quoter ≡ old.quoter
