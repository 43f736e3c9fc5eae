-- The book that an order holds. Assumes nothing.
use Rattle.std.specs.Prelude.{ℕ, zero, suc, ◌/◌, ◌%◌, ◌^◌, Bool, cond, List, [], ◌∷◌, take, Some, None, Option, ◌==◌}
use Rattle.aliases.specs.Tables.{aliases_of}
use Rattle.orders.specs.declared.text.Text.{Text}
use Rattle.orders.specs.declared.template.Template.{Template}
use Rattle.orders.specs.declared.contents.Contents.{Contents}
use Rattle.orders.specs.Book.{Book}

abbrev pub text_of : Text → List ℕ
text_of t = take t.len t.bytes

abbrev pub template_text : Template → List ℕ
template_text t = take t.len t.bytes

-- hole d is in the mask
abbrev pub is_in : ℕ → ℕ → Bool
is_in d mask = (mask / 2 ^ d) % 2 == 1

-- the text at a digit, and no bytes past the texts
abbrev pub text_at : List Text → ℕ → List ℕ
text_at [] d = []
text_at (t ∷ ts) zero = text_of t
text_at (t ∷ ts) (suc d) = text_at ts d

-- the texts of the holes that are bound
abbrev pub texts_of : ℕ → List Text → ℕ → Option (List ℕ)
texts_of bound texts d = cond (is_in d bound) (Some (text_at texts d)) None

abbrev pub loaded_in : Bool → Template → Option (List ℕ)
loaded_in loaded t = cond loaded (Some (template_text t)) None

abbrev pub book_of : Contents → Book
book_of c = record { aliases = aliases_of c.aliases; loaded = loaded_in c.loaded c.template; texts = texts_of c.bound c.texts }
