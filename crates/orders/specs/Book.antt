-- The book of an order: what its calls' arguments alone say of it. Assumes nothing.
use Rattle.std.specs.Prelude.{ℕ, Bool, false, not, ◌&&◌, ◌||◌, List, [], ◌∷◌, length, is_some, Some, None, Ok, Err, Option, Result, ◌==◌, nat_eq, nat_lt}
use Rattle.std.specs.Map.{update}
use Rattle.std.specs.Option.{unwrap_or}
use Rattle.basics.specs.Checks.{refuse_if, refuse_at, or_else, unless}
use Rattle.basics.specs.Searches.{first_where, first_zero}
use Rattle.basics.specs.declared.refusal.Refusal.{Refusal}
use Rattle.basics.specs.declared.refusal.Reason.TheVariants.{TooLong, ZeroByte, NoRoom, TemplateLoaded, NoTemplate, Unbound, NoSuchHole, ScriptTooLong}
use Rattle.aliases.specs.Aliases.{Aliases, no_aliases, define_check, defined, remove_check, removed}
use Rattle.source.specs.declared.symbol.Sign.TheVariants.{Byte, Hole, AliasEnd}
use Rattle.source.specs.declared.symbol.Symbol.{Symbol}
use Rattle.source.specs.Symbols.{template}
use Rattle.reading.specs.Filled.{rendered}
use Rattle.listing.specs.Checking.{masked_holes}

-- a value or none for each alias name, a template or none, and a text or none for each digit
pub record Book : Type 0 where
  pub aliases : Aliases
  pub loaded : Option (List ℕ)
  pub texts : ℕ → Option (List ℕ)

-- an order that was just made
abbrev pub start : Book
start = record { aliases = no_aliases; loaded = None; texts = λ _. None }

-- a call, by its arguments
pub data Request : Type 0 where
  alias : List ℕ → List ℕ → Request
  unalias : List ℕ → Request
  load : List ℕ → Request
  unload : Request
  bind : ℕ → List ℕ → Request
  render : Request
  list : List ℕ → Request

-- checks that several calls begin with

abbrev pub none_loaded : Book → Option Refusal
none_loaded b = refuse_if (is_some b.loaded) TemplateLoaded 0

abbrev pub some_loaded : Book → Option Refusal
some_loaded b = refuse_if (not (is_some b.loaded)) NoTemplate 0

-- holes and texts

-- the symbols of the template that is loaded
abbrev pub symbols : Book → List Symbol
symbols b = template (unwrap_or b.loaded []) 0

-- hole d stands among the symbols
abbrev pub has_hole : ℕ → List Symbol → Bool
has_hole d [] = false
has_hole d (s ∷ ss) = elim s.sign as (λ _. Bool) [ Byte b ↦ has_hole d ss | Hole e ↦ (d == e) || has_hole d ss | AliasEnd ↦ has_hole d ss ]

abbrev pub digits : List ℕ
digits = 0 ∷ 1 ∷ 2 ∷ 3 ∷ 4 ∷ 5 ∷ 6 ∷ 7 ∷ 8 ∷ 9 ∷ []

-- the lowest hole of the template that has no text
abbrev pub lowest_unbound : Book → Option ℕ
lowest_unbound b = first_where (λ d. has_hole d (symbols b) && not (is_some (b.texts d))) digits

abbrev pub text_for : Book → ℕ → List ℕ
text_for b d = unwrap_or (b.texts d) []

-- the template with a quoter's form of its text in each hole
abbrev pub script_of : (List ℕ → List ℕ) → Book → List ℕ
script_of form b = rendered (λ d. form (text_for b d)) (symbols b)

-- the checks of each call, made on the book

abbrev pub refused_by : {X : Type 0} → Result X Refusal → Option Refusal
refused_by (Ok x) = None
refused_by (Err f) = Some f

abbrev pub alias_check : Book → List ℕ → List ℕ → Option Refusal
alias_check b name value = or_else (none_loaded b) (define_check b.aliases name value)

abbrev pub unalias_check : Book → List ℕ → Option Refusal
unalias_check b name = or_else (none_loaded b) (remove_check b.aliases name)

-- the template is read under the aliases
abbrev pub load_check : Book → List ℕ → Option Refusal
load_check b t = or_else (none_loaded b) (refused_by (masked_holes b.aliases.named t))

abbrev pub unload_check : Book → Option Refusal
unload_check b = some_loaded b

-- a text has at most 128 bytes, and no byte 0
abbrev pub bind_check : Book → ℕ → List ℕ → Option Refusal
bind_check b d text =
    or_else (some_loaded b)
    (or_else (refuse_if (not (has_hole d (symbols b))) NoSuchHole 0)
    (or_else (refuse_if (nat_lt 128 (length text)) TooLong 0) (refuse_at (first_zero text) ZeroByte)))

-- onto a page of that many bytes
abbrev pub render_check : (List ℕ → List ℕ) → Book → ℕ → Option Refusal
render_check form b room =
    or_else (some_loaded b)
    (or_else (refuse_at (lowest_unbound b) Unbound)
    (or_else (refuse_if (nat_lt 4096 (length (script_of form b))) ScriptTooLong 0) (refuse_if (nat_lt room (length (script_of form b))) NoRoom 0)))

-- the book after a call; a call that is refused, a render and a list leave it as it is

abbrev pub next : Book → Request → Book
next b (alias name value) = unless (alias_check b name value) b (record { aliases = defined b.aliases name value; loaded = b.loaded; texts = b.texts })
next b (unalias name) = unless (unalias_check b name) b (record { aliases = removed b.aliases name; loaded = b.loaded; texts = b.texts })
next b (load t) = unless (load_check b t) b (record { aliases = b.aliases; loaded = Some t; texts = b.texts })
next b unload = unless (unload_check b) b (record { aliases = b.aliases; loaded = None; texts = λ _. None })
next b (bind d text) = unless (bind_check b d text) b (record { aliases = b.aliases; loaded = b.loaded; texts = update nat_eq b.texts d (Some text) })
next b render = b
next b (list s) = b

-- the book after calls, the first call first
abbrev pub after : Book → List Request → Book
after b [] = b
after b (q ∷ qs) = after (next b q) qs

-- the book of an order's calls
abbrev pub book_of_calls : List Request → Book
book_of_calls qs = after start qs
