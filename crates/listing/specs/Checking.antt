-- What the check of a template answers. Assumes nothing.
use Rattle.std.specs.Prelude.{ℕ, List, [], ◌∷◌, length, Option, Result, nat_lt}
use Rattle.basics.specs.Checks.{refuse_if, refuse_at, or_else}
use Rattle.basics.specs.Searches.{first_zero}
use Rattle.basics.specs.declared.refusal.Refusal.{Refusal}
use Rattle.basics.specs.declared.refusal.Reason.TheVariants.{TooLong, ZeroByte, BadHole}
use Rattle.source.specs.declared.symbol.Sign.TheVariants.{Byte, Hole, AliasEnd}
use Rattle.source.specs.declared.symbol.Symbol.{Symbol}
use Rattle.source.specs.Symbols.{template, first_bad_hole}
use Rattle.reading.specs.Readings.{Aliases, Event, act, hole, Reading}
use Rattle.reading.specs.Listed.{Entry, template_reading}
use Rattle.listing.specs.Laying.{ending}
use Rattle.listing.specs.Masks.{with_hole}
use Rattle.listing.specs.Listing.{unless_refused}

-- a template has at most 1,024 bytes, no byte 0, and no `@{` that begins no hole
abbrev pub template_check : List ℕ → Option Refusal
template_check t = or_else (refuse_if (nat_lt 1024 (length t)) TooLong 0) (or_else (refuse_at (first_zero t) ZeroByte) (refuse_at (first_bad_hole t) BadHole))

-- the mask of the holes that are read, beside those of m
abbrev pub holes_read : List (Event Entry) → ℕ → ℕ
holes_read [] m = m
holes_read (act e ∷ xs) m = holes_read xs m
holes_read (hole d ∷ xs) m = holes_read xs (with_hole d m)

-- the mask of a reading's holes, or its refusal
abbrev pub holes_of : Reading Entry Refusal → Result ℕ Refusal
holes_of r = ending r.ending (holes_read r.events 0)

-- the mask of the holes among symbols, beside those of m
abbrev pub holes_in : List Symbol → ℕ → ℕ
holes_in [] m = m
holes_in (s ∷ ss) m = elim s.sign as (λ _. ℕ) [ Byte b ↦ holes_in ss m | Hole d ↦ holes_in ss (with_hole d m) | AliasEnd ↦ holes_in ss m ]

abbrev pub template_mask : List ℕ → ℕ
template_mask t = holes_in (template t 0) 0

abbrev pub template_holes : Aliases → List ℕ → Result ℕ Refusal
template_holes al t = unless_refused (template_check t) (holes_of (template_reading al t))

-- the mask of a template's holes by its symbols, if it reads without fault; or its refusal
abbrev pub masked_holes : Aliases → List ℕ → Result ℕ Refusal
masked_holes al t = unless_refused (template_check t) (ending (template_reading al t).ending (template_mask t))
