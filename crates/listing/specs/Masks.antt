-- The holes that a template has, as its reading meets them. Assumes nothing.
use Rattle.std.specs.Prelude.{ℕ, ◌^◌, cond, Ok, Result, bit_or, nat_lt}
use Rattle.basics.specs.declared.refusal.Refusal.{Refusal}
use Rattle.reading.specs.Listed.{Entry}
use Rattle.listing.specs.declared.mask.HoleMask.{HoleMask}
use Rattle.listing.specs.Noting.{Noted, beside, places_of}

abbrev pub mask_of : HoleMask → Noted ℕ
mask_of o = beside (places_of o.places) o.mask

-- hole d is met; there are ten holes
abbrev pub with_hole : ℕ → ℕ → ℕ
with_hole d m = cond (nat_lt d 10) (bit_or m (2 ^ d)) m

-- nothing else is kept
abbrev pub keep : Entry → ℕ → Result ℕ Refusal
keep e m = Ok m

abbrev pub take_hole : ℕ → ℕ → Result ℕ Refusal
take_hole d m = Ok (with_hole d m)
