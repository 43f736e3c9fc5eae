-- The holes in a mask. Assumes nothing.
use Rattle.std.specs.Prelude.{ℕ, ◌/◌, ◌%◌, ◌^◌, Bool, ◌&&◌, ◌==◌, List, count_ones, nat_lt, filter}
use Rattle.std.specs.List.{range_with_len}

-- there are ten holes, and hole 0 is the lowest bit
abbrev pub has_hole : ℕ → ℕ → Bool
has_hole mask digit = nat_lt digit 10 && mask / 2 ^ digit % 2 == 1

abbrev pub hole_count : ℕ → ℕ
hole_count mask = count_ones (mask % 2 ^ 10)

-- the lowest first
abbrev pub holes_of : ℕ → List ℕ
holes_of mask = filter (has_hole mask) (range_with_len 0 10)
