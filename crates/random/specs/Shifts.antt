-- Turns of xorshift64: each shift drops what leaves its 64 bits.
use Rattle.std.specs.Prelude.{ℕ, ◌*◌, ◌/◌, ◌%◌, ◌^◌}
use Rattle.std.specs.Int.Bits.{bit_xor}

abbrev pub right_by : ℕ → ℕ → ℕ
right_by k x = bit_xor x (x / 2 ^ k)

abbrev pub left_by : ℕ → ℕ → ℕ
left_by k x = bit_xor x ((x * 2 ^ k) % 2 ^ 64)

abbrev pub first_shift : ℕ → ℕ
first_shift = right_by 12

abbrev pub second_shift : ℕ → ℕ
second_shift = left_by 25

abbrev pub third_shift : ℕ → ℕ
third_shift = right_by 27

abbrev pub shifted : ℕ → ℕ
shifted x = third_shift (second_shift (first_shift x))

-- the number that xorshift64* makes of a state
abbrev pub multiplied : ℕ → ℕ
multiplied x = (x * 0x2545_f491_4f6c_dd1d) % 2 ^ 64

-- a turn of the plain xorshift64
abbrev pub plainly_shifted : ℕ → ℕ
plainly_shifted x = left_by 17 (right_by 7 (left_by 13 x))
