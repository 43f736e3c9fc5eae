-- The table of classes. Assumes nothing.
use Rattle.std.proofs.Common.{◌≡◌, ℕ, ◌<◌, List, get_or, map, ap, ◌∙◌, zero-add, arith}
use Rattle.std.proofs.lemmas.List.{get_or-map}
use Rattle.std.proofs.lemmas.List.FromFn.{get_or-range_with_len, length-range_with_len}
use Rattle.std.specs.List.{range_with_len}
use Rattle.tokens.specs.declared.class.Class.{Class}
use Rattle.tokens.specs.declared.class.Class.TheVariants as class
use Rattle.tokens.specs.Bytes.{class_of}

-- the table is the list of the classes of the bytes 0 to 127
abbrev pub table : List Class
table = map class_of (range_with_len 0 128)

pub class_is : (b : ℕ) → b < 128 → get_or table b class.Newline ≡ class_of b
class_is b h =
    get_or-map class_of (range_with_len 0 128) b 0 class.Newline (omega (arith, length-range_with_len 0 128))
    ∙ ap class_of (get_or-range_with_len 0 128 b 0 h ∙ zero-add b)
