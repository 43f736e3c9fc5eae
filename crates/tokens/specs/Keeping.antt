-- The bytes that are kept. Assumes nothing.
use Rattle.std.specs.Prelude.{ℕ, List, take}
use Rattle.tokens.specs.declared.kept.Kept.{Kept}

abbrev pub kept_bytes : Kept → List ℕ
kept_bytes k = take k.len k.bytes
