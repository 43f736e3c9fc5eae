-- The text delivered so far, and the byte that comes next. Assumes nothing.
use Rattle.std.proofs.Common.{◌≡◌, ℕ, ◌+◌, ◌<◌, ◌≤◌, List, [], length, get_or, drop, Some, None, Option, ap, inl, inr, arith}
use Rattle.std.proofs.lemmas.List.{drop_more, drop_all, length-drop}
use Rattle.std.proofs.lemmas.Bool.{cases_lt}
use Rattle.quoting.specs.declared.form.State.{State}
use Rattle.quoting.specs.declared.form.State.TheVariants.{Bare, Escaped, SingleQuoted}
use Rattle.quoting.specs.Forms.{with_byte, ended}

pub record Next (text : List ℕ) (at b : ℕ) (rest : Option (List ℕ)) : Type 0 where
  pub within : at < length text
  pub is_byte : b ≡ get_or text at 0
  pub is_rest : rest ≡ Some (drop (at + 1) text)

-- a byte that is delivered is the next byte of the text
pub next_byte : (text : List ℕ) (at b : ℕ) (rest : Option (List ℕ)) → with_byte b rest ≡ Some (drop at text) → Next text at b rest
next_byte text at b None e = let z : ◌≡◌ {A = ℕ} 0 1 = cc in absurd (omega arith)
next_byte text at b (Some u) e = elim (cases_lt at (length text)) [
  | inl h ↦ (let m = drop_more text at 0 h in record { within = h; is_byte = cc; is_rest = cc })
  | inr h ↦ (let m = drop_all at text h in let z : ◌≡◌ {A = ℕ} 0 1 = cc in absurd (omega arith))
]

-- where a form ends, all of its text was delivered
pub all_delivered : (text : List ℕ) (at : ℕ) (s : State) → ended s ≡ Some (drop at text) → length text ≤ at
all_delivered text at Bare e = let l : drop at text ≡ [] = cc in omega (arith, ap length l, length-drop at text)
all_delivered text at Escaped e = let z : ◌≡◌ {A = ℕ} 0 1 = cc in absurd (omega arith)
all_delivered text at SingleQuoted e = let z : ◌≡◌ {A = ℕ} 0 1 = cc in absurd (omega arith)
