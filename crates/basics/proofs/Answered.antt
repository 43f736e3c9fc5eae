-- What an answer tells of the check behind it. Assumes nothing.
use Rattle.std.proofs.Common.{◌≡◌, ℕ, Some, None, Ok, Err, Option, refl, arith}
use Rattle.basics.specs.declared.refusal.Refusal.{Refusal}
use Rattle.basics.specs.Checks.{answer}

pub passed_if_ok : {X : Type 0} (check : Option Refusal) (x y : X) → Ok y ≡ answer check x → check ≡ None
passed_if_ok None x y e = refl
passed_if_ok (Some f) x y e = let z : ◌≡◌ {A = ℕ} 0 1 = cc in absurd (omega arith)

pub refused_if_err : {X : Type 0} (check : Option Refusal) (x : X) (f : Refusal) → Err f ≡ answer check x → check ≡ Some f
refused_if_err None x f e = let z : ◌≡◌ {A = ℕ} 0 1 = cc in absurd (omega arith)
refused_if_err (Some g) x f e = cc
