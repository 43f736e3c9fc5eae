-- A form judged from within: from a state, with i bytes read and n delivered. Assumes nothing.
use Rattle.std.proofs.Common.{◌≡◌, ℕ, ◌+◌, ◌<◌, Bool, true, false, cond, leb, List, [], ◌∷◌, length, Some, None, Ok, Err, Option, Result, refl, ap, ◌∙◌, arith}
use Rattle.quoting.specs.declared.form.State.{State}
use Rattle.quoting.specs.declared.form.State.TheVariants.{Bare}
use Rattle.quoting.specs.declared.form.Step.{Step}
use Rattle.quoting.specs.declared.form.Step.TheVariants.{Passes, Delivers}
use Rattle.quoting.specs.declared.unquote.Unread.{Unread}
use Rattle.quoting.specs.declared.unquote.Unread.TheVariants.{Unlawful}
use Rattle.quoting.specs.Forms.{step, stepped, past, with_byte, delivered, lawful_bytes, longest, judged, unquoted}
use Rattle.quoting.specs.Unquoting.{counted, concluded}

-- the answer for a form of len bytes, of which i were read and n delivered, and the rest is to be read from a state
abbrev pub judging : ℕ → State → ℕ → ℕ → List ℕ → Result ℕ Unread
judging len s i n rest = concluded len n (delivered s rest) (i + lawful_bytes s rest)

abbrev by_step : ℕ → ℕ → ℕ → ℕ → List ℕ → Option Step → Result ℕ Unread
by_step len i n b rest x = concluded len n (stepped x b (λ t. delivered t rest)) (i + past x (λ t. lawful_bytes t rest))

module _ (len : ℕ) (s : State) (i n b : ℕ) (rest : List ℕ) where
  pub judging_passes : (t : State) → step s b ≡ Some (Passes t) → judging len s i n (b ∷ rest) ≡ judging len t (i + 1) n rest
  judging_passes t e = ap (by_step len i n b rest) e ∙ ap (concluded len n (delivered t rest)) (omega arith)

  with_byte_counts : (o : Option (List ℕ)) (p q : ℕ) → p ≡ q → concluded len n (with_byte b o) p ≡ concluded len (n + 1) o q
  with_byte_counts None p q e = ap (λ x. Err (Unlawful x)) e
  with_byte_counts (Some text) p q e =
      let more : n + length (b ∷ text) ≡ (n + 1) + length text = omega arith in
      ap (λ m. cond (leb len (longest m)) (Ok m) (Err (Unlawful (longest m)))) more

  pub judging_delivers : (t : State) → step s b ≡ Some (Delivers t) → judging len s i n (b ∷ rest) ≡ judging len t (i + 1) (n + 1) rest
  judging_delivers t e = ap (by_step len i n b rest) e ∙ with_byte_counts (delivered t rest) (i + (1 + lawful_bytes t rest)) ((i + 1) + lawful_bytes t rest) (omega arith)

  pub judging_unlawful : step s b ≡ None → judging len s i n (b ∷ rest) ≡ Err (Unlawful i)
  judging_unlawful e = ap (by_step len i n b rest) e ∙ ap (λ x. Err (Unlawful x)) (omega arith)

-- an error that is told in two ways
pub same_err : {T E : Type 0} (r : Result T E) (x y : E) → r ≡ Err x → r ≡ Err y → x ≡ y
same_err r x y p q = cc

-- a form of some bytes is judged from its start
pub judging_all : (form : List ℕ) → 0 < length form → counted (unquoted form) ≡ judging (length form) Bare 0 0 form
judging_all [] h = absurd (omega arith)
judging_all (b ∷ form) h = by_text (delivered Bare (b ∷ form))
  where
    by_test : (t : Bool) (text : List ℕ) → counted (cond t (Ok text) (Err (longest (length text)))) ≡ cond t (Ok (length text)) (Err (Unlawful (longest (length text))))
    by_test true text = refl
    by_test false text = refl

    by_text : (o : Option (List ℕ)) → counted (judged (b ∷ form) o) ≡ concluded (length (b ∷ form)) 0 o (0 + lawful_bytes Bare (b ∷ form))
    by_text None = ap (λ x. Err (Unlawful x)) (omega arith)
    by_text (Some text) =
        by_test (leb (length (b ∷ form)) (longest (length text))) text
        ∙ ap (λ m. cond (leb (length (b ∷ form)) (longest m)) (Ok m) (Err (Unlawful (longest m)))) (let e : length text ≡ 0 + length text = omega arith in e)
