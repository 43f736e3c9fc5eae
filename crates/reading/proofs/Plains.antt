-- What is kept of a plain word, against all its bytes. Assumes nothing.
use Rattle.std.proofs.Common.{◌≡◌, ℕ, zero, suc, ◌<◌, ◌≤◌, Bool, true, false, ◌&&◌, ◌||◌, eqb, ltb, leb, List, [], ◌∷◌, ◌++◌, length, take, sym, refl, ap, ◌∙◌, inl, inr, arith}
use Rattle.std.proofs.lemmas.List.{append_assoc, append-nil, length_push, take_all, take_at}
use Rattle.std.proofs.lemmas.Bool.{cases_Bool, cases_lt, and_parts, ltb-true, lt-ltb, le-ltb, leb-true, lt-leb, ne_eqb}
use Rattle.std.specs.Str.{bytes_eq}
use Rattle.tokens.specs.declared.opening.Opening.{Opening}
use Rattle.tokens.specs.declared.opening.Opening.TheVariants.{Digits, Name, Assign, Other}
use Rattle.tokens.specs.Bytes.{is_digit, is_name_start, is_name_byte, equals}
use Rattle.tokens.specs.Openings.{opened, further, is_assign, is_number, kept}
use Rattle.commands.specs.Roles.{one_of, reserved_words}
use Rattle.reading.specs.declared.mode.Mode.TheVariants.{Plain}
use Rattle.reading.specs.States.{Word, assigned}
use Rattle.reading.specs.Words.{reserved}
use Rattle.reading.specs.PlainWords.{with_bytes, all_digits, name_goes_on, assigns, numeric, KeptBytesTellTheWord}

abbrev plain : List ℕ → Opening → Word
plain k o = record { mode = Plain o; kept = k }

-- how it opens after more bytes
abbrev opens : Opening → List ℕ → Opening
opens o [] = o
opens o (b ∷ bs) = opens (further o b) bs

-- first bytes
kept_more : (k : List ℕ) (b : ℕ) (bs : List ℕ) → length k ≤ 33 → (length (kept k b) ≤ 33) × (take 33 (kept k b ++ bs) ≡ take 33 (k ++ (b ∷ bs)))
kept_more k b bs h =
    elim (cases_lt (length k) 33) [
      | inl l ↦ rw (lt-ltb (length k) 33 l) (omega (arith, length_push k b), ap (take 33) (append_assoc k (b ∷ []) bs))
      | inr l ↦ let e : length k ≡ 33 = omega arith in rw (le-ltb (length k) 33 l) (h, take_at k bs 33 e ∙ sym (take_at k (b ∷ bs) 33 e))
    ]

-- a plain word after more bytes
goes : (bs k : List ℕ) (o : Opening) → length k ≤ 33 → with_bytes (plain k o) bs ≡ plain (take 33 (k ++ bs)) (opens o bs)
goes [] k o h = ap (λ l. plain l o) (sym (ap (take 33) (append-nil k) ∙ take_all 33 k h))
goes (b ∷ bs) k o h = goes bs (kept k b) (further o b) (kept_more k b bs h).0 ∙ ap (λ l. plain l (opens o (b ∷ bs))) (kept_more k b bs h).1

-- digits
digits_from : (o : Opening) (bs : List ℕ) → is_number (opens o bs) ≡ (is_number o && all_digits bs)
digits_from Digits [] = refl
digits_from Name [] = refl
digits_from Assign [] = refl
digits_from Other [] = refl
digits_from Digits (b ∷ bs) = elim (cases_Bool (is_digit b)) [ inl e ↦ rw e (digits_from Digits bs) | inr e ↦ rw e (digits_from Other bs) ]
digits_from Name (b ∷ bs) =
    elim (cases_Bool (is_name_byte b)) [
      | inl e ↦ rw e (digits_from Name bs)
      | inr e ↦ elim (cases_Bool (eqb b equals)) [ inl f ↦ rw (e, f) (digits_from Assign bs) | inr f ↦ rw (e, f) (digits_from Other bs) ]
    ]
digits_from Assign (b ∷ bs) = digits_from Assign bs
digits_from Other (b ∷ bs) = digits_from Other bs

digits : (b : ℕ) (bs : List ℕ) → is_number (opens (opened b) bs) ≡ all_digits (b ∷ bs)
digits b bs =
    elim (cases_Bool (is_digit b)) [
      | inl e ↦ rw e (digits_from Digits bs)
      | inr e ↦ elim (cases_Bool (is_name_start b)) [ inl f ↦ rw (e, f) (digits_from Name bs) | inr f ↦ rw (e, f) (digits_from Other bs) ]
    ]

-- a name and `=`
assign_from : (bs : List ℕ) → (is_assign (opens Digits bs) ≡ false) × (is_assign (opens Name bs) ≡ name_goes_on bs) × (is_assign (opens Assign bs) ≡ true) × (is_assign (opens Other bs) ≡ false)
assign_from [] = (refl, refl, refl, refl)
assign_from (b ∷ bs) =
    let h = assign_from bs in (
      elim (cases_Bool (is_digit b)) [ inl e ↦ rw e h.0 | inr e ↦ rw e h.3 ],
      elim (cases_Bool (is_name_byte b)) [
        | inl e ↦ rw e h.1
        | inr e ↦ elim (cases_Bool (eqb b equals)) [ inl f ↦ rw (e, f) h.2 | inr f ↦ rw (e, f) h.3 ]
      ],
      h.2,
      h.3,
    )

no_digit : (b : ℕ) → is_digit b ≡ true → is_name_start b ≡ false
no_digit b e =
    let h = leb-true b 57 (and_parts (leb 48 b) (leb b 57) e).1 in
    rw (lt-leb 65 b (omega arith), lt-leb 97 b (omega arith), ne_eqb b 95 (λ k. omega arith)) refl

assign : (b : ℕ) (bs : List ℕ) → is_assign (opens (opened b) bs) ≡ assigns (b ∷ bs)
assign b bs =
    let h = assign_from bs in
    elim (cases_Bool (is_digit b)) [
      | inl e ↦ rw (e, no_digit b e) h.0
      | inr e ↦ elim (cases_Bool (is_name_start b)) [ inl f ↦ rw (e, f) h.1 | inr f ↦ rw (e, f) h.3 ]
    ]

-- a word that is cut is no shorter word
same_cut : (n : ℕ) (bs v : List ℕ) → length v < n → bytes_eq (take n bs) v ≡ bytes_eq bs v
same_cut zero bs v h = absurd (omega arith)
same_cut (suc n) [] v h = refl
same_cut (suc n) (b ∷ bs) [] h = refl
same_cut (suc n) (b ∷ bs) (y ∷ v) h = ap (λ t. eqb b y && t) (same_cut n bs v (omega arith))

abbrev shorter : ℕ → List (List ℕ) → Bool
shorter n [] = true
shorter n (v ∷ vs) = ltb (length v) n && shorter n vs

one_of_cut : (n : ℕ) (bs : List ℕ) (vs : List (List ℕ)) → shorter n vs ≡ true → one_of (take n bs) vs ≡ one_of bs vs
one_of_cut n bs [] e = refl
one_of_cut n bs (v ∷ vs) e =
    let p = and_parts (ltb (length v) n) (shorter n vs) e in
    ap (λ t. t || one_of (take n bs) vs) (same_cut n bs v (ltb-true (length v) n p.0)) ∙ ap (λ t. bytes_eq bs v || t) (one_of_cut n bs vs p.1)

pub kept_bytes_tell_the_word : KeptBytesTellTheWord
kept_bytes_tell_the_word b bs =
    let e = goes bs (b ∷ []) (opened b) (omega arith) in
    record {
      first_bytes = ap (λ (w : Word). w.kept) e;
      tells_reserved = ap reserved e ∙ one_of_cut 33 (b ∷ bs) reserved_words refl;
      tells_number = ap (λ (w : Word). numeric w.mode) e ∙ digits b bs;
      tells_assign = ap (λ (w : Word). assigned w.mode) e ∙ assign b bs;
      has_name = λ v h. ap (λ (w : Word). bytes_eq w.kept v) e ∙ same_cut 33 (b ∷ bs) v (omega arith);
    }
