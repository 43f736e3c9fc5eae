-- A body byte by byte is the body by its lines. Assumes nothing.
use Rattle.std.proofs.Common.{◌≡◌, ℕ, ◌+◌, Bool, true, false, cond, ◌&&◌, eqb, leb, List, [], ◌∷◌, ◌++◌, length, get_or, take, drop, sym, refl, ap, ◌∙◌, inl, inr, append_assoc, arith}
use Rattle.std.proofs.lemmas.List.{drop_more, drop_all, take_more}
use Rattle.std.proofs.lemmas.Bool.{cases_Bool, cases_lt, eqb-true, ne_eqb, and_parts, false≢true, lt-ltb, le-ltb, le-leb, lt-leb}
use Rattle.std.specs.Str.{bytes_eq}
use Rattle.commands.specs.declared.line.Line.{Line}
use Rattle.commands.specs.declared.line.Line.TheVariants.{Fresh, Tabs, Same, Other}
use Rattle.commands.specs.declared.line.Gives.{Gives}
use Rattle.commands.specs.declared.line.Gives.TheVariants.{Nothing, Letters, Ends}
use Rattle.commands.specs.declared.line.LineByte.{LineByte}
use Rattle.commands.specs.Bodies.{Document, line_byte, line_is, compared}
use Rattle.commands.specs.Lines.{Body, body, lacking, more, onto_first, lines, joined, untabbed, chopped, before, given, body_from, BodiesGoByLines}

-- the line so far with what is read of the delimiter and what is left of it
data At : Type 0 where
  fresh tabs other : At
  same : List ℕ → List ℕ → At

data Does : Type 0 where
  passes stops : Does
  writes : List ℕ → Does

record To : Type 0 where
  gives : Does
  line : At

abbrev to : Does → At → To
to g a = record { gives = g; line = a }

-- b, after the bytes q of the delimiter, which would go on with r
abbrev compare : List ℕ → List ℕ → ℕ → To
compare q [] b = cond (eqb b 10) (to stops fresh) (to (writes (q ++ (b ∷ []))) other)
compare q (x ∷ r) b =
    cond (eqb b 10) (to (writes (q ++ (b ∷ []))) fresh)
    (cond (eqb b x) (to passes (same (q ++ (b ∷ [])) r)) (to (writes (q ++ (b ∷ []))) other))

abbrev begin : Bool → List ℕ → ℕ → To
begin s d b = cond (s && eqb b 9) (to passes tabs) (compare [] d b)

abbrev step : Bool → List ℕ → At → ℕ → To
step s d fresh b = begin s d b
step s d tabs b = begin s d b
step s d (same q r) b = compare q r b
step s d other b = cond (eqb b 10) (to (writes (b ∷ [])) fresh) (to (writes (b ∷ [])) other)

abbrev ended : List ℕ → At → Bool
ended d fresh = false
ended d tabs = bytes_eq [] d
ended d (same q r) = bytes_eq [] r
ended d other = false

abbrev next : To → List ℕ → (At → Body) → Body
next t bs k = elim t.gives [ passes ↦ k t.line | writes ls ↦ more ls (k t.line) | stops ↦ body [] bs ]

abbrev run : Bool → List ℕ → At → List ℕ → Body
run s d a [] = cond (ended d a) (body [] []) lacking
run s d a (b ∷ bs) = next (step s d a b) bs (λ n. run s d n bs)

joined_onto : (b : ℕ) (ls : List (List ℕ)) → joined (onto_first b ls) ≡ b ∷ joined ls
joined_onto b [] = refl
joined_onto b (l ∷ ls) = refl

joined_lines : (bs : List ℕ) → joined (lines bs) ≡ bs
joined_lines [] = refl
joined_lines (b ∷ bs) =
    elim (eqb b 10) as (λ t. joined (cond t ((b ∷ []) ∷ lines bs) (onto_first b (lines bs))) ≡ b ∷ bs) [
      | true ↦ ap (λ l. b ∷ l) (joined_lines bs)
      | false ↦ joined_onto b (lines bs) ∙ ap (λ l. b ∷ l) (joined_lines bs)
    ]

more_more : (q : List ℕ) (b : ℕ) (l : List ℕ) (g : Body) → more (q ++ (b ∷ [])) (more l g) ≡ more (q ++ (b ∷ l)) g
more_more q b l (body ys r) = ap (λ w. body w r) (append_assoc q (b ∷ []) (l ++ ys) ∙ sym (append_assoc q (b ∷ l) ys))
more_more q b l lacking = refl

tab_none : (s : Bool) → untabbed s [] ≡ []
tab_none true = refl
tab_none false = refl

tab_off : (s : Bool) (b : ℕ) (l : List ℕ) → (s && eqb b 9) ≡ true → untabbed s (b ∷ l) ≡ untabbed s l
tab_off true b l e = rw e refl
tab_off false b l e = absurd (false≢true e)

tab_kept : (s : Bool) (b : ℕ) (l : List ℕ) → (s && eqb b 9) ≡ false → untabbed s (b ∷ l) ≡ b ∷ l
tab_kept true b l e = rw e refl
tab_kept false b l e = refl

tab_no_newline : (s : Bool) (b : ℕ) → (s && eqb b 9) ≡ true → eqb b 10 ≡ false
tab_no_newline s b e = let n : b ≡ 9 = eqb-true b 9 (and_parts s (eqb b 9) e).1 in ne_eqb b 10 (λ k. omega arith)

module _ (s : Bool) (d : List ℕ) where
  -- the rest of a line that is not the delimiter
  abbrev passing : List (List ℕ) → Body
  passing [] = lacking
  passing (l ∷ ls) = more l (before s d ls)

  -- a line that began with q, and is the delimiter if it goes on with r
  abbrev matching : List ℕ → List ℕ → List (List ℕ) → Body
  matching q r [] = cond (bytes_eq [] r) (body [] []) lacking
  matching q r (l ∷ ls) = cond (bytes_eq (chopped l) r) (body [] (joined ls)) (more (q ++ l) (before s d ls))

  -- a line that began with tabs that do not count
  abbrev tabbed : List (List ℕ) → Body
  tabbed [] = cond (bytes_eq [] d) (body [] []) lacking
  tabbed (l ∷ ls) = before s d (l ∷ ls)

  record Claims (bs : List ℕ) : Type 0 where
    fresh_is : run s d fresh bs ≡ before s d (lines bs)
    tabs_is : run s d tabs bs ≡ tabbed (lines bs)
    other_is : run s d other bs ≡ passing (lines bs)
    same_is : (q r : List ℕ) → run s d (same q r) bs ≡ matching q r (lines bs)

  module _ (b : ℕ) (bs : List ℕ) (h : Claims bs) where
    pass_on : (ls : List (List ℕ)) → more (b ∷ []) (passing ls) ≡ passing (onto_first b ls)
    pass_on [] = refl
    pass_on (l ∷ ls) = more_more [] b l (before s d ls)

    other_more : run s d other (b ∷ bs) ≡ passing (lines (b ∷ bs))
    other_more =
        elim (cases_Bool (eqb b 10)) [
          | inl e ↦ rw e (ap (more (b ∷ [])) h.fresh_is)
          | inr e ↦ rw e (ap (more (b ∷ [])) h.other_is ∙ pass_on (lines bs))
        ]

    module _ (e : eqb b 10 ≡ false) (q : List ℕ) where
      past_end : (ls : List (List ℕ)) → more (q ++ (b ∷ [])) (passing ls) ≡ matching q [] (onto_first b ls)
      past_end [] = rw e refl
      past_end (l ∷ ls) = rw e (more_more q b l (before s d ls))

      module _ (x : ℕ) (r : List ℕ) where
        met : eqb b x ≡ true → (ls : List (List ℕ)) → matching (q ++ (b ∷ [])) r ls ≡ matching q (x ∷ r) (onto_first b ls)
        met f [] = rw (e, f) refl
        met f (l ∷ ls) = rw (e, f) (ap (λ w. cond (bytes_eq (chopped l) r) (body [] (joined ls)) (more w (before s d ls))) (append_assoc q (b ∷ []) l))

        missed : eqb b x ≡ false → (ls : List (List ℕ)) → more (q ++ (b ∷ [])) (passing ls) ≡ matching q (x ∷ r) (onto_first b ls)
        missed f [] = rw (e, f) refl
        missed f (l ∷ ls) = rw (e, f) (more_more q b l (before s d ls))

    same_more : (q r : List ℕ) → run s d (same q r) (b ∷ bs) ≡ matching q r (lines (b ∷ bs))
    same_more q [] =
        elim (cases_Bool (eqb b 10)) [
          | inl e ↦ rw (e, e) (sym (ap (body []) (joined_lines bs)))
          | inr e ↦ rw e (ap (more (q ++ (b ∷ []))) h.other_is ∙ past_end e q (lines bs))
        ]
    same_more q (x ∷ r) =
        elim (cases_Bool (eqb b 10)) [
          | inl e ↦ rw (e, e) (ap (more (q ++ (b ∷ []))) h.fresh_is)
          | inr e ↦ elim (cases_Bool (eqb b x)) [
            | inl f ↦ rw (e, f) (h.same_is (q ++ (b ∷ [])) r ∙ met e q x r f (lines bs))
            | inr f ↦ rw (e, f) (ap (more (q ++ (b ∷ []))) h.other_is ∙ missed e q x r f (lines bs))
          ]
        ]

    -- a tab that does not count
    tab_on : (s && eqb b 9) ≡ true → (ls : List (List ℕ)) → tabbed ls ≡ tabbed (onto_first b ls)
    tab_on e [] = rw (tab_off s b [] e, tab_none s) refl
    tab_on e (l ∷ ls) = rw (tab_off s b l e) refl

    begun : (s && eqb b 9) ≡ false → (l : List ℕ) (ls : List (List ℕ)) → matching [] d ((b ∷ l) ∷ ls) ≡ before s d ((b ∷ l) ∷ ls)
    begun e l ls = rw (tab_kept s b l e) refl

    begun_onto : (s && eqb b 9) ≡ false → (ls : List (List ℕ)) → matching [] d (onto_first b ls) ≡ tabbed (onto_first b ls)
    begun_onto e [] = begun e [] []
    begun_onto e (l ∷ ls) = begun e l ls

    begun_lines : (s && eqb b 9) ≡ false → matching [] d (lines (b ∷ bs)) ≡ tabbed (lines (b ∷ bs))
    begun_lines e =
        elim (cases_Bool (eqb b 10)) [ inl f ↦ rw f (begun e [] (lines bs)) | inr f ↦ rw f (begun_onto e (lines bs)) ]

    tabs_more : run s d tabs (b ∷ bs) ≡ tabbed (lines (b ∷ bs))
    tabs_more =
        elim (cases_Bool (s && eqb b 9)) [
          | inl e ↦ rw (e, tab_no_newline s b e) (h.tabs_is ∙ tab_on e (lines bs))
          | inr e ↦ rw e (same_more [] d ∙ begun_lines e)
        ]

    full_onto : (ls : List (List ℕ)) → tabbed (onto_first b ls) ≡ before s d (onto_first b ls)
    full_onto [] = refl
    full_onto (l ∷ ls) = refl

    full : tabbed (lines (b ∷ bs)) ≡ before s d (lines (b ∷ bs))
    full = elim (cases_Bool (eqb b 10)) [ inl f ↦ rw f refl | inr f ↦ rw f (full_onto (lines bs)) ]

    claims_more : Claims (b ∷ bs)
    claims_more = record { fresh_is = tabs_more ∙ full; tabs_is = tabs_more; other_is = other_more; same_is = same_more }

  claims : (bs : List ℕ) → Claims bs
  claims [] = record { fresh_is = refl; tabs_is = refl; other_is = refl; same_is = λ q r. refl }
  claims (b ∷ bs) = claims_more b bs (claims bs)

-- the line as the reader keeps it

module _ (d : Document) where
  abbrev delimiter : List ℕ
  delimiter = d.delimiter

  abbrev line_of : Line → At
  line_of Fresh = fresh
  line_of Tabs = tabs
  line_of (Same n) = same (take n delimiter) (drop n delimiter)
  line_of Other = other

  abbrev does_of : Gives → ℕ → Does
  does_of Nothing b = passes
  does_of (Letters n) b = writes (take n delimiter ++ (b ∷ []))
  does_of Ends b = stops

  abbrev to_of : LineByte → ℕ → To
  to_of r b = to (does_of r.gives b) (line_of r.line)

  compared_is : (n b : ℕ) → to_of (compared n delimiter b) b ≡ compare (take n delimiter) (drop n delimiter) b
  compared_is n b =
      elim (cases_lt n (length delimiter)) [
        | inl l ↦ elim (cases_Bool (eqb b 10)) [
          | inl e ↦ rw (e, lt-ltb n (length delimiter) l) (sym (ap (λ r. compare (take n delimiter) r b) (drop_more delimiter n 0 l) ∙ rw e refl))
          | inr e ↦ elim (cases_Bool (eqb b (get_or delimiter n 0))) [
            | inl f ↦ rw (e, lt-ltb n (length delimiter) l, f) (ap (λ t. to passes (same t (drop (n + 1) delimiter))) (take_more delimiter n 0 l ∙ ap (λ x. take n delimiter ++ (x ∷ [])) (sym (eqb-true b (get_or delimiter n 0) f))) ∙ sym (ap (λ r. compare (take n delimiter) r b) (drop_more delimiter n 0 l) ∙ rw (e, f) refl))
            | inr f ↦ rw (e, lt-ltb n (length delimiter) l, f) (sym (ap (λ r. compare (take n delimiter) r b) (drop_more delimiter n 0 l) ∙ rw (e, f) refl))
          ]
        ]
        | inr l ↦ elim (cases_Bool (eqb b 10)) [
          | inl e ↦ rw (e, le-ltb n (length delimiter) l) (sym (ap (λ r. compare (take n delimiter) r b) (drop_all n delimiter l) ∙ rw e refl))
          | inr e ↦ rw (e, le-ltb n (length delimiter) l) (sym (ap (λ r. compare (take n delimiter) r b) (drop_all n delimiter l) ∙ rw e refl))
        ]
      ]

  first_is : (b : ℕ) (y : Bool) → to_of (cond y (record { gives = Nothing; line = Tabs }) (compared 0 delimiter b)) b ≡ cond y (to passes tabs) (compare [] delimiter b)
  first_is b true = refl
  first_is b false = compared_is 0 b

  byte_is : (l : Line) (b : ℕ) → to_of (line_byte d l b) b ≡ step d.dash delimiter (line_of l) b
  byte_is Fresh b = first_is b (d.dash && eqb b 9)
  byte_is Tabs b = first_is b (d.dash && eqb b 9)
  byte_is (Same n) b = compared_is n b
  byte_is Other b = elim (cases_Bool (eqb b 10)) [ inl e ↦ rw e refl | inr e ↦ rw e refl ]

  none_left : (n : ℕ) → leb (length delimiter) n ≡ bytes_eq [] (drop n delimiter)
  none_left n =
      elim (cases_lt n (length delimiter)) [
        | inl h ↦ lt-leb (length delimiter) n h ∙ sym (ap (bytes_eq []) (drop_more delimiter n 0 h))
        | inr h ↦ le-leb (length delimiter) n h ∙ sym (ap (bytes_eq []) (drop_all n delimiter h))
      ]

  end_is : (l : Line) → line_is d l ≡ ended delimiter (line_of l)
  end_is Fresh = refl
  end_is Tabs = none_left 0
  end_is (Same n) = none_left n
  end_is Other = refl

  given_is : (r : LineByte) (b : ℕ) (bs : List ℕ) (k : At → Body) → given r.gives delimiter b bs (k (line_of r.line)) ≡ next (to_of r b) bs k
  given_is r b bs k = by r.gives r.line
    where
      by : (g : Gives) (l : Line) → given g delimiter b bs (k (line_of l)) ≡ next (to (does_of g b) (line_of l)) bs k
      by Nothing l = refl
      by (Letters n) l = refl
      by Ends l = refl

  runs : (bs : List ℕ) (l : Line) → body_from d l bs ≡ run d.dash delimiter (line_of l) bs
  runs [] l = ap (λ (y : Bool). cond y (body [] []) lacking) (end_is l)
  runs (b ∷ bs) l =
      ap (given (line_byte d l b).gives delimiter b bs) (runs bs (line_byte d l b).line)
      ∙ given_is (line_byte d l b) b bs (λ a. run d.dash delimiter a bs)
      ∙ ap (λ t. next t bs (λ a. run d.dash delimiter a bs)) (byte_is l b)

pub bodies_go_by_lines : BodiesGoByLines
bodies_go_by_lines d bs = runs d bs Fresh ∙ (claims d.dash d.delimiter bs).fresh_is
