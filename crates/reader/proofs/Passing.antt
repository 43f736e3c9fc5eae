-- A letter of a run does nothing else, and no word that may be replaced ends before it. Assumes nothing.
use Rattle.std.proofs.Common.{◌≡◌, ℕ, Bool, true, false, cond, not, ◌&&◌, ◌||◌, eqb, ◌⊎◌, List, Some, Ok, Err, Option, Result, sym, refl, ap, ◌∙◌, subst, inl, inr, arith}
use Rattle.std.proofs.lemmas.Bool.{and_cases, and_left, and_right, eqb-true, eq-eqb}
use Rattle.basics.specs.Bytes.{newline, single_quote, backslash}
use Rattle.basics.specs.declared.refusal.Refusal.{Refusal}
use Rattle.tokens.specs.declared.begun.Begun.{Begun}
use Rattle.tokens.specs.declared.begun.Begun.TheVariants as begun
use Rattle.tokens.specs.declared.class.Class.{Class}
use Rattle.tokens.specs.declared.class.Class.TheVariants as class
use Rattle.tokens.specs.declared.top.Top.{Top}
use Rattle.tokens.specs.declared.top.Top.TheVariants as top
use Rattle.tokens.specs.Bytes.{class_of, ends_word, redirects, double_quote, dollar, backquote}
use Rattle.tokens.specs.Expansions.{is_nothing}
use Rattle.commands.specs.declared.line.Line.TheVariants as line
use Rattle.commands.specs.declared.line.Gives.TheVariants as gives
use Rattle.commands.specs.declared.line.LineByte.{LineByte}
use Rattle.commands.specs.declared.stage.Stage.{Stage}
use Rattle.commands.specs.declared.stage.Stage.TheVariants.{Start, Must, Head, Args, Done}
use Rattle.commands.specs.Bodies.{read}
use Rattle.commands.specs.Redirections.{is_free}
use Rattle.commands.specs.Roles.{is_name_use, use_of}
use Rattle.source.specs.declared.symbol.Sign.{Sign}
use Rattle.source.specs.declared.symbol.Sign.TheVariants.{Byte, Hole, AliasEnd}
use Rattle.source.specs.declared.symbol.Symbol.{Symbol}
use Rattle.source.specs.Symbols.{first, rest, symbol}
use Rattle.reading.specs.declared.act.Act.TheVariants.{WordHere}
use Rattle.reading.specs.declared.mode.Mode.{Mode}
use Rattle.reading.specs.declared.mode.Mode.TheVariants as mode
use Rattle.reading.specs.declared.mode.Region.{Region}
use Rattle.reading.specs.declared.mode.Region.TheVariants as region
use Rattle.reading.specs.declared.act.At.TheVariants as at
use Rattle.basics.specs.declared.refusal.Reason.TheVariants as reason
use Rattle.reading.specs.Laid.{Held, held, and}
use Rattle.reading.specs.Moves.{byte, byte_in, named, named_in, plain_name, backslash_here}
use Rattle.reading.specs.Readings.{Aliases}
use Rattle.reading.specs.States.{State, Control, assigned, calm, region_of, textual, top_of}
use Rattle.reading.specs.Steps.{Step, Move, refuse, plainly}
use Rattle.reading.specs.Text.{in_command, in_double, in_single, in_text, work, pop, dollar_here, body_goes}
use Rattle.reading.specs.Words.{bare, quoted, reserved, use_here}
use Rattle.reader.specs.Held.{lays, lays_move}
use Rattle.reader.specs.Sheets.{Sheets}
use Rattle.reader.specs.Onto.{candidate_is, read_on}
use Rattle.reader.specs.Turns.{candidate_next}
use Rattle.reader.proofs.Turning.{no_word, own_at_symbol}
use Rattle.reader.specs.Runs.{is_backslash, is_before_name, is_letter, is_own_work, is_plain, may_be_name, text_run, run_in, run_of, has_letter, letter_of, has_work, work_of}
use Rattle.reader.specs.declared.runs.Run.{Run}
use Rattle.reader.specs.declared.runs.Run.TheVariants as run

no : ◌≡◌ {A = Bool} false true → ⊥
no h = let z : ◌≡◌ {A = ℕ} 0 1 = cc in omega arith

-- bytes

letter_goes_on : (k : Class) → is_letter k ≡ true → ends_word k ≡ false
letter_goes_on class.Newline h = sym h
letter_goes_on class.Blank h = sym h
letter_goes_on class.Amp h = sym h
letter_goes_on class.Bar h = sym h
letter_goes_on class.Semi h = sym h
letter_goes_on class.Open h = sym h
letter_goes_on class.Close h = sym h
letter_goes_on class.Less h = sym h
letter_goes_on class.Great h = sym h
letter_goes_on class.Minus h = refl
letter_goes_on class.SingleQuote h = refl
letter_goes_on class.DoubleQuote h = refl
letter_goes_on class.Backslash h = refl
letter_goes_on class.Dollar h = refl
letter_goes_on class.Backquote h = refl
letter_goes_on class.Hash h = refl
letter_goes_on class.Other h = refl

letter_is_bare : (k : Class) (b : ℕ) (i : State) → is_letter k ≡ true → in_command k b i ≡ bare b WordHere i
letter_is_bare class.Newline b i h = absurd (no h)
letter_is_bare class.Blank b i h = absurd (no h)
letter_is_bare class.Amp b i h = absurd (no h)
letter_is_bare class.Bar b i h = absurd (no h)
letter_is_bare class.Semi b i h = absurd (no h)
letter_is_bare class.Open b i h = absurd (no h)
letter_is_bare class.Close b i h = absurd (no h)
letter_is_bare class.Less b i h = absurd (no h)
letter_is_bare class.Great b i h = absurd (no h)
letter_is_bare class.Minus b i h = refl
letter_is_bare class.SingleQuote b i h = absurd (no h)
letter_is_bare class.DoubleQuote b i h = absurd (no h)
letter_is_bare class.Backslash b i h = absurd (no h)
letter_is_bare class.Dollar b i h = absurd (no h)
letter_is_bare class.Backquote b i h = absurd (no h)
letter_is_bare class.Hash b i h = absurd (no h)
letter_is_bare class.Other b i h = refl

letter_no_backslash : (b : ℕ) → is_letter (class_of b) ≡ true → eqb b backslash ≡ false
letter_no_backslash b h = by_test (eqb b backslash) refl
  where
    by_test : (t : Bool) → eqb b backslash ≡ t → t ≡ false
    by_test false e = refl
    by_test true e = absurd (no (subst (λ (n : ℕ). is_letter (class_of n) ≡ true) (eqb-true b backslash e) h))

own_no_backslash : (b : ℕ) → is_backslash (class_of b) ≡ false → eqb b backslash ≡ false
own_no_backslash b h = by_test (eqb b backslash) refl
  where
    by_test : (t : Bool) → eqb b backslash ≡ t → t ≡ false
    by_test false e = refl
    by_test true e = absurd (no (sym (subst (λ (n : ℕ). is_backslash (class_of n) ≡ false) (eqb-true b backslash e) h)))

not_quotable : (d q s l : Bool) → not (d || (q || (s || (l || false)))) ≡ true → (d ≡ false) × (q ≡ false) × (s ≡ false) × (l ≡ false)
not_quotable true q s l h = absurd (no h)
not_quotable false true s l h = absurd (no h)
not_quotable false false true l h = absurd (no h)
not_quotable false false false true h = absurd (no h)
not_quotable false false false false h = (refl, refl, refl, refl)

turned : (a b : ℕ) → eqb a b ≡ false → eqb b a ≡ false
turned a b h = by_test (eqb b a) refl
  where
    by_test : (t : Bool) → eqb b a ≡ t → t ≡ false
    by_test false e = refl
    by_test true e = absurd (no (sym h ∙ eq-eqb a b (sym (eqb-true b a e))))

not_true : (t : Bool) → not t ≡ true → t ≡ false
not_true true h = absurd (no h)
not_true false h = refl

both_true : (x y : Bool) → (x && y) ≡ true → (x ≡ true) × (y ≡ true)
both_true true y h = (refl, h)
both_true false y h = absurd (no h)

-- where a run is
abbrev IsAt : Run → Begun → Top → Mode → Type 0
IsAt run.Nowhere g t m = Unit {0}
IsAt run.Bare g t m = (g ≡ begun.Nothing) × (t ≡ top.Command) × (region_of m t ≡ textual t)
IsAt run.Single g t m = (t ≡ top.Single) × (region_of m t ≡ textual t)
IsAt run.Double g t m = (g ≡ begun.Nothing) × (t ≡ top.Double) × (region_of m t ≡ textual t)
IsAt (run.Body n) g t m = m ≡ mode.Body n line.Other

in_text_at : (g : Begun) (t : Top) (m : Mode) → region_of m t ≡ textual t → IsAt (text_run g t) g t m
in_text_at begun.Nothing top.Command m h = (refl, refl, h)
in_text_at begun.Dollar top.Command m h = tt
in_text_at begun.Paren top.Command m h = tt
in_text_at begun.Name top.Command m h = tt
in_text_at begun.Brace top.Command m h = tt
in_text_at begun.BraceName top.Command m h = tt
in_text_at (begun.Operator o) top.Command m h = tt
in_text_at g top.Single m h = (refl, h)
in_text_at begun.Nothing top.Double m h = (refl, refl, h)
in_text_at begun.Dollar top.Double m h = tt
in_text_at begun.Paren top.Double m h = tt
in_text_at begun.Name top.Double m h = tt
in_text_at begun.Brace top.Double m h = tt
in_text_at begun.BraceName top.Double m h = tt
in_text_at (begun.Operator o) top.Double m h = tt

is_at : (g : Begun) (t : Top) (m : Mode) → IsAt (run_in g t m) g t m
is_at g t mode.Gap = in_text_at g t mode.Gap refl
is_at g t mode.Comment = tt
is_at g t (mode.Plain o) = in_text_at g t (mode.Plain o) refl
is_at g t (mode.Mixed y) = in_text_at g t (mode.Mixed y) refl
is_at g t (mode.Body n line.Fresh) = tt
is_at g t (mode.Body n line.Tabs) = tt
is_at g t (mode.Body n (line.Same k)) = tt
is_at g t (mode.Body n line.Other) = refl

stands : (r : Run) (i : State) → run_of i ≡ r → IsAt r i.begun (top_of i.frames) i.word.mode
stands r i h = subst (λ (x : Run). IsAt x i.begun (top_of i.frames) i.word.mode) h (is_at i.begun (top_of i.frames) i.word.mode)

-- no word that may be replaced ends before a letter

module _ (b : ℕ) (i : State) where
  bare_no_word : is_letter (class_of b) ≡ true → candidate_is (Byte b) (calm i) ≡ false
  bare_no_word h = and_left (ends_word (class_of b)) (named (redirects (class_of b)) (calm i)) (letter_goes_on (class_of b) h)

  -- a plain word that would be a command's name is what may be replaced
  no_plain_word : (r : Bool) → may_be_name i ≡ false → named r (calm i) ≡ false
  no_plain_word r h = by_either (and_cases (is_before_name i.command.stage) (is_plain i.word.mode) h) (top_of i.frames)
    where
      by_stage : (g : Stage) (x y : Bool) → is_before_name g ≡ false → is_name_use (use_of g x y) ≡ false
      by_stage Start x y q = absurd (no (sym q))
      by_stage Must x y q = absurd (no (sym q))
      by_stage Head x y q = absurd (no (sym q))
      by_stage Args x y q = refl
      by_stage Done x y q = refl

      by_mode : (m : Mode) → is_plain m ≡ false → plain_name r m ≡ false
      by_mode mode.Gap q = refl
      by_mode mode.Comment q = refl
      by_mode (mode.Plain o) q = absurd (no (sym q))
      by_mode (mode.Mixed y) q = refl
      by_mode (mode.Body n l) q = refl

      by_either : (is_before_name i.command.stage ≡ false) ⊎ (is_plain i.word.mode ≡ false) → (t : Top) → named_in r i t ≡ false
      by_either (inl q) top.Command =
          and_right (is_nothing i.begun) (plain_name r i.word.mode && (is_free i.command.awaited && is_name_use (use_here i)))
          (and_right (plain_name r i.word.mode) (is_free i.command.awaited && is_name_use (use_here i))
          (and_right (is_free i.command.awaited) (is_name_use (use_here i)) (by_stage i.command.stage (reserved i.word) (assigned i.word.mode) q)))
      by_either (inr q) top.Command =
          and_right (is_nothing i.begun) (plain_name r i.word.mode && (is_free i.command.awaited && is_name_use (use_here i))) (and_left (plain_name r i.word.mode) (is_free i.command.awaited && is_name_use (use_here i)) (by_mode i.word.mode q))
      by_either q top.Single = refl
      by_either q top.Double = refl

  own_no_word : is_own_work (class_of b) i ≡ true → candidate_is (Byte b) (calm i) ≡ false
  own_no_word h = by_class (ends_word (class_of b)) (not_true (ends_word (class_of b) && may_be_name i) (both_true (not (is_backslash (class_of b))) (not (ends_word (class_of b) && may_be_name i)) h).1)
    where
      by_class : (t : Bool) → (t && may_be_name i) ≡ false → (t && named (redirects (class_of b)) (calm i)) ≡ false
      by_class true q = no_plain_word (redirects (class_of b)) q
      by_class false q = refl

  -- in quotes no word ends
  quotes_no_word : (t : Top) → top_of i.frames ≡ t → named_in (redirects (class_of b)) i t ≡ false → candidate_is (Byte b) (calm i) ≡ false
  quotes_no_word t e h = and_right (ends_word (class_of b)) (named (redirects (class_of b)) (calm i)) (ap (λ (x : Top). named_in (redirects (class_of b)) i x) e ∙ h)

  body_no_word : (n : ℕ) → i.word.mode ≡ mode.Body n line.Other → candidate_is (Byte b) (calm i) ≡ false
  body_no_word n h = and_right (ends_word (class_of b)) (named (redirects (class_of b)) (calm i)) (by_top (top_of i.frames))
    where
      no_plain : plain_name (redirects (class_of b)) i.word.mode ≡ false
      no_plain = ap (λ (m : Mode). plain_name (redirects (class_of b)) m) h

      by_top : (t : Top) → named_in (redirects (class_of b)) i t ≡ false
      by_top top.Command =
          and_right (is_nothing i.begun) (plain_name (redirects (class_of b)) i.word.mode && (is_free i.command.awaited && is_name_use (use_here i)))
          (and_left (plain_name (redirects (class_of b)) i.word.mode) (is_free i.command.awaited && is_name_use (use_here i)) no_plain)
      by_top top.Single = refl
      by_top top.Double = refl

  pub letter_no_word : (r : Run) → run_of i ≡ r → has_letter r b ≡ true → candidate_is (Byte b) (calm i) ≡ false
  letter_no_word run.Nowhere h l = absurd (no l)
  letter_no_word run.Bare h l = bare_no_word l
  letter_no_word run.Single h l = quotes_no_word top.Single (stands run.Single i h).0 refl
  letter_no_word run.Double h l = quotes_no_word top.Double (stands run.Double i h).1 refl
  letter_no_word (run.Body n) h l = body_no_word n (stands (run.Body n) i h)

  pub work_no_word : (r : Run) → run_of i ≡ r → has_work r b i ≡ true → candidate_is (Byte b) (calm i) ≡ false
  work_no_word run.Nowhere h l = absurd (no l)
  work_no_word run.Bare h l = own_no_word l
  work_no_word run.Single h l = quotes_no_word top.Single (stands run.Single i h).0 refl
  work_no_word run.Double h l = quotes_no_word top.Double (stands run.Double i h).1 refl
  work_no_word (run.Body n) h l = absurd (no l)

-- a letter does what a letter does

module _ {S : Type 0} (W : Sheets S) (p : ℕ) (s : S) (b : ℕ) (i : State) where
  abbrev moves : Move → Result (Held Control S) Refusal
  moves m = lays_move W p m s

  abbrev with_begun : Begun → State
  with_begun g = record { begun = g; word = i.word; frames = i.frames; command = i.command; documents = i.documents }

  -- where nothing is begun, a byte does its own work
  own_work : i.begun ≡ begun.Nothing → moves (plainly (in_text b i)) ≡ moves (plainly (work b i (top_of i.frames)))
  own_work h = subst (λ (g : Begun). moves (plainly (in_text b (with_begun g))) ≡ moves (plainly (work b (with_begun g) (top_of i.frames)))) (sym h) refl

  no_backslash : eqb b backslash ≡ false → moves (byte_in b i region.Text) ≡ moves (plainly (in_text b i))
  no_backslash h = ap (λ (t : Bool). moves (cond t (backslash_here i) (plainly (in_text b i)))) h

  -- in command text, where nothing is begun
  command_moves : run_of i ≡ run.Bare → eqb b backslash ≡ false → moves (byte b (calm i)) ≡ moves (plainly (in_command (class_of b) b i))
  command_moves h l =
      let u = stands run.Bare i h in
      ap (λ (r : Region). moves (byte_in b i r)) (u.2 ∙ ap (λ (t : Top). textual t) u.1)
      ∙ no_backslash l
      ∙ own_work u.0
      ∙ ap (λ (t : Top). moves (plainly (work b i t))) u.1

  bare_moves : run_of i ≡ run.Bare → is_letter (class_of b) ≡ true → moves (byte b (calm i)) ≡ moves (plainly (bare b WordHere i))
  bare_moves h l = command_moves h (letter_no_backslash b l) ∙ ap (λ (x : Step). moves (plainly x)) (letter_is_bare (class_of b) b i l)

  own_moves : run_of i ≡ run.Bare → is_own_work (class_of b) i ≡ true → moves (byte b (calm i)) ≡ moves (plainly (in_command (class_of b) b i))
  own_moves h l = command_moves h (own_no_backslash b (not_true (is_backslash (class_of b)) (both_true (not (is_backslash (class_of b))) (not (ends_word (class_of b) && may_be_name i)) l).0))

  single_moves : run_of i ≡ run.Single → moves (byte b (calm i)) ≡ moves (plainly (in_single b i))
  single_moves h = let u = stands run.Single i h in ap (λ (r : Region). moves (byte_in b i r)) (u.1 ∙ ap (λ (t : Top). textual t) u.0)

  double_moves : run_of i ≡ run.Double → eqb b backslash ≡ false → moves (byte b (calm i)) ≡ moves (plainly (in_double b i))
  double_moves h l =
      let u = stands run.Double i h in
      ap (λ (r : Region). moves (byte_in b i r)) (u.2 ∙ ap (λ (t : Top). textual t) u.1)
      ∙ no_backslash l
      ∙ own_work u.0
      ∙ ap (λ (t : Top). moves (plainly (work b i t))) u.1

  in_single_letter : not (eqb b single_quote) ≡ true → moves (plainly (in_single b i)) ≡ moves (plainly (quoted b WordHere i))
  in_single_letter k = ap (λ (t : Bool). moves (plainly (cond t (pop i) (quoted b WordHere i)))) (not_true (eqb b single_quote) k)

  in_double_letter : (eqb b dollar ≡ false) × (eqb b backquote ≡ false) × (eqb b double_quote ≡ false) → moves (plainly (in_double b i)) ≡ moves (plainly (quoted b WordHere i))
  in_double_letter e =
      ap (λ (t : Bool). moves (plainly (cond t (pop i) (cond (eqb b dollar) (dollar_here i) (cond (eqb b backquote) (refuse reason.ExpansionNotTaken at.Here) (quoted b WordHere i)))))) e.2
      ∙ ap (λ (t : Bool). moves (plainly (cond t (dollar_here i) (cond (eqb b backquote) (refuse reason.ExpansionNotTaken at.Here) (quoted b WordHere i))))) e.0
      ∙ ap (λ (t : Bool). moves (plainly (cond t (refuse reason.ExpansionNotTaken at.Here) (quoted b WordHere i)))) e.1

  body_moves : (n : ℕ) → run_of i ≡ run.Body n → eqb b newline ≡ false → moves (byte b (calm i)) ≡ moves (plainly (letter_of (run.Body n) b i))
  body_moves n h l =
      ap (λ (m : Mode). moves (byte_in b i (region_of m (top_of i.frames)))) (stands (run.Body n) i h)
      ∙ ap (λ (t : Bool). let r : LineByte = cond t (read (gives.Letters 0) line.Fresh) (read (gives.Letters 0) line.Other) in moves (plainly (body_goes b n r.gives r.line i))) l

  pub letter_moves : (r : Run) → run_of i ≡ r → has_letter r b ≡ true → moves (byte b (calm i)) ≡ moves (plainly (letter_of r b i))
  letter_moves run.Nowhere h l = absurd (no l)
  letter_moves run.Bare h l = bare_moves h l
  letter_moves run.Single h l = single_moves h ∙ in_single_letter l
  letter_moves run.Double h l =
      let e = not_quotable (eqb dollar b) (eqb backquote b) (eqb double_quote b) (eqb backslash b) l in
      double_moves h (turned backslash b e.3) ∙ in_double_letter (turned dollar b e.0, turned backquote b e.1, turned double_quote b e.2)
  letter_moves (run.Body n) h l = body_moves n h (not_true (eqb b newline) l)

  pub work_moves : (r : Run) → run_of i ≡ r → has_work r b i ≡ true → moves (byte b (calm i)) ≡ moves (plainly (work_of r b i))
  work_moves run.Nowhere h l = absurd (no l)
  work_moves run.Bare h l = own_moves h l
  work_moves run.Single h l = single_moves h
  work_moves run.Double h l = double_moves h (not_true (eqb b backslash) l)
  work_moves (run.Body n) h l = absurd (no l)

-- the reading goes on behind a byte before which no word may be replaced
module _ {S : Type 0} (W : Sheets S) (al : Aliases) (e n : ℕ) (ss : List Symbol) (ns : List (List ℕ)) (c : Control) (s : S) (b p : ℕ) where
  pub byte_passed : Some (symbol (Byte b) p) ≡ first ss → candidate_is (Byte b) c ≡ false
      → read_on W al e n ss ns c s ≡ and (lays_move W p (byte b c) s) (λ h. read_on W al e n (rest ss) ns h.at h.sheet)
  byte_passed is h =
      no_word W al e n ss ns c s (ap (λ (o : Option Symbol). candidate_next o c) (sym is) ∙ h)
      ∙ own_at_symbol W al e n ss ns c s (symbol (Byte b) p) is

-- the same where the byte is a letter, and so comes to the step x
module _ {S : Type 0} (W : Sheets S) (al : Aliases) (e n : ℕ) (ss : List Symbol) (ns : List (List ℕ)) (i : State) (s : S) (b p : ℕ) (x : Step)
    (is : Some (symbol (Byte b) p) ≡ first ss) (h : candidate_is (Byte b) (calm i) ≡ false)
    (m : lays_move W p (byte b (calm i)) s ≡ lays_move W p (plainly x) s) where
  abbrev goes_on_from : Result (Held State S) Refusal → Result S Refusal
  goes_on_from a = and a (λ k. read_on W al e n (rest ss) ns (calm k.at) k.sheet)

  joined : (a : Result (Held State S) Refusal) → and (and a (λ k. Ok (held (calm k.at) k.sheet))) (λ k. read_on W al e n (rest ss) ns k.at k.sheet) ≡ goes_on_from a
  joined (Ok k) = refl
  joined (Err r) = refl

  letter_passed : read_on W al e n ss ns (calm i) s ≡ goes_on_from (lays W p x s)
  letter_passed =
      byte_passed W al e n ss ns (calm i) s b p is h
      ∙ ap (λ (a : Result (Held Control S) Refusal). and a (λ k. read_on W al e n (rest ss) ns k.at k.sheet)) m
      ∙ joined (lays W p x s)

  pub letter_went : (j : State) (t : S) → Ok (held j t) ≡ lays W p x s → read_on W al e n (rest ss) ns (calm j) t ≡ read_on W al e n ss ns (calm i) s
  letter_went j t q = ap (λ (a : Result (Held State S) Refusal). goes_on_from a) q ∙ sym letter_passed

  pub letter_refused : (r : Refusal) → Err r ≡ lays W p x s → Err r ≡ read_on W al e n ss ns (calm i) s
  letter_refused r q = ap (λ (a : Result (Held State S) Refusal). goes_on_from a) q ∙ sym letter_passed

-- where quoted letters come one after another, they still do once a word is entered
pub single_keeps : (i : State) → run_of i ≡ run.Single → text_run begun.Nothing (top_of i.frames) ≡ run.Single
single_keeps i h = ap (λ (t : Top). text_run begun.Nothing t) (stands run.Single i h).0

pub double_keeps : (i : State) → run_of i ≡ run.Double → text_run begun.Nothing (top_of i.frames) ≡ run.Double
double_keeps i h = ap (λ (t : Top). text_run begun.Nothing t) (stands run.Double i h).1

-- where the command's name has come, no word is replaced

not_named : (r e : Bool) (i : State) (t : Top) → is_name_use (use_here i) ≡ false → (elim e as (λ _. Bool) [ true ↦ false | false ↦ named_in r i t ]) ≡ false
not_named r true i t h = refl
not_named r false i top.Command h =
    and_right (is_nothing i.begun) (plain_name r i.word.mode && (is_free i.command.awaited && is_name_use (use_here i)))
    (and_right (plain_name r i.word.mode) (is_free i.command.awaited && is_name_use (use_here i)) (and_right (is_free i.command.awaited) (is_name_use (use_here i)) h))
not_named r false i top.Single h = refl
not_named r false i top.Double h = refl

pub no_name : (x : Sign) (c : Control) → is_name_use (use_here c.at) ≡ false → candidate_is x c ≡ false
no_name (Byte b) c h = and_right (ends_word (class_of b)) (named (redirects (class_of b)) c) (not_named (redirects (class_of b)) c.escape c.at (top_of c.at.frames) h)
no_name (Hole d) c h = refl
no_name AliasEnd c h = not_named false c.escape c.at (top_of c.at.frames) h

pub no_name_at : (x : Sign) (c : Control) → (c.at.command.stage ≡ Args) ⊎ (c.at.command.stage ≡ Done) → candidate_is x c ≡ false
no_name_at x c (inl h) = no_name x c (ap (λ (g : Stage). is_name_use (use_of g (reserved c.at.word) (assigned c.at.word.mode))) h)
no_name_at x c (inr h) = no_name x c (ap (λ (g : Stage). is_name_use (use_of g (reserved c.at.word) (assigned c.at.word.mode))) h)
