-- What the shell's reader does with quotes where it takes a hole. Assumes nothing.
use Rattle.std.proofs.Common.{◌≡◌, ℕ, Bool, true, false, cond, eqb, List, [], ◌∷◌, ◌++◌, None, sym, refl, ap, ◌∙◌, ap₂, append_assoc, arith}
use Rattle.basics.specs.declared.refusal.Reason.{Reason}
use Rattle.basics.specs.declared.refusal.Reason.TheVariants.{TooDeep}
use Rattle.basics.specs.Bytes.{newline, single_quote, backslash}
use Rattle.tokens.specs.declared.begun.Begun.{Begun}
use Rattle.tokens.specs.declared.begun.Begun.TheVariants as begun
use Rattle.tokens.specs.declared.top.Top.{Top}
use Rattle.tokens.specs.declared.top.Top.TheVariants as top
use Rattle.tokens.specs.declared.letter.Mark.TheVariants.{Quoted}
use Rattle.tokens.specs.Letters.{marked}
use Rattle.tokens.specs.Bytes.{class_of, ends_word}
use Rattle.tokens.specs.Expansions.{goes_on, is_dollar}
use Rattle.commands.specs.declared.awaited.Awaited.{Awaited}
use Rattle.commands.specs.declared.awaited.Awaited.TheVariants as awaited
use Rattle.commands.specs.declared.stage.Stage.{Stage}
use Rattle.commands.specs.declared.frame.Frame.TheVariants as frame
use Rattle.reading.specs.declared.act.Act.{Act}
use Rattle.reading.specs.declared.act.Act.TheVariants.{WordHere, WordAtBackslash, Letter}
use Rattle.reading.specs.declared.act.At.TheVariants as at
use Rattle.reading.specs.declared.mode.Mode.{Mode}
use Rattle.reading.specs.declared.mode.Mode.TheVariants as mode
use Rattle.reading.specs.declared.mode.Region.{Region}
use Rattle.reading.specs.declared.mode.Region.TheVariants as region
use Rattle.reading.specs.States.{State, Control, set_frames, set_documents, set_letters, calm, room, top_of, region_of, assigned}
use Rattle.reading.specs.Steps.{Step, done, refuse, does, ◌then◌, Outcome, went, failed, outcome, after, onward, Move}
use Rattle.reading.specs.Words.{starting, enter, with_letter}
use Rattle.reading.specs.Expansions.{settled, settle, go_on}
use Rattle.reading.specs.Text.{work, escaped}
use Rattle.reading.specs.Holes.{open_to_hole, not_taken, taken_if, hole_at, hole_in, hole}
use Rattle.reading.specs.Moves.{byte, byte_in}
use Rattle.reading.specs.Readings.{Turn, goes, fails}
use Rattle.reading.specs.Items.{turned, turn, Written, writes}
use Rattle.reading.specs.Unplaced.{told, of_turn, reason_of, unplaced}
use Rattle.reading.specs.Filled.{quoted}
use Rattle.reading.specs.Laws.{Quotes, FormIsOneWordsLetters, Fills}
use Rattle.reading.proofs.Runs.{forms_give_letters, fills}

failed_went : {out a : List Written} {w : Control} {f : Reason} → ◌≡◌ {A = Turn Control Written Reason} (fails a f) (goes out w) → ⊥
failed_went h = let z : ◌≡◌ {A = ℕ} 0 1 = cc in omega arith

false_true : ◌≡◌ {A = Bool} false true → ⊥
false_true h = let z : ◌≡◌ {A = ℕ} 0 1 = cc in omega arith

add_nil : {A : Type 0} (l : List A) → l ++ [] ≡ l
add_nil [] = refl
add_nil (x ∷ l) = ap (λ m. x ∷ m) (add_nil l)

either_way : {X : Type 0} (y : Bool) (x : X) → cond y x x ≡ x
either_way true x = refl
either_way false x = refl

told_more : (a b : List Act) → told writes (a ++ b) ≡ told writes a ++ told writes b
told_more [] b = refl
told_more (x ∷ a) b = ap (λ l. writes x ++ l) (told_more a b) ∙ sym (append_assoc (writes x) (told writes a) (told writes b))

-- what is told of an outcome
abbrev tell : Outcome → Turn Control Written Reason
tell x = of_turn writes reason_of (turned false x)

abbrev told_first : List Written → Turn Control Written Reason → Turn Control Written Reason
told_first out (goes b c) = goes (out ++ b) c
told_first out (fails b f) = fails (out ++ b) f

tell_after : (a : List Act) (x : Outcome) → tell (after a x) ≡ told_first (told writes a) (tell x)
tell_after a (went b i) = ap (λ l. goes l (calm i)) (told_more a b)
tell_after a (failed b f) = ap (λ l. fails l f.reason) (told_more a b)

-- that a word begins is not told
tell_silent : (x : Act) → writes x ≡ [] → (y : Outcome) → tell (after (x ∷ []) y) ≡ tell y
tell_silent x e (went b i) = ap (λ l. goes (l ++ told writes b) (calm i)) e
tell_silent x e (failed b f) = ap (λ l. fails (l ++ told writes b) f.reason) e

tell_starting : (m : Mode) (x : Act) → writes x ≡ [] → (s : Step) → tell (outcome (starting m x s)) ≡ tell (outcome s)
tell_starting mode.Gap x e s = tell_silent x e (outcome s)
tell_starting mode.Comment x e s = refl
tell_starting (mode.Plain o) x e s = refl
tell_starting (mode.Mixed y) x e s = refl
tell_starting (mode.Body n l) x e s = refl

started : (a : List Act) (m : Mode) (x : Act) → writes x ≡ [] → (s : Step) → tell (after a (outcome (starting m x s))) ≡ told_first (told writes a) (tell (outcome s))
started a m x e s = tell_after a (outcome (starting m x s)) ∙ ap (told_first (told writes a)) (tell_starting m x e s)

-- where a hole is taken, told as out and leaving w: a settled state with room, in command text, open to holes
pub record Here (out : List Written) (w : Control) (a : List Act) (j : State) : Type 0 where
  pub is_w : w ≡ calm (enter j)
  pub is_out : out ≡ told writes a
  pub is_command : top_of j.frames ≡ top.Command
  pub is_open : open_to_hole j.command.awaited j.command.stage (assigned j.word.mode) ≡ true
  pub has_room : room j ≡ true

module _ (out : List Written) (w : Control) where
  abbrev Took : Outcome → Type 0
  Took x = tell x ≡ goes out w

  if_here : (a : List Act) (j : State) (y r : Bool) → open_to_hole j.command.awaited j.command.stage (assigned j.word.mode) ≡ y → room j ≡ r → top_of j.frames ≡ top.Command → Took (after a (outcome (taken_if y r j))) → Here out w a j
  if_here a j true true p q t h =
      let e : goes (told writes a ++ []) (calm (enter j)) ≡ goes out w = sym (started a j.word.mode WordHere refl (done (enter j))) ∙ h in
      let f : told writes a ++ [] ≡ out = cc in
      record { is_w = cc; is_out = sym f ∙ add_nil (told writes a); is_command = t; is_open = p; has_room = q }
  if_here a j true false p q t h = absurd (failed_went h)
  if_here a j false true p q t h = absurd (failed_went h)
  if_here a j false false p q t h = absurd (failed_went h)

  at_here : (a : List Act) (j : State) (t : Top) → top_of j.frames ≡ t → Took (after a (outcome (hole_at j t))) → Here out w a j
  at_here a j top.Command e h = if_here a j (open_to_hole j.command.awaited j.command.stage (assigned j.word.mode)) (room j) refl refl e h
  at_here a j top.Single e h = absurd (failed_went h)
  at_here a j top.Double e h = absurd (failed_went h)

-- so whatever holds where a step is settled at such a state holds where a hole is taken
module _ (out : List Written) (w : Control) (P : Outcome → Type 0) (k : (a : List Act) (j : State) → Here out w a j → P (went a j)) where
  step_here : (x : Outcome) → Took out w (onward x (λ j. outcome (hole_at j (top_of j.frames)))) → P x
  step_here (went a j) h = k a j (at_here out w a j (top_of j.frames) refl h)
  step_here (failed a f) h = absurd (failed_went h)

abbrev backed : State → Control
backed i = record { escape = true; at = i }

abbrev singly : Control → Control
singly c = calm (set_frames (frame.Single ∷ c.at.frames) c.at)

module _ (out : List Written) (w : Control) where
  abbrev hole_settled : State → Step
  hole_settled i = settle i then λ j. hole_at j (top_of j.frames)

  abbrev quote_settled : State → Step
  quote_settled i = settle i then λ j. work single_quote j (top_of j.frames)

  -- what is begun does not go on with a quote mark
  ready_unit : (u : Begun) (i : State) → Took out w (outcome (cond (is_dollar u) not_taken (settled u i then λ j. hole_at j (top_of j.frames)))) → Took out w (outcome (settled u i then λ j. hole_at j (top_of j.frames))) × (goes_on u single_quote ≡ false)
  ready_unit begun.Nothing i h = (h, refl)
  ready_unit begun.Dollar i h = absurd (failed_went h)
  ready_unit begun.Paren i h = (h, refl)
  ready_unit begun.Name i h = (h, refl)
  ready_unit begun.Brace i h = absurd (failed_went h)
  ready_unit begun.BraceName i h = absurd (failed_went h)
  ready_unit (begun.Operator o) i h = (h, refl)

  abbrev Ready : State → (ℕ → Move) → Type 0
  Ready i f = Took out w (outcome (hole_settled i)) × (of_turn writes reason_of (turn (f single_quote)) ≡ tell (outcome (quote_settled i))) × (of_turn writes reason_of (turn (f backslash)) ≡ goes [] (backed i))

  ready_in : (i : State) (r : Region) → Took out w (outcome (hole_in i r)) → Ready i (λ b. byte_in b i r)
  ready_in i region.Text h = let r = ready_unit i.begun i h in (r.0, ap (λ (y : Bool). tell (outcome (cond y (go_on single_quote i) (quote_settled i)))) r.1, refl)
  ready_in i region.Single h = absurd (failed_went h)
  ready_in i region.Comment h = absurd (failed_went h)
  ready_in i (region.Body n l) h = absurd (failed_went h)

  never_escaped : (x : Outcome) → Took out w (onward x (λ j. outcome not_taken)) → ⊥
  never_escaped (went a j) h = failed_went h
  never_escaped (failed a f) h = failed_went h

  ready : (e : Bool) (i : State) → of_turn writes reason_of (turn (hole (record { escape = e; at = i }))) ≡ goes out w → Ready i (λ b. byte b (record { escape = e; at = i }))
  ready true i h = absurd (never_escaped (outcome (settle i)) h)
  ready false i h = ready_in i (region_of i.word.mode (top_of i.frames)) h

  -- a place where holes are taken is no delimiter, whose letters are kept
  no_delimiter : (b : ℕ) (x : Awaited) (g : Stage) (s : Bool) (ls : List ℕ) → open_to_hole x g s ≡ true → with_letter x b ls ≡ ls
  no_delimiter b awaited.Nothing g s ls h = refl
  no_delimiter b awaited.Target g s ls h = refl
  no_delimiter b (awaited.Delimiter d) g s ls h = absurd (false_true h)

  -- a letter noted leaves such a state as it is
  unnoted : (b : ℕ) (a : List Act) (j : State) → Here out w a j → set_letters (with_letter j.command.awaited b j.documents.letters) j.documents ≡ j.documents
  unnoted b a j e = ap (λ ls. set_letters ls j.documents) (no_delimiter b j.command.awaited j.command.stage (assigned j.word.mode) j.documents.letters e.is_open)

  opens_here : (a : List Act) (j : State) → Here out w a j → tell (after a (outcome (work single_quote j (top_of j.frames)))) ≡ goes out (singly w)
  opens_here a j e =
      ap (λ t. tell (after a (outcome (work single_quote j t)))) e.is_command
      ∙ ap (λ (y : Bool). tell (after a (outcome (cond y (starting j.word.mode WordHere (done (set_frames (frame.Single ∷ j.frames) (enter j)))) (refuse TooDeep at.Here))))) e.has_room
      ∙ started a j.word.mode WordHere refl (done (set_frames (frame.Single ∷ j.frames) (enter j)))
      ∙ ap₂ (λ l c. goes l (singly c)) (add_nil (told writes a) ∙ sym e.is_out) (sym e.is_w)

  escaped_here : (b : ℕ) (a : List Act) (j : State) → Here out w a j → tell (after a (outcome (escaped b j (top_of j.frames)))) ≡ goes (out ++ (quoted b ∷ [])) w
  escaped_here b a j e =
      ap (λ t. tell (after a (outcome (escaped b j t)))) e.is_command
      ∙ started a j.word.mode WordAtBackslash refl (does (Letter (marked Quoted b)) (done (set_documents (set_letters (with_letter j.command.awaited b j.documents.letters) j.documents) (enter j))))
      ∙ ap₂ (λ l d. goes (l ++ (quoted b ∷ [])) (calm (set_documents d (enter j)))) (sym e.is_out) (unnoted b a j e)
      ∙ ap (λ c. goes (out ++ (quoted b ∷ [])) c) (sym e.is_w)

  abbrev Somewhere : Type 0
  Somewhere = (a : List Act) × (j : State) × Here out w a j

  module _ (c : Control) (h : unplaced.hole c ≡ goes out w) where
    taken : Ready c.at (λ b. byte b c)
    taken = ready c.escape c.at h

    pub somewhere : Somewhere
    somewhere = step_here out w (λ _. Somewhere) (λ a j e. (a, j, e)) (outcome (settle c.at)) taken.0

    pub opens : unplaced.byte single_quote c ≡ goes out (singly w)
    opens = taken.1 ∙ step_here out w (λ x. tell (onward x (λ j. outcome (work single_quote j (top_of j.frames)))) ≡ goes out (singly w)) (λ a j e. opens_here a j e) (outcome (settle c.at)) taken.0

    pub escapes : unplaced.byte backslash c ≡ goes [] (backed c.at)
    escapes = taken.2

    pub escaped_byte : (b : ℕ) → eqb b newline ≡ false → unplaced.byte b (backed c.at) ≡ goes (out ++ (quoted b ∷ [])) w
    escaped_byte b n =
        ap (λ (y : Bool). tell (outcome (cond y (done c.at) (settle c.at then λ j. escaped b j (top_of j.frames))))) n
        ∙ step_here out w (λ x. tell (onward x (λ j. outcome (escaped b j (top_of j.frames)))) ≡ goes (out ++ (quoted b ∷ [])) w) (λ a j e. escaped_here b a j e) (outcome (settle c.at)) taken.0

  stays_at : (a : List Act) (j : State) → Here out w a j → unplaced.hole w ≡ goes [] w
  stays_at a j e =
      ap (λ c. unplaced.hole c) e.is_w
      ∙ ap (λ t. tell (outcome (hole_in (enter j) (region_of (mode.Mixed (assigned j.word.mode)) t)))) e.is_command
      ∙ ap (λ t. tell (after [] (outcome (hole_at (enter j) t)))) e.is_command
      ∙ ap₂ (λ y r. tell (after [] (outcome (taken_if y r (enter j))))) e.is_open e.has_room
      ∙ ap (λ c. goes [] c) (sym e.is_w)

  holds_at : (b : ℕ) → eqb b single_quote ≡ false → (a : List Act) (j : State) → Here out w a j → unplaced.byte b (singly w) ≡ goes (quoted b ∷ []) (singly w)
  holds_at b n a j e =
      ap (λ c. unplaced.byte b (singly c)) e.is_w
      ∙ ap (λ (y : Bool). tell (outcome (cond y (done (enter j)) (does (Letter (marked Quoted b)) (done (set_documents (set_letters (with_letter j.command.awaited b j.documents.letters) j.documents) (set_frames (frame.Single ∷ j.frames) (enter j)))))))) n
      ∙ ap (λ d. goes (quoted b ∷ []) (calm (set_documents d (set_frames (frame.Single ∷ j.frames) (enter j))))) (unnoted b a j e)
      ∙ ap (λ c. goes (quoted b ∷ []) (singly c)) (sym e.is_w)

  closes_at : (a : List Act) (j : State) → Here out w a j → unplaced.byte single_quote (singly w) ≡ goes [] w
  closes_at a j e = ap (λ c. unplaced.byte single_quote (singly c)) e.is_w ∙ ap (λ c. goes [] c) (sym e.is_w)

  pub at_place : (c : Control) → unplaced.hole c ≡ goes out w → (X : Type 0) → ((a : List Act) (j : State) → Here out w a j → X) → X
  at_place c h X k = let s = somewhere c h in k s.0 s.1 s.2

pub shell_quotes : Quotes unplaced quoted
shell_quotes = record {
  in_single = singly;
  in_escape = λ c. backed c.at;
  stays = λ c w out h. at_place out w c h _ (stays_at out w);
  opens = λ c w out h. opens out w c h;
  holds = λ c w out h b n. at_place out w c h _ (holds_at out w b n);
  closes = λ c w out h. at_place out w c h _ (closes_at out w);
  escapes = λ c w out h. escapes out w c h;
  escaped = λ c w out h b n. escaped_byte out w c h b n;
  no_name_at_quote = λ c. refl;
  no_name_at_backslash = λ c. refl;
  no_name_in_single = λ c b. either_way (ends_word (class_of b)) None;
  no_name_in_escape = λ c b. either_way (ends_word (class_of b)) None;
}

pub form_is_one_words_letters : FormIsOneWordsLetters
form_is_one_words_letters = forms_give_letters unplaced quoted shell_quotes

pub shell_fills : Fills unplaced quoted
shell_fills = fills unplaced quoted shell_quotes
