-- A letter of a run of a word leaves the reader in the run. Assumes nothing.
use Rattle.std.proofs.Common.{◌≡◌, ℕ, List, Ok, Err, Result, refl, ap, ◌∙◌, arith}
use Rattle.std.specs.Prelude.{OnOk, OnErr}
use Rattle.basics.specs.declared.refusal.Refusal.{Refusal}
use Rattle.tokens.specs.declared.begun.Begun.{Begun}
use Rattle.tokens.specs.declared.begun.Begun.TheVariants as begun
use Rattle.tokens.specs.declared.letter.Mark.TheVariants.{Bare, Quoted}
use Rattle.tokens.specs.Letters.{marked}
use Rattle.tokens.specs.declared.top.Top.{Top}
use Rattle.reading.specs.declared.act.Act.{Act}
use Rattle.reading.specs.declared.act.Act.TheVariants.{Letter, WordHere}
use Rattle.reading.specs.declared.mode.Mode.{Mode}
use Rattle.reading.specs.declared.mode.Mode.TheVariants as mode
use Rattle.reading.specs.Laid.{Held, held, and}
use Rattle.reading.specs.States.{State, Word, set_word, top_of}
use Rattle.reading.specs.Steps.{done, does}
use Rattle.reading.specs.Words.{bare, enter, longer, noted, quoted, starting}
use Rattle.reader.specs.Pens.{Page, put_on, step_on}
use Rattle.reader.specs.Held.{result_of}
use Rattle.reader.specs.Runs.{run_in, run_of, text_run}
use Rattle.reader.specs.Sheets.{Sheets}
use Rattle.reader.specs.declared.runs.Run.{Run}

module _ {S : Type 0} (W : Sheets S) (i j : State) (q : Page S) where
  abbrev went : Result (Held State (Page S)) Refusal
  went = Ok (held j q)

  one_act : (r : Result (Page S) Refusal) → went ≡ and r (λ p. Ok (held i p)) → j ≡ i
  one_act (Ok p) h = let e : held j q ≡ held i p = cc in ap (λ (x : Held State (Page S)). x.at) e
  one_act (Err x) h = let z : ◌≡◌ {A = ℕ} 0 1 = cc in absurd (omega arith)

  two_acts : (r : Result (Page S) Refusal) (f : Page S → Result (Page S) Refusal) → went ≡ and r (λ p. and (f p) (λ o. Ok (held i o))) → j ≡ i
  two_acts (Ok p) f h = one_act (f p) h
  two_acts (Err x) f h = let z : ◌≡◌ {A = ℕ} 0 1 = cc in absurd (omega arith)

  -- a letter, before which a word may begin, leaves the state that its step says
  pub after_letter : (m : Mode) (from a : Act) (p : Page S) → went ≡ step_on W (starting m from (does a (done i))) p → j ≡ i
  after_letter mode.Gap from a p h = two_acts (put_on W from p) (put_on W a) h
  after_letter mode.Comment from a p h = one_act (put_on W a p) h
  after_letter (mode.Plain o) from a p h = one_act (put_on W a p) h
  after_letter (mode.Mixed y) from a p h = one_act (put_on W a p) h
  after_letter (mode.Body n l) from a p h = one_act (put_on W a p) h

-- a bare letter more changes no run
longer_in : (g : Begun) (t : Top) (b : ℕ) (m : Mode) (k : List ℕ) → run_in g t (longer b (record { mode = m; kept = k })).mode ≡ run_in g t m
longer_in g t b mode.Gap k = refl
longer_in g t b mode.Comment k = refl
longer_in g t b (mode.Plain o) k = refl
longer_in g t b (mode.Mixed y) k = refl
longer_in g t b (mode.Body n l) k = refl

pub longer_run : (g : Begun) (t : Top) (b : ℕ) (w : Word) → run_in g t (longer b w).mode ≡ run_in g t w.mode
longer_run g t b w = longer_in g t b w.mode w.kept

module _ {S X : Type 0} (W : Sheets S) (b : ℕ) (i j : State) (p q : Page S) where
  pub bare_keeps : (r : Result X Refusal) → result_of r (held j q) ≡ step_on W (bare b WordHere i) p → OnOk r (run_of j ≡ run_of i)
  bare_keeps (Ok x) h =
      ap run_of (after_letter W (noted b (set_word (longer b i.word) i)) j q i.word.mode WordHere (Letter (marked Bare b)) p h)
      ∙ longer_run i.begun (top_of i.frames) b i.word
  bare_keeps (Err e) h = tt

  pub quoted_keeps : (r : Result X Refusal) → result_of r (held j q) ≡ step_on W (quoted b WordHere i) p → OnOk r (run_of j ≡ text_run begun.Nothing (top_of i.frames))
  quoted_keeps (Ok x) h = ap run_of (after_letter W (noted b (enter i)) j q i.word.mode WordHere (Letter (marked Quoted b)) p h)
  quoted_keeps (Err e) h = tt

-- a letter that is refused leaves the state as it was, and so in the run
pub goes_on : {X : Type 0} (i j : State) (u : Run) (r : Result X Refusal) → OnOk r (run_of j ≡ u) → OnErr r (j ≡ i) → run_of i ≡ u → run_of j ≡ u
goes_on i j u (Ok x) o k h = o
goes_on i j u (Err e) o k h = ap run_of k ∙ h
