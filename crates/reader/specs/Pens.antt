-- What a pen writes: steps at one place of a sheet. Assumes nothing.
use Rattle.std.specs.Prelude.{◌≡◌, ℕ, Ok, Result}
use Rattle.basics.specs.declared.refusal.Refusal.{Refusal}
use Rattle.source.specs.declared.symbol.Sign.{Sign}
use Rattle.source.specs.declared.symbol.Sign.TheVariants.{Byte, Hole, AliasEnd}
use Rattle.reading.specs.declared.act.Act.{Act}
use Rattle.reading.specs.declared.act.Fault.{Fault}
use Rattle.reading.specs.Holes.{hole}
use Rattle.reading.specs.Moves.{byte, alias_end}
use Rattle.reading.specs.States.{State, Control}
use Rattle.reading.specs.Steps.{Step, Move}
use Rattle.reading.specs.Laid.{Held, held, and, laid, laid_move}
use Rattle.reader.specs.declared.sink.Pen.{Pen}
use Rattle.reader.specs.declared.sink.Sink as sink
use Rattle.reader.specs.declared.state.State as held_state
use Rattle.reader.specs.declared.state.Reader as held_reader
use Rattle.reader.specs.Held.{result_of}
use Rattle.reader.specs.Holding.{state_of, control_of}
use Rattle.reader.specs.Sheets.{Sheets}

-- what the pen's sink holds, the place, and which sink it is
pub record Page (S : Type 0) : Type 0 where
  pub sheet : S
  pub place : ℕ
  pub sink : ℕ

abbrev pub page_of : {W S : Type 0} → (W → S) → Pen W → Page S
page_of sheet p = record { sheet = sheet p.out.now; place = p.place; sink = p.out.ghost_name }

abbrev pub with_sheet : {S : Type 0} → Page S → S → Page S
with_sheet p s = record { sheet = s; place = p.place; sink = p.sink }

-- an act, the letter of a hole, a fault, a step and a move, at the page's place
abbrev pub put_on : {S : Type 0} → Sheets S → Act → Page S → Result (Page S) Refusal
put_on W a p = and (W.written a p.place p.sheet) (λ s. Ok (with_sheet p s))

abbrev pub fill_on : {S : Type 0} → Sheets S → ℕ → Page S → Result (Page S) Refusal
fill_on W d p = and (W.filled d p.sheet) (λ s. Ok (with_sheet p s))

abbrev pub refused_on : {S : Type 0} → Sheets S → Fault → Page S → Refusal
refused_on W f p = W.placed f p.place p.sheet

abbrev pub step_on : {S : Type 0} → Sheets S → Step → Page S → Result (Held State (Page S)) Refusal
step_on W s p = laid (put_on W) (refused_on W) s p

abbrev pub move_on : {S : Type 0} → Sheets S → Move → Page S → Result (Held Control (Page S)) Refusal
move_on W m p = laid_move (put_on W) (refused_on W) m p

-- what a symbol does by itself
abbrev pub sign_on : {S : Type 0} → Sheets S → Sign → Control → Page S → Result (Held Control (Page S)) Refusal
sign_on W (Byte b) c p = move_on W (byte b c) p
sign_on W (Hole d) c p = and (move_on W (hole c) p) (λ h. and (fill_on W d h.sheet) (λ t. Ok (held h.at t)))
sign_on W AliasEnd c p = move_on W (alias_end c) p

-- what comes to be on the sheet, on the page
abbrev pub paged : {C S : Type 0} → Page S → Result (Held C S) Refusal → Result (Held C (Page S)) Refusal
paged p r = and r (λ h. Ok (held h.at (with_sheet p h.sheet)))

-- a pen is still at its place, and writes on the same sink
pub record SamePen {W : Type 0} (old new : Pen W) : Type 0 where
  pub place : new.place ≡ old.place
  pub sink : new.out.ghost_name ≡ old.out.ghost_name

-- a step is laid on the page at which the pen stood: what the call answers, and the state and the pen that it leaves. After a refusal too it is the same pen
pub record Lays {W : Type 0} (K : sink.Ghosts W) (s : Step) (p : Pen W) (r : Result (Unit {0}) Refusal) (i : held_state.State) (q : Pen W) : Type 0 where
  pub laid : result_of r (held (state_of i) (page_of K.sheet q)) ≡ step_on K.writes s (page_of K.sheet p)
  pub pen : SamePen p q

pub record LaysMove {W : Type 0} (K : sink.Ghosts W) (m : Move) (p : Pen W) (r : Result (Unit {0}) Refusal) (c : held_reader.Reader) (q : Pen W) : Type 0 where
  pub laid : result_of r (held (control_of c) (page_of K.sheet q)) ≡ move_on K.writes m (page_of K.sheet p)
  pub pen : SamePen p q
