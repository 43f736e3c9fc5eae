use Rattle.std.proofs.Common.{◌≡◌, ℕ, true, Some, sym, ap, ◌∙◌, arith, rules}
use Rattle.std.proofs.lemmas.Result.{err_from_is_err_and}
use Rattle.aliases.specs.Tables.{aliases_of}
use Rattle.source.specs.declared.symbol.Sign.{Sign}
use Rattle.source.specs.declared.symbol.Sign.TheVariants.{Byte}
use Rattle.source.specs.Front.{Front}
use Rattle.source.specs.Symbols.{first, symbol}
use Rattle.reading.specs.States.{calm}
use Rattle.reader.specs.Holding.{state_of}
use Rattle.reader.specs.Pens.{page_of}
use Rattle.reader.specs.Runs.{has_letter, letter_of, has_work, work_of}
use Rattle.reader.specs.Turns.{rest_of, still_from}
use Rattle.reader.proofs.Turning.{fewer, onward_is}
use Rattle.reader.proofs.Paging.{step_went, step_refused}
use Rattle.reader.proofs.Passing.{letter_no_word, letter_moves, work_no_word, work_moves, letter_went, letter_refused}
use Rattle.reader.proofs.state.State.pass.Goals as goal

pub returns-in_err-letter : goal.returns-in_err-letter
returns-in_err-letter g c =
    let W = g.W.Sink.writes in
    let p = c.loop-s.source in
    let i = state_of c.loop-s.self in
    let s = g.W.Sink.sheet c.loop-s.out in
    let ss = p.coming in
    let b = c.in-Byte.b in
    let q = c.in-Some.s.place in
    let r = c.args.run in
    let is : Some (symbol (Byte b) q) ≡ first ss = ap (λ (g : Sign). Some (symbol g q)) (sym c.in-Byte.is) ∙ c.in-Some.ensures in
    let l : has_letter r b ≡ true = sym c.has_letter.ensures ∙ c.if-has_letter.true in
    let x = letter_of r b i in
    let f = err_from_is_err_and c.from_residual.result c.from_residual.ensures.1 in
    record {
      goes = rw (f.1, f.2)
          (letter_refused W (aliases_of p.table).named (p.end) p.left ss (p.names) i s b q x is (letter_no_word b i r c.loop-s.invariant.0 l) (letter_moves W q s b i r c.loop-s.invariant.0 l)
          c.in_err-letter.field-0.0 (step_refused W _ x c.in_err-letter.field-0.0 c.in_err-letter.ensures.lays.laid) ∙ c.loop-s.invariant.1);
      falls = c.loop-s.invariant.2;
      fewer = λ z. let n : ◌≡◌ {A = ℕ} 0 1 = cc in absurd (omega arith);
    }

pub loop-s-preserved : goal.loop-s-preserved
loop-s-preserved g c =
    let W = g.W.Sink.writes in
    let p = c.loop-s.source in
    let i = state_of c.loop-s.self in
    let s = g.W.Sink.sheet c.loop-s.out in
    let ss = p.coming in
    let ns = p.names in
    let b = c.in-Byte.b in
    let q = c.in-Some.s.place in
    let r = c.args.run in
    let is : Some (symbol (Byte b) q) ≡ first ss = ap (λ (g : Sign). Some (symbol g q)) (sym c.in-Byte.is) ∙ c.in-Some.ensures in
    let l : has_letter r b ≡ true = sym c.has_letter.ensures ∙ c.if-has_letter.true in
    let x = letter_of r b i in
    let j = state_of c.letter.new.self in
    let o = c.letter.new.pen.out.now in
    let w = step_went W _ x j (page_of g.W.Sink.sheet c.letter.new.pen) c.in_ok-letter.ensures.lays.laid in
    let goes : rest_of g.W.Sink c.take.new.self (calm j) o ≡ rest_of g.W.Sink c.args.source.now (calm (state_of c.args.self.now)) c.args.out.now =
    ap (λ (f : Front). rest_of g.W.Sink f (calm j) o) c.take.ensures ∙ onward_is W p (symbol (Byte b) q) (calm j) (g.W.Sink.sheet o) is
    ∙ letter_went W (aliases_of p.table).named (p.end) p.left ss ns i s b q x is (letter_no_word b i r c.loop-s.invariant.0 l) (letter_moves W q s b i r c.loop-s.invariant.0 l) j (g.W.Sink.sheet o) w.0
    ∙ c.loop-s.invariant.1 in (
      c.in_ok-letter.ensures.run,
      search rules,
      omega (arith, fewer p.left ss (symbol (Byte b) q) is, ap still_from c.take.ensures, c.loop-s.invariant.2),
    )

pub returns-in_err-work_behind : goal.returns-in_err-work_behind
returns-in_err-work_behind g c =
    let W = g.W.Sink.writes in
    let p = c.loop-s.source in
    let i = state_of c.loop-s.self in
    let s = g.W.Sink.sheet c.loop-s.out in
    let ss = p.coming in
    let b = c.in-Byte.b in
    let q = c.in-Some.s.place in
    let r = c.args.run in
    let is : Some (symbol (Byte b) q) ≡ first ss = ap (λ (g : Sign). Some (symbol g q)) (sym c.in-Byte.is) ∙ c.in-Some.ensures in
    let l : has_work r b i ≡ true = sym c.has_work.ensures ∙ c.if-not-has_work.false in
    let x = work_of r b i in
    let f = err_from_is_err_and c.from_residual-in_err-work_behind.result c.from_residual-in_err-work_behind.ensures.1 in
    record {
      goes = rw (f.1, f.2)
          (letter_refused W (aliases_of p.table).named (p.end) p.left ss (p.names) i s b q x is (work_no_word b i r c.loop-s.invariant.0 l) (work_moves W q s b i r c.loop-s.invariant.0 l)
          c.in_err-work_behind.field-0.0 (step_refused W _ x c.in_err-work_behind.field-0.0 c.in_err-work_behind.ensures.laid) ∙ c.loop-s.invariant.1);
      falls = c.loop-s.invariant.2;
      fewer = λ z. let n : ◌≡◌ {A = ℕ} 0 1 = cc in absurd (omega arith);
    }

pub returns-in-Some : goal.returns-in-Some
returns-in-Some g c =
    let W = g.W.Sink.writes in
    let p = c.loop-s.source in
    let i = state_of c.loop-s.self in
    let s = g.W.Sink.sheet c.loop-s.out in
    let ss = p.coming in
    let ns = p.names in
    let b = c.in-Byte.b in
    let q = c.in-Some.s.place in
    let r = c.args.run in
    let is : Some (symbol (Byte b) q) ≡ first ss = ap (λ (g : Sign). Some (symbol g q)) (sym c.in-Byte.is) ∙ c.in-Some.ensures in
    let l : has_work r b i ≡ true = sym c.has_work.ensures ∙ c.if-not-has_work.false in
    let x = work_of r b i in
    let j = state_of c.work_behind.new.self in
    let o = c.work_behind.new.pen.out.now in
    let w = step_went W _ x j (page_of g.W.Sink.sheet c.work_behind.new.pen) c.in_ok-work_behind.ensures.laid in
    let less = fewer p.left ss (symbol (Byte b) q) is in
    let goes : rest_of g.W.Sink c.take-in-Some.new.self (calm j) o ≡ rest_of g.W.Sink c.args.source.now (calm (state_of c.args.self.now)) c.args.out.now =
    ap (λ (f : Front). rest_of g.W.Sink f (calm j) o) c.take-in-Some.ensures ∙ onward_is W p (symbol (Byte b) q) (calm j) (g.W.Sink.sheet o) is
    ∙ letter_went W (aliases_of p.table).named (p.end) p.left ss ns i s b q x is (work_no_word b i r c.loop-s.invariant.0 l) (work_moves W q s b i r c.loop-s.invariant.0 l) j (g.W.Sink.sheet o) w.0
    ∙ c.loop-s.invariant.1 in
    record {
      goes = search rules;
      falls = omega (arith, less, ap still_from c.take-in-Some.ensures, c.loop-s.invariant.2);
      fewer = λ z. omega (arith, less, ap still_from c.take-in-Some.ensures, c.loop-s.invariant.2);
    }
