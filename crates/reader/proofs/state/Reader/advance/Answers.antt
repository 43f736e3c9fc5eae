use Rattle.std.proofs.Common.{◌≡◌, ℕ, Bool, true, Ok, Result, sym, ap, ◌∙◌, arith}
use Rattle.std.proofs.lemmas.Result.{err_from_is_err_and}
use Rattle.basics.specs.declared.refusal.Refusal.{Refusal}
use Rattle.reader.specs.Holding.{state_of}
use Rattle.reader.specs.Turns.{reads_from}
use Rattle.reader.proofs.state.Reader.advance.Goals as goal

pub returns-in_err-pass_letters : goal.returns-in_err-pass_letters
returns-in_err-pass_letters g c =
    let W = g.W.Sink.writes in
    let i = state_of c.args.self.now.at in
    let s = g.W.Sink.sheet c.args.out.now in
    let a = c.in_err-pass_letters.ensures in
    let f = err_from_is_err_and c.from_residual.result c.from_residual.ensures.1 in
    record {
      goes = rw (f.1, f.2) (a.goes ∙ ap (λ (e : Bool). reads_from W c.args.source.now (record { escape = e; at = i }) s) (sym c.if-self.false));
      falls = λ q. let z : ◌≡◌ {A = ℕ} 0 1 = cc in absurd (omega arith);
    }

pub returns-then-branch : goal.returns-then-branch
returns-then-branch g c =
    let W = g.W.Sink.writes in
    let i = state_of c.args.self.now.at in
    let s = g.W.Sink.sheet c.args.out.now in
    let j = state_of c.pass_letters.new.self in
    let t = g.W.Sink.sheet c.pass_letters.new.out in
    let a = c.in_ok-pass_letters.ensures in
    let yes : ◌≡◌ {A = Result Bool Refusal} (Ok c.in_ok-pass_letters.field-0) (Ok true) = ap (λ (b : Bool). Ok b) c.if-branch.true in
    record {
      goes = ap (λ (e : Bool). reads_from W c.pass_letters.new.source (record { escape = e; at = j }) t) c.if-self.false
          ∙ a.goes
          ∙ ap (λ (e : Bool). reads_from W c.args.source.now (record { escape = e; at = i }) s) (sym c.if-self.false);
      falls = λ h. a.fewer yes;
    }

pub returns : goal.returns
returns g c =
    let W = g.W.Sink.writes in
    let i = state_of c.args.self.now.at in
    let s = g.W.Sink.sheet c.args.out.now in
    let j = state_of c.pass_letters.new.self in
    let t = g.W.Sink.sheet c.pass_letters.new.out in
    let a = c.in_ok-pass_letters.ensures in
    record {
      goes = c.turn-2.ensures.goes
          ∙ ap (λ (e : Bool). reads_from W c.pass_letters.new.source (record { escape = e; at = j }) t) c.if-self.false
          ∙ a.goes
          ∙ ap (λ (e : Bool). reads_from W c.args.source.now (record { escape = e; at = i }) s) (sym c.if-self.false);
      falls = λ h. omega (arith, c.turn-2.ensures.falls h, a.falls);
    }
