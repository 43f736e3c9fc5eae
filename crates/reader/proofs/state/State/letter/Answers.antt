use Rattle.std.proofs.Common.{◌≡◌, subst, ◌∙◌, inl, inr, sym}
use Rattle.std.specs.Prelude.{OnOk}
use Rattle.reader.specs.Holding.{state_of}
use Rattle.reader.specs.Pens.{page_of}
use Rattle.reader.specs.Runs.{run_of}
use Rattle.reader.specs.declared.runs.Run.{Run}
use Rattle.reader.proofs.Keeping.{bare_keeps, quoted_keeps, goes_on}
use Rattle.reader.proofs.Passing.{single_keeps, double_keeps}
use Rattle.reader.proofs.state.State.letter.Goals as goal

pub returns-in-Bare-clause-run : goal.returns-in-Bare-clause-run
returns-in-Bare-clause-run g c =
    let i = state_of c.args.self.now in
    let j = state_of c.bare.new.self in
    let keeps = bare_keeps g.W.Sink.writes c.args.b i j _ (page_of g.W.Sink.sheet c.bare.new.pen) c.bare.result c.bare.ensures.lays.laid in
    goes_on i j c.args.run c.bare.result (subst (λ (r : Run). OnOk c.bare.result (run_of j ≡ r)) c.requires keeps) c.bare.ensures.kept c.requires

pub returns-in-Single-clause-run : goal.returns-in-Single-clause-run
returns-in-Single-clause-run g c =
    let i = state_of c.args.self.now in
    let j = state_of c.quoted.new.self in
    let keeps = quoted_keeps g.W.Sink.writes c.args.b i j _ (page_of g.W.Sink.sheet c.quoted.new.pen) c.quoted.result c.quoted.ensures.lays.laid in
    let on : OnOk c.quoted.result (run_of j ≡ c.args.run) = elim c.in-Single.is [
      | inl e ↦ subst (λ (r : Run). OnOk c.quoted.result (run_of j ≡ r)) (single_keeps i (c.requires ∙ e) ∙ sym e) keeps
      | inr e ↦ subst (λ (r : Run). OnOk c.quoted.result (run_of j ≡ r)) (double_keeps i (c.requires ∙ e) ∙ sym e) keeps
    ] in
    goes_on i j c.args.run c.quoted.result on c.quoted.ensures.kept c.requires
