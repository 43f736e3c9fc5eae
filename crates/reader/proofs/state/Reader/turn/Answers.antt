use Rattle.std.proofs.Common.{◌≡◌, Bool, false, Ok, Result, sym, ap, ◌∙◌, arith}
use Rattle.aliases.specs.Tables.{aliases_of}
use Rattle.basics.specs.declared.refusal.Refusal.{Refusal}
use Rattle.source.specs.Symbols.{first}
use Rattle.reader.specs.Holding.{control_of}
use Rattle.reader.specs.Turns.{candidate_next, goes_replaced, own_from, reads_from, still_from}
use Rattle.reader.proofs.Turning.{no_word}
use Rattle.reader.proofs.state.Reader.turn.Goals as goal

pub returns-then-not-may_be_replaced_before : goal.returns-then-not-may_be_replaced_before
returns-then-not-may_be_replaced_before g c =
    let W = g.W.Sink.writes in
    let p = c.args.source.now in
    let k = control_of c.args.self.now in
    let s = g.W.Sink.sheet c.args.out.now in
    let ss = p.coming in
    let no : candidate_next (first ss) k ≡ false = ap (λ x. candidate_next x k) (sym c.look-next.ensures) ∙ sym c.may_be_replaced_before.ensures ∙ c.if-not-may_be_replaced_before.true in
    record {
      goes = c.own.ensures.goes ∙ sym (no_word W (aliases_of p.table).named p.end p.left ss p.names k s no);
      falls = c.own.ensures.falls;
    }

pub returns : goal.returns
returns g c =
    let W = g.W.Sink.writes in
    let p = c.args.source.now in
    let k = control_of c.args.self.now in
    let s = g.W.Sink.sheet c.args.out.now in
    let q = c.replace_word.new.source in
    let j = control_of c.replace_word.new.self in
    let t = g.W.Sink.sheet c.replace_word.new.out in
    let a = c.in_ok-replace_word.ensures in
    let no : ◌≡◌ {A = Result Bool Refusal} (Ok c.in_ok-replace_word.field-0) (Ok false) = ap (λ (b : Bool). Ok b) c.if-branch.false in
    record {
      goes = c.own-2.ensures.goes
          ∙ ap (λ (r : Result Bool Refusal). goes_replaced r (reads_from W q j t) (own_from W q j t)) (sym no)
          ∙ a.goes;
      falls = λ h. omega (arith, c.own-2.ensures.falls h, ap still_from (a.stays no));
    }
