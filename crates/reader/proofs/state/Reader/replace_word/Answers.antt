use Rattle.std.proofs.Common.{◌≡◌, Bool, true, false, Ok, Err, sym, refl, ap, ◌∙◌, arith}
use Rattle.std.proofs.lemmas.Result.{err_from_is_err_and}
use Rattle.aliases.specs.Tables.{aliases_of}
use Rattle.source.specs.Front.{Front}
use Rattle.source.specs.Fronts.{value_for, replaced}
use Rattle.source.specs.Replacing.{replace_answer}
use Rattle.source.specs.Symbols.{first}
use Rattle.reading.specs.declared.act.Act.TheVariants as act
use Rattle.reading.specs.States.{Control}
use Rattle.reader.specs.Holding.{control_of}
use Rattle.reader.specs.Turns.{candidate_next, own_from, place_next, reads_from}
use Rattle.reader.proofs.Turning.{no_alias, not_replaced, fewer_replaced, replaced_goes, replaced_refused, too_many}
use Rattle.reader.proofs.state.Reader.replace_word.Goals as goal

pub returns-clause-goes : goal.returns-clause-goes
returns-clause-goes g c =
    let W = g.W.Sink.writes in
    let p = c.args.source.now in
    let k = control_of c.args.self.now in
    let s = g.W.Sink.sheet c.args.out.now in
    let w = k.at.word.kept in
    let o = value_for p w in
    let cand : candidate_next (first p.coming) k ≡ true = ap (λ x. candidate_next x k) (sym c.requires.next_value) ∙ c.requires.self_value in
    let text : c.text.result.now ≡ w = c.text.ensures in
    let there : c.word_place-word_place.result ≡ W.word s = c.word_place-word_place.ensures in
    let place : c.place_before-place.result ≡ place_next p.end (first p.coming) = c.place_before-place.ensures ∙ (λ i. place_next (c.end_place.ensures i) (c.requires.next_value i)) in
    let said : Ok true ≡ replace_answer o p.left (W.word s) = ap (λ (b : Bool). Ok b) (sym c.if-not-branch.false) ∙ c.in_ok-replace.ensures.said ∙ (λ i. replace_answer (value_for p (text i)) p.left (there i)) in
    let after : c.replace.new.self ≡ replaced o p w (W.word s) = c.in_ok-replace.ensures.after ∙ (λ i. replaced (value_for p (text i)) p (text i) (there i)) in
    let t = g.W.Sink.sheet c.put.new.self in
    let put : Ok t ≡ W.written act.Forget (place_next p.end (first p.coming)) s = c.in_ok-put.ensures ∙ ap (λ n. W.written act.Forget n s) place in
    ap (λ (q : Front). reads_from W q (control_of c.drop_word.new.self) t) after
    ∙ ap (λ (d : Control). reads_from W (replaced o p w (W.word s)) d t) c.drop_word.ensures
    ∙ replaced_goes W (aliases_of p.table).named p.end p.coming p.names k s cand o p.left t refl said put

pub returns-clause-falls : goal.returns-clause-falls
returns-clause-falls g c =
    let W = g.W.Sink.writes in
    let p = c.args.source.now in
    let s = g.W.Sink.sheet c.args.out.now in
    let w = (control_of c.args.self.now).at.word.kept in
    let o = value_for p w in
    let text : c.text.result.now ≡ w = c.text.ensures in
    let there : c.word_place-word_place.result ≡ W.word s = c.word_place-word_place.ensures in
    let said : Ok true ≡ replace_answer o p.left (W.word s) = ap (λ (b : Bool). Ok b) (sym c.if-not-branch.false) ∙ c.in_ok-replace.ensures.said ∙ (λ i. replace_answer (value_for p (text i)) p.left (there i)) in
    let after : c.replace.new.self ≡ replaced o p w (W.word s) = c.in_ok-replace.ensures.after ∙ (λ i. replaced (value_for p (text i)) p (text i) (there i)) in
    λ q. omega (arith, fewer_replaced o p.left (W.word s) p.coming c.replace.new.self.coming said c.in_ok-replace.ensures.grows, ap (λ (f : Front). f.left) after)

pub returns-in_err-put-clause-goes : goal.returns-in_err-put-clause-goes
returns-in_err-put-clause-goes g c =
    let W = g.W.Sink.writes in
    let p = c.args.source.now in
    let k = control_of c.args.self.now in
    let s = g.W.Sink.sheet c.args.out.now in
    let w = k.at.word.kept in
    let o = value_for p w in
    let cand : candidate_next (first p.coming) k ≡ true = ap (λ x. candidate_next x k) (sym c.requires.next_value) ∙ c.requires.self_value in
    let text : c.text.result.now ≡ w = c.text.ensures in
    let there : c.word_place-word_place.result ≡ W.word s = c.word_place-word_place.ensures in
    let place : c.place_before-place.result ≡ place_next p.end (first p.coming) = c.place_before-place.ensures ∙ (λ i. place_next (c.end_place.ensures i) (c.requires.next_value i)) in
    let said : Ok true ≡ replace_answer o p.left (W.word s) = ap (λ (b : Bool). Ok b) (sym c.if-not-branch.false) ∙ c.in_ok-replace.ensures.said ∙ (λ i. replace_answer (value_for p (text i)) p.left (there i)) in
    let put : Err c.in_err-put.field-0.0 ≡ W.written act.Forget (place_next p.end (first p.coming)) s = c.in_err-put.ensures ∙ ap (λ n. W.written act.Forget n s) place in
    let f = err_from_is_err_and c.from_residual-in_err-put.result c.from_residual-in_err-put.ensures.1 in
    rw (f.1, f.2) (replaced_refused W (aliases_of p.table).named p.end p.coming p.names k s cand o p.left c.in_err-put.field-0.0 refl said put)

pub returns-in_err-replace-clause-goes : goal.returns-in_err-replace-clause-goes
returns-in_err-replace-clause-goes g c =
    let W = g.W.Sink.writes in
    let p = c.args.source.now in
    let k = control_of c.args.self.now in
    let s = g.W.Sink.sheet c.args.out.now in
    let w = k.at.word.kept in
    let o = value_for p w in
    let cand : candidate_next (first p.coming) k ≡ true = ap (λ x. candidate_next x k) (sym c.requires.next_value) ∙ c.requires.self_value in
    let text : c.text.result.now ≡ w = c.text.ensures in
    let there : c.word_place-word_place.result ≡ W.word s = c.word_place-word_place.ensures in
    let said : Err c.in_err-replace.field-0.0 ≡ replace_answer o p.left (W.word s) = c.in_err-replace.ensures.said ∙ (λ i. replace_answer (value_for p (text i)) p.left (there i)) in
    let f = err_from_is_err_and c.from_residual.result c.from_residual.ensures.1 in
    rw (f.1, f.2) (too_many W (aliases_of p.table).named p.end p.coming p.names k s cand o p.left c.in_err-replace.field-0.0 refl said)

pub returns-then-not-branch-clause-goes : goal.returns-then-not-branch-clause-goes
returns-then-not-branch-clause-goes g c =
    let W = g.W.Sink.writes in
    let p = c.args.source.now in
    let k = control_of c.args.self.now in
    let s = g.W.Sink.sheet c.args.out.now in
    let w = k.at.word.kept in
    let o = value_for p w in
    let text : c.text.result.now ≡ w = c.text.ensures in
    let there : c.word_place-word_place.result ≡ W.word s = c.word_place-word_place.ensures in
    let said : Ok false ≡ replace_answer o p.left (W.word s) = ap (λ (b : Bool). Ok b) (sym c.if-not-branch.true) ∙ c.in_ok-replace.ensures.said ∙ (λ i. replace_answer (value_for p (text i)) p.left (there i)) in
    let none = not_replaced o p.left (W.word s) said in
    let same : c.replace.new.self ≡ p = c.in_ok-replace.ensures.after ∙ (λ i. replaced (value_for p (text i)) p (text i) (there i)) ∙ ap (λ x. replaced x p w (W.word s)) none in
    ap (λ (q : Front). own_from W q k s) same ∙ sym (no_alias W (aliases_of p.table).named p.end p.left p.coming p.names k s none)

pub returns-then-not-branch-clause-stays : goal.returns-then-not-branch-clause-stays
returns-then-not-branch-clause-stays g c =
    let W = g.W.Sink.writes in
    let p = c.args.source.now in
    let s = g.W.Sink.sheet c.args.out.now in
    let w = (control_of c.args.self.now).at.word.kept in
    let o = value_for p w in
    let text : c.text.result.now ≡ w = c.text.ensures in
    let there : c.word_place-word_place.result ≡ W.word s = c.word_place-word_place.ensures in
    let said : Ok false ≡ replace_answer o p.left (W.word s) = ap (λ (b : Bool). Ok b) (sym c.if-not-branch.true) ∙ c.in_ok-replace.ensures.said ∙ (λ i. replace_answer (value_for p (text i)) p.left (there i)) in
    λ q. c.in_ok-replace.ensures.after ∙ (λ i. replaced (value_for p (text i)) p (text i) (there i)) ∙ ap (λ x. replaced x p w (W.word s)) (not_replaced o p.left (W.word s) said)
