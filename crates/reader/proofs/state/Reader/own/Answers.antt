use Rattle.std.proofs.Common.{◌≡◌, ℕ, Ok, Result, sym, ap, ◌∙◌, rules}
use Rattle.std.proofs.lemmas.Result.{err_from_is_err_and}
use Rattle.aliases.specs.Tables.{aliases_of}
use Rattle.basics.specs.declared.refusal.Refusal.{Refusal}
use Rattle.source.specs.Front.{Front}
use Rattle.source.specs.Symbols.{rest}
use Rattle.reading.specs.Laid.{Held, and}
use Rattle.reading.specs.Moves.{end}
use Rattle.reading.specs.States.{Control}
use Rattle.reader.specs.Held.{lays_move}
use Rattle.reader.specs.Holding.{control_of}
use Rattle.reader.specs.Onto.{read_on, names_after}
use Rattle.reader.specs.Pens.{page_of}
use Rattle.reader.specs.Turns.{own_rest_of, rest_of}
use Rattle.reader.proofs.Turning.{own_at_end, own_at_symbol, onward_is}
use Rattle.reader.proofs.Paging.{move_went, move_refused, sign_went, sign_refused}
use Rattle.reader.proofs.state.Reader.own.Goals as goal

pub returns-in_ok-end-in-None-clause-goes : goal.returns-in_ok-end-in-None-clause-goes
returns-in_ok-end-in-None-clause-goes g c =
    let W = g.W.Sink.writes in
    let p = c.args.source.now in
    let k = control_of c.args.self.now in
    let s = g.W.Sink.sheet c.args.out.now in
    let e = p.end in
    let w = move_went W _ (end k) (control_of c.end.new.self) (page_of g.W.Sink.sheet c.end.new.pen) c.in_ok-end-in-None.ensures.laid in
    let ends : ◌≡◌ {A = Result g.W.Sink.Sheet Refusal} (Ok (g.W.Sink.sheet c.end.new.pen.out.now)) (own_rest_of g.W.Sink p k c.args.out.now) =
    sym (own_at_end W (aliases_of p.table).named e p.left p.coming p.names k s (sym c.in-None.is ∙ c.requires)
    ∙ ap (λ (n : ℕ). and (lays_move W n (end k) s) (λ h. Ok h.sheet)) (sym c.end_place-place.ensures)
    ∙ ap (λ (a : Result (Held Control g.W.Sink.Sheet) Refusal). and a (λ h. Ok h.sheet)) (sym w.0)) in
    search rules

pub returns-in_ok-step-in-Some-clause-goes : goal.returns-in_ok-step-in-Some-clause-goes
returns-in_ok-step-in-Some-clause-goes g c =
    let W = g.W.Sink.writes in
    let p = c.args.source.now in
    let k = control_of c.args.self.now in
    let s = g.W.Sink.sheet c.args.out.now in
    let al = (aliases_of p.table).named in
    let e = p.end in
    let ss = p.coming in
    let ns = p.names in
    let x = c.in-Some.field-0 in
    let is = sym c.in-Some.is ∙ c.requires in
    let d = control_of c.step.new.self in
    let o = c.step.new.pen.out.now in
    let w = sign_went W _ x.sign k d (page_of g.W.Sink.sheet c.step.new.pen) c.in_ok-step-in-Some.ensures.laid in
    let goes : rest_of g.W.Sink c.take.new.self d o ≡ own_rest_of g.W.Sink p k c.args.out.now =
    ap (λ (f : Front). rest_of g.W.Sink f d o) c.take.ensures ∙ onward_is W p x d (g.W.Sink.sheet o) is
    ∙ sym (own_at_symbol W al e p.left ss ns k s x is
    ∙ ap (λ (a : Result (Held Control g.W.Sink.Sheet) Refusal). and a (λ h. read_on W al e p.left (rest ss) (names_after x.sign ns) h.at h.sheet)) (sym w.0)) in
    search rules

pub returns-in_err-end-in-None-clause-goes : goal.returns-in_err-end-in-None-clause-goes
returns-in_err-end-in-None-clause-goes g c =
    let W = g.W.Sink.writes in
    let p = c.args.source.now in
    let k = control_of c.args.self.now in
    let s = g.W.Sink.sheet c.args.out.now in
    let e = p.end in
    let f = err_from_is_err_and c.from_residual.result c.from_residual.ensures.1 in
    rw (f.1, f.2)
    (sym (own_at_end W (aliases_of p.table).named e p.left p.coming p.names k s (sym c.in-None.is ∙ c.requires)
    ∙ ap (λ (n : ℕ). and (lays_move W n (end k) s) (λ h. Ok h.sheet)) (sym c.end_place-place.ensures)
    ∙ ap (λ (a : Result (Held Control g.W.Sink.Sheet) Refusal). and a (λ h. Ok h.sheet)) (sym (move_refused W _ (end k) c.in_err-end-in-None.field-0.0 c.in_err-end-in-None.ensures.laid))))

pub returns-in_err-step-in-Some-clause-goes : goal.returns-in_err-step-in-Some-clause-goes
returns-in_err-step-in-Some-clause-goes g c =
    let W = g.W.Sink.writes in
    let p = c.args.source.now in
    let k = control_of c.args.self.now in
    let s = g.W.Sink.sheet c.args.out.now in
    let al = (aliases_of p.table).named in
    let e = p.end in
    let ss = p.coming in
    let ns = p.names in
    let x = c.in-Some.field-0 in
    let f = err_from_is_err_and c.from_residual-in_err-step-in-Some.result c.from_residual-in_err-step-in-Some.ensures.1 in
    rw (f.1, f.2)
    (sym (own_at_symbol W al e p.left ss ns k s x (sym c.in-Some.is ∙ c.requires)
    ∙ ap (λ (a : Result (Held Control g.W.Sink.Sheet) Refusal). and a (λ h. read_on W al e p.left (rest ss) (names_after x.sign ns) h.at h.sheet)) (sym (sign_refused W _ x.sign k c.in_err-step-in-Some.field-0.0 c.in_err-step-in-Some.ensures.laid))))
