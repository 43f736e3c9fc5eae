use Rattle.std.proofs.Common.{◌≡◌, ◌+◌, ◌<◌, length, get_or, drop, Some, None, Err, sym, ap, ◌∙◌, arith}
use Rattle.std.proofs.lemmas.List.{at_drop_more, at_drop_all}
use Rattle.std.proofs.lemmas.Bool.{eqb-false}
use Rattle.std.proofs.lemmas.Result.{err_from_is_err_and}
use Rattle.std.specs.Option.{ok_or}
use Rattle.std.specs.Result.{result_ok}
use Rattle.quoting.specs.declared.unquote.Unread.TheVariants.{Unlawful}
use Rattle.quoting.specs.Forms.{step, ended}
use Rattle.quoting.specs.Unquoting.{concluded}
use Rattle.quoting.proofs.Judging.{judging, judging_all, judging_passes, judging_delivers, judging_unlawful, same_err}
use Rattle.quoting.proofs.unquote.judge.Goals as goal

pub returns-in_err-next : goal.returns-in_err-next
returns-in_err-next c =
    let form = c.args.form.now in
    let i = c.loop-i.i in
    let some : 0 < length form = omega arith in
    let stands : step c.loop-i.state (get_or form i 0) ≡ None = sym c.step.ensures ∙ c.ok_or.ensures.ok_part ∙ ap result_ok c.in_err-next.was in
    let place : c.ok_or.result ≡ Err (Unlawful i) = c.ok_or.ensures.value ∙ ap (λ o. ok_or o (Unlawful i)) (c.step.ensures ∙ stands) in
    let p = err_from_is_err_and c.from_residual.result c.from_residual.ensures.1 in
    let same : c.in_err-next.field-0.0 ≡ Unlawful i = same_err c.ok_or.result _ _ c.in_err-next.was place in
    rw (p.1, p.2) (ap (λ x. Err x) same
    ∙ sym (judging_all form some ∙ sym c.loop-i.invariant.1
    ∙ at_drop_more (judging (length form) c.loop-i.state i c.loop-i.n) form i 0 c.loop-i-test.true
    ∙ judging_unlawful (length form) c.loop-i.state i c.loop-i.n (get_or form i 0) (drop (i + 1) form) stands))

pub loop-i-preserved : goal.loop-i-preserved
loop-i-preserved c =
    let form = c.args.form.now in
    let i = c.loop-i.i in
    let n = c.loop-i.n in
    let s = c.loop-i.state in
    let here = at_drop_more (judging (length form) s i n) form i 0 c.loop-i-test.true in
    let stepped : step s (get_or form i 0) ≡ Some c.in_ok-next.field-0 = sym c.step.ensures ∙ c.ok_or.ensures.ok_part ∙ ap result_ok c.in_ok-next.was in
    elim c.match-branch-2.branch [
      | goal.in-Passes w ↦ (
        omega (arith, w.n-is, c.loop-i.invariant.0),
        ap (λ m. judging (length form) c.match-branch-2.state (i + 1) m (drop (i + 1) form)) w.n-is
            ∙ ap (λ t. judging (length form) t (i + 1) n (drop (i + 1) form)) w.state-is
            ∙ sym (here ∙ judging_passes (length form) s i n (get_or form i 0) (drop (i + 1) form) w.in-Passes.next (stepped ∙ ap (λ x. Some x) w.in-Passes.is)) ∙ c.loop-i.invariant.1,
      )
      | goal.in-Delivers w ↦ (
        omega (arith, w.n-is, c.loop-i.invariant.0),
        ap (λ m. judging (length form) c.match-branch-2.state (i + 1) m (drop (i + 1) form)) w.n-is
            ∙ ap (λ t. judging (length form) t (i + 1) (n + 1) (drop (i + 1) form)) w.state-is
            ∙ sym (here ∙ judging_delivers (length form) s i n (get_or form i 0) (drop (i + 1) form) w.in-Delivers.next (stepped ∙ ap (λ x. Some x) w.in-Delivers.is)) ∙ c.loop-i.invariant.1,
      )
    ]

pub returns : goal.returns
returns c =
    let form = c.args.form.now in
    let i = c.loop-i.i in
    let n = c.loop-i.n in
    let some : 0 < length form = omega (arith, eqb-false (length form) 0 (sym c.is_empty.ensures ∙ c.if-is_empty.false)) in
    let last : i + 0 ≡ length form = omega arith in
    c.conclude.ensures ∙ ap (concluded (length form) n (ended c.loop-i.state)) (sym last)
    ∙ sym (at_drop_all (judging (length form) c.loop-i.state i n) form i c.loop-i-test.false) ∙ c.loop-i.invariant.1 ∙ sym (judging_all form some)
