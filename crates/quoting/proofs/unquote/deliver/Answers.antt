use Rattle.std.proofs.Common.{◌≡◌, ℕ, ◌+◌, ◌<◌, ◌≤◌, List, [], ◌∷◌, ◌++◌, length, get_or, take, drop, set, Some, None, sym, ap, ◌∙◌, arith}
use Rattle.std.proofs.lemmas.List.{at_drop_more, at_drop_all, take_all, take_more, length-take-le}
use Rattle.basics.specs.Pages.{over}
use Rattle.basics.proofs.Over.{put_more, set_pasted, length_over}
use Rattle.quoting.specs.declared.form.State.{State}
use Rattle.quoting.specs.declared.form.Step.TheVariants.{Delivers}
use Rattle.quoting.specs.Forms.{step, delivered, unquoted}
use Rattle.quoting.specs.Unquoting.{text_of}
use Rattle.quoting.specs.Steps.{by_step}
use Rattle.quoting.proofs.Delivering.{Next, next_byte, all_delivered}
use Rattle.quoting.proofs.unquote.deliver.Goals as goal

-- the byte that a form delivers at i is the next of its text
next : (form text : List ℕ) (s t : State) (i at : ℕ) → i < length form → delivered s (drop i form) ≡ Some (drop at text)
    → step s (get_or form i 0) ≡ Some (Delivers t) → Next text at (get_or form i 0) (delivered t (drop (i + 1) form))
next form text s t i at h inv e =
    next_byte text at (get_or form i 0) (delivered t (drop (i + 1) form))
    (sym (at_drop_more (delivered s) form i 0 h ∙ by_step s (get_or form i 0) e (drop (i + 1) form)) ∙ inv)

-- one byte more of the text in the part
stored : (text base part : List ℕ) (at b : ℕ) → at < length text → length text ≤ length base → b ≡ get_or text at 0 → part ≡ over (take at text) base
    → set part at b ≡ over (take (at + 1) text) base
stored text base part at b h room e p =
    let front : length (take at text) ≡ at = length-take-le at text (omega arith) in
    let within : at < length part = omega (arith, ap length p, length_over (take at text) base (omega arith)) in
    set_pasted part at b within ∙ put_more (take at text) (b ∷ []) base part at p (sym front)
    ∙ ap (λ x. over (take at text ++ (x ∷ [])) base) e ∙ ap (λ z. over z base) (sym (take_more text at 0 h))

pub bounds-part-at : goal.bounds-part-at
bounds-part-at c =
    let form = c.args.form.now in
    let text = text_of (unquoted form) in
    let n = next form text c.loop-b.state c.in-Delivers.next c.loop-b.b-index c.loop-b.at c.loop-b-test.true c.loop-b.invariant.0 (sym c.step.ensures ∙ c.in-Some.is ∙ ap (λ x. Some x) c.in-Delivers.is) in
    omega (arith, n.within, c.loop-b.auto.part)

pub returns-in_default : goal.returns-in_default
returns-in_default c =
    let form = c.args.form.now in
    let i = c.loop-b.b-index in
    let s = c.loop-b.state in
    let gone : step s (get_or form i 0) ≡ None = sym c.step.ensures ∙ c.in_default.is in
    let none = by_step s (get_or form i 0) gone (drop (i + 1) form) in
    let more = at_drop_more (delivered s) form i 0 c.loop-b-test.true in
    let some = c.loop-b.invariant.0 in
    let z : ◌≡◌ {A = ℕ} 0 1 = cc in absurd (omega arith)

pub loop-b-preserved : goal.loop-b-preserved
loop-b-preserved c =
    let form = c.args.form.now in
    let text = text_of (unquoted form) in
    let i = c.loop-b.b-index in
    let s = c.loop-b.state in
    let at = c.loop-b.at in
    elim c.match-step-2.branch [
      | goal.in-Passes w ↦ (
        ap (λ t. delivered t (drop (i + 1) form)) w.state-is
            ∙ sym (at_drop_more (delivered s) form i 0 c.loop-b-test.true ∙ by_step s (get_or form i 0) (sym c.step.ensures ∙ c.in-Some.is ∙ ap (λ x. Some x) w.in-Passes.is) (drop (i + 1) form)) ∙ c.loop-b.invariant.0
            ∙ ap (λ n. Some (drop n text)) (sym w.at-is),
        w.part-is ∙ c.loop-b.invariant.1 ∙ ap (λ n. over (take n text) c.args.part.now) (sym w.at-is),
        omega (arith, w.at-is, c.loop-b.invariant.2),
      )
      | goal.in-Delivers w ↦
          (let n = next form text s w.in-Delivers.next i at c.loop-b-test.true c.loop-b.invariant.0 (sym c.step.ensures ∙ c.in-Some.is ∙ ap (λ x. Some x) w.in-Delivers.is) in (
            ap (λ t. delivered t (drop (i + 1) form)) w.state-is ∙ n.is_rest ∙ ap (λ m. Some (drop m text)) (sym w.at-is),
            w.part-is ∙ stored text c.args.part.now c.loop-b.part at (get_or form i 0) n.within c.requires.form_in_bounds n.is_byte c.loop-b.invariant.1
                ∙ ap (λ m. over (take m text) c.args.part.now) (sym w.at-is),
            omega (arith, w.at-is, n.within),
          ))
    ]

pub returns : goal.returns
returns c =
    let form = c.args.form.now in
    let text = text_of (unquoted form) in
    let at = c.loop-b.at in
    let all = all_delivered text at c.loop-b.state (sym (at_drop_all (delivered c.loop-b.state) form c.loop-b.b-index c.loop-b-test.false) ∙ c.loop-b.invariant.0) in
    c.loop-b.invariant.1 ∙ ap (λ z. over z c.args.part.now) (take_all at text all)
