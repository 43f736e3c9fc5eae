use Rattle.std.proofs.Common.{◌≡◌, ◌+◌, [], ◌∷◌, ◌++◌, get_or, drop, Some, vec_items, sym, ap, ◌∙◌, append-nil, rules}
use Rattle.std.proofs.lemmas.List.{at_drop_all}
use Rattle.journal.specs.declared.unescape.Place.TheVariants.{Outside}
use Rattle.journal.specs.declared.unescape.Piece.{Piece}
use Rattle.journal.specs.declared.unescape.Piece.TheVariants.{Leads, Gives}
use Rattle.journal.specs.Escapes.{piece, pieced, ended, unescaped, unescaped_from, behind}
use Rattle.journal.proofs.Pieces.{behind_byte, turn, unended}
use Rattle.journal.proofs.unescape.unescape.Goals as goal
use Rattle.journal.proofs.unescape.unescape.Goals.{in-Leads, in-Gives+in_ok-push-in-Gives}

pub returns-in_default : goal.returns-in_default
returns-in_default c =
    turn c.loop-b.place c.args.word.now c.loop-b.b-index c.loop-b-test.true (vec_items c.loop-b.bytes) (sym c.piece.ensures ∙ c.in_default.is) c.loop-b.invariant

pub loop-b-preserved : goal.loop-b-preserved
loop-b-preserved c =
    let rest = drop (c.loop-b.b-index + 1) c.args.word.now in
    let before = vec_items c.loop-b.bytes in
    let step : (x : Piece) → piece c.loop-b.place (get_or c.args.word.now c.loop-b.b-index 0) ≡ Some x
    → behind before (pieced (Some x) (λ p. unescaped_from p rest)) ≡ unescaped c.args.word.now =
    λ x e. turn c.loop-b.place c.args.word.now c.loop-b.b-index c.loop-b-test.true before e c.loop-b.invariant
    in
    let some = sym c.piece.ensures ∙ c.in-Some.is in
    elim c.match-step.branch [
      | in-Leads w ↦
          ap (λ v. behind (vec_items v) (unescaped_from c.match-step.place rest)) w.bytes-is
          ∙ ap (λ p. behind before (unescaped_from p rest)) w.place-is
          ∙ step (Leads w.in-Leads.next) (some ∙ ap (λ x. Some x) w.in-Leads.is)
      | in-Gives+in_ok-push-in-Gives w ↦
          (let pushed : vec_items c.match-step.bytes ≡ before ++ (w.in-Gives.byte ∷ []) = search rules in
          ap (λ l. behind l (unescaped_from c.match-step.place rest)) pushed
          ∙ ap (λ p. behind (before ++ (w.in-Gives.byte ∷ [])) (unescaped_from p rest)) w.place-is
          ∙ behind_byte before w.in-Gives.byte (unescaped_from Outside rest)
          ∙ step (Gives w.in-Gives.byte) (some ∙ ap (λ x. Some x) w.in-Gives.is))
    ]

pub returns-in-Outside : goal.returns-in-Outside
returns-in-Outside c =
    let before = vec_items c.loop-b.bytes in
    ap (λ l. Some l) (sym (append-nil before))
    ∙ sym (ap (behind before) (at_drop_all (unescaped_from c.loop-b.place) c.args.word.now c.loop-b.b-index c.loop-b-test.false ∙ ap ended c.in-Outside.is))
    ∙ c.loop-b.invariant

pub returns-in_default-place : goal.returns-in_default-place
returns-in_default-place c =
    let before = vec_items c.loop-b.bytes in
    sym (ap (behind before) (at_drop_all (unescaped_from c.loop-b.place) c.args.word.now c.loop-b.b-index c.loop-b-test.false ∙ unended c.loop-b.place c.in_default-place.not-Outside))
    ∙ c.loop-b.invariant
