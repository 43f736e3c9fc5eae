use Rattle.std.proofs.Common.{◌≡◌, ◌+◌, true, false, [], ◌∷◌, ◌++◌, length, sym, ap, ◌∙◌, append_assoc, length-append, arith, rules}
use Rattle.views.specs.Holes.{has_hole}
use Rattle.views.proofs.Digits.{holes_from, from_a_hole, from_none}
use Rattle.views.proofs.holes.Holes.digits.Goals as goal
use Rattle.views.proofs.holes.Holes.digits.Goals.{then-has, else-has}

pub loop-digit-preserved : goal.loop-digit-preserved
loop-digit-preserved c =
    let mask = c.args.self.0 in
    let d = c.loop-digit.digit in
    let items = c.loop-digit.digits.items in
    let so_far = c.loop-digit.invariant in
    elim c.if-has.branch [
      | then-has w ↦
          (let hole : has_hole mask d ≡ true = search rules in
          let pushed : c.if-has.digits.items ≡ items ++ (d ∷ []) = search rules in
          record {
            all =
                ap (λ l. l ++ holes_from mask (d + 1)) pushed
                ∙ append_assoc items (d ∷ []) (holes_from mask (d + 1))
                ∙ ap (λ l. items ++ l) (sym (from_a_hole mask d c.loop-digit-test.true hole))
                ∙ so_far.all;
            few = omega (arith, ap length pushed, length-append items (d ∷ []), so_far.few);
          })
      | else-has w ↦
          (let none : has_hole mask d ≡ false = search rules in
          record {
            all = ap (λ l. l.items ++ holes_from mask (d + 1)) w.digits-is ∙ ap (λ l. items ++ l) (sym (from_none mask d c.loop-digit-test.true none)) ∙ so_far.all;
            few = omega (arith, ap (λ l. length l.items) w.digits-is, so_far.few);
          })
    ]
