use Rattle.std.proofs.Common.{◌≡◌, true, leb, Ok, length, refl, sym, ap, ◌∙◌, arith}
use Rattle.std.proofs.lemmas.Bool.{cond-true}
use Rattle.basics.proofs.Over.{written_fits}
use Rattle.quoting.specs.Joins.{joined_put}
use Rattle.quoting.proofs.Piecing.{Fits, fits, edge_room, piece_room, last_at, last_put}
use Rattle.quoting.proofs.pieces.AnyQuoter.write.Goals as goal
use Rattle.quoting.proofs.pieces.AnyQuoter.write.Given.{Over}
use Rattle.quoting.proofs.pieces.AnyQuoter.write.Goals.{After-edge-edge}

whole : (g : Over) (c : After-edge-edge g)
    → Fits (g.P.Pieces.form c.args.text.now) c.edge-edge.result.now c.args.text.now c.args.part.now g.P.Pieces.piece
whole g c =
    let text = c.args.text.now in
    fits g.P.Pieces.edge g.P.Pieces.piece (g.P.Pieces.form text) c.edge-edge.result.now text c.args.part.now
    (g.met.P.Pieces.is_pieced text) c.edge-edge.ensures (sym c.has_room.ensures ∙ c.if-not-has_room.false)

pub put-at-requires : goal.put-at-requires
put-at-requires g c = edge_room _ _ _ _ _ (whole g (goal.at.put-at-requires g c).After-edge-edge)

pub put_piece-at-requires : goal.put_piece-at-requires
put_piece-at-requires g c =
    let room = piece_room _ _ _ _ _ (whole g (goal.at.put_piece-at-requires g c).After-edge-edge) c.loop-b.b-index c.loop-b.at c.loop-b-test.true c.loop-b.invariant.0 in
    omega (arith, room, c.loop-b.auto.part, c.put-at.auto.page)

pub loop-b-preserved : goal.loop-b-preserved
loop-b-preserved g c =
    joined_put g.P.Pieces.piece c.edge-edge.result.now c.args.text.now c.args.part.now c.loop-b.part _ c.loop-b.b-index c.loop-b.at _ _ c.loop-b-test.true
    refl c.loop-b.invariant.0 c.loop-b.invariant.1 c.put_piece-at.ensures.end c.put_piece-at.ensures.put

pub returns : goal.returns
returns g c =
    let all = whole g (goal.at.returns g c).After-edge-edge in
    let yes : leb (length (g.P.Pieces.form c.args.text.now)) (length c.args.part.now) ≡ true = sym c.has_room.ensures ∙ c.if-not-has_room.false in
    record {
      said = ap (λ n. Ok n) (c.put.ensures.end ∙ last_at _ _ _ _ _ all c.loop-b.b-index c.loop-b.at c.loop-b.part c.loop-b-test.false c.loop-b.invariant.0 c.loop-b.invariant.1)
          ∙ sym (cond-true _ _ _ yes);
      put = c.put.ensures.put ∙ last_put _ _ _ _ _ all c.loop-b.b-index c.loop-b.at c.loop-b.part c.loop-b-test.false c.loop-b.invariant.0 c.loop-b.invariant.1
          ∙ sym (written_fits _ _ all.room);
    }
