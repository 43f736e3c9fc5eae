use Rattle.std.proofs.Common.{◌≡◌, ◌++◌, length, take}
use Rattle.std.specs.List.{flat_map}
use Rattle.basics.specs.Pages.{over}
use Rattle.quoting.proofs.pieces.AnyQuoter.write.Given as goal

-- the edge and the pieces so far stand at the start of the part
abbrev pub invariant-loop-b : goal.invariant-loop-b
invariant-loop-b g l =
    (l.at ≡ length (l.edge ++ flat_map g.P.Pieces.piece (take l.b-index l.text)))
    × (l.part ≡ over (l.edge ++ flat_map g.P.Pieces.piece (take l.b-index l.text)) l.fn.part)
