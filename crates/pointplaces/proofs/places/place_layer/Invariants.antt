-- `pointplaces::places::place_layer` meets its contract. The invariant: the next stretch stands in the layer, or where the next layer begins, and the points on
-- the edges before its own are placed. Each turn leaves a word less.
use Prim.Native.Nat.{◌*◌, ◌-◌}
use lib.ListN.{length}
use Rattle.grid.specs.Work.{lent_samples}
use Rattle.rows.specs.Rows.{Stands, layer_first}
use Rattle.edgepoints.specs.EdgePoint.{point_rooms}
use Rattle.pointplaces.specs.Places.{Placed}
use Rattle.pointplaces.proofs.Placing.{SameLengths}
use Rattle.pointplaces.proofs.places.place_layer.Given as goal

abbrev pub invariant-loop-at : goal.invariant-loop-at
invariant-loop-at l = Stands l.sides l.z l.at
    × SameLengths (point_rooms l.initial.points l.initial.edges l.initial.marks) (point_rooms l.points l.edges l.marks)
    × Placed l.sides l.grey (lent_samples l.kept l.samples) l.masks (3 * layer_first l.sides l.z) (3 * l.at.s) l.from l.n (point_rooms l.initial.points l.initial.edges l.initial.marks) (point_rooms l.points l.edges l.marks)

abbrev pub decreases-loop-at : goal.decreases-loop-at
decreases-loop-at l = length l.masks - l.at.word
