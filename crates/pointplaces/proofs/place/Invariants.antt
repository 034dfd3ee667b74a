-- `pointplaces::place` meets its contract. The invariant: the points on the edges before the layer at z are placed.
use Prim.Native.Nat.{◌*◌}
use Rattle.rows.specs.Rows.{layer_first}
use Rattle.edgepoints.specs.EdgePoint.{point_rooms}
use Rattle.pointplaces.specs.Places.{Placed}
use Rattle.pointplaces.proofs.Placing.{SameLengths}
use Rattle.pointplaces.proofs.place.Given as goal

abbrev pub invariant-loop-z : goal.invariant-loop-z
invariant-loop-z l = SameLengths (point_rooms l.initial.points l.initial.edges l.initial.marks) (point_rooms l.points l.edges l.marks)
    × Placed l.sides l.grey l.samples l.masks (3 * layer_first l.sides 0) (3 * layer_first l.sides l.z) 0 l.n (point_rooms l.initial.points l.initial.edges l.initial.marks) (point_rooms l.points l.edges l.marks)
