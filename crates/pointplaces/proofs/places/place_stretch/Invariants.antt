-- `pointplaces::places::place_stretch` meets its contract. The invariant: so many of the stretch's own samples are passed, the points on their edges are placed,
-- and the busy word has the bits of those left. It falls in each turn.
use Prim.Native.Nat.{ℕ, ◌+◌, ◌*◌, ◌^◌, ◌<◌, ◌≤◌}
use Rattle.laws.proofs.Scan.{Left}
use Rattle.grid.specs.Work.{lent_samples}
use Rattle.rows.specs.Rows.{own_samples}
use Rattle.edgepoints.specs.EdgePoint.{point_rooms}
use Rattle.pointplaces.specs.Places.{Placed}
use Rattle.rows.proofs.Busy.{busy_of}
use Rattle.pointplaces.proofs.Placing.{SameLengths}
use Rattle.pointplaces.proofs.places.place_stretch.Given as goal

abbrev pub invariant-loop-busy : goal.invariant-loop-busy
invariant-loop-busy l = (x : ℕ)
    × (x ≤ own_samples l.at.left)
    × (l.busy < 2 ^ 64)
    × Left (busy_of l.crossed) x l.busy
    × SameLengths (point_rooms l.initial.points l.initial.edges l.initial.marks) (point_rooms l.points l.edges l.marks)
    × Placed l.sides l.grey (lent_samples l.kept l.samples) l.masks (3 * l.at.s) (3 * (l.at.s + x)) l.from l.n (point_rooms l.initial.points l.initial.edges l.initial.marks) (point_rooms l.points l.edges l.marks)

abbrev pub decreases-loop-busy : goal.decreases-loop-busy
decreases-loop-busy l = l.busy
