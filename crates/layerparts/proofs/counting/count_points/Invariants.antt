-- `layerparts::counting::count_points` meets its contract. The invariant: the next stretch stands in the layer, or where the next layer begins, and the points on the edges before its own
-- are counted. Each turn leaves a word less.
use mathlib.Core.Path.{◌≡◌}
use Prim.Native.Nat.{◌*◌, ◌-◌, ◌≤◌}
use lib.ListN.{length}
use Rattle.rows.specs.Rows.{Stands, layer_first}
use Rattle.pointplaces.specs.Places.{crossings}
use Rattle.layerparts.proofs.counting.count_points.Given as goal

abbrev pub invariant-loop-at : goal.invariant-loop-at
invariant-loop-at l = Stands l.sides l.z l.at × (3 * layer_first l.sides l.z ≤ 3 * l.at.s) × (l.sum ≡ length (crossings l.sides l.masks (3 * layer_first l.sides l.z) (3 * l.at.s)))

abbrev pub decreases-loop-at : goal.decreases-loop-at
decreases-loop-at l = length l.masks - l.at.word
