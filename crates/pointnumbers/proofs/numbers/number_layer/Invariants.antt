-- `pointnumbers::numbers::number_layer` meets its contract. The invariant: the stretch stands in the layer, and the edges before it are numbered.
use Prim.Native.Nat.{◌*◌, ◌-◌}
use lib.ListN.{length}
use Rattle.rows.specs.Rows.{Stands}
use Rattle.pointnumbers.specs.Numbers.{NumberedTo}
use Rattle.pointnumbers.proofs.numbers.number_layer.Given as goal

abbrev pub invariant-loop-at : goal.invariant-loop-at
invariant-loop-at l = Stands l.sides l.z l.at × NumberedTo l.sides l.masks (3 * l.at.s) l.n l.work

abbrev pub decreases-loop-at : goal.decreases-loop-at
decreases-loop-at l = length l.masks - l.at.word
