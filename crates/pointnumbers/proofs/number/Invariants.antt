-- `pointnumbers::number` meets its contract. The invariant: the edges before the layer at z are numbered.
use Prim.Native.Nat.{◌*◌}
use Rattle.rows.specs.Rows.{layer_first}
use Rattle.pointnumbers.specs.Numbers.{NumberedTo}
use Rattle.pointnumbers.proofs.number.Given as goal

abbrev pub invariant-loop-z : goal.invariant-loop-z
invariant-loop-z l = NumberedTo l.sides l.masks (3 * layer_first l.sides l.z) l.n l.work
