-- `cuberows::count_layer` meets its contract. The loop's invariant: the cubes before a stretch are counted.
use mathlib.Core.Path.{◌≡◌}
use Prim.Native.Nat.{◌-◌}
use lib.ListN.{length}
use Rattle.rows.specs.Rows.{Stands, first_x}
use Rattle.cuberows.proofs.Layers.{counted_to, Within}
use Rattle.cuberows.proofs.count_layer.Given as goal

abbrev pub invariant-loop-at : goal.invariant-loop-at
invariant-loop-at l = Stands l.sides l.z l.at × Within l.sides (first_x l.sides l.at) l.at.y × (l.sum ≡ counted_to l.sides l.masks l.z (first_x l.sides l.at) l.at.y)

abbrev pub decreases-loop-at : goal.decreases-loop-at
decreases-loop-at l = length l.masks - l.at.word
