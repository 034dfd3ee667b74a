-- `cuberows::count` meets its contract. The loop's invariant: the sum is that of the layers passed.
use mathlib.Core.Path.{◌≡◌}
use Rattle.laws.specs.Range.{sum_to}
use Rattle.cuberows.specs.Cubes.{layer_count}
use Rattle.cuberows.proofs.count.Given as goal

abbrev pub invariant-loop-z : goal.invariant-loop-z
invariant-loop-z l = l.sum ≡ sum_to l.z (layer_count l.sides l.masks)
