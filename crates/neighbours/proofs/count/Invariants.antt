-- `neighbours::count` meets its contract: sizes as far as the corners that were passed.
use Rattle.neighbours.specs.Steps.{From, size_to}
use Rattle.neighbours.proofs.count.Given as goal

abbrev pub invariant-loop-corner : goal.invariant-loop-corner
invariant-loop-corner l = From l.at (size_to l.triangles l.corner-index) l.work
