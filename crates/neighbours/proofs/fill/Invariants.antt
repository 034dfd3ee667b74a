-- `neighbours::fill` meets its contract: the buckets as far as the triangles that were passed.
use lib.ListN.{length}
use Rattle.neighbours.specs.Lists.{bucket_to}
use Rattle.neighbours.proofs.Corners.{Stage}
use Rattle.neighbours.proofs.fill.Given as goal

abbrev pub invariant-loop-i : goal.invariant-loop-i
invariant-loop-i l = Stage l.triangles l.v l.at (length l.fn.work) (bucket_to l.triangles l.i) l.work
