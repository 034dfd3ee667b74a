-- `neighbours::list` meets its contract: lists below p, buckets from p on.
use lib.ListN.{length}
use Rattle.neighbours.proofs.Listing.{ListedTo}
use Rattle.neighbours.proofs.list.Given as goal

abbrev pub invariant-loop-p : goal.invariant-loop-p
invariant-loop-p l = ListedTo l.triangles l.v l.at (length l.fn.work) l.p l.from l.to l.work
