-- `cube::count` meets its contract: the table of counts, at the case.
use borrow.Author.Rules.{rules}
use Rattle.cube.proofs.Places.{count_at}
use Rattle.cube.proofs.count.Goals as goal

pub returns : goal.returns
returns c = rw c.counts-counts.ensures (count_at _ (search rules))
