-- `sums::add_sides` meets its contract.
use Rattle.sums.specs.Sums.{add_sides}
use Rattle.measures.proofs.Bounds.{between_within}
use Rattle.sums.proofs.add_sides.Goals as goal

pub of_side-requires : goal.of_side-requires
of_side-requires c = rw c.minus.ensures (between_within _ _ c.requires.0 c.requires.1)

pub of_side-requires-2 : goal.of_side-requires-2
of_side-requires-2 c = rw c.minus-2.ensures (between_within _ _ c.requires.0 c.requires.2)

pub returns : goal.returns
unfolding add_sides
returns c = cc
