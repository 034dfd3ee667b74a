-- `measures::corners::squares_of` meets its contract.
use Rattle.measures.specs.Sides.{opposite_at}
use Rattle.measures.specs.Corners.{squares_of}
use Rattle.measures.proofs.corners.squares_of.Goals as goal

pub returns : goal.returns
unfolding squares_of opposite_at
returns c = rw (c.squared_side.ensures, c.squared_side-2.ensures, c.squared_side-3.ensures)
