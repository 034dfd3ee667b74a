-- `measures::corners::squared_side` meets its contract.
use mathlib.Core.Path.{ap, ◌∙◌}
use native.Mathlib.Omega.{arith}
use Rattle.grid.specs.Limits.{most_coordinate}
use Rattle.measures.specs.Sides.{between, squared}
use Rattle.measures.proofs.Bounds.{between_within, within_more, squared_small}
use Rattle.measures.proofs.corners.squared_side.Goals as goal

pub squared-requires : goal.squared-requires
squared-requires c =
    rw c.minus.ensures (within_more _ (between_within c.args.r c.args.q c.requires.1 c.requires.0))

pub float_of_count-requires : goal.float_of_count-requires
float_of_count-requires c =
    let h = squared_small most_coordinate (between c.args.r c.args.q) (between_within c.args.r c.args.q c.requires.1 c.requires.0) in
    omega (arith, h, c.squared.ensures, ap squared c.minus.ensures)

pub returns : goal.returns
returns c = c.float_of_count.ensures ∙ rw (c.squared.ensures, c.minus.ensures)
