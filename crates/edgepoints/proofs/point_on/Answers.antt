-- `edgepoints::point_on` meets its contract: the definition's own arithmetic, which fits.
use mathlib.Core.Path.{◌≡◌}
use Prim.Native.Nat.{◌/◌, ◌%◌}
use native.Mathlib.Omega.{arith}
use Rattle.rows.specs.Rows.{size_of}
use Rattle.edgepoints.specs.EdgePoint.{point_by}
use Rattle.edgepoints.proofs.Marks.{stands}
use Rattle.edgepoints.proofs.point_on.Goals as goal
use Rattle.edgepoints.proofs.point_on.Goals.{Start}

pub returns : goal.returns
unfolding point_by
returns c =
    let d = c.direction-d in
    let a = c.args in
    let at = c.requires.standing in
    let coordinate-of = stands (size_of a.sides) a.at.s a.at.x a.at.y a.at.z at.site at.below_x at.below_y at.below_z in
    let whole : d.result / 1 % 2 ≡ d.result % 2 = omega arith in
    rw (coordinate-of 0, coordinate-of 1, coordinate-of 2, ← d.ensures, whole, c.mark_of.ensures, c.number.ensures.value)
