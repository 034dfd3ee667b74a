-- `meshtext::front_length` meets its contract.
use mathlib.Core.Path.{◌≡◌}
use Prim.Native.Nat.{◌*◌, ◌/◌, ◌≤◌}
use native.Mathlib.Omega.{arith}
use lib.ListN.{length}
use Rattle.grid.specs.Limits.{most_points, most_triangles}
use Rattle.meshtext.proofs.MeshTexts.{front_fits, front_length}
use Rattle.meshtext.proofs.front_length.Goals as goal
use Rattle.meshtext.proofs.front_length.Goals.{Start}

-- the first place at which all lengths are known

facts : (c : Start) → let a = c.args in (length a.points.now ≡ 3 * length a.marks.now) × (length a.edges.now ≡ length a.marks.now) × (length a.marks.now ≤ most_points) × (length a.triangles.now / 3 ≤ most_triangles)
facts c = let a = c.args in front_fits a.points.now a.edges.now a.marks.now a.triangles.now c.requires.0

pub points_length-middle-requires : goal.points_length-middle-requires
points_length-middle-requires c = omega (arith, facts (goal.at.points_length-middle-requires c).Start)

pub overflow_add-result : goal.overflow_add-result
overflow_add-result c = omega (arith, c.fields_length-head.ensures.small, c.points_length-middle.ensures.small, facts (goal.at.overflow_add-result c).Start, c.requires.1)

pub triangles_length-requires : goal.triangles_length-requires
triangles_length-requires c = omega (arith, facts (goal.at.triangles_length-requires c).Start)

pub overflow_add-result-2 : goal.overflow_add-result-2
overflow_add-result-2 c =
    omega (arith, c.fields_length-head.ensures.small, c.points_length-middle.ensures.small, c.triangles_length.ensures.small, facts (goal.at.overflow_add-result-2 c).Start, c.requires.1)

pub returns : goal.returns
returns c =
    let a = c.args in record { small = omega (arith, c.fields_length-head.ensures.small, c.points_length-middle.ensures.small, c.triangles_length.ensures.small, c.requires.1); length = omega (arith, c.fields_length-head.ensures.length, c.points_length-middle.ensures.length, c.triangles_length.ensures.length, front_length a.counts.now a.points.now a.edges.now a.marks.now a.triangles.now) }
