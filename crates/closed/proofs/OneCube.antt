-- Of one cube of case 1: a side on an outer face runs one way and not back, so one triangle each way cannot be claimed of all points.
use mathlib.Core.Path.{◌≡◌, refl}
use mathlib.Core.List.{flat_map}
use mathlib.Core.Bool.{true, xor}
use Prim.Native.Nat.{ℕ}
use native.Mathlib.Omega.{arith}
use lib.ListN.{get_or}
use Rattle.laws.specs.Range.{sum_to, join_to, join_box, count_to, keep_to}
use Rattle.laws.specs.Sum.{sum_of}
use Rattle.laws.specs.Bits.{bits, bit}
use Rattle.laws.specs.Mesh.{sides, total}
use Rattle.cube.specs.Cube.{case_of, is_above}
use Rattle.cube.specs.Face.{cuts, way_round, face_segments, segments_of}
use Rattle.cube.specs.Loop.{loops}
use Rattle.cube.specs.Answer.{segments, fan_of, triangles}
use Rattle.grid.specs.Grid.{axes, site, coordinate, side, is_above_grey, other_end, fits_along, is_there, is_outermost, some_face, crossed_from, crossed, on_face_from, on_face}
use Rattle.grid.specs.Point.{point_edges, number}
use Rattle.grid.specs.Mesh.{corner_site, grid_edge, case_at, cube_triangles, edge_mesh, mesh}
use Rattle.closed.specs.Runs.{runs, JoinedOnce, on_one_face}
use Rattle.closed.specs.OneCube.{one_cube, one_cube_above, one_cube_mesh}

-- points 0 and 1 lie on one outer face
pub on_one_face_lem : let edges = point_edges axes one_cube one_cube_above in on_one_face axes one_cube (get_or edges 0 0) (get_or edges 1 0) ≡ true
unfolding on_one_face some_face on_face on_face_from is_outermost point_edges keep_to join_to crossed crossed_from is_there fits_along coordinate side other_end site is_above_grey xor
on_one_face_lem = refl

-- from the one to the other a triangle runs once, and none runs back
pub one_way_on_face : (runs one_cube_mesh 0 1 ≡ 1) × (runs one_cube_mesh 1 0 ≡ 0)
unfolding mesh edge_mesh cube_triangles runs total sides sum_of join_box join_to case_at case_of bits corner_site site is_above_grey triangles flat_map fan_of loops segments segments_of face_segments cuts way_round is_above bit grid_edge number count_to sum_to crossed crossed_from is_there fits_along coordinate side other_end xor
one_way_on_face = (refl, refl)

pub not_everywhere : ((p q : ℕ) → JoinedOnce one_cube_mesh p q) → ⊥
not_everywhere claim = omega (arith, one_way_on_face.1, (claim 0 1 (omega (arith, one_way_on_face.0))).1)
