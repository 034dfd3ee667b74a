-- The balance finds the slit: it does not hold of the two cubes where a table uses case 246 as case 9 reversed.
use mathlib.Core.Path.{◌≡◌, refl}
use mathlib.Core.List.{[], ◌∷◌, flat_map}
use mathlib.Core.Bool.{false, xor}
use Prim.Native.Nat.{ℕ}
use native.Mathlib.Omega.{arith}
use Rattle.laws.specs.Range.{sum_to, join_to, join_box, count_to, keep_to}
use Rattle.laws.specs.Sum.{sum_of}
use Rattle.laws.specs.Bits.{bits, bit}
use Rattle.laws.specs.Mesh.{sides, total}
use Rattle.cube.specs.Cube.{case_of, is_above}
use Rattle.cube.specs.Face.{cuts, way_round, face_segments, segments_of}
use Rattle.cube.specs.Loop.{loops}
use Rattle.cube.specs.Answer.{segments, fan_of, triangles}
use Rattle.grid.specs.Grid.{axes, site, coordinate, side, is_above_grey, other_end, fits_along, is_there, is_outermost, some_face, crossed_from, crossed, on_face_from, on_face}
use Rattle.grid.specs.Point.{point_edges, number}
use Rattle.grid.specs.Mesh.{corner_site, grid_edge, case_at}
use Rattle.closed.specs.Runs.{runs, on_one_face, Balanced}
use Rattle.closed.specs.Slit.{wrong_case, wrong_triangles, two_cubes, two_cubes_above, wrong_mesh}

upper_case : case_at two_cubes two_cubes_above 0 0 1 ≡ wrong_case
unfolding case_at case_of bits corner_site site is_above_grey
upper_case = refl

-- from point 2 to point 5 a triangle runs once, and none runs back, though they lie on no common outer face
once_there : (runs wrong_mesh 2 5 ≡ 1) × (runs wrong_mesh 5 2 ≡ 0)
unfolding wrong_mesh wrong_triangles runs total sides sum_of join_box join_to case_at case_of bits corner_site site is_above_grey triangles flat_map fan_of loops segments segments_of face_segments cuts way_round is_above bit grid_edge number count_to sum_to crossed crossed_from is_there fits_along coordinate side other_end xor
once_there = (refl, refl)

points_are : point_edges axes two_cubes two_cubes_above ≡ 2 ∷ 11 ∷ 12 ∷ 13 ∷ 14 ∷ 16 ∷ 18 ∷ 23 ∷ []
unfolding point_edges keep_to join_to crossed crossed_from is_there fits_along coordinate side other_end site is_above_grey xor
points_are = refl

apart : on_one_face axes two_cubes 12 16 ≡ false
unfolding on_one_face some_face on_face on_face_from is_outermost coordinate side
apart = refl

pub slit_found : Balanced axes two_cubes (point_edges axes two_cubes two_cubes_above) wrong_mesh → ⊥
slit_found claim =
    let even : (p q : ℕ) → _ = rw points_are at claim in
    omega (arith, once_there.0, once_there.1, even 2 5 (omega arith) (omega arith) apart)
