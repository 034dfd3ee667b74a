-- The grid of 3×3×3 samples with the centre above: its mesh, computed once, and what follows for it.
use mathlib.Core.Path.{◌≡◌, refl}
use mathlib.Core.List.{List, [], ◌∷◌, flat_map}
use mathlib.Core.Bool.{true, xor}
use Prim.Native.Nat.{ℕ, suc}
use lib.ListN.{replicate}
use Rattle.laws.specs.Range.{sum_to, join_to, join_box, count_to, keep_to, all_to, some_to}
use Rattle.laws.specs.Values.{list_to}
use Rattle.laws.specs.Sum.{sum_of}
use Rattle.laws.specs.Least.{gathered}
use Rattle.laws.specs.Bits.{bits, bit}
use Rattle.laws.specs.Nearest.{nearest}
use Rattle.laws.specs.Order.{is_in}
use Rattle.laws.specs.Signed.{sum_of_ℤ}
use Rattle.laws.specs.Mesh.{sides, same_arrow, flat}
use Rattle.cube.specs.Cube.{case_of, is_above}
use Rattle.cube.specs.Face.{cuts, way_round, face_segments, segments_of}
use Rattle.cube.specs.Loop.{loops}
use Rattle.cube.specs.Answer.{segments, fan_of, triangles as caseTriangles}
use Rattle.grid.specs.Grid.{site, coordinate, side, is_above_grey, other_end, fits_along, is_there, is_outermost, some_face, crossed_from, crossed, on_face_from, on_face, mark}
use Rattle.grid.specs.Point.{point_edges, number, offset, place_from, place}
use Rattle.grid.specs.Mesh.{corner_site, grid_edge, case_at, cube_triangles, edge_mesh, mesh}
use Rattle.mesh.specs.Mesh.{triangles_of}
use Rattle.mesh.specs.Neighbours.{neighbours, share_side}
use Rattle.rounds.specs.Round.{moved, moved_if, round, rounds}
use Rattle.records.specs.Record.{any_of, diagonals, determinant, sixfold, points_under, names_under, triangles_under, record_from}
use Rattle.shellnumbers.proofs.OneShell.{one_shell}
use lib.Ieee.{eq}
use Rattle.measures.specs.Sides.{between, cross, squared, cross_at}
use Rattle.sums.specs.Sums.{add_triangle, sum_after}
use Rattle.curvature.specs.Answers.{answer_of, answer_from}
use Rattle.curvature.specs.Curved.{sums_for as sum_at, answer_for}
use Rattle.figures.specs.Centre.{centre_edges, centre_points, centre_marks, centre_triangles, centre_smoothed, CentreFigure}

-- the mesh: an octahedron round the centre
edges_are : centre_edges ≡ 14 ∷ 31 ∷ 36 ∷ 39 ∷ 40 ∷ 41 ∷ []
unfolding centre_edges point_edges keep_to join_to crossed crossed_from is_there fits_along coordinate side other_end site is_above_grey xor
edges_are = refl

abbrev octahedron_points : List ℕ
octahedron_points =
    256 ∷ 256 ∷ 128 ∷ 256 ∷ 128 ∷ 256 ∷ 128 ∷ 256 ∷ 256 ∷ 384 ∷ 256 ∷ 256 ∷ 256 ∷ 384 ∷ 256 ∷ 256 ∷ 256 ∷ 384 ∷ []

points_are : centre_points ≡ octahedron_points
unfolding centre_points flat_map place place_from offset nearest coordinate other_end site
points_are = rw edges_are

marks_are : centre_marks ≡ replicate 6 0
unfolding centre_marks mark some_face on_face on_face_from is_outermost coordinate side
marks_are = rw edges_are

abbrev octahedron : List ℕ
octahedron =
    2 ∷ 0 ∷ 1 ∷ 3 ∷ 1 ∷ 0 ∷ 2 ∷ 4 ∷ 0 ∷ 3 ∷ 0 ∷ 4 ∷ 2 ∷ 1 ∷ 5 ∷ 3 ∷ 5 ∷ 1 ∷ 2 ∷ 5 ∷ 4 ∷ 3 ∷ 4 ∷ 5 ∷ []

triangles_are : centre_triangles ≡ octahedron
unfolding centre_triangles flat flat_map mesh edge_mesh join_box join_to cube_triangles case_at case_of bits corner_site site is_above_grey caseTriangles fan_of loops segments segments_of face_segments cuts way_round is_above bit grid_edge number count_to sum_to crossed crossed_from is_there fits_along coordinate side other_end xor
triangles_are = refl

smoothed_are : centre_smoothed ≡ replicate 18 256
unfolding centre_smoothed triangles_of join_to rounds round moved_if moved nearest sum_of neighbours keep_to share_side sides is_in same_arrow
smoothed_are = rw (triangles_are, marks_are, points_are)

-- every point but the first shares a side with a lower one
all_lower : all_to 5 (λ i. some_to (suc i) (share_side (triangles_of octahedron) (suc i))) ≡ true
unfolding all_to some_to triangles_of join_to share_side sides is_in same_arrow
all_lower = refl

pub centre : CentreFigure
unfolding record_from gathered points_under triangles_under names_under keep_to join_to any_of sum_of_ℤ sixfold determinant diagonals list_to answer_for sum_at sum_after add_triangle cross_at cross squared between answer_from answer_of eq
centre =
    record {
      grid_edges = edges_are;
      places = points_are;
      inside = marks_are;
      eight = rw triangles_are;
      first = rw triangles_are;
      one_shell = rw (triangles_are, marks_are) (one_shell (triangles_of octahedron) 5 all_lower);
      listed = rw (triangles_are, marks_are, points_are);
      one_place = smoothed_are;
      listed_there = rw (smoothed_are, triangles_are, marks_are);
      all_flat = rw (smoothed_are, triangles_are, marks_are);
    }
