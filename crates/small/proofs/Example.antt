-- Document 01's worked example: to its input the program answers its output, and nothing else.
use mathlib.Core.Path.{◌≡◌, refl, sym}
use mathlib.Core.List.{List, [], ◌∷◌, flat_map}
use mathlib.Core.Bool.{xor}
use Prim.Native.Nat.{ℕ, ◌≤◌}
use native.Mathlib.Omega.{arith}
use lib.Dec.{leb}
use lib.ListN.{replicate}
use borrow.Author.Tests.{leb-true}
use Rattle.laws.specs.Range.{sum_to, join_to, join_box, count_to, keep_to, all_to, some_to}
use Rattle.laws.specs.Values.{list_to}
use Rattle.laws.specs.Sum.{all_of}
use Rattle.laws.specs.Least.{gathered}
use Rattle.laws.specs.Bits.{bits, bit}
use Rattle.laws.specs.Nearest.{nearest}
use Rattle.laws.specs.Order.{is_in}
use Rattle.laws.specs.Signed.{sum_of_ℤ}
use Rattle.laws.specs.Mesh.{sides, same_arrow, flat}
use Rattle.laws.proofs.Tests.{all_of_lem}
use Rattle.cube.specs.Cube.{case_of, is_above}
use Rattle.cube.specs.Face.{cuts, way_round, face_segments, segments_of}
use Rattle.cube.specs.Loop.{loops}
use Rattle.cube.specs.Answer.{segments, fan_of, triangles}
use Rattle.grid.specs.Sides.{side_fits, sides_fit}
use Rattle.grid.specs.Grid.{site, coordinate, side, is_above_grey, other_end, fits_along, is_there, is_outermost, some_face, crossed_from, crossed, on_face_from, on_face, mark}
use Rattle.grid.specs.Point.{point_edges, number, offset, place_from, place}
use Rattle.grid.specs.Mesh.{corner_site, grid_edge, case_at, cube_triangles, edge_mesh, mesh}
use Rattle.mesh.specs.Mesh.{triangles_of}
use Rattle.mesh.specs.Neighbours.{share_side}
use Rattle.rounds.specs.Round.{rounds}
use Rattle.records.specs.Record.{any_of, diagonals, determinant, sixfold, points_under, names_under, triangles_under, record_from}
use Rattle.shellnumbers.proofs.OneShell.{one_shell}
use Rattle.closed.specs.Left.{Mesh}
use Rattle.grid.specs.Limits.{most_number}
use Rattle.gridtext.specs.Grid.{smoothing_fits, head_number}
use Rattle.gridtext.specs.GridText.{Small}
use Rattle.figures.proofs.Examples.{example_input, example_numbers, example_samples, example_output, example_text, example_output_lem}
use Rattle.small.specs.Answer.{grid_edges, extracted_mesh, smoothed_mesh, Answers, printed}
use Rattle.shelllines.specs.ShellLines.{shells_text}
use Rattle.meshtext.specs.MeshText.{mesh_text}
use Rattle.printing.specs.Prints.{after_rounds, Prints}
use Rattle.small.proofs.OneAnswer.{one_answer}

-- the grid, its points and its mesh, computed
example_small : Small example_numbers example_samples
unfolding example_numbers example_samples head_number sides_fit side_fits smoothing_fits all_of
example_small =
    record {
      checked = refl;
      grey = omega arith;
      whole = refl;
      within = all_of_lem (λ v. leb v most_number) (λ v. v ≤ most_number) (λ v. leb-true v most_number) example_samples refl;
    }

edges_are : grid_edges example_numbers example_samples ≡ 0 ∷ 1 ∷ 2 ∷ []
unfolding example_numbers example_samples grid_edges point_edges keep_to join_to crossed crossed_from is_there fits_along coordinate side other_end site is_above_grey xor
edges_are = refl

abbrev corner : Mesh
corner = record { points = 128 ∷ 0 ∷ 0 ∷ 0 ∷ 128 ∷ 0 ∷ 0 ∷ 0 ∷ 128 ∷ []; triangles = 0 ∷ 1 ∷ 2 ∷ []; marks = 1 ∷ 1 ∷ 1 ∷ [] }

mesh_is : smoothed_mesh example_numbers example_samples ≡ corner
unfolding example_numbers example_samples smoothed_mesh after_rounds rounds extracted_mesh grid_edges point_edges keep_to join_to crossed crossed_from is_there fits_along coordinate side other_end site is_above_grey xor flat_map place place_from offset nearest mark some_face on_face on_face_from is_outermost flat mesh edge_mesh join_box cube_triangles case_at case_of bits corner_site triangles fan_of loops segments segments_of face_segments cuts way_round is_above bit grid_edge number count_to sum_to
mesh_is = refl

-- one shell, and the text
corner_prints : Prints corner (0 ∷ 1 ∷ 2 ∷ []) example_output
unfolding all_to some_to triangles_of join_to share_side sides is_in same_arrow list_to mesh_text shells_text record_from gathered points_under triangles_under names_under keep_to any_of sum_of_ℤ sixfold determinant diagonals
corner_prints =
    record {
      numbers = replicate 3 0;
      shells = 1;
      numbering = one_shell (triangles_of corner.triangles) 2 refl;
      written = sym example_output_lem;
    }

pub example_answered : Answers example_input example_output
example_answered = printed example_numbers example_samples example_small (sym example_text) (rw (mesh_is, edges_are) corner_prints)

pub example_answer : (text : List ℕ) → Answers example_input text → text ≡ example_output
example_answer text a = one_answer example_input text example_output a example_answered
