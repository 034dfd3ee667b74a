-- The mesh of a small grid is extracted, and it is the one that is defined.
use mathlib.Core.Path.{◌≡◌, ap, sym, ◌∙◌}
use mathlib.Core.List.{List}
use Prim.Native.Nat.{ℕ, ◌≤◌}
use native.Mathlib.Omega.{arith}
use lib.Dec.{leb}
use lib.ListN.{length, length-map}
use borrow.Author.Tests.{leb-true}
use Rattle.laws.proofs.Tests.{both}
use Rattle.laws.proofs.Sides.{length_corners}
use Rattle.grid.specs.Limits.{most_rounds, most_weight}
use Rattle.grid.specs.Grid.{axes, mark}
use Rattle.grid.specs.Mode.{cubes}
use Rattle.grid.specs.Work.{size}
use Rattle.extract.specs.Extraction.{Rooms, Outcome, point_list, triangle_list, granted}
use Rattle.extract.specs.Promise.{Extracts}
use Rattle.closed.specs.Left.{mesh_left, edges_left}
use Rattle.closed.proofs.Cubes.{cubes_owed}
use Rattle.closed.proofs.Granted.{Granted, left_granted}
use Rattle.closed.proofs.Passes.{extract_passes}
use Rattle.gridtext.specs.declared.Head.{Head}
use Rattle.gridtext.proofs.Checks.{passed}
use Rattle.printing.specs.Sizes.{most_small_points, most_small_triangles, most_output}
use Rattle.small.specs.Answer.{grid_edges, extracted_mesh}
use Rattle.printing.specs.SmallMesh.{mesh_of, SmallMesh}
use Rattle.small.specs.Promise.{SmallGrid}
use Rattle.small.proofs.Steps.{RoomsHold, points_few, triangles_few, extract_granted}

module _ (h : Head) (samples : List ℕ) (small : SmallGrid h samples) where
  pub smoothing_fits_lem : (h.rounds ≤ most_rounds) × (h.weight ≤ most_weight)
  smoothing_fits_lem =
      let b = both (leb h.rounds most_rounds) (leb h.weight most_weight) (passed h small.0).2 in
      (leb-true h.rounds most_rounds b.0, leb-true h.weight most_weight b.1)

  module _ (before : Rooms) (after : Outcome) (hold : RoomsHold (length samples) before) (extracts : Extracts cubes h.nx h.ny h.nz h.grey samples before after) where
    abbrev points : List ℕ
    points = point_list cubes (size h.nx h.ny h.nz) h.grey samples before

    left_is : after ≡ granted cubes (size h.nx h.ny h.nz) h.grey samples before
    left_is =
        let c = passed h small.0 in
        extracts ∙ extract_granted h.nx h.ny h.nz h.grey samples before c.0 c.1 small.1 hold

    pub none : after.number ≡ 0
    unfolding granted
    none = ap (λ o. o.number) left_is

    left : Granted cubes h.nx h.ny h.nz h.grey samples before after
    left = left_granted cubes h.nx h.ny h.nz h.grey samples before after extracts none

    few_left : length points ≤ most_small_points
    few_left =
        let c = passed h small.0 in
        points_few h.nx h.ny h.nz h.grey samples before c.0 c.1 small.1 hold

    few_made : length (triangle_list cubes (size h.nx h.ny h.nz) h.grey samples before) ≤ most_small_triangles
    few_made =
        let c = passed h small.0 in
        triangles_few h.nx h.ny h.nz h.grey samples before c.0 c.1 small.1 hold

    -- the counts
    pub points_counted : (after.point_count ≤ most_small_points) × (length (edges_left after) ≡ after.point_count) × (length (mesh_left after).marks ≡ after.point_count)
    unfolding granted
    points_counted =
        let e = ap (λ o. o.point_count) left_is in (
          omega (arith, e, few_left),
          ap length left.edges_are ∙ sym e,
          ap length left.marks_are ∙ (length-map points (mark axes (size h.nx h.ny h.nz)) ∙ sym e),
        )

    pub triangles_counted : after.triangle_count ≤ most_small_triangles
    unfolding granted
    triangles_counted = omega (arith, ap (λ o. o.triangle_count) left_is, few_made)

    pub small_mesh : (output : ℕ) → most_output ≤ output → SmallMesh (mesh_left after).points (edges_left after) (mesh_left after).marks (mesh_left after).triangles output
    small_mesh output room =
        let n = points_counted in
        record {
          passes = extract_passes cubes cubes_owed h.nx h.ny h.nz h.grey samples before after extracts none;
          edged = n.1 ∙ sym n.2;
          few_points = omega (arith, n.0, n.2);
          few_triangles = omega (arith, ap length left.triangles_are, length_corners (triangle_list cubes (size h.nx h.ny h.nz) h.grey samples before), few_made);
          room = room;
        }

    -- what was left is what is defined
    pub edges_are : edges_left after ≡ grid_edges h samples
    unfolding grid_edges
    edges_are = left.edges_are

    pub mesh_is : mesh_left after ≡ extracted_mesh h samples
    unfolding extracted_mesh grid_edges
    mesh_is =
        ap (λ x. mesh_of x (mesh_left after).triangles (mesh_left after).marks) left.places_are
        ∙ (ap (λ x. mesh_of (extracted_mesh h samples).points x (mesh_left after).marks) left.triangles_are
        ∙ ap (λ x. mesh_of (extracted_mesh h samples).points (extracted_mesh h samples).triangles x) left.marks_are)
