-- A grid has at most three points and five triangles a sample.
use mathlib.Core.Path.{◌≡◌, ◌∙◌}
use mathlib.Core.Bool.{Bool}
use Prim.Native.Nat.{ℕ, ◌*◌, ◌-◌, ◌≤◌}
use native.Mathlib.Nat.{mul-le-mul, mul_assoc}
use native.Mathlib.Omega.{arith}
use lib.ListN.{length, length-map}
use Rattle.laws.specs.Range.{sum_to}
use Rattle.laws.specs.Mesh.{rename}
use Rattle.laws.proofs.Keep.{length_keep}
use Rattle.laws.proofs.Ranges.{count_le, sum_most}
use Rattle.laws.proofs.Box.{length_box}
use Rattle.cube.specs.Answer.{most_case_triangles, triangles, count}
use Rattle.cube.proofs.Corners.{case_small}
use Rattle.grid.specs.Grid.{Size, axes, sample_count, edge_count, crossed}
use Rattle.grid.specs.Point.{point_edges, number}
use Rattle.grid.specs.Mode.{cubes}
use Rattle.grid.specs.Mesh.{corner_site, grid_edge, case_at, cube_triangles, edge_mesh, mesh}
use Rattle.cuberows.proofs.Cases.{count_most}

module _ (n : Size) (above : ℕ → Bool) where
  pub few_points : length (point_edges axes n above) ≤ 3 * sample_count n
  unfolding point_edges
  few_points = rw (length_keep (edge_count axes n) (crossed axes n above)) (count_le (edge_count axes n) (crossed axes n above))

  cube_few : (x y z : ℕ) → length (cube_triangles cubes n above x y z) ≤ most_case_triangles
  unfolding cube_triangles case_at count
  cube_few x y z =
      rw (length-map (triangles (case_at n above x y z)) (rename (grid_edge cubes n x y z)))
      (count_most (case_at n above x y z) (case_small (λ c. above (corner_site n x y z c))))

  pub few_triangles : length (mesh cubes n above) ≤ most_case_triangles * sample_count n
  unfolding mesh edge_mesh
  few_triangles =
      let f : ℕ → ℕ → ℕ → ℕ = λ x y z. length (cube_triangles cubes n above x y z) in
      let cx = n.nx - 1 in
      let cy = n.ny - 1 in
      let cz = n.nz - 1 in
      let long : length (mesh cubes n above) ≡ sum_to cz (λ z. sum_to cy (λ y. sum_to cx (λ x. f x y z))) =
      length-map (edge_mesh cubes n above) (rename (number axes n above)) ∙ length_box cx cy cz (cube_triangles cubes n above) in
      let most : sum_to cz (λ z. sum_to cy (λ y. sum_to cx (λ x. f x y z))) ≤ most_case_triangles * cx * cy * cz =
      sum_most (most_case_triangles * cx * cy) cz _ (λ z lz. sum_most (most_case_triangles * cx) cy _ (λ y ly. sum_most most_case_triangles cx _ (λ x lx. cube_few x y z))) in
      let same : most_case_triangles * cx * cy * cz ≡ most_case_triangles * (cx * (cy * cz)) = rw (mul_assoc, mul_assoc) in
      let fewer : cx * (cy * cz) ≤ sample_count n = mul-le-mul (omega arith) (mul-le-mul (omega arith) (omega arith)) in
      omega (arith, long, most, same, fewer)
