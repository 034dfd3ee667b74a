-- Points and triangles depend on which samples of the grid are above, and on nothing else.
use mathlib.Core.Path.{◌≡◌, ap, ap₂}
use mathlib.Core.List.{map}
use mathlib.Core.Bool.{Bool}
use Prim.Native.Nat.{ℕ, ◌+◌, ◌-◌, ◌/◌, ◌%◌, ◌<◌}
use native.Mathlib.Omega.{arith}
use Rattle.laws.specs.Range.{join_box, count_to, keep_to}
use Rattle.laws.specs.Mesh.{rename}
use Rattle.laws.proofs.Ranges.{join_cong}
use Rattle.cube.specs.Cube.{case_of}
use Rattle.grid.specs.Grid.{Size, sample_count, Kind, edge_count}
use Rattle.grid.specs.Point.{point_edges, number}
use Rattle.grid.specs.Mode.{Mode}
use Rattle.grid.specs.Mesh.{corner_site, case_at, grid_edge, cube_triangles, edge_mesh, mesh}
use Rattle.grid.proofs.Sites.{site_small}
use Rattle.grid.proofs.Crossings.{crossed_cong}

module _ (n : Size) (px : 0 < n.nx) (py : 0 < n.ny) (above other : ℕ → Bool) (same : (s : ℕ) → s < sample_count n → above s ≡ other s) where
  pub points_same : (k : Kind) → point_edges k n above ≡ point_edges k n other
  unfolding point_edges
  points_same k = ap (keep_to (edge_count k n)) (crossed_cong k n px py above other same)

  pub number_same : (k : Kind) → number k n above ≡ number k n other
  unfolding number
  number_same k i e = count_to e (crossed_cong k n px py above other same i)

  -- the eight corners of a cube stand in the grid
  corner_small : (x y z : ℕ) → x < n.nx - 1 → y < n.ny - 1 → z < n.nz - 1 → (c : ℕ) → corner_site n x y z c < sample_count n
  unfolding corner_site
  corner_small x y z hx hy hz c = site_small n (x + c % 2) (y + c / 2 % 2) (z + c / 4 % 2) (omega arith) (omega arith) (omega arith)

  pub case_same : (x y z : ℕ) → x < n.nx - 1 → y < n.ny - 1 → z < n.nz - 1 → case_at n above x y z ≡ case_at n other x y z
  unfolding case_at case_of
  case_same x y z hx hy hz =
      let at : (c : ℕ) → above (corner_site n x y z c) ≡ other (corner_site n x y z c)
      = λ c. same (corner_site n x y z c) (corner_small x y z hx hy hz c) in
      rw (at 0, at 1, at 2, at 3, at 4, at 5, at 6, at 7)

  pub triangles_same : (m : Mode) → edge_mesh m n above ≡ edge_mesh m n other
  unfolding edge_mesh join_box cube_triangles
  triangles_same m =
      join_cong (n.nz - 1) _ _
      (λ z hz. join_cong (n.ny - 1) _ _ (λ y hy. join_cong (n.nx - 1) _ _ (λ x hx.
      ap (λ k. map (rename (grid_edge m n x y z)) (m.triangles k)) (case_same x y z hx hy hz))))

  pub mesh_same : (m : Mode) → mesh m n above ≡ mesh m n other
  unfolding mesh
  mesh_same m = ap₂ (λ f ts. map (rename f) ts) (number_same m.kind) (triangles_same m)
