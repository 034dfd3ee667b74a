-- The triangles of a grid (document 01, "Points and order", second paragraph).
use Rattle.std.specs.Prelude.{List, map, Bool, ℕ, ◌+◌, ◌*◌, ◌-◌}
use Rattle.laws.specs.Range.{join_box}
use Rattle.laws.specs.Mesh.{Triangle, rename}
use Rattle.cube.specs.Cube.{corner_x, corner_y, corner_z, case_of}
use Rattle.grid.specs.Grid.{Size, site}
use Rattle.grid.specs.Point.{number}
use Rattle.grid.specs.Mode.{Mode}

-- the sample at corner c of the cube at (x, y, z)
unfoldable pub corner_site : Size → ℕ → ℕ → ℕ → ℕ → ℕ
corner_site n x y z c = site n (x + corner_x c) (y + corner_y c) (z + corner_z c)

-- the case of a cube; `above` says which samples are above
unfoldable pub case_at : Size → (ℕ → Bool) → ℕ → ℕ → ℕ → ℕ
case_at n above x y z = case_of (λ c. above (corner_site n x y z c))

module _ (m : Mode) (n : Size) where
  -- the grid edge of a cube's edge: it leaves the edge's lower corner
  unfoldable pub grid_edge : ℕ → ℕ → ℕ → ℕ → ℕ
  grid_edge x y z e = m.kind.many * corner_site n x y z (m.low e) + m.code e

  module _ (above : ℕ → Bool) where
    -- the triangles of one cube, in the case's order, each corner named by its grid edge
    unfoldable pub cube_triangles : ℕ → ℕ → ℕ → List Triangle
    cube_triangles x y z = map (rename (grid_edge x y z)) (m.triangles (case_at n above x y z))

    -- cube by cube, x fastest, then y, then z
    unfoldable pub edge_mesh : List Triangle
    edge_mesh = join_box (n.nx - 1) (n.ny - 1) (n.nz - 1) cube_triangles

    -- the same, each corner named by its point
    unfoldable pub mesh : List Triangle
    mesh = map (rename (number m.kind n above)) edge_mesh
