-- Where the code finds the grid edges of a cube's edges.
use mathlib.Core.Path.{◌≡◌, refl, ap, ◌∙◌}
use mathlib.Core.Bool.{true}
use mathlib.Core.List.{map}
use Prim.Native.Nat.{ℕ, ◌+◌, ◌*◌, ◌<◌}
use native.Mathlib.Omega.{arith}
use borrow.Author.Tests.{eqb-true}
use lib.Dec.{eqb}
use lib.ListN.{get_or}
use Rattle.laws.specs.Range.{all_to}
use Rattle.laws.proofs.Tests.{all_at}
use Rattle.cube.specs.Cube.{cube_edge_count, corner_x, corner_y, corner_z, low_corner, cube_edges}
use Rattle.grid.specs.Grid.{Size, site}
use Rattle.grid.specs.Mode.{cubes}
use Rattle.grid.specs.Mesh.{corner_site, grid_edge}
use Rattle.grid.proofs.Sites.{site_add}
use Rattle.triangles.specs.Names.{edge_offset}
use Rattle.laws.proofs.Lists.{map_at}

-- edge e stands in the list of edges at e
every_edge_listed : all_to cube_edge_count (λ e. eqb (get_or cube_edges e 0) e) ≡ true
unfolding all_to
every_edge_listed = refl

pub offset_at : (nx ny e : ℕ) → e < cube_edge_count → get_or (map (edge_offset nx ny) cube_edges) e 0 ≡ edge_offset nx ny e
offset_at nx ny e h =
    map_at (edge_offset nx ny) cube_edges e 0 0 h
    ∙ ap (edge_offset nx ny) (eqb-true _ e (all_at cube_edge_count (λ e. eqb (get_or cube_edges e 0) e) every_edge_listed e h))

module _ (n : Size) (x y z : ℕ) where
  -- a cube edge's grid edge, counted on from the first grid edge of the cube's first corner
  pub edge_place : (e : ℕ) → 3 * (x + n.nx * (y + n.ny * z)) + edge_offset n.nx n.ny e ≡ grid_edge cubes n x y z e
  unfolding grid_edge corner_site edge_offset site
  edge_place e = let c = low_corner e in omega (arith, site_add n x y z (corner_x c) (corner_y c) (corner_z c))
