-- The balance of the mesh that a mode defines, for every grid with sides of at least 2 and whatever samples are above.
use mathlib.Core.Path.{◌≡◌}
use mathlib.Core.List.{List}
use mathlib.Core.Bool.{Bool}
use Prim.Native.Nat.{ℕ, ◌-◌, ◌≤◌}
use lib.ListN.{get_or}
use Rattle.laws.specs.Mesh.{Arrow}
use Rattle.grid.specs.Limits.{least_side}
use Rattle.grid.specs.Grid.{Size, mark}
use Rattle.grid.specs.Point.{point_edges}
use Rattle.grid.specs.Mode.{Mode}
use Rattle.grid.specs.Mesh.{cube_triangles, edge_mesh, mesh}
use Rattle.closed.specs.Runs.{Even, Balanced}
use Rattle.closed.specs.Pattern.{Ring, Pattern, Owed}
use Rattle.closed.proofs.Law.{CellLaw}
use Rattle.closed.proofs.Numbered.{cells_balanced, cells_unmarked}
use Rattle.closed.proofs.Cells.{across, cell_law}
use Rattle.closed.proofs.Rim.{outer_law}

module _ (m : Mode) (owed : Owed m) (n : Size) (above : ℕ → Bool) (hx : least_side ≤ n.nx) (hy : least_side ≤ n.ny) (hz : least_side ≤ n.nz) where
  abbrev p : Pattern
  p = owed.pattern

  abbrev segs : List Ring → ℕ → ℕ → ℕ → List Arrow
  segs = across m owed n above

  law : CellLaw (n.nx - 1) (n.ny - 1) (n.nz - 1) (cube_triangles m n above) (segs p.low_x) (segs p.low_y) (segs p.low_z)
  law = cell_law m owed n above (n.nx - 1) (n.ny - 1) (n.nz - 1)

  -- two points that lie on no common outer face
  pub balanced : Balanced m.kind n (point_edges m.kind n above) (mesh m n above)
  unfolding mesh edge_mesh
  balanced =
      cells_balanced m.kind n above (n.nx - 1) (n.ny - 1) (n.nz - 1) (cube_triangles m n above) (segs p.low_x) (segs p.low_y) (segs p.low_z) law
      (outer_law m owed n above hx hy hz)

  -- a point whose mark is 0, and any other
  pub unmarked_balanced : (p q : ℕ) → mark m.kind n (get_or (point_edges m.kind n above) p 0) ≡ 0 → Even (mesh m n above) p q
  unfolding mesh edge_mesh
  unmarked_balanced =
      cells_unmarked m.kind n above (n.nx - 1) (n.ny - 1) (n.nz - 1) (cube_triangles m n above) (segs p.low_x) (segs p.low_y) (segs p.low_z) law
      (outer_law m owed n above hx hy hz)
