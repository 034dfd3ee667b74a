-- Every corner of a grid's triangles is a crossed edge, and every side joins two different ones. So a triangle names three different points below V, and no
-- refusal of a mesh for its triangles can meet it.
use mathlib.Core.Path.{◌≡◌, ap₂, sym, ◌∙◌}
use mathlib.Core.List.{List, [], ◌++◌}
use mathlib.Core.Bool.{Bool, true, xor}
use Prim.Native.Nat.{ℕ, ◌-◌, ◌<◌}
use native.Mathlib.Omega.{arith}
use lib.ListN.{length}
use Rattle.laws.specs.Range.{join_to, join_box}
use Rattle.laws.specs.Sum.{All}
use Rattle.laws.specs.Mesh.{Arrow, arrow, Triangle, sides, flat}
use Rattle.laws.proofs.Sums.{all_append, all_weaken}
use Rattle.laws.proofs.Sides.{sides_append, all_renamed, corners_start}
use Rattle.laws.proofs.Ranges.{of_join}
use Rattle.cube.specs.Cube.{cases, is_above}
use Rattle.cube.proofs.Corners.{case_small, corner_of_case}
use Rattle.grid.specs.Grid.{Size, edge_count, crossed}
use Rattle.grid.specs.Point.{point_edges, number}
use Rattle.grid.specs.Mode.{Mode, high, crossed_in, CutEdge, CutSide, SidesCut}
use Rattle.grid.specs.Mesh.{corner_site, case_at, grid_edge, cube_triangles, edge_mesh, mesh}
use Rattle.grid.proofs.Points.{number_small, number_one_to_one}
use Rattle.grid.proofs.Edges.{grid_edge_small, grid_edge_crossed, grid_edge_one_to_one}

module _ (m : Mode) (n : Size) (above : ℕ → Bool) where
  -- a crossed edge of the grid
  pub record CrossedInGrid (e : ℕ) : Type 0 where
    pub small : e < edge_count m.kind n
    pub cut : crossed m.kind n above e ≡ true

  -- a side that joins two different ones
  pub record EdgeSide (s : Arrow) : Type 0 where
    pub start : CrossedInGrid s.from
    pub end : CrossedInGrid s.to
    pub apart : s.from ≡ s.to → ⊥

  module _ (x y z : ℕ) (hx : x < n.nx - 1) (hy : y < n.ny - 1) (hz : z < n.nz - 1) where
    edge_sound : (e : ℕ) → CutEdge m (case_at n above x y z) e → CrossedInGrid (grid_edge m n x y z e)
    edge_sound e c =
        record {
          small = grid_edge_small m n x y z e c.edge (omega arith) (omega arith) (omega arith);
          cut = grid_edge_crossed m n x y z e c.edge (omega arith) (omega arith) (omega arith) above (differ c.cut);
        }
      where
        -- a case has its corners from the samples
        corner : (c : ℕ) → c < 8 → is_above (case_at n above x y z) c ≡ above (corner_site n x y z c)
        corner = unfold case_at in corner_of_case (λ c. above (corner_site n x y z c))

        differ : crossed_in m (case_at n above x y z) e ≡ true → xor (above (corner_site n x y z (m.low e))) (above (corner_site n x y z (high m e))) ≡ true
        differ cut = unfold crossed_in in ap₂ xor (sym (corner (m.low e) (omega (arith, c.edge.ends)))) (sym (corner (high m e) c.edge.ends)) ∙ cut

    side_sound : (s : Arrow) → CutSide m (case_at n above x y z) s → EdgeSide (arrow (grid_edge m n x y z s.from) (grid_edge m n x y z s.to))
    side_sound s c =
        record {
          start = edge_sound s.from c.start;
          end = edge_sound s.to c.end;
          apart =
              λ e.
              let same = grid_edge_one_to_one n x y z (omega arith) (omega arith) (omega arith) m s.from s.to c.start.edge c.end.edge e in
              c.apart same.0 same.1;
        }

    cube_sound : SidesCut m → All EdgeSide (sides (cube_triangles m n above x y z))
    unfolding cube_triangles
    cube_sound owed =
        let k = case_at n above x y z in
        all_renamed EdgeSide (grid_edge m n x y z) (m.triangles k) (all_weaken _ _ side_sound (sides (m.triangles k)) (owed k small))
      where
        small : case_at n above x y z < cases
        small = unfold case_at in case_small (λ c. above (corner_site n x y z c))

  -- no triangles, and the triangles of two lists
  nothing : All EdgeSide (sides [])
  unfolding sides
  nothing = tt

  joined : (xs ys : List Triangle) → All EdgeSide (sides xs) → All EdgeSide (sides ys) → All EdgeSide (sides (xs ++ ys))
  joined xs ys a b = rw (sides_append xs ys) (all_append EdgeSide (sides xs) (sides ys) a b)

  along_range : (m : ℕ) (f : ℕ → List Triangle) → ((i : ℕ) → i < m → All EdgeSide (sides (f i))) → All EdgeSide (sides (join_to m f))
  along_range m f h = of_join (λ ts. All EdgeSide (sides ts)) nothing joined m f h

  pub edges_sound : SidesCut m → All EdgeSide (sides (edge_mesh m n above))
  unfolding edge_mesh join_box
  edges_sound owed = along_range (n.nz - 1) _ (λ z hz. along_range (n.ny - 1) _ (λ y hy. along_range (n.nx - 1) _ (λ x hx. cube_sound x y z hx hy hz owed)))

  pub corners_in_grid : SidesCut m → All CrossedInGrid (flat (edge_mesh m n above))
  corners_in_grid owed = corners_start CrossedInGrid (edge_mesh m n above) (all_weaken _ _ (λ s e. e.start) (sides (edge_mesh m n above)) (edges_sound owed))

  -- a side that joins two different points below V
  pub record PointSide (s : Arrow) : Type 0 where
    pub start : s.from < length (point_edges m.kind n above)
    pub end : s.to < length (point_edges m.kind n above)
    pub apart : s.from ≡ s.to → ⊥

  side_points : (s : Arrow) → EdgeSide s → PointSide (arrow (number m.kind n above s.from) (number m.kind n above s.to))
  side_points s e =
      let f = e.start in
      let t = e.end in
      record {
        start = number_small m.kind n above s.from f.small f.cut;
        end = number_small m.kind n above s.to t.small t.cut;
        apart = λ q. e.apart (number_one_to_one m.kind n above s.from s.to f.small t.small f.cut t.cut q);
      }

  pub mesh_sound : SidesCut m → All PointSide (sides (mesh m n above))
  unfolding mesh
  mesh_sound owed =
      all_renamed PointSide (number m.kind n above) (edge_mesh m n above) (all_weaken _ _ side_points (sides (edge_mesh m n above)) (edges_sound owed))
