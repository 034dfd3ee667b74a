-- Between two points at most one triangle runs each way, wherever they lie, in the mesh that a mode defines; so exactly one each way off the outer faces, for every grid with sides
-- of at least 2 and whatever samples are above.
use mathlib.Core.Path.{◌≡◌, ap, sym, ◌∙◌}
use mathlib.Core.List.{List}
use mathlib.Core.Bool.{Bool, ◌&&◌}
use Prim.Native.Nat.{ℕ, ◌-◌, ◌≤◌}
use native.Mathlib.Omega.{arith}
use lib.Dec.{eqb}
use lib.ListN.{get_or}
use Rattle.laws.specs.Range.{one_if}
use Rattle.laws.specs.Mesh.{Ends, Triangle, sides, times}
use Rattle.laws.proofs.Sums.{all_weaken}
use Rattle.laws.proofs.Sides.{total_rename, times_le}
use Rattle.grid.specs.Limits.{least_side}
use Rattle.grid.specs.Grid.{Size}
use Rattle.grid.specs.Point.{point_edges, number}
use Rattle.grid.specs.Mode.{Mode}
use Rattle.grid.specs.Mesh.{cube_triangles, edge_mesh, mesh}
use Rattle.grid.proofs.Points.{edge_of_number}
use Rattle.grid.proofs.Sound.{CrossedInGrid, EdgeSide, edges_sound}
use Rattle.closed.specs.Runs.{runs, Even, JoinedOnce, OneEachWay}
use Rattle.closed.specs.Pattern.{OwedOnce}
use Rattle.closed.proofs.Law.{once_law}
use Rattle.closed.proofs.Balance.{balanced}
use Rattle.closed.proofs.OneCell.{runs_in, cube_once, one_cell}

-- as often as back, and at most once: where at all, then once each way
pub joined_once : (ts : List Triangle) (p q : ℕ) → Even ts p q → runs ts p q ≤ 1 → JoinedOnce ts p q
joined_once ts p q even most some = (omega (arith, even, most, some), omega (arith, even, most, some))

module _ (m : Mode) (once : OwedOnce m) (n : Size) (above : ℕ → Bool) where
  edges_once : (i j : ℕ) → times (sides (edge_mesh m n above)) i j ≤ 1
  unfolding edge_mesh
  edges_once i j =
      once_law (n.nx - 1) (n.ny - 1) (n.nz - 1) (cube_triangles m n above) i j
      (record {
        most = λ x y z hx hy hz. cube_once m once n above i j x y z hx hy hz;
        one = λ x y z x' y' z' hx hy hz hx' hy' hz' a b.
            one_cell m once n above i j x y z x' y' z' (runs_in m once n above i j x y z hx hy hz a) (runs_in m once n above i j x' y' z' hx' hy' hz' b);
      })

  -- for all points, on outer faces or off them
  pub at_most_once : (p q : ℕ) → runs (mesh m n above) p q ≤ 1
  unfolding runs mesh
  at_most_once p q =
      let point = number m.kind n above in
      let edge_of : ℕ → ℕ = λ r. get_or (point_edges m.kind n above) r 0 in
      let is : (r e : ℕ) → CrossedInGrid m n above e → point e ≡ r → e ≡ edge_of r
      = λ r e c q. sym (edge_of_number m.kind n above e c.small c.cut) ∙ ap edge_of q in
      omega (
        arith,
        total_rename (λ a b. one_if (eqb a p && eqb b q)) point (edge_mesh m n above),
        times_le (CrossedInGrid m n above) point (λ e. e) p q (edge_of p) (edge_of q) (is p) (is q) (sides (edge_mesh m n above))
            (all_weaken (EdgeSide m n above) (Ends (CrossedInGrid m n above)) (λ s e. (e.start, e.end)) (sides (edge_mesh m n above)) (edges_sound m n above once.owed.cut)),
        edges_once (edge_of p) (edge_of q),
      )

  pub one_each_way : least_side ≤ n.nx → least_side ≤ n.ny → least_side ≤ n.nz → OneEachWay m.kind n (point_edges m.kind n above) (mesh m n above)
  one_each_way hx hy hz p q hp hq apart = joined_once (mesh m n above) p q (balanced m once.owed n above hx hy hz p q hp hq apart) (at_most_once p q)
