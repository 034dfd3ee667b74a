-- The segments of a grid's outer faces have both their ends there, whichever mode cuts its cubes.
use mathlib.Core.Path.{◌≡◌, subst}
use mathlib.Core.List.{List}
use mathlib.Core.Bool.{Bool, true, false, cond, xor}
use Prim.Native.Nat.{ℕ, ◌+◌, ◌-◌, ◌<◌, ◌≤◌}
use native.Mathlib.Omega.{arith}
use Rattle.laws.specs.Sum.{All}
use Rattle.laws.specs.Mesh.{Arrow, arrow, Ends}
use Rattle.laws.proofs.Sums.{all_map, all_weaken}
use Rattle.laws.proofs.Lists.{all_flat}
use Rattle.cube.specs.Cube.{corner_x, corner_y, corner_z}
use Rattle.cube.specs.Face.{Step, step, go_round, way_round, face_segments, segments_of}
use Rattle.cube.proofs.Way.{CrossedHave, ends_crossed, round_mapped}
use Rattle.grid.specs.Limits.{least_side}
use Rattle.grid.specs.Grid.{Size, side, along}
use Rattle.grid.specs.Mode.{Mode, high}
use Rattle.grid.specs.Mesh.{grid_edge, cube_triangles}
use Rattle.grid.proofs.Sites.{choose}
use Rattle.grid.proofs.Edges.{grid_edge_crossed, grid_edge_small, grid_edge_on_face}
use Rattle.closed.specs.Pattern.{Ring, Pattern, LowEdge, Owed}
use Rattle.closed.proofs.Law.{OuterLaw}
use Rattle.closed.proofs.Numbered.{OnRim}
use Rattle.closed.proofs.Cells.{corner, across, by_ends, low_there, top_there}

xor_comm : (a b : Bool) → xor a b ≡ true → xor b a ≡ true
unfolding xor
xor_comm true true h = h
xor_comm true false h = h
xor_comm false true h = h
xor_comm false false h = h

module _ (m : Mode) (owed : Owed m) (n : Size) (above : ℕ → Bool) where
  abbrev p : Pattern
  p = owed.pattern

  abbrev On : ℕ → Bool → ℕ → Type 0
  On = OnRim m.kind n above

  -- A cube whose low side across an axis lies in an outer face: the corners at that side stand in the grid, and at its end. The last such cube would be the one after the
  -- last, of which the grid has no other corner.
  module _ (axis : ℕ) (last : Bool) (x y z : ℕ)
      (inside : (c : ℕ) → along c axis ≡ 0 → (x + corner_x c < n.nx) × (y + corner_y c < n.ny) × (z + corner_z c < n.nz))
      (end : (c : ℕ) → along c axis ≡ 0 → choose axis (x + corner_x c) (y + corner_y c) (z + corner_z c) ≡ cond last (side n axis - 1) 0) where
    abbrev up : ℕ → Bool
    up = corner m owed n above x y z

    abbrev between : Arrow → ℕ
    between s = p.edge s.from s.to

    -- a crossed edge of that side is a crossed edge of the grid, on the outer face
    ends_differ : (s : Arrow) → LowEdge m p axis s → xor (up s.from) (up s.to) ≡ true → xor (up (m.low (between s))) (up (high m (between s))) ≡ true
    ends_differ s e h = by_ends m p axis s e (λ a b. xor (up a) (up b) ≡ true) h (xor_comm (up s.from) (up s.to) h)

    edge_on_rim : (s : Arrow) → LowEdge m p axis s → xor (up s.from) (up s.to) ≡ true → On axis last (grid_edge m n x y z (between s))
    edge_on_rim s e h =
        let i = inside (high m (between s)) (top_there m p axis s e) in
        record {
          small = grid_edge_small m n x y z (between s) e.edge i.0 i.1 i.2;
          cut = grid_edge_crossed m n x y z (between s) e.edge i.0 i.1 i.2 above (ends_differ s e h);
          flat =
              grid_edge_on_face m n x y z (between s) e.edge i.0 i.1 i.2 axis last e.flat
              (end (m.low (between s)) (low_there m p axis s e));
        }

    -- so the segments of the faces at that side have their ends there
    abbrev stepped : Arrow → Step
    stepped s = step up (λ c d. grid_edge m n x y z (p.edge c d)) s.from s.to

    ring_on_rim : (r : Ring) → All (LowEdge m p axis) (go_round arrow r) → All (Ends (On axis last)) (face_segments up (λ c d. grid_edge m n x y z (p.edge c d)) r)
    unfolding face_segments way_round
    ring_on_rim r low =
        ends_crossed (On axis last) (go_round (step up (λ c d. grid_edge m n x y z (p.edge c d))) r)
        (subst (All (CrossedHave (On axis last))) (round_mapped arrow stepped r)
        (all_map (CrossedHave (On axis last)) stepped (go_round arrow r) (all_weaken (LowEdge m p axis) _ edge_on_rim (go_round arrow r) low)))

    pub sides_on_rim : (rs : List Ring) → All (λ r. All (LowEdge m p axis) (go_round arrow r)) rs → All (Ends (On axis last)) (across m owed n above rs x y z)
    unfolding segments_of
    sides_on_rim rs low = all_flat (Ends (On axis last)) (face_segments up (λ c d. grid_edge m n x y z (p.edge c d))) rs (all_weaken _ _ ring_on_rim rs low)

  module _ (hx : least_side ≤ n.nx) (hy : least_side ≤ n.ny) (hz : least_side ≤ n.nz) where
    abbrev segs : List Ring → ℕ → ℕ → ℕ → List Arrow
    segs = across m owed n above

    pub outer_law : OuterLaw (n.nx - 1) (n.ny - 1) (n.nz - 1) (cube_triangles m n above) (segs p.low_x) (segs p.low_y) (segs p.low_z) On
    unfolding side
    outer_law =
        record {
          x_first = λ y z a b. sides_on_rim 0 false 0 y z (λ c h. (omega arith, omega arith, omega arith)) (λ c h. omega arith) p.low_x owed.side_x;
          x_last = λ y z a b. sides_on_rim 0 true (n.nx - 1) y z (λ c h. (omega arith, omega arith, omega arith)) (λ c h. omega arith) p.low_x owed.side_x;
          y_first = λ x z a b. sides_on_rim 1 false x 0 z (λ c h. (omega arith, omega arith, omega arith)) (λ c h. omega arith) p.low_y owed.side_y;
          y_last = λ x z a b. sides_on_rim 1 true x (n.ny - 1) z (λ c h. (omega arith, omega arith, omega arith)) (λ c h. omega arith) p.low_y owed.side_y;
          z_first = λ x y a b. sides_on_rim 2 false x y 0 (λ c h. (omega arith, omega arith, omega arith)) (λ c h. omega arith) p.low_z owed.side_z;
          z_last = λ x y a b. sides_on_rim 2 true x y (n.nz - 1) (λ c h. (omega arith, omega arith, omega arith)) (λ c h. omega arith) p.low_z owed.side_z;
        }
